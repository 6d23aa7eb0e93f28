-- The text of a TCP header in a line (RFC 9293, section 3.1).
use Rattle.std.specs.Prelude.{◌≡◌, ◌<◌, ◌⊎◌, ◌==◌, ℕ, if◌then◌else◌, List, [], ◌∷◌, ◌++◌, length, slice_index, codes, decimal, Option, Some, None, MatchOption}
use Rattle.std.specs.List.{flat_map, join_by}
use Rattle.net_base.specs.Bytes.{be_number}
use Rattle.tcp_part.specs.TcpFormat.{ack_flag, cwr_flag, ece_flag, fin_flag, flag_of, ns_flag, options_of, psh_flag, rst_flag, syn_flag, urg_flag}
use Rattle.tcp_part.specs.TcpOptionsReading.{BeginsWith}
use Rattle.tcp_part.specs.TcpRawOptions.{BeginsWithRaw, RawOption, element_refusal, raw_fault, raw_spelling}
use Rattle.tcp_part.specs.declared.tcp_option_element.TcpOptionElement.{TcpOptionElement}
use Rattle.tcp_part.specs.declared.tcp_option_element.TcpOptionElement.TheVariants.{Noop, MaximumSegmentSize, WindowScale, SelectiveAcknowledgementPermitted, SelectiveAcknowledgement, Timestamp}
use Rattle.tcp_part.specs.declared.tcp_raw_option_error.TcpRawOptionError.{TcpRawOptionError}
use Rattle.tcp_part.specs.declared.tcp_raw_option_error.TcpRawOptionError.TheVariants.{NoLengthByte, LengthBelowTwo, LengthBeyondEnd}
use Rattle.capture_words.specs.Flags.{NamedFlag, flags_text}
use Rattle.capture_words.specs.Numbers.{hex_bytes}

-- ---- flags and numbers

-- the flags in the order in which tcpdump and Wireshark show them; the order begins with FIN, which is the lowest bit
abbrev pub tcp_flags : List ℕ → List NamedFlag
tcp_flags header =
    (flag_of header fin_flag, codes "FIN") ∷ (flag_of header syn_flag, codes "SYN") ∷ (flag_of header rst_flag, codes "RST")
    ∷ (flag_of header psh_flag, codes "PSH") ∷ (flag_of header ack_flag, codes "ACK") ∷ (flag_of header urg_flag, codes "URG")
    ∷ (flag_of header ece_flag, codes "ECE") ∷ (flag_of header cwr_flag, codes "CWR") ∷ (flag_of header ns_flag, codes "NS") ∷ []

-- the sequence number, the acknowledgment number and the window
abbrev pub numbers_text : List ℕ → List ℕ
numbers_text header =
    codes ", sequence " ++ (decimal (be_number header 4 4) ++ (codes ", acknowledgment " ++ (decimal (be_number header 8 4)
    ++ (codes ", window " ++ decimal (be_number header 14 2)))))

-- the urgent pointer, if the flag URG is set
abbrev pub urgent_text : List ℕ → List ℕ
urgent_text header = if flag_of header urg_flag then codes ", urgent pointer " ++ decimal (be_number header 18 2) else []

-- ---- options

-- a block of a selective acknowledgment: its two edges
abbrev pub block_text : ℕ × ℕ → List ℕ
block_text block = codes " " ++ (decimal block.0 ++ (codes "-" ++ decimal block.1))

-- a block, or nothing if there is no block
abbrev pub other_block_text : Option (ℕ × ℕ) → List ℕ
other_block_text None = []
other_block_text (Some block) = block_text block

-- an option of a known kind with a valid length: its name and its fields
abbrev pub element_text : TcpOptionElement → List ℕ
element_text Noop = codes "no operation"
element_text (MaximumSegmentSize size) = codes "maximum segment size " ++ decimal size
element_text (WindowScale shift) = codes "window scale " ++ decimal shift
element_text SelectiveAcknowledgementPermitted = codes "selective acknowledgment permitted"
element_text (SelectiveAcknowledgement first more) =
    codes "selective acknowledgment" ++ (block_text first ++ flat_map other_block_text more)
element_text (Timestamp value echo) = codes "timestamp " ++ (decimal value ++ (codes " " ++ decimal echo))

-- a value: its length in bytes, and its bytes if there are any
abbrev pub value_text : ℕ → List ℕ → List ℕ
value_text len bytes =
    if len == 0 then codes "0 bytes"
    else if len == 1 then codes "1 byte: " ++ hex_bytes bytes
    else decimal len ++ (codes " bytes: " ++ hex_bytes bytes)

-- an option by its kind and the bytes of its value
abbrev pub raw_text : RawOption → List ℕ
raw_text option = codes "option " ++ (decimal option.kind ++ (codes " of " ++ value_text (length option.value) option.value))

-- why the next option can't be read
abbrev pub fault_text : TcpRawOptionError → List ℕ
fault_text (NoLengthByte kind) =
    codes "option " ++ (decimal kind ++ codes " without a length byte")
fault_text (LengthBelowTwo kind len) =
    codes "option " ++ (decimal kind ++ (codes " with length " ++ (decimal len ++ codes " below 2")))
fault_text (LengthBeyondEnd kind len available) =
    codes "option " ++ (decimal kind ++ (codes " with length " ++ (decimal len
    ++ (codes " above the " ++ (decimal available ++ codes " bytes left")))))

-- This is the text of an option. If its kind is known and its length is valid, the text contains its name and fields. Otherwise the text
-- contains its kind and the bytes of its value.
abbrev pub IsOptionText : RawOption → List ℕ → Type 0
IsOptionText option text = MatchOption (element_refusal option)
    ((element : TcpOptionElement) × BeginsWith (raw_spelling option) element [] × (text ≡ element_text element))
    (λ error. text ≡ raw_text option)

-- These are the texts of the options in some bytes. If there are no bytes, there is no text. If kind 0 comes first, the only text is
-- `end of options`. If the first option can't be read, the only text is the reason. Otherwise the text of the first option precedes the
-- texts of the remaining bytes.
abbrev pub AreOptionTexts : List ℕ → List (List ℕ) → Type 0
AreOptionTexts bytes [] = bytes ≡ []
AreOptionTexts bytes (text ∷ texts) =
    ((0 < length bytes) × (slice_index bytes 0 ≡ 0) × (text ≡ codes "end of options") × (texts ≡ []))
    ⊎ (((error : TcpRawOptionError) × (raw_fault bytes ≡ Some error) × (text ≡ fault_text error) × (texts ≡ []))
    ⊎ ((option : RawOption) × (rest : List ℕ) × BeginsWithRaw bytes option rest × IsOptionText option text × AreOptionTexts rest texts))

-- these texts, with a comma between one text and the next
abbrev pub listed : List (List ℕ) → List ℕ
listed texts = join_by (λ text. text) (codes ", ") texts

-- this is the text of the options in some bytes, with commas between the options
abbrev pub IsListText : List ℕ → List ℕ → Type 0
IsListText bytes text = (texts : List (List ℕ)) × AreOptionTexts bytes texts × (text ≡ listed texts)

-- this is the text of the options in brackets; it is empty if there are no bytes of options
abbrev pub IsOptionsText : List ℕ → List ℕ → Type 0
IsOptionsText [] text = text ≡ []
IsOptionsText (byte ∷ bytes) text =
    (list : List ℕ) × IsListText (byte ∷ bytes) list × (text ≡ codes ", options [" ++ (list ++ codes "]"))

-- ---- the header

-- this is the text of a header: its flags, its numbers, its urgent pointer if URG is set, and its options
abbrev pub IsHeaderText : List ℕ → List ℕ → Type 0
IsHeaderText header text =
    (options : List ℕ) × IsOptionsText (options_of header) options
    × (text ≡ flags_text (λ flag. flag) (tcp_flags header) ++ (numbers_text header ++ (urgent_text header ++ options)))
