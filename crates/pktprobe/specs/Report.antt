-- The answer of the program to an input: its text and its status.
use Rattle.std.specs.Prelude.{ℕ, ◌+◌, ◌-◌, nat_eq, nat_lt, if◌then◌else◌, List, ◌++◌, length, take, drop, codes, decimal, Option, Some, None, Result, Ok, Err}
use Rattle.std.specs.List.{ends_with, starts_with}
use Rattle.std.specs.Option.{option_or}
use Rattle.hex.specs.Hex.{decode_of, encode_lower}
use Rattle.hex.specs.declared.error.FromHexError.{FromHexError}
use Rattle.etherparse_transport.specs.Formats.{canonical, refusal}
use Rattle.etherparse_transport.specs.Layouts.{layout_of}
use Rattle.etherparse_transport.specs.HeaderError.TheVariants.{DataOffsetTooSmall}
use Rattle.etherparse_transport.specs.HeaderSliceError.{HeaderSliceError}
use Rattle.etherparse_transport.specs.HeaderSliceError.TheVariants.{Len, Content}
use Rattle.etherparse_transport.specs.Layer.{word_of}
use Rattle.etherparse_transport.specs.Proto.{Proto}
use Rattle.etherparse_transport.specs.Proto.TheVariants.{Udp, Tcp, Icmpv4, Icmpv6}

-- the answer if the input is not a line of the form that the program reads
abbrev pub bad_input : List ℕ × ℕ
bad_input = (codes "bad input\n", 2)

-- the text for an accepted packet: `ok`, the header in lower case hex, and the number of bytes after the header
abbrev pub accepted_text : List ℕ → ℕ → List ℕ
accepted_text header rest_len = codes "ok " ++ encode_lower header ++ codes " " ++ decimal rest_len ++ codes "\n"

-- The text for a refused packet. If its length is refused: `refused len`, the layer, the required length, and the length that is present.
-- If its data offset is too small: `refused offset` and the data offset.
abbrev pub refused_text : HeaderSliceError → List ℕ
refused_text (Len error) =
    codes "refused len " ++ word_of error.layer ++ codes " " ++ decimal error.required_len ++ codes " " ++ decimal error.len ++ codes "\n"
refused_text (Content (DataOffsetTooSmall data_offset)) = codes "refused offset " ++ decimal data_offset ++ codes "\n"

-- the answer to a packet that is refused with this error; without an error, the packet is accepted with its canonical header
abbrev pub decided : Proto → List ℕ → Option HeaderSliceError → List ℕ × ℕ
decided protocol bytes (Some error) = (refused_text error, 1)
decided protocol bytes None =
    let header_len = (layout_of protocol bytes).header_len in
    (accepted_text (take header_len (canonical protocol bytes)) (length bytes - header_len), 0)

-- the answer to the bytes of a packet of this protocol
abbrev pub packet_report : Proto → List ℕ → List ℕ × ℕ
packet_report protocol bytes = decided protocol bytes (refusal protocol bytes)

-- The answer to the result of decoding the digits of a packet. If they are not hex digits, or if their number is odd, the input is bad.
abbrev pub bytes_report : Proto → Result (List ℕ) FromHexError → List ℕ × ℕ
bytes_report protocol (Ok bytes) = packet_report protocol bytes
bytes_report protocol (Err error) = bad_input

-- the answer to a line with this protocol and these digits; a line that does not begin with a protocol is bad input
abbrev pub request_report : Option (Proto × List ℕ) → List ℕ × ℕ
request_report (Some request) = bytes_report request.0 (decode_of request.1)
request_report None = bad_input

-- the line of an input; a line feed at the end of the input is left out
abbrev pub line_of : List ℕ → List ℕ
line_of input = if ends_with nat_eq input (codes "\n") then take (length input - 1) input else input

-- the protocol and the digits of a line that begins with this word, which ends with a space; `None` for any other line
abbrev pub digits_after : List ℕ → Proto → List ℕ → Option (Proto × List ℕ)
digits_after word protocol line = if starts_with nat_eq line word then Some (protocol, drop (length word) line) else None

-- The protocol and the digits of a line. The line begins with the name of the protocol and one space, and the digits are the rest of the
-- line.
abbrev pub request_of : List ℕ → Option (Proto × List ℕ)
request_of line =
    option_or (digits_after (codes "udp ") Udp line)
    (option_or (digits_after (codes "tcp ") Tcp line)
    (option_or (digits_after (codes "icmpv4 ") Icmpv4 line)
    (digits_after (codes "icmpv6 ") Icmpv6 line)))

-- the maximum length of a line, in bytes
abbrev pub max_line_len : ℕ
max_line_len = 8192

-- The number of bytes of an input that decide its answer. They are the longest line, its line feed, and one more byte, which shows that a
-- line is too long.
abbrev pub max_input_len : ℕ
max_input_len = max_line_len + 2

-- the answer to a line; a line that is too long is a bad input
abbrev pub line_report : List ℕ → List ℕ × ℕ
line_report line = if nat_lt max_line_len (length line) then bad_input else request_report (request_of line)

-- the answer to an input: its text and its status
abbrev pub report : List ℕ → List ℕ × ℕ
report input = line_report (line_of input)
