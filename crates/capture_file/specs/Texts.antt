-- The texts of a pcapng file: names, descriptions and comments, and the statistics of its interfaces (draft-ietf-opsawg-pcapng, sections
-- 3.5, 4.1, 4.2, 4.3 and 4.6).
use Rattle.std.specs.Prelude.{ℕ, zero, suc, ◌+◌, ◌*◌, ◌/◌, ◌-◌, ◌^◌, ◌==◌, Bool, ◌||◌, nat_le, nat_lt, if◌then◌else◌, min, List, [], ◌∷◌, ◌++◌, filter, length, map, take, drop, slice_get, slice_index, slice_set, Option, Some, None, unwrap_or}
use Rattle.std.specs.Option.{option_map}
use Rattle.ip_part.specs.Options.{options_of}
use Rattle.capture_numbers.specs.Blocks.{enhanced_packet_type, interface_description_len, interface_description_type, obsolete_packet_type, section_header_len, section_header_type, simple_packet_type, timed_captured_at, timed_captured_len_at}
use Rattle.capture_numbers.specs.Numbers.{long_at, number_at, short_at}
use Rattle.capture_numbers.specs.Options.{option_value, pcapng_option, value_in}
use Rattle.capture_numbers.specs.declared.byte_order.ByteOrder.{ByteOrder}
use Rattle.capture_file.specs.declared.file_texts.FileTexts.{FileTexts}
use Rattle.capture_file.specs.declared.file_texts.InterfaceTexts.{InterfaceTexts}
use Rattle.capture_file.specs.declared.interface_statistics.InterfaceStatistics.{InterfaceStatistics}
use Rattle.capture_file.specs.declared.kept_text.KeptText.{KeptText}
use Rattle.capture_file.specs.declared.packet_comments.PacketComments.{PacketComments}

-- ---- what is kept of a text

-- a byte of UTF-8 that is not the first byte of its character: its highest bits are 10 (RFC 3629, section 3)
abbrev pub is_continuation : ℕ → Bool
is_continuation byte = byte / 64 == 2

-- the place of the first byte of the character to which the byte at this place belongs
unfoldable pub char_start : List ℕ → ℕ → ℕ
char_start text zero = 0
char_start text (suc place) = if is_continuation (slice_index text (suc place)) then char_start text place else suc place

-- the maximum number of bytes that are kept of a text
abbrev pub max_text_len : ℕ
max_text_len = 128

-- the number of bytes that are kept of a text; no character is kept in part
abbrev pub kept_len : List ℕ → ℕ
kept_len text = if nat_le (length text) max_text_len then length text else char_start text max_text_len

-- what is kept of a text
abbrev pub kept_text : List ℕ → KeptText
kept_text text = record { bytes = record { items = take (kept_len text) text }; is_cut = nat_lt (kept_len text) (length text) }

-- ---- the texts of blocks

-- the text in the first option with this code; the text is empty if no option has this code
abbrev pub text_in : ByteOrder → ℕ → List ℕ → List ℕ
text_in order code options = unwrap_or (option_value order code None options) []

-- the code of a comment in any block (opt_comment, section 3.5)
abbrev pub opt_comment : ℕ
opt_comment = 1

-- the code of the name in an interface description block (section 4.2)
abbrev pub if_name : ℕ
if_name = 2

-- the code of the description in an interface description block
abbrev pub if_description : ℕ
if_description = 3

-- the code of the hardware in a section header block (section 4.1)
abbrev pub shb_hardware : ℕ
shb_hardware = 2

-- the code of the operating system in a section header block
abbrev pub shb_os : ℕ
shb_os = 3

-- the code of the application in a section header block
abbrev pub shb_userappl : ℕ
shb_userappl = 4

-- ---- the statistics of an interface (section 4.6)

-- the type of an interface statistics block
abbrev pub interface_statistics_type : ℕ
interface_statistics_type = 5

-- the length of the body of an interface statistics block without options: the number of the interface, and a time in two halves
abbrev pub interface_statistics_len : ℕ
interface_statistics_len = 12

-- the code of the number of packets that were received from the interface
abbrev pub isb_ifrecv : ℕ
isb_ifrecv = 4

-- the code of the number of packets that the interface dropped
abbrev pub isb_ifdrop : ℕ
isb_ifdrop = 5

-- the code of the number of packets that the operating system dropped
abbrev pub isb_osdrop : ℕ
isb_osdrop = 7

-- the number in the first option with this code and a value of eight bytes, or `None` if there is no such option
abbrev pub count_in : ByteOrder → ℕ → List ℕ → Option ℕ
count_in order code options = option_map (λ value. long_at order value 0) (option_value order code (Some 8) options)

-- the statistics among the options of an interface statistics block
abbrev pub interface_statistics : ByteOrder → List ℕ → InterfaceStatistics
interface_statistics order options = record {
  received = count_in order isb_ifrecv options;
  dropped = count_in order isb_ifdrop options;
  dropped_by_system = count_in order isb_osdrop options;
}

-- the statistics of an interface before its first interface statistics block: no number is stated
abbrev pub no_statistics : InterfaceStatistics
no_statistics = record { received = None; dropped = None; dropped_by_system = None }

-- ---- the comments of a packet

-- the option is a comment
abbrev pub is_comment : ByteOrder → List ℕ → Bool
is_comment order option = short_at order option 0 == opt_comment

-- the comments among the options of a block, in their order
abbrev pub comments_in : ByteOrder → List ℕ → List (List ℕ)
comments_in order options = map (value_in order) (filter (is_comment order) (options_of (pcapng_option order) options))

-- the maximum number of comments that are kept of a packet
abbrev pub max_comments : ℕ
max_comments = 4

-- what is kept of the comments of a packet: the first comments, and the number of the other comments
abbrev pub kept_comments : List (List ℕ) → PacketComments
kept_comments comments = record {
  texts = record { items = map kept_text (take max_comments comments) };
  more = min (length comments - max_comments) (2 ^ 64 - 1);
}

-- the comments of a packet that has no comment
abbrev pub no_comments : PacketComments
no_comments = kept_comments []

-- the comments after another comment; if the maximum number of comments is kept, the comment is only counted
abbrev pub comment_added : List ℕ → PacketComments → PacketComments
comment_added comment before =
    if length before.texts.items == max_comments
    then record before { more = min (before.more + 1) (2 ^ 64 - 1) }
    else record before { texts = record { items = before.texts.items ++ kept_text comment ∷ [] } }

-- The options of an enhanced or obsolete packet block with this body. They follow the captured bytes, which are padded to a multiple of four
-- bytes (section 4.3 and appendix A).
abbrev pub packet_options : ByteOrder → List ℕ → List ℕ
packet_options order body =
    if nat_le (length body) timed_captured_at then []
    else drop (timed_captured_at + (number_at order body timed_captured_len_at + 3) / 4 * 4) body

-- ---- the texts after each block

-- the texts of an interface description block with these options
abbrev pub interface_texts : ByteOrder → List ℕ → InterfaceTexts
interface_texts order options = record {
  name = kept_text (text_in order if_name options);
  description = kept_text (text_in order if_description options);
  comment = kept_text (text_in order opt_comment options);
  statistics = no_statistics;
}

-- the texts before the first block of a file: all of them are empty, and no packet is counted
abbrev pub no_texts : FileTexts
no_texts = record {
  comment = kept_text [];
  hardware = kept_text [];
  operating_system = kept_text [];
  application = kept_text [];
  interfaces = record { items = [] };
  packet_comments = no_comments;
  commented_packets = 0;
}

-- the texts after a section header block with these options; the comments of the last packet and the number of packets with a comment do
-- not change
abbrev pub section_begun : ByteOrder → List ℕ → FileTexts → FileTexts
section_begun order options before = record {
  comment = kept_text (text_in order opt_comment options);
  hardware = kept_text (text_in order shb_hardware options);
  operating_system = kept_text (text_in order shb_os options);
  application = kept_text (text_in order shb_userappl options);
  interfaces = record { items = [] };
  packet_comments = before.packet_comments;
  commented_packets = before.commented_packets;
}

-- the maximum number of interfaces whose texts are kept, in each section
abbrev pub max_interfaces_with_texts : ℕ
max_interfaces_with_texts = 32

-- The texts after an interface description block with these options. If the section already has the maximum number of interfaces with
-- texts, the texts of the block are left out.
abbrev pub interface_added : ByteOrder → List ℕ → FileTexts → FileTexts
interface_added order options before =
    if nat_lt (length before.interfaces.items) max_interfaces_with_texts
    then record before { interfaces = record { items = before.interfaces.items ++ interface_texts order options ∷ [] } }
    else before

-- these texts of interfaces, with other statistics of the interface with this number; without texts of the interface nothing changes
abbrev pub with_statistics : List InterfaceTexts → ℕ → InterfaceStatistics → Option InterfaceTexts → List InterfaceTexts
with_statistics interfaces number statistics None = interfaces
with_statistics interfaces number statistics (Some texts) = slice_set interfaces number (record texts { statistics = statistics })

-- The texts after an interface statistics block with this body. The statistics of the interface are replaced as a whole. If the body is too
-- short, or if there are no texts of the interface, nothing changes.
abbrev pub statistics_added : ByteOrder → List ℕ → FileTexts → FileTexts
statistics_added order body before =
    let interfaces = before.interfaces.items in
    let number = number_at order body 0 in
    let statistics = interface_statistics order (drop interface_statistics_len body) in
    if nat_lt (length body) interface_statistics_len then before
    else record before { interfaces = record { items = with_statistics interfaces number statistics (slice_get interfaces number) } }

-- the number of packets with a comment after a packet with these comments, up to 2^64 - 1
abbrev pub commented_after : PacketComments → ℕ → ℕ
commented_after comments before = if length comments.texts.items == 0 then before else min (before + 1) (2 ^ 64 - 1)

-- the texts after a packet block with these options; its packet is counted if the block has a comment
abbrev pub packet_added : ByteOrder → List ℕ → FileTexts → FileTexts
packet_added order options before = record before {
  packet_comments = kept_comments (comments_in order options);
  commented_packets = commented_after (kept_comments (comments_in order options)) before.commented_packets;
}

-- the texts after a block with this type and body; `order` is the byte order of the block's section
abbrev pub texts_after : ByteOrder → ℕ → List ℕ → FileTexts → FileTexts
texts_after order type body before =
    if type == section_header_type then section_begun order (drop section_header_len body) before
    else if type == interface_description_type then interface_added order (drop interface_description_len body) before
    else if type == interface_statistics_type then statistics_added order body before
    else if type == enhanced_packet_type || type == obsolete_packet_type then packet_added order (packet_options order body) before
    else if type == simple_packet_type then record before { packet_comments = no_comments }
    else before
