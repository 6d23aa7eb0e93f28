-- IEEE 802.11 frames, and the radiotap header that a capture may contain before them.
use Rattle.std.specs.Prelude.{ℕ, ◌+◌, ◌==◌, ◌&&◌, Bool, not, nat_le, if◌then◌else◌, bit_and, List, slice_index, Some, None, Result, Ok}
use Rattle.net_base.specs.Bytes.{be_number, flag}
use Rattle.capture_numbers.specs.Numbers.{short_at}
use Rattle.capture_packet.specs.LinkHeaders.{with_bytes}
use Rattle.capture_packet.specs.Llc.{llc_at}
use Rattle.capture_numbers.specs.declared.byte_order.ByteOrder.TheVariants.{LittleEndian}
use Rattle.capture_packet.specs.declared.link.LinkHeaderCutOff.{LinkHeaderCutOff}
use Rattle.capture_packet.specs.declared.link.header.FirstHeader.{FirstHeader}
use Rattle.capture_packet.specs.declared.link.header.FirstHeader.TheVariants.{Whole}
use Rattle.capture_packet.specs.declared.network_protocol.NetworkProtocol.TheVariants.{Ieee80211, Radiotap}

-- ---- the header of a data frame (IEEE 802.11, clauses 9.2.3 and 9.3.2)

-- The frame is a data frame with data. The data is not encrypted, and no more fragments follow. In the first byte of Frame Control the
-- version (bits 0 and 1) is 0, the type (bits 2 and 3) is 2, and bit 6, which marks a frame without data, is 0. In the second byte the bits
-- More Fragments (bit 2) and Protected Frame (bit 6) are 0.
abbrev pub carries_data : List ℕ → ℕ → Bool
carries_data frame place = bit_and (slice_index frame place) 0x4F == 0x08 && bit_and (slice_index frame (place + 1)) 0x44 == 0

-- a QoS Control field is present: bit 7 of the first byte of Frame Control, which is a bit of the subtype, is set
abbrev pub has_qos_control : List ℕ → ℕ → Bool
has_qos_control frame place = flag frame place 0x80

-- an HT Control field is present: a QoS Control field is present, and +HTC/Order is set
abbrev pub has_ht_control : List ℕ → ℕ → Bool
has_ht_control frame place = has_qos_control frame place && flag frame (place + 1) 0x80

-- a fourth address is present: To DS and From DS are both set
abbrev pub has_fourth_address : List ℕ → ℕ → Bool
has_fourth_address frame place = bit_and (slice_index frame (place + 1)) 0x03 == 0x03

-- the length of a field that may be absent: `len` if it is present, otherwise 0
abbrev pub len_if : Bool → ℕ → ℕ
len_if is_there len = if is_there then len else 0

-- the place of the QoS Control field: after 24 bytes, and after the fourth address if this address is present
abbrev pub qos_at : List ℕ → ℕ → ℕ
qos_at frame place = place + 24 + len_if (has_fourth_address frame place) 6

-- the start of the body; the QoS Control field and the HT Control field precede the body if they are present
abbrev pub body_at : List ℕ → ℕ → ℕ
body_at frame place = qos_at frame place + len_if (has_qos_control frame place) 2 + len_if (has_ht_control frame place) 4

-- The body is one whole data unit. The fragment number, in the low bits of byte 22, is 0. If there is a QoS Control field, its bit A-MSDU
-- Present, which marks several data units, is 0.
abbrev pub has_whole_unit : List ℕ → ℕ → Bool
has_whole_unit frame place =
    bit_and (slice_index frame (place + 22)) 0x0F == 0
    && not (has_qos_control frame place && flag frame (qos_at frame place) 0x80)

-- ---- the header of a frame

-- the header of a frame whose body is not read
abbrev pub other_frame : List ℕ → ℕ → FirstHeader
other_frame frame place = Whole (record { len = place + 2; next = Some (Ieee80211 (be_number frame place 2)); end = None })

-- the header of a data frame; if the body is one whole data unit, an LLC header follows, otherwise the body is not read
abbrev pub data_frame : List ℕ → ℕ → Result FirstHeader LinkHeaderCutOff
data_frame frame place = with_bytes frame (body_at frame place) (
    if has_whole_unit frame place then llc_at frame (body_at frame place) else Ok (other_frame frame place))

-- the header of the frame at this place, which is a data frame, or a frame whose body is not read
abbrev pub frame_at : List ℕ → ℕ → Result FirstHeader LinkHeaderCutOff
frame_at frame place = with_bytes frame (place + 2) (
    if carries_data frame place then data_frame frame place else Ok (other_frame frame place))

-- ---- a radiotap header (LINKTYPE_IEEE802_11_RADIOTAP)

-- A radiotap header begins with eight bytes: a version, an unused byte, a little-endian length of two bytes, and four bytes of bits for the
-- fields that are present. If the version is 0 and the length is at least 8, the IEEE 802.11 frame follows. Otherwise the header is not
-- read.
abbrev pub by_radiotap : List ℕ → ℕ → ℕ → Result FirstHeader LinkHeaderCutOff
by_radiotap frame version len =
    if version == 0 && nat_le 8 len then frame_at frame len
    else Ok (Whole (record { len = 8; next = Some (Radiotap version len); end = None }))

-- the first header of a frame after a radiotap header
abbrev pub after_radiotap : List ℕ → Result FirstHeader LinkHeaderCutOff
after_radiotap frame = with_bytes frame 8 (by_radiotap frame (slice_index frame 0) (short_at LittleEndian frame 2))
