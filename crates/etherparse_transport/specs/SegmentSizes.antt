-- How the maximum segment size of a SYN is lowered (RFC 9293, section 3.7.1): which packets are refused, and which bytes change.
use Rattle.std.specs.Prelude.{◌≡◌, ◌≤◌, ◌↔◌, ◌⊎◌, ◌%◌, ℕ, ◌+◌, ◌-◌, ◌==◌, Bool, false, not, nat_lt, if◌then◌else◌, List, [], ◌∷◌, ◌++◌, length, slice_index, slice_range, Option, Some, None, Result, Ok, Err}
use Rattle.std.specs.Int.{to_be_bytes, to_le_bytes, w16}
use Rattle.std.specs.Option.{option_map}
use Rattle.ip_part.specs.Headers.{Headers}
use Rattle.ip_part.specs.Ip as ip
use Rattle.net_base.specs.Bytes.{IsBytes}
use Rattle.net_base.specs.IpNumbers.{tcp_number}
use Rattle.net_base.specs.declared.ip_number.IpNumber.{IpNumber}
use Rattle.net_base.specs.Refusals.{first_of, refused_if}
use Rattle.net_base.specs.StoredChecksum.{tcp_checksum_place, with_checksum}
use Rattle.tcp_part.specs.TcpFormat as tcp
use Rattle.tcp_part.specs.TcpFormat.{flag_of, min_header_len, options_of, syn_flag}
use Rattle.tcp_part.specs.TcpOptionKinds.{maximum_segment_size_kind, maximum_segment_size_len}
use Rattle.tcp_part.specs.TcpRawOptions.{RawItem, ReadsRaw, raw_spelling}
use Rattle.word_sum.specs.Checksum.{Verifies, folded, total}
use Rattle.word_sum.specs.UpdatedChecksum.{updated_checksum_of}
use Rattle.etherparse_transport.specs.Translations.{counted_after, number, with_bytes}
use Rattle.etherparse_transport.specs.declared.err.packet.lower_maximum_segment_size_error.LowerMaximumSegmentSizeError.{LowerMaximumSegmentSizeError}
use Rattle.etherparse_transport.specs.declared.err.packet.lower_maximum_segment_size_error.LowerMaximumSegmentSizeError.TheVariants.{Header, Ip, LaterFragment, NoOption, NoSyn, OptionLength, Options, Protocol}

-- ---- the option

-- the place of a size whose option begins at `start`, or the error for an option of another length; the size follows kind and length byte
abbrev pub size_in : ℕ → ℕ → Result ℕ LowerMaximumSegmentSizeError
size_in start len = if len == maximum_segment_size_len then Ok (start + 2) else Err (OptionLength len)

-- The place of the maximum segment size in options that are read as these items, or the error. The first item begins at `start`. The first
-- option of its kind counts (RFC 9293, section 3.2).
abbrev pub place_in : ℕ → List RawItem → Result ℕ LowerMaximumSegmentSizeError
place_in start [] = Err NoOption
place_in start (Err error ∷ items) = Err (Options error)
place_in start (Ok option ∷ items) =
    if option.kind == maximum_segment_size_kind then size_in start (length (raw_spelling option))
    else place_in (start + length (raw_spelling option)) items

-- the options of a header are read as items, in which this place is found, or for which this is the error; bytes have exactly one reading
pub record Finds (options : List ℕ) (outcome : Result ℕ LowerMaximumSegmentSizeError) : Type 0 where
  pub items : List RawItem
  pub reads : ReadsRaw options items
  pub is : place_in min_header_len items ≡ outcome

-- ---- the segment

-- the error for a packet of this protocol with this segment, apart from the options
abbrev pub header_refusal : IpNumber → Bool → List ℕ → Option LowerMaximumSegmentSizeError
header_refusal protocol is_later_fragment segment = first_of (
    refused_if (not (protocol.0 == tcp_number)) (Protocol protocol)
    ∷ refused_if is_later_fragment LaterFragment
    ∷ option_map Header (tcp.refusal segment)
    ∷ refused_if (not (flag_of segment syn_flag)) NoSyn
    ∷ [])

-- the error of the header if there is one, and otherwise what is found in the options
abbrev pub FindsUnless : Option LowerMaximumSegmentSizeError → List ℕ → Result ℕ LowerMaximumSegmentSizeError → Type 0
FindsUnless (Some error) segment outcome = outcome ≡ Err error
FindsUnless None segment outcome = Finds (options_of segment) outcome

-- what is found in the segment of a packet of this protocol
abbrev pub FindsBehind : IpNumber → Bool → List ℕ → Result ℕ LowerMaximumSegmentSizeError → Type 0
FindsBehind protocol is_later_fragment segment outcome =
    FindsUnless (header_refusal protocol is_later_fragment segment) segment outcome

-- ---- the packet

-- the segment after the headers of a packet: all bytes that the IP header counts
abbrev pub segment_in : Headers → List ℕ → List ℕ
segment_in headers packet = counted_after false headers.len packet

-- `transport_in_ip_lax` accepts the packet. In its segment the maximum segment size is at this place, or this is the error.
pub record FindsIn (packet : List ℕ) (outcome : Result ℕ LowerMaximumSegmentSizeError) : Type 0 where
  pub accepted : ip.lax_refusal packet ≡ None
  pub headers : Headers
  pub read : ip.headers_of (ip.lacks_len packet) packet ≡ Ok headers
  pub finds : FindsBehind headers.protocol headers.is_later_fragment (segment_in headers packet) outcome

-- the segment of this packet is between these places, and its maximum segment size is at this place of the segment
pub record IsSizeAt (packet : List ℕ) (start end place : ℕ) : Type 0 where
  pub found : FindsIn packet (Ok place)
  pub start_is : start ≡ found.headers.len
  pub segment : slice_range packet start end ≡ segment_in found.headers packet
  pub ordered : start ≤ end
  pub there : end ≤ length packet
  pub after : 20 ≤ place
  pub room : place + 2 ≤ end - start
  pub five_words : 80 ≤ slice_index (slice_range packet start end) 12
  pub bytes : IsBytes (slice_range packet start end)

-- the packet is refused for this reason: `transport_in_ip_lax` refuses it, or its segment contains no size that can be lowered
abbrev pub IsRefusedFor : List ℕ → LowerMaximumSegmentSizeError → Type 0
IsRefusedFor packet error = (option_map Ip (ip.lax_refusal packet) ≡ Some error) ⊎ FindsIn packet (Err error)

-- ---- the lowered size

-- The bytes of a number as the words of a checksum contain them. At an odd place they are exchanged: the first byte is the low byte of a
-- word, and the second byte is the high byte of the next word (RFC 1071, section 2).
abbrev pub word_bytes : ℕ → ℕ → List ℕ
word_bytes place value = if place % 2 == 0 then to_be_bytes w16 value else to_le_bytes w16 value

-- the checksum after `most` replaces the size at this place (RFC 1624, section 3, equation 3)
abbrev pub lowered_checksum : ℕ → ℕ → List ℕ → ℕ
lowered_checksum most place segment = updated_checksum_of (number tcp_checksum_place segment)
    (folded (total (word_bytes place (number place segment)))) (folded (total (word_bytes place most)))

-- a segment whose size at this place is at most `most`; a size above `most` becomes `most`, and the checksum is updated
abbrev pub lowered_segment : ℕ → ℕ → List ℕ → List ℕ
lowered_segment most place segment =
    if nat_lt most (number place segment)
    then with_bytes place (to_be_bytes w16 most) (with_checksum tcp_checksum_place segment (lowered_checksum most place segment))
    else segment

-- A receiver accepts the lowered segment exactly if it accepts the segment. `missing` are the bytes that follow the segment in other
-- fragments, or that were cut off. Any pseudo header is possible, since the call does not change it.
abbrev pub IsSegmentAccepted : List ℕ → List ℕ → Type 0
IsSegmentAccepted segment lowered =
    (pseudo_header missing : List ℕ) → (Verifies pseudo_header (lowered ++ missing)) ↔ (Verifies pseudo_header (segment ++ missing))

-- `size` is the maximum segment size of the packet before, and `after` is the packet in which the lowered segment replaces the segment
pub record IsLowered (most : ℕ) (before : List ℕ) (size : ℕ) (after : List ℕ) : Type 0 where
  pub place : ℕ
  pub found : FindsIn before (Ok place)
  pub size_is : size ≡ number place (segment_in found.headers before)
  pub changed : after ≡ with_bytes found.headers.len (lowered_segment most place (segment_in found.headers before)) before
  pub accepted : IsSegmentAccepted (segment_in found.headers before) (lowered_segment most place (segment_in found.headers before))
