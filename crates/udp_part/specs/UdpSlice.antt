-- The UDP packet at the front of a slice. Its length field states the length of header and payload, in bytes (RFC 768).
use Rattle.std.specs.Prelude.{ℕ, Bool, not, ◌==◌, ◌&&◌, nat_lt, if◌then◌else◌, List, [], ◌∷◌, length, take, Option}
use Rattle.net_base.specs.Bytes.{be_number}
use Rattle.net_base.specs.Refusals.{first_of, refused_if, wrong_length}
use Rattle.net_base.specs.declared.err.layer.Layer.TheVariants as layers
use Rattle.net_base.specs.declared.err.len_error.LenError.{LenError}
use Rattle.net_base.specs.declared.err.len_source.LenSource.{LenSource}
use Rattle.net_base.specs.declared.err.len_source.LenSource.TheVariants.{Slice, UdpHeaderLen}
use Rattle.udp_part.specs.UdpFormat.{layout, refusal}

-- the length field
abbrev pub length_field : List ℕ → ℕ
length_field bytes = be_number bytes 4 2

-- the length field is valid: it counts at least the bytes of a header, and at most the bytes of the slice
abbrev pub length_counts : List ℕ → Bool
length_counts bytes = not (nat_lt (length_field bytes) layout.header_len) && not (nat_lt (length bytes) (length_field bytes))

-- the error if the length field counts more bytes than the slice contains
abbrev pub packet_cut_off : List ℕ → LenError
packet_cut_off bytes = wrong_length layers.UdpPayload (length_field bytes) (length bytes)

-- the error if the length field counts fewer bytes than a header
abbrev pub length_below_header : List ℕ → LenError
length_below_header bytes = record {
  required_len = layout.header_len;
  len = length_field bytes;
  len_source = UdpHeaderLen;
  layer = layers.UdpHeader;
  layer_start_offset = 0;
}

-- The first error that applies: a missing header; a length field above the length of the slice; a length field below the length of a
-- header. A length field of 0 is accepted, since it states no length, for example in a jumbogram (RFC 2675, section 4).
abbrev pub strict_refusal : List ℕ → Option LenError
strict_refusal bytes = first_of (
    refusal bytes
    ∷ refused_if (nat_lt (length bytes) (length_field bytes)) (packet_cut_off bytes)
    ∷ refused_if (nat_lt (length_field bytes) layout.header_len && not (length_field bytes == 0)) (length_below_header bytes)
    ∷ [])

-- the packet at the front of accepted bytes: the bytes that a valid length field counts, otherwise all bytes
abbrev pub cut : List ℕ → List ℕ
cut bytes = if length_counts bytes then take (length_field bytes) bytes else bytes

-- what states the length of this packet: its length field, or the slice
abbrev pub len_source_of : List ℕ → LenSource
len_source_of kept = if length_field kept == length kept then UdpHeaderLen else Slice
