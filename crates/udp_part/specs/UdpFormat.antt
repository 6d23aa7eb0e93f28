-- The UDP header (RFC 768): which bytes are accepted, how the header is read and written, and what its checksum covers.
--
--   byte  0, 1          2, 3              4, 5     6, 7
--         source port   destination port  length   checksum
use Rattle.std.specs.Prelude.{◌≡◌, ℕ, ◌+◌, ◌-◌, nat_lt, List, [], ◌∷◌, ◌++◌, length, drop, replicate, Option, None}
use Rattle.std.specs.Int.{to_be_bytes, w16}
use Rattle.net_base.specs.Bytes.{HeaderLayout, be_number, masked}
use Rattle.net_base.specs.IpNumbers.{udp_number}
use Rattle.net_base.specs.PseudoHeader.{ipv4_pseudo_header, ipv6_pseudo_header}
use Rattle.net_base.specs.Refusals.{first_of, refused_if, wrong_length}
use Rattle.net_base.specs.declared.err.layer.Layer.TheVariants as layers
use Rattle.net_base.specs.declared.err.len_error.LenError.{LenError}
use Rattle.word_sum.specs.Checksum.{total}
use Rattle.udp_part.specs.declared.udp_header.UdpHeader.{UdpHeader}

-- ---- accepted bytes

-- the layout of a header: eight bytes, without reserved bits
abbrev pub layout : HeaderLayout
layout = record { header_len = 8; masks = replicate 8 0xff }

-- the error if a slice is shorter than a header; the length field is not checked
abbrev pub refusal : List ℕ → Option LenError
refusal bytes = first_of (
    refused_if (nat_lt (length bytes) layout.header_len) (wrong_length layers.UdpHeader layout.header_len (length bytes)) ∷ [])

-- ---- reading

-- the header in these bytes, with each field read at its place
abbrev pub header_of : List ℕ → UdpHeader
header_of bytes = record {
  source_port = be_number bytes 0 2;
  destination_port = be_number bytes 2 2;
  length = be_number bytes 4 2;
  checksum = be_number bytes 6 2;
}

-- the bytes are accepted, and read as this header and the rest of the bytes
pub record DecodesAs (bytes : List ℕ) (header : UdpHeader) (rest : List ℕ) : Type 0 where
  pub accepted : refusal bytes ≡ None
  pub fields : header ≡ header_of bytes
  pub after_header : rest ≡ drop layout.header_len bytes

-- accepted bytes with the meaningless bits of the header cleared; the bytes after the header are kept
abbrev pub canonical : List ℕ → List ℕ
canonical bytes = masked layout.masks bytes

-- ---- writing

-- the bytes of a header
abbrev pub wire : UdpHeader → List ℕ
wire header =
    to_be_bytes w16 header.source_port ++ to_be_bytes w16 header.destination_port
    ++ to_be_bytes w16 header.length ++ to_be_bytes w16 header.checksum

-- ---- the checksum

-- the length of the longest payload that the length field can count; the field has 16 bits, and counts the header too (RFC 768)
abbrev pub max_payload_len : ℕ
max_payload_len = 65535 - layout.header_len

-- the length of the longest payload that the pseudo header over IPv6 can count; its length field has 32 bits, and
-- counts the header too (RFC 8200, section 8.1)
abbrev pub max_payload_len_of_32_bits : ℕ
max_payload_len_of_32_bits = 4294967295 - layout.header_len

-- the sum from which the checksum is computed: the pseudo header, the header with a zero instead of the checksum, and the payload
abbrev pub checksummed : List ℕ → UdpHeader → List ℕ → ℕ
checksummed pseudo_header header payload =
    total pseudo_header + total (wire (record header { checksum = 0 })) + total payload

-- the sum from which the checksum over IPv4 is computed; the pseudo header contains the length field of the header
abbrev pub checksummed_ipv4 : List ℕ → List ℕ → UdpHeader → List ℕ → ℕ
checksummed_ipv4 source destination header payload =
    checksummed (ipv4_pseudo_header source destination udp_number header.length) header payload

-- the sum from which the checksum over IPv6 is computed; the pseudo header contains the length field of the header
abbrev pub checksummed_ipv6 : List ℕ → List ℕ → UdpHeader → List ℕ → ℕ
checksummed_ipv6 source destination header payload =
    checksummed (ipv6_pseudo_header source destination udp_number header.length) header payload
