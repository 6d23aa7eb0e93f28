-- The IPv6 header and the fragment header for the IPv4 header of a fragment (RFC 7915, section 4.1).
use Rattle.std.specs.Prelude.{ℕ, ◌+◌, ◌*◌, ◌==◌, Bool, not, if◌then◌else◌, List, [], ◌∷◌, ◌++◌}
use Rattle.std.specs.Int.{to_be_bytes, w16}
use Rattle.ip_part.specs.ExtensionHeaders.{fragment}
use Rattle.net_base.specs.Bytes.{be_number, flag}
use Rattle.net_base.specs.IpHeaders.{ipv4_fragment_offset}
use Rattle.ip_translation.specs.HeadersToIpv6.{destination, ipv6_header, next_header, protocol, source, type_of_service}
use Rattle.ip_translation.specs.AddressTables.{embedded}
use Rattle.ip_translation.specs.declared.prefixes.Prefixes.{Prefixes}

-- the fragment is a later fragment, whose offset is above 0
abbrev pub is_later : List ℕ → Bool
is_later header = not (ipv4_fragment_offset header == 0)

-- the length of an IPv6 header and a fragment header (RFC 8200, sections 3 and 4.5)
abbrev pub headers_len : ℕ
headers_len = 40 + 8

-- the identification of an IPv4 packet
abbrev pub identification : List ℕ → ℕ
identification header = be_number header 4 2

-- the flag M of a fragment header: 1 if more fragments follow
abbrev pub more : List ℕ → ℕ
more header = if flag header 6 0x20 then 1 else 0

-- The fragment header for this IPv4 header (RFC 8200, section 4.5): next header, a reserved byte, the offset with two reserved bits and the
-- flag M, and the identification, whose high 16 bits are 0.
abbrev pub fragment_header : List ℕ → List ℕ
fragment_header header =
    next_header (protocol header) ∷ 0 ∷ to_be_bytes w16 (ipv4_fragment_offset header * 8 + more header)
    ++ (0 ∷ 0 ∷ to_be_bytes w16 (identification header))

-- The IPv6 header and the fragment header for this IPv4 header, with this hop limit. The payload length counts these eight bytes and this
-- number of bytes.
abbrev pub headers_with : Prefixes → ℕ → ℕ → List ℕ → List ℕ
headers_with prefixes len hop_limit header =
    ipv6_header (type_of_service header) (len + 8) (fragment ∷ hop_limit ∷ [])
    (embedded prefixes.source (source header)) (embedded prefixes.destination (destination header))
    ++ fragment_header header
