-- How the hop limit of an IP packet is lowered by one (RFC 1812, section 5.3.1; RFC 8200, section 3): which packets are refused, and which
-- bytes change.
use Rattle.std.specs.Prelude.{ℕ, ◌-◌, ◌==◌, nat_lt, if◌then◌else◌, List, [], ◌∷◌, length, slice_index, Option, Some}
use Rattle.std.specs.Option.{option_map}
use Rattle.ip_part.specs.Ip.{ipv4_header_refusal}
use Rattle.ip_part.specs.declared.ip_error.IpError.{IpError}
use Rattle.ip_part.specs.declared.ip_error.IpError.TheVariants.{HeaderCutOff, Version}
use Rattle.net_base.specs.IpHeaders.{version}
use Rattle.net_base.specs.Refusals.{first_of, refused_if}
use Rattle.net_base.specs.StoredChecksum.{with_checksum}
use Rattle.word_sum.specs.Checksum.{folded, total}
use Rattle.word_sum.specs.UpdatedChecksum.{updated_checksum_of}
use Rattle.etherparse_transport.specs.Translations.{number, with_bytes}
use Rattle.etherparse_transport.specs.declared.err.packet.lower_hop_limit_error.LowerHopLimitError.{LowerHopLimitError}
use Rattle.etherparse_transport.specs.declared.err.packet.lower_hop_limit_error.LowerHopLimitError.TheVariants.{Expired, Ip}

-- ---- errors

-- The error of an IP header by itself. The total length and the payload length are not compared with the packet, and no extension header is
-- read.
abbrev pub own_header_refusal : List ℕ → Option IpError
own_header_refusal packet =
    if length packet == 0 then Some (HeaderCutOff 1 0)
    else if version packet == 4 then ipv4_header_refusal packet
    else if version packet == 6 then refused_if (nat_lt (length packet) 40) (HeaderCutOff 40 (length packet))
    else Some (Version (version packet))

-- the place of the time to live in an IPv4 header (RFC 791, section 3.1)
abbrev pub time_to_live_place : ℕ
time_to_live_place = 8

-- the place of the hop limit in an IPv6 header (RFC 8200, section 3)
abbrev pub hop_limit_place : ℕ
hop_limit_place = 7

-- the time to live of an IPv4 packet, or the hop limit of an IPv6 packet
abbrev pub hop_limit : List ℕ → ℕ
hop_limit packet = slice_index packet (if version packet == 4 then time_to_live_place else hop_limit_place)

-- the error of the header, or else the error for a hop limit of 0 or 1
abbrev pub lower_refusal : List ℕ → Option LowerHopLimitError
lower_refusal packet = first_of (
    option_map Ip (own_header_refusal packet)
    ∷ refused_if (nat_lt (hop_limit packet) 2) (Expired (hop_limit packet))
    ∷ [])

-- ---- the lowered hop limit

-- the word that contains time to live and protocol of an IPv4 packet
abbrev pub hop_word : List ℕ → List ℕ
hop_word packet = slice_index packet time_to_live_place ∷ slice_index packet 9 ∷ []

-- the word of `hop_word` with the time to live lowered by one
abbrev pub lowered_word : List ℕ → List ℕ
lowered_word packet = (slice_index packet time_to_live_place - 1) ∷ slice_index packet 9 ∷ []

-- the checksum of the header, in bytes 10 and 11, after the lowered word replaces the old word (RFC 1624, section 3, equation 3)
abbrev pub lowered_checksum : List ℕ → ℕ
lowered_checksum packet = updated_checksum_of (number 10 packet) (folded (total (hop_word packet))) (folded (total (lowered_word packet)))

-- an IPv4 packet with the lowered word and the updated checksum
abbrev pub ipv4_lowered : List ℕ → List ℕ
ipv4_lowered packet = with_bytes time_to_live_place (lowered_word packet) (with_checksum 10 packet (lowered_checksum packet))

-- an IPv6 packet with the hop limit lowered by one; its header has no checksum
abbrev pub ipv6_lowered : List ℕ → List ℕ
ipv6_lowered packet = with_bytes hop_limit_place ((slice_index packet hop_limit_place - 1) ∷ []) packet

-- a packet of either IP version with its hop limit lowered by one
abbrev pub lowered : List ℕ → List ℕ
lowered packet = if version packet == 4 then ipv4_lowered packet else ipv6_lowered packet
