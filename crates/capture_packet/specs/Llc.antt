-- LLC and SNAP headers (IEEE 802.2; RFC 1042).
use Rattle.std.specs.Prelude.{ℕ, ◌+◌, ◌^◌, ◌==◌, ◌||◌, Bool, if◌then◌else◌, List, slice_index, Some, None, Result, Ok}
use Rattle.net_base.specs.Bytes.{be_number}
use Rattle.capture_packet.specs.LinkHeaders.{with_bytes}
use Rattle.capture_packet.specs.declared.link.LinkHeaderCutOff.{LinkHeaderCutOff}
use Rattle.capture_packet.specs.declared.link.header.FirstHeader.{FirstHeader}
use Rattle.capture_packet.specs.declared.link.header.FirstHeader.TheVariants.{EtherType, Whole}
use Rattle.capture_packet.specs.declared.network_protocol.NetworkProtocol.TheVariants.{Llc, Nlpid, Snap}

-- an ether type follows this organization code: 000000 (RFC 1042), or 0000F8 from a bridge (IEEE 802.1H)
abbrev pub is_ether_code : ℕ → Bool
is_ether_code organization_code = organization_code == 0 || organization_code == 0x0000F8

-- A SNAP header: an organization code of three bytes, and a protocol number of two bytes. After the organization codes of `is_ether_code`,
-- the protocol number is an ether type.
abbrev pub by_organization_code : List ℕ → ℕ → ℕ → FirstHeader
by_organization_code frame place organization_code =
    if is_ether_code organization_code then EtherType (record { len = place + 5; ether_type_at = place + 3 })
    else Whole (record { len = place + 5; next = Some (Snap organization_code (be_number frame (place + 3) 2)); end = None })

-- the header that ends with the SNAP header at this place
abbrev pub snap_at : List ℕ → ℕ → Result FirstHeader LinkHeaderCutOff
snap_at frame place = with_bytes frame (place + 5) (Ok (by_organization_code frame place (be_number frame place 3)))

-- The greatest place at which an LLC header can begin. No frame has more bytes.
abbrev pub max_llc_place : ℕ
max_llc_place = 2 ^ 63

-- the header that ends with the network layer protocol ID at this place
abbrev pub osi_at : List ℕ → ℕ → Result FirstHeader LinkHeaderCutOff
osi_at frame place = with_bytes frame (place + 1) (
    Ok (Whole (record { len = place + 1; next = Some (Nlpid (slice_index frame place)); end = None })))

-- An LLC header contains the service access points of the destination and of the source, and a control byte. A SNAP header follows AA AA
-- 03. A network layer protocol ID follows FE FE 03 (ISO/IEC TR 9577). An IP packet follows 06 06 03 (RFC 948).
abbrev pub llc_at : List ℕ → ℕ → Result FirstHeader LinkHeaderCutOff
llc_at frame place = with_bytes frame (place + 3) (
    if be_number frame place 3 == 0xAAAA03 then snap_at frame (place + 3)
    else if be_number frame place 3 == 0xFEFE03 then osi_at frame (place + 3)
    else if be_number frame place 3 == 0x060603 then Ok (Whole (record { len = place + 3; next = None; end = None }))
    else Ok (Whole (record { len = place + 3; next = Some (Llc (slice_index frame place) (slice_index frame (place + 1))); end = None })))
