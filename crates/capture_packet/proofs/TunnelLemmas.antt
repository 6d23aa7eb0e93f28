-- Tunnels, one after the other.
use Rattle.std.specs.Prelude.{ℕ, zero, suc, ◌-◌, ◌<◌, Bool, ◌||◌, ◌&&◌, List, [], ◌∷◌, ◌++◌, drop, length, map, MatchOption, Option, Some, None}
use Rattle.std.proofs.Common.{◌≡◌, ◌∙◌, ap, ap₂, arith, length-append, subst, sym}
use Rattle.std.proofs.lemmas.List.{map-append}
use Rattle.ip_part.specs.Addresses as addresses
use Rattle.ip_part.specs.Addresses.{Addresses}
use Rattle.ip_part.specs.Ip.{Carries, counted, headers_of, is_cut_off, lacks_len, lax_refusal}
use Rattle.ip_part.specs.declared.ip_error.IpError.{IpError}
use Rattle.ip_part.specs.declared.transport.TransportInIp.{TransportInIp}
use Rattle.capture_numbers.specs.declared.byte_order.ByteOrder.{ByteOrder}
use Rattle.capture_packet.specs.Frames.{IsAlone, IsReadFrom, IsReadIn}
use Rattle.capture_packet.specs.Tunnels.{Opened, Outer, by_value, max_tunnels, opened, opened_after, opened_unless, opened_with}
use Rattle.capture_packet.specs.Verdicts.{is_transport_cut_off}
use Rattle.capture_packet.specs.declared.packet.Packet.{Packet}
use Rattle.capture_packet.specs.declared.tunnel.Tunnel.{Tunnel}

-- the tunnel in an outer packet with this transport
abbrev pub opened_in : Bool → Bool → TransportInIp → Option Opened
opened_in udp_tunnels is_cut found =
    opened_with udp_tunnels (addresses.by_value found.addresses) found.protocol.0 found.is_fragment
    (is_transport_cut_off is_cut found) found.payload.now

-- equal outer packets have equal tunnels
same_opened : (udp_tunnels : Bool) (between other : Addresses) (number other_number : ℕ)
    (is_fragment is_other_fragment is_cut is_other_cut : Bool)
    (payload other_payload : List ℕ) → between ≡ other → number ≡ other_number → is_fragment ≡ is_other_fragment → is_cut ≡ is_other_cut
    → payload ≡ other_payload
    → opened_with udp_tunnels between number is_fragment is_cut payload
    ≡ opened_with udp_tunnels other other_number is_other_fragment is_other_cut other_payload
same_opened udp between other number other_number is_fragment is_other_fragment is_cut is_other_cut payload other_payload addresses numbers
    fragments cuts payloads =
    ap₂ (λ each one. opened_with udp each one is_fragment is_cut payload) addresses numbers
    ∙ ap₂ (λ each cut. opened_with udp other other_number each cut payload) fragments cuts
    ∙ ap (opened_with udp other other_number is_other_fragment is_other_cut) payloads

-- the tunnel in an outer packet with accepted headers, given its transport
pub opened_is : (udp_tunnels is_cut : Bool) (packet : List ℕ) (found : TransportInIp) → lax_refusal packet ≡ None → Carries packet found
    → found.is_length_missing ≡ lacks_len packet → opened udp_tunnels is_cut packet ≡ opened_in udp_tunnels is_cut found
opened_is udp is_cut packet found accepted carries stated =
    ap (λ refusal. opened_unless refusal udp is_cut packet) accepted
    ∙ ap (opened_after udp is_cut packet) (ap (λ missing. headers_of missing packet) (sym stated) ∙ carries.read)
    ∙ same_opened udp _ (addresses.by_value found.addresses) _ found.protocol.0 _ found.is_fragment _
    (is_transport_cut_off is_cut found) _ found.payload.now
    (sym carries.addresses) (ap (λ number. number.0) (sym carries.protocol)) (sym carries.is_fragment)
    (ap₂ (λ is_cut_off missing. is_cut_off || (is_cut && missing))
    (ap (λ missing. is_cut_off missing packet) (sym stated) ∙ sym carries.is_cut_off) (sym stated))
    (ap (λ missing. drop carries.headers.len (counted missing packet)) (sym stated) ∙ sym carries.payload)

-- ---- tunnels in tunnels

-- what is read from the frame in a tunnel; `more` further tunnels may be opened
abbrev ReadsTunnel : ℕ → Bool → ByteOrder → List Outer → Packet → Opened → Type 0
ReadsTunnel more udp_tunnels order outers packet tunnel =
    IsReadFrom (IsReadIn more udp_tunnels order (outers ++ tunnel.outer ∷ []))
    (outers ++ tunnel.outer ∷ []) tunnel.link_type order tunnel.bytes tunnel.is_cut packet

-- a packet that contains no tunnel, or that is in as many tunnels as are read
pub stops : (left : ℕ) (udp_tunnels : Bool) (order : ByteOrder) (outers : List Outer) (is_cut : Bool) (bytes : List ℕ) (packet : Packet)
    → (0 < left → opened udp_tunnels is_cut bytes ≡ None) → IsAlone outers is_cut bytes packet
    → IsReadIn left udp_tunnels order outers is_cut bytes packet
unfolding IsReadIn
stops zero udp order outers is_cut bytes packet closed alone = alone
stops (suc more) udp order outers is_cut bytes packet closed alone =
    subst (λ tunnel. MatchOption tunnel (IsAlone outers is_cut bytes packet) (ReadsTunnel more udp order outers packet))
    (sym (closed (omega arith))) alone

-- a packet with refused headers contains no tunnel
pub refused_is_closed : (udp_tunnels is_cut : Bool) (packet : List ℕ) (error : IpError) → lax_refusal packet ≡ Some error
    → opened udp_tunnels is_cut packet ≡ None
refused_is_closed udp is_cut packet error refused = ap (λ refusal. opened_unless refusal udp is_cut packet) refused

-- a packet that contains a tunnel
opens : (more : ℕ) (udp_tunnels : Bool) (order : ByteOrder) (outers : List Outer) (is_cut : Bool) (bytes : List ℕ) (packet : Packet)
    (tunnel : Opened)
    → opened udp_tunnels is_cut bytes ≡ Some tunnel → ReadsTunnel more udp_tunnels order outers packet tunnel
    → IsReadIn (suc more) udp_tunnels order outers is_cut bytes packet
unfolding IsReadIn
opens more udp order outers is_cut bytes packet tunnel is reads =
    subst (λ tunnel. MatchOption tunnel (IsAlone outers is_cut bytes packet) (ReadsTunnel more udp order outers packet)) (sym is) reads

-- the tunnels that were opened, and the next tunnel
pub continues : (udp_tunnels : Bool) (order : ByteOrder) (before after : List Tunnel) (next : Tunnel) (is_cut : Bool) (bytes : List ℕ)
    (tunnel : Opened)
    (packet : Packet) → length before < max_tunnels → after ≡ before ++ next ∷ [] → tunnel.outer ≡ by_value next
    → opened udp_tunnels is_cut bytes ≡ Some tunnel
    → IsReadFrom (IsReadIn (max_tunnels - length after) udp_tunnels order (map by_value after))
    (map by_value after) tunnel.link_type order tunnel.bytes
    tunnel.is_cut packet
    → IsReadIn (max_tunnels - length before) udp_tunnels order (map by_value before) is_cut bytes packet
continues udp order before after next is_cut bytes tunnel packet room after_is outer_is is reads =
    let left : suc (max_tunnels - length after) ≡ max_tunnels - length before =
    omega (arith, ap length after_is, length-append before (next ∷ [])) in
    let outers : map by_value after ≡ map by_value before ++ tunnel.outer ∷ [] =
    ap (map by_value) after_is ∙ map-append by_value before (next ∷ []) ∙ ap (λ outer. map by_value before ++ outer ∷ []) (sym outer_is) in
    subst (λ more. IsReadIn more udp order (map by_value before) is_cut bytes packet) left
    (opens (max_tunnels - length after) udp order (map by_value before) is_cut bytes packet tunnel is
    (subst (λ each. IsReadFrom (IsReadIn (max_tunnels - length after) udp order each) each tunnel.link_type order tunnel.bytes tunnel.is_cut
    packet) outers reads))
