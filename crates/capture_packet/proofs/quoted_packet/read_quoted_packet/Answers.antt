use Rattle.std.proofs.Common.{◌≡◌, ◌∙◌, ap, refl, sym}
use Rattle.std.specs.Prelude.{List, None, Some, ℕ}
use Rattle.ip_part.specs.Ip.{Carries, lacks_len, lax_refusal}
use Rattle.ip_part.specs.declared.transport.TransportInIp.{TransportInIp}
use Rattle.capture_packet.specs.Quotes.{quoted_at, quoted_by}
use Rattle.capture_packet.proofs.quoted_packet.read_quoted_packet.Goals as goal

-- the transport of a packet with accepted headers
carried : (bytes : List ℕ) (found : TransportInIp) → lax_refusal bytes ≡ None → Carries bytes found
    → found.is_length_missing ≡ lacks_len bytes → Some (quoted_by found) ≡ quoted_at bytes
carried bytes found accepted carries stated =
    rw (accepted, sym stated, carries.read, carries.addresses, carries.protocol, carries.is_later_fragment, carries.payload) refl

pub returns-in-Ok : goal.returns-in-Ok
returns-in-Ok c =
    ap Some c.quoted.ensures
    ∙ carried c.args.bytes.now c.in-Ok.found c.in-Ok.ensures.refused c.in-Ok.ensures.found c.in-Ok.ensures.stated
