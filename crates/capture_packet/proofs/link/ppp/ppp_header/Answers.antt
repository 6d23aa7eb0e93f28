use Rattle.std.proofs.Common.{◌≡◌, ◌∙◌, ap, if◌then◌else◌, sym, true}
use Rattle.capture_packet.specs.Ppp.{has_address, protocol_at}
use Rattle.capture_packet.proofs.link.ppp.ppp_header.Goals as goal

pub returns-then-has_address-clause-is : goal.returns-then-has_address-clause-is
returns-then-has_address-clause-is c =
    let frame = c.args.frame.now in
    let present : has_address frame ≡ true = sym c.has_address.ensures.is ∙ c.if-has_address.true in
    c.protocol_at.ensures.is ∙ sym (ap (λ has. protocol_at frame (if has then 2 else 0)) present)
