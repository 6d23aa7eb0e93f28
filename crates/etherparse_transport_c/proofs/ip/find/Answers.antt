use Rattle.std.proofs.Common.{ap, subst, sym, ◌∙◌}
use Rattle.ip_part.specs.Ip.{headers_of}
use Rattle.etherparse_transport_c.specs.Ip.{HasPayload, found}
use Rattle.etherparse_transport_c.proofs.IpLemmas.{has_payload, is_long}
use Rattle.etherparse_transport_c.proofs.ip.find.Goals as goal

pub fields-requires : goal.fields-requires
fields-requires c = is_long c.args.bytes.now c.in-Ok.carried c.in-Ok.ensures.found

pub returns-in-Ok-clause-transport : goal.returns-in-Ok-clause-transport
returns-in-Ok-clause-transport c =
    rw c.in-Ok.ensures.refused (c.fields.ensures c.in-Ok.ensures.found c.args.transport.now
    ∙ ap (λ missing. found missing c.args.bytes.now (headers_of missing c.args.bytes.now) c.args.transport.now) c.in-Ok.ensures.stated)

pub returns-in-Ok-clause-payload : goal.returns-in-Ok-clause-payload
returns-in-Ok-clause-payload c = λ accepted.
    subst (λ missing. HasPayload missing c.args.bytes.now c.fields.result) c.in-Ok.ensures.stated
    (subst (HasPayload c.in-Ok.carried.is_length_missing c.args.bytes.now)
    (sym (c.fields.ensures c.in-Ok.ensures.found c.args.transport.now))
    (has_payload c.args.bytes.now c.in-Ok.carried c.args.transport.now c.in-Ok.ensures.found))
