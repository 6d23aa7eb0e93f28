use Rattle.std.proofs.Common.{◌≡◌, None, refl, sym, ap, ◌∙◌, subst}
use Rattle.transport_part.specs.Transports as transports
use Rattle.etherparse_transport_c.specs.Ip.{HasPayload}
use Rattle.etherparse_transport_c.specs.PacketVerdict.{of_transport}
use Rattle.etherparse_transport_c.proofs.IpLemmas.{has_payload, is_long}
use Rattle.etherparse_transport_c.proofs.PacketVerdictLemmas.{refusal_by_headers, told_of_carried}
use Rattle.etherparse_transport_c.proofs.packet_verdict.judge.Goals as goal

pub fields-transport-requires : goal.fields-transport-requires
fields-transport-requires c = is_long c.args.bytes.now c.args.carried.now c.requires

pub returns-in-Ok-clause-packet : goal.returns-in-Ok-clause-packet
returns-in-Ok-clause-packet c =
    let packet = c.args.bytes.now in
    let carries = c.requires in
    let carried = c.args.carried.now in
    let told = c.fields-transport.result in
    let accepted : transports.refusal carried ≡ None = c.in-Ok.ensures.refused in
    rw (refusal_by_headers packet carried carries, accepted)
    (record {
      carried = carried;
      carries = carries;
      length = refl;
      verdict = c.in-Ok.verdict;
      judges = c.in-Ok.ensures.judged;
      tells = rw (
        told_of_carried packet carried carries told (c.fields-transport.ensures carries),
        c.header_protocol.ensures accepted,
        c.number_of_verdict.ensures,
        c.expected_checksum.ensures,
      ) refl;
      payload = subst (HasPayload carried.is_length_missing packet) (sym (c.fields-transport.ensures carries told))
          (has_payload packet carried told carries);
    })

pub returns-in-Err-clause-error : goal.returns-in-Err-clause-error
returns-in-Err-clause-error c =
    let packet = c.args.bytes.now in
    let carries = c.requires in
    let carried = c.args.carried.now in
    let told = told_of_carried packet carried carries c.fields-transport.result (c.fields-transport.ensures carries) in
    rw (refusal_by_headers packet carried carries, c.in-Err.ensures.refused) (
      c.refuse.ensures.pointer,
      c.refuse.ensures.error ∙ c.of_transport.ensures
          ∙ ap (λ transport. of_transport transport.payload_offset c.in-Err.refused) told,
    )
