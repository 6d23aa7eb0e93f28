use Rattle.std.proofs.Common.{ap, unwrap_or, ◌∙◌}
use Rattle.ip_part.specs.Ip.{headers_of}
use Rattle.etherparse_transport_c.specs.Errors.{status_of}
use Rattle.etherparse_transport_c.specs.PacketVerdict.{transport_refusal}
use Rattle.etherparse_transport_c.proofs.packet_verdict.etherparse_packet_verdict_lax.Goals as goal

pub returns-in-Ok-clause-status : goal.returns-in-Ok-clause-status
returns-in-Ok-clause-status c =
    let bytes = c.args.bytes.now in
    rw c.in-Ok.ensures.refused (c.judge.ensures.status
    ∙ ap (λ missing. status_of (transport_refusal missing bytes (headers_of missing bytes))) c.in-Ok.ensures.stated)

pub returns-in-Ok-clause-error : goal.returns-in-Ok-clause-error
returns-in-Ok-clause-error c =
    let bytes = c.args.bytes.now in
    let left = c.judge.ensures.error in
    rw c.in-Ok.ensures.refused (
      left.0,
      left.1
          ∙ ap (λ missing. unwrap_or (transport_refusal missing bytes (headers_of missing bytes)) c.args.error.before)
          c.in-Ok.ensures.stated,
    )
