use Rattle.std.proofs.Common.{List, ℕ, subst, sym}
use Rattle.std.specs.Prelude.{◌↔◌, IsTrue}
use Rattle.tcp_part.specs.TcpValidity.{IsValidTcpIpv4}
use Rattle.etherparse_transport_c.proofs.AnswersLemmas.{told}
use Rattle.etherparse_transport_c.specs.Errors.{Leaves, test_error}
use Rattle.etherparse_transport_c.proofs.tcp.etherparse_tcp_checksum_test_ipv4.Goals as goal

pub returns-in-Ok-clause-status : goal.returns-in-Ok-clause-status
returns-in-Ok-clause-status c =
    let Valid : List ℕ → Type 0 = IsValidTcpIpv4 c.args.source.now c.args.destination.now in
    told _ c.is_checksum_valid_ipv4.result (Valid c.args.bytes.now) _ c.in-Ok.ensures.refused
    (subst (λ bytes. IsTrue c.is_checksum_valid_ipv4.result ↔ Valid bytes) c.in-Ok.ensures.whole c.is_checksum_valid_ipv4.ensures.valid)
    c.verdict.ensures.status

pub returns-in-Ok-clause-error : goal.returns-in-Ok-clause-error
returns-in-Ok-clause-error c =
    subst (λ refusal. Leaves c.args.error c.verdict.result (test_error refusal c.verdict.result.status c.args.error.before))
    (sym c.in-Ok.ensures.refused) c.verdict.ensures.error
