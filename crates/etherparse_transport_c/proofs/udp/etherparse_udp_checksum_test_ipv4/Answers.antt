use Rattle.std.proofs.Common.{◌≡◌, ◌∙◌, List, ℕ, false, ap, arith, subst}
use Rattle.std.proofs.lemmas.Bool.Decides.{nat_tests}
use Rattle.std.specs.Prelude.{◌↔◌, IsTrue}
use Rattle.net_base.specs.Bytes.{be_number}
use Rattle.udp_part.specs.UdpSlice.{cut}
use Rattle.udp_part.specs.UdpValidity.{IsValidUdpIpv4}
use Rattle.etherparse_transport_c.specs.Udp.{has_no_checksum}
use Rattle.etherparse_transport_c.proofs.AnswersLemmas.{told_present}
use Rattle.etherparse_transport_c.proofs.udp.etherparse_udp_checksum_test_ipv4.Goals as goal

pub returns-else-checksum-eq0-clause-status : goal.returns-else-checksum-eq0-clause-status
returns-else-checksum-eq0-clause-status c =
    let bytes : List ℕ = cut c.args.bytes.now in
    let Valid : List ℕ → Type 0 = IsValidUdpIpv4 c.args.source.now c.args.destination.now in
    let field : c.checksum.result ≡ be_number bytes 6 2 = c.checksum.ensures ∙ ap (λ bytes. be_number bytes 6 2) c.in-Ok.ensures.kept in
    let present : has_no_checksum bytes ≡ false = grind (arith, nat_tests, field) in
    told_present _ _ c.is_checksum_valid_ipv4.result (Valid bytes) _ c.in-Ok.ensures.refused present
    (subst (λ bytes. IsTrue c.is_checksum_valid_ipv4.result ↔ Valid bytes) c.in-Ok.ensures.kept c.is_checksum_valid_ipv4.ensures.valid)
    c.verdict.ensures.status
