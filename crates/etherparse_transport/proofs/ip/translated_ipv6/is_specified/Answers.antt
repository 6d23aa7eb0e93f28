use Rattle.std.proofs.Common.{◌≡◌, arith, rules, ◌∙◌}
use Rattle.std.proofs.lemmas.Bool.Decides.{nat_tests}
use Rattle.etherparse_transport.proofs.UpdatedAlike.{some_address}
use Rattle.etherparse_transport.proofs.ip.translated_ipv6.is_specified.Goals as goal

pub returns : goal.returns
returns c = λ is. some_address c.args.address (search rules)
    (λ none. let zero : c.from_be_bytes.result ≡ 0 = c.from_be_bytes.ensures ∙ none in grind (arith, nat_tests))
