use Rattle.std.proofs.Common.{◌≡◌, ◌<◌, List, [], ℕ, length, inr, rules, subst, arith}
use Rattle.std.specs.Prelude.{◌↔◌}
use Rattle.net_base.specs.IpNumbers.{icmpv6_number}
use Rattle.word_sum.specs.Checksum.{Verifies, total}
use Rattle.ip_translation.specs.HeadersToIpv6.{new_pseudo_header}
use Rattle.ip_translation.proofs.message_translation.write_icmp.Goals as goal

pub write_echo-requires-clause-new : goal.write_echo-requires-clause-new
write_echo-requires-clause-new c =
    let some : 0 < total c.as_slice.result.now = search rules in
    inr some

pub returns-clause-alike : goal.returns-clause-alike
returns-clause-alike c = λ some.
    let new : List ℕ = new_pseudo_header c.args.prefixes.now c.args.header.now icmpv6_number (length c.args.message.now) in
    let same : c.as_slice.result.now ≡ new = search rules in
    subst (λ new. (Verifies new c.write_echo.new.translated) ↔ (Verifies [] c.args.message.now)) same
    (c.write_echo.ensures.alike (λ none. some (omega (arith, none))))
