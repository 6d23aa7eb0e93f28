use Rattle.std.proofs.Common.{◌≡◌, ◌<◌, List, [], ℕ, length, rules, subst, arith}
use Rattle.std.specs.Prelude.{◌↔◌}
use Rattle.net_base.specs.IpNumbers.{icmpv6_number}
use Rattle.word_sum.specs.Checksum.{Verifies, total}
use Rattle.ip_translation.specs.HeadersToIpv4.{old_pseudo_header}
use Rattle.ip_translation.proofs.packet_to_ipv4.write_icmp.Goals as goal

pub returns-clause-alike : goal.returns-clause-alike
returns-clause-alike c =
    let old : List ℕ = old_pseudo_header c.args.header.now icmpv6_number (length c.args.message.now) in
    let some : 0 < total c.as_slice.result.now = search rules in
    let same : c.as_slice.result.now ≡ old = search rules in
    subst (λ old. (Verifies [] c.write_echo.new.translated) ↔ (Verifies old c.args.message.now)) same
    (c.write_echo.ensures.alike (λ none. omega (arith, none, some)))
