use Rattle.std.proofs.Common.{◌≡◌, ◌<◌, List, [], ℕ, length, rules, subst, arith}
use Rattle.std.specs.Prelude.{◌↔◌}
use Rattle.net_base.specs.IpNumbers.{icmpv6_number}
use Rattle.word_sum.specs.Checksum.{Verifies, total}
use Rattle.ip_translation.specs.ErrorsToIpv4.{with_new_checksum}
use Rattle.ip_translation.specs.HeadersToIpv4.{old_pseudo_header}
use Rattle.ip_translation.proofs.packet_to_ipv4.write_error.Goals as goal

pub store_changed_checksum-requires-clause-some : goal.store_changed_checksum-requires-clause-some
store_changed_checksum-requires-clause-some c =
    let some : 0 < total c.as_slice.result.now = search rules in
    λ none. omega (arith, none, some)

pub returns-clause-alike : goal.returns-clause-alike
returns-clause-alike c =
    let header : List ℕ = c.args.header.now in
    let message : List ℕ = c.args.message.now in
    let old : List ℕ = old_pseudo_header header icmpv6_number (length message) in
    let same : c.as_slice.result.now ≡ old = search rules in
    let written : c.store_changed_checksum.new.changed ≡ with_new_checksum header message c.args.error.now = search rules in
    subst (λ translated. (Verifies [] translated) ↔ (Verifies old message)) written
    (subst (λ old. (Verifies [] c.store_changed_checksum.new.changed) ↔ (Verifies old message)) same
    c.store_changed_checksum.ensures.alike)
