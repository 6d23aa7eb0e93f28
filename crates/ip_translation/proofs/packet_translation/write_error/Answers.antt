use Rattle.std.proofs.Common.{◌≡◌, ◌<◌, List, [], ℕ, length, rules, subst, arith}
use Rattle.std.specs.Prelude.{◌↔◌}
use Rattle.net_base.specs.IpNumbers.{icmpv6_number}
use Rattle.word_sum.specs.Checksum.{Verifies, total}
use Rattle.ip_translation.specs.ErrorsToIpv6.{with_new_checksum}
use Rattle.ip_translation.specs.HeadersToIpv6.{new_pseudo_header}
use Rattle.ip_translation.proofs.packet_translation.write_error.Goals as goal

pub store_changed_checksum-requires-clause-some : goal.store_changed_checksum-requires-clause-some
store_changed_checksum-requires-clause-some c = λ none. omega (arith, none, c.requires.some)

pub store_changed_checksum-requires-clause-new_some : goal.store_changed_checksum-requires-clause-new_some
store_changed_checksum-requires-clause-new_some c =
    let some : 0 < total c.as_slice.result.now = search rules in
    λ none. omega (arith, none, some)

pub returns-clause-alike : goal.returns-clause-alike
returns-clause-alike c =
    let header : List ℕ = c.args.header.now in
    let error : List ℕ = c.args.error.now in
    let new : List ℕ = new_pseudo_header c.args.prefixes.now header icmpv6_number (length error) in
    let same : c.as_slice.result.now ≡ new = search rules in
    let written : c.store_changed_checksum.new.changed ≡ with_new_checksum c.args.prefixes.now header c.args.message.now error =
    search rules in
    subst (λ translated. (Verifies new translated) ↔ (Verifies [] c.args.message.now)) written
    (subst (λ new. (Verifies new c.store_changed_checksum.new.changed) ↔ (Verifies [] c.args.message.now)) same
    c.store_changed_checksum.ensures.alike)
