use Rattle.std.proofs.Common.{◌≡◌, drop, slice_index, rules, ap, ◌∙◌}
use Rattle.std.specs.Prelude.{replicate}
use Rattle.ip_translation.specs.Prefixes.{prefix_address}
use Rattle.ip_translation.specs.declared.prefix64.Prefix64.TheVariants.{Bits96}
use Rattle.ip_translation.proofs.OctetLemmas.{front_is_address}
use Rattle.ip_translation.proofs.prefix64.Prefix64.new.Goals as goal

pub returns-then-is_zero-clause-kept : goal.returns-then-is_zero-clause-kept
returns-then-is_zero-clause-kept c =
    let none : slice_index c.args.address 8 ≡ 0 = search rules in
    let zeros : drop 12 c.args.address ≡ replicate 4 0 = search rules in
    ap (λ start. prefix_address (Bits96 start)) c.front_96.ensures ∙ front_is_address c.args.address (search rules) none zeros
