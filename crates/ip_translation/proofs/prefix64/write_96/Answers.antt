use Rattle.std.proofs.Common.{◌≡◌, ◌++◌, List, ℕ, drop, take, rules, refl, ap, ap₂, subst₂, ◌∙◌}
use Rattle.std.specs.Prelude.{replicate}
use borrow.Rule.Slice.PartMut.{put_mid}
use Rattle.ip_translation.specs.Prefixes.{embedded}
use Rattle.ip_translation.specs.declared.prefix64.Prefix64.TheVariants.{Bits96}
use Rattle.ip_translation.proofs.ListedLemmas.{whole}
use Rattle.ip_translation.proofs.prefix64.write_96.Goals as goal

pub returns-clause-written : goal.returns-clause-written
returns-clause-written c =
    let start : List ℕ = c.args.start.now in
    let front : c.copy_from_slice.new.self ≡ take 8 start = search rules in
    let rest : c.copy_from_slice-2.new.self ≡ take 3 (drop 8 start) = search rules in
    let last : c.copy_from_slice-3.new.self ≡ c.args.ipv4 = search rules in
    ap₂ (λ front rest. put_mid 12 4 (put_mid 9 3 (front ++ replicate 8 0) rest) c.copy_from_slice-3.new.self) front rest
    ∙ ap (λ last. put_mid 12 4 (put_mid 9 3 (take 8 start ++ replicate 8 0) (take 3 (drop 8 start))) last) last
    ∙ subst₂ (λ start ipv4. put_mid 12 4 (put_mid 9 3 (take 8 start ++ replicate 8 0) (take 3 (drop 8 start))) ipv4 ≡ embedded (Bits96 start) ipv4)
    (whole start 11 c.told-start) (whole c.args.ipv4 4 (search rules)) refl
