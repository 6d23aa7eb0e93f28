use Rattle.std.proofs.Common.{◌≡◌, ◌++◌, List, ℕ, drop, take, rules, ap, ap₂, sym, ◌∙◌}
use Rattle.std.specs.Prelude.{replicate}
use borrow.Rule.Slice.PartMut.{put_mid}
use Rattle.ip_translation.specs.Prefixes.{without_reserved}
use Rattle.ip_translation.proofs.ListedLemmas.{listed, whole}
use Rattle.ip_translation.proofs.prefix64.front_96.Goals as goal

pub returns : goal.returns
returns c =
    let address : List ℕ = c.args.address.now in
    let is_whole : listed address 0 16 ≡ address = whole address 16 c.told-address in
    let front : c.copy_from_slice.new.self ≡ take 8 address = search rules in
    let rest : c.copy_from_slice-2.new.self ≡ take 3 (drop 9 address) = search rules in
    ap₂ (λ front rest. put_mid 8 3 (front ++ replicate 3 0) rest) front rest
    ∙ ap (λ address. put_mid 8 3 (take 8 address ++ replicate 3 0) (take 3 (drop 9 address))) (sym is_whole)
    ∙ ap (λ address. take 11 (without_reserved address)) is_whole
