use Rattle.std.proofs.Common.{◌+◌, ℕ, rules, refl, ap, ◌∙◌, arith}
use Rattle.std.specs.Prelude.{replicate}
use Rattle.word_sum.specs.Checksum.{folded, total}
use Rattle.word_sum.proofs.ChecksumLemmas.{folded_twice}
use Rattle.ip_translation.proofs.PseudoHeaderLemmas.{turns}
use Rattle.ip_translation.proofs.address_change.address_change.Goals as goal

pub returns-clause-removed : goal.returns-clause-removed
returns-clause-removed c =
    let first : ℕ = total c.args.old_source in
    let second : ℕ = total c.args.old_destination in
    c.replace_16bytes-2.ensures.removed
    ∙ ap (λ n. folded (n + 0)) (c.replace_16bytes.ensures.removed
    ∙ ap (λ n. folded (n + 0)) (c.replace_4bytes-2.ensures.removed
    ∙ ap (λ n. folded (n + second)) (c.replace_4bytes.ensures.removed ∙ ap (λ n. folded (n + first)) c.new.ensures.removed)
    ∙ folded_twice 0 first second)
    ∙ folded_twice 0 (first + second) 0)
    ∙ folded_twice 0 (first + second + 0) 0
    ∙ ap folded (omega arith)

pub returns-clause-added : goal.returns-clause-added
returns-clause-added c =
    let first : ℕ = total c.args.new_source in
    let second : ℕ = total c.args.new_destination in
    c.replace_16bytes-2.ensures.added
    ∙ ap (λ n. folded (n + second)) (c.replace_16bytes.ensures.added
    ∙ ap (λ n. folded (n + first)) (c.replace_4bytes-2.ensures.added
    ∙ ap (λ n. folded (n + 0)) (c.replace_4bytes.ensures.added ∙ ap (λ n. folded (n + 0)) c.new.ensures.added)
    ∙ folded_twice 0 0 0))
    ∙ ap (λ n. folded (n + second)) (folded_twice 0 (0 + 0) first)
    ∙ folded_twice 0 (0 + 0 + first) second
    ∙ ap folded (omega arith)

pub returns-clause-turns : goal.returns-clause-turns
returns-clause-turns c = λ protocol len rest short.
    turns c.new.result c.replace_4bytes.result c.replace_4bytes-2.result c.replace_16bytes.result c.replace_16bytes-2.result
    c.args.old_source c.args.old_destination c.args.new_source c.args.new_destination (replicate 4 0) (replicate 16 0) protocol len rest
    (search rules) (search rules) (search rules) (search rules) refl refl short c.new.ensures.unchanged
    c.replace_4bytes.ensures.extends c.replace_4bytes-2.ensures.extends
    c.replace_16bytes.ensures.extends c.replace_16bytes-2.ensures.extends
