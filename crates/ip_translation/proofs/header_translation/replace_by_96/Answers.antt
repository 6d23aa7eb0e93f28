use Rattle.std.proofs.Common.{◌+◌, ℕ, rules, refl, ap, ◌∙◌, sym, arith}
use Rattle.std.specs.Prelude.{slice_range}
use Rattle.word_sum.specs.Checksum.{folded, total}
use Rattle.word_sum.specs.ChecksumChange.{added_value, removed_value}
use Rattle.ip_translation.proofs.ReplacedAddressLemmas.{folded_four, third, total_of_96}
use Rattle.ip_translation.proofs.header_translation.replace_by_96.Goals as goal

pub returns-clause-removed : goal.returns-clause-removed
returns-clause-removed c =
    folded_four (removed_value c.args.change) (total c.args.ipv4) 0 0 0
    (removed_value c.replace_4bytes.result) (removed_value c.replace_4bytes-2.result) (removed_value c.replace_4bytes-3.result)
    (removed_value c.replace_4bytes-4.result)
    c.replace_4bytes.ensures.removed c.replace_4bytes-2.ensures.removed c.replace_4bytes-3.ensures.removed
    c.replace_4bytes-4.ensures.removed
    ∙ ap folded (omega arith)

pub returns-clause-added : goal.returns-clause-added
returns-clause-added c =
    let start = c.args.start.now in
    folded_four (added_value c.args.change) (total c.args.ipv4) (total c.address_at.result) (total c.address_at-2.result)
    (total (third start))
    (added_value c.replace_4bytes.result) (added_value c.replace_4bytes-2.result) (added_value c.replace_4bytes-3.result)
    (added_value c.replace_4bytes-4.result)
    c.replace_4bytes.ensures.added c.replace_4bytes-2.ensures.added c.replace_4bytes-3.ensures.added c.replace_4bytes-4.ensures.added
    ∙ ap (λ part. folded (added_value c.args.change + (total c.args.ipv4 + total part + total c.address_at-2.result + total (third start))))
    c.address_at.ensures
    ∙ ap (λ part. folded (added_value c.args.change
    + (total c.args.ipv4 + total (slice_range start 0 4) + total part + total (third start)))) c.address_at-2.ensures
    ∙ ap (λ all. folded (added_value c.args.change + all)) (sym (total_of_96 start c.args.ipv4 c.told-start (search rules)))

pub returns-clause-extends : goal.returns-clause-extends
returns-clause-extends c = λ packet between changed sum before.
    let start = c.args.start.now in
    let second : ℕ = between + total c.address_at.result in
    let fourth : ℕ = second + total c.address_at-2.result in
    let all = total_of_96 start c.args.ipv4 c.told-start (search rules) in
    let front = ap total c.address_at.ensures in
    let back = ap total c.address_at-2.ensures in
    c.replace_4bytes-4.ensures.extends packet fourth changed (omega (arith, sum, all, front, back))
    (c.replace_4bytes-3.ensures.extends packet second fourth (omega arith)
    (c.replace_4bytes-2.ensures.extends packet between second (omega arith)
    (c.replace_4bytes.ensures.extends packet between between refl before)))
