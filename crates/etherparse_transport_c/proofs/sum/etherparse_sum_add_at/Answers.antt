use Rattle.std.proofs.Common.{◌≡◌, ◌+◌, ◌∙◌, ap}
use Rattle.word_sum.specs.Checksum.{folded, total}
use Rattle.etherparse_transport_c.proofs.SumLemmas.{at_even_place, at_odd_place, joins, swapped_sum}
use Rattle.etherparse_transport_c.specs.Sums.{total_at}
use Rattle.etherparse_transport_c.proofs.sum.etherparse_sum_add_at.Goals as goal

pub returns-then-offset-eq0-clause-joins : goal.returns-then-offset-eq0-clause-joins
returns-then-offset-eq0-clause-joins c before parity sums =
    joins c.args.offset c.args.sum.value _ before c.args.bytes.now
    (c.etherparse_sum_add.ensures ∙ ap (λ n. folded (c.args.sum.value + n))
    (at_even_place c.args.offset c.args.bytes.now c.if-offset-eq0.true)) parity sums

value : (c : goal.After-added-2) → c.added-2.result ≡ folded (c.args.sum.value + total_at c.args.offset c.args.bytes.now)
value c =
    c.added-2.ensures ∙ ap (λ part. folded (c.args.sum.value + total part)) c.to_le_bytes.ensures
    ∙ (swapped_sum c.args.sum.value c.added.result c.args.bytes.now c.added.ensures
    ∙ ap (λ n. folded (c.args.sum.value + n)) (at_odd_place c.args.offset c.args.bytes.now c.if-offset-eq0.false))

pub returns-clause-value : goal.returns-clause-value
returns-clause-value c = value c

pub returns-clause-joins : goal.returns-clause-joins
returns-clause-joins c before parity sums = joins c.args.offset c.args.sum.value _ before c.args.bytes.now (value c) parity sums
