use Rattle.std.proofs.Common.{◌≡◌, true, rules, sym, ◌∙◌, arith}
use Rattle.std.proofs.lemmas.List.{take_rest}
use Rattle.ip_translation.specs.SkippedHeaders as specs
use Rattle.ip_translation.proofs.SkippedLemmas.{ended_at, reached_first, reached_next, refused_at}
use Rattle.ip_translation.proofs.skipped_headers.skip_headers.Goals as goal

pub loop-skipped-init : goal.loop-skipped-init
loop-skipped-init c = reached_first (specs.none_skipped c.args.first) c.args.payload.now (omega arith)

pub returns-in_err-header-clause-skipped : goal.returns-in_err-header-clause-skipped
returns-in_err-header-clause-skipped c =
    let is : specs.is_skipped c.loop-skipped.skipped.number ≡ true = sym c.is_skipped.ensures ∙ c.loop-skipped-test.true in
    search (
      rules,
      refused_at (specs.none_skipped c.args.first) c.loop-skipped.skipped c.args.payload.now _ c.in_err-header.field-0.0
          (take_rest c.args.payload.now c.loop-skipped.skipped.len) c.loop-skipped.invariant is c.in_err-header.ensures.refused,
    )

pub loop-skipped-preserved : goal.loop-skipped-preserved
loop-skipped-preserved c =
    let is : specs.is_skipped c.loop-skipped.skipped.number ≡ true = sym c.is_skipped.ensures ∙ c.loop-skipped-test.true in
    rw c.skipped_after-skipped.ensures
    (reached_next (specs.none_skipped c.args.first) c.loop-skipped.skipped c.args.payload.now _ c.in_ok-header.header.now
    (take_rest c.args.payload.now c.loop-skipped.skipped.len) c.loop-skipped.invariant is
    c.in_ok-header.ensures.refused c.in_ok-header.ensures.kept c.in_ok-header.ensures.shortest c.in_ok-header.ensures.within)

pub returns-clause-skipped : goal.returns-clause-skipped
returns-clause-skipped c =
    sym (ended_at (specs.none_skipped c.args.first) c.loop-skipped.skipped c.args.payload.now c.loop-skipped.invariant
    (sym c.is_skipped.ensures ∙ c.loop-skipped-test.false))
