use Rattle.std.proofs.Common.{[], Err, arith, refl, rules, subst, take}
use Rattle.std.proofs.KnownBytes.{Appends-nil, Consumes-nil}
use Rattle.std.specs.Io.KnownBytes.{Consumes}
use Rattle.capture_file.proofs.ReaderLemmas.{full}
use Rattle.capture_copy.proofs.PartLemmas.{front_alone, front_none}
use Rattle.capture_copy.proofs.PassingLemmas.{any_to_end, one_given}
use Rattle.capture_copy.proofs.RecordLemmas.{cut_header}
use Rattle.capture_copy.proofs.VisitLemmas.{ends_cut, next_to_read_error}
use Rattle.capture_copy.specs.Records.{records_of}
use Rattle.capture_copy.proofs.records.copy_record.Goals as goal

pub returns-in_err-len-clause-passes : goal.returns-in_err-len-clause-passes
returns-in_err-len-clause-passes g c =
    let error = c.in_err-len.field-0.0 in
    let visits = g.V.Visitor.visits c.args.visitor.now in
    any_to_end (records_of visits) _ error _ _ _ _ _ _ _ _
    (next_to_read_error {A = Unit {0}} visits (Err error) error c.args.records.now c.args.records.now _ _ _ _ _ _ [] []
    c.in_err-len.ensures.failed (Consumes-nil _) (Appends-nil _) (front_none _ _) (search rules) refl) (search rules)

pub returns-then-len-eq0-clause-passes : goal.returns-then-len-eq0-clause-passes
returns-then-len-eq0-clause-passes g c = (
  refl,
  subst (λ n. Consumes (g.R.Read.remaining c.args.copier.now.input) (g.R.Read.remaining c.read_into.new.input)
      (take n c.read_into.new.buffer)) c.if-len-eq0.true
      c.in_ok-len.ensures.consumed,
  refl,
  refl,
)

pub returns-then-len-lt-LEN-clause-passes : goal.returns-then-len-lt-LEN-clause-passes
returns-then-len-lt-LEN-clause-passes g c =
    let first = c.read_into.new.buffer in
    let len = c.in_ok-len.len in
    ends_cut (g.V.Visitor.visits c.args.visitor.now) _ _ _ _ _ _ _ (take len first) _ _ _ c.cut_off.ensures
    c.in_ok-len.ensures.consumed c.in_ok-write_if.ensures.appends (front_alone _ _ _ _ c.writes_all.ensures)
    (cut_header c.args.records.now.header.byte_order first len (search rules) (λ none. search rules) (omega (arith, c.if-len-lt-LEN.true)))
    (c.in_ok-len.ensures.end (search rules))

pub returns-in_err-outcome-clause-passes : goal.returns-in_err-outcome-clause-passes
returns-in_err-outcome-clause-passes g c =
    any_to_end (records_of (g.V.Visitor.visits c.args.visitor.now)) _ _ _ _ _ _ _ _ _ _
    (c.in_err-outcome.ensures.passes _ (full _ _ c.read_into.new.buffer c.in_ok-len.len
    (omega (arith, c.read_into.auto.buffer, c.if-len-lt-LEN.false)) c.in_ok-len.ensures.consumed) c.args.counts.now) (search rules)

pub returns-clause-passes : goal.returns-clause-passes
returns-clause-passes g c =
    one_given (records_of (g.V.Visitor.visits c.args.visitor.now)) c.in_ok-outcome.outcome _ _ _ _ _ _ _ _
    (c.in_ok-outcome.ensures.passes _ (full _ _ c.read_into.new.buffer c.in_ok-len.len
    (omega (arith, c.read_into.auto.buffer, c.if-len-lt-LEN.false)) c.in_ok-len.ensures.consumed))
    c.count_if.ensures.counted
