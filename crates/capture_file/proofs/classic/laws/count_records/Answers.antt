use Rattle.std.proofs.Common.{[], ◌∷◌, ◌++◌, arith}
use Rattle.std.proofs.lemmas.List.{length_push}
use Rattle.std.proofs.lemmas.Option.{IfSome_then}
use Rattle.capture_file.proofs.ReadingLemmas.{after_record, reading_at_last}
use Rattle.capture_file.proofs.classic.laws.count_records.Goals as goal

pub loop-count-preserved : goal.loop-count-preserved
loop-count-preserved g c =
    let (records, read, counted) = c.loop-count.invariant in
    let reads = c.in_ok-read_record.ensures.reads in (
      records ++ reads.bytes ∷ [],
      after_record c.args.order _ (g.R.Read.remaining c.loop-count.input) _ records c.read_record.new.buffer c.in_ok-read_record.field-0
          c.in-Whole.is read reads,
      omega (arith, length_push records reads.bytes, counted),
    )

pub returns-in-End : goal.returns-in-End
returns-in-End g c =
    let (records, read, counted) = c.loop-count.invariant in
    let reads = c.in_ok-read_record.ensures.reads in
    IfSome_then (g.R.Read.remaining c.args.input.now)
    (reading_at_last c.args.order _ (g.R.Read.remaining c.loop-count.input) _ records c.read_record.new.buffer c.in_ok-read_record.field-0
    c.in-End.is read reads)
    (λ all reading. (records, reads.bytes, reading, counted))
