use Rattle.std.proofs.Common.{◌≡◌, ℕ, ◌≤◌, List, Option, None, Some, IfSome, Result, Ok, Err, length, take, refl, sym, ap, ◌∙◌, subst, inl, inr, arith, length-take}
use Rattle.std.proofs.lemmas.List.{take_all}
use Rattle.std.proofs.KnownBytes.{Keeps-refl}
use Rattle.std.specs.Io.KnownBytes.{Appends, Consumes}
use Rattle.std.specs.Prelude.{OnErr}
use Rattle.pktprobe.specs.Report.{max_input_len, report}
use Rattle.pktprobe.specs.Run.{ReadsInput, WritesBeginningOfReport}
use Rattle.streams.specs.Streams.{AppendsBeginning}
use Rattle.pktprobe.proofs.ReportLemmas.{first_bytes_decide}
use Rattle.pktprobe.proofs.probe.respond.Goals as goal

-- the input: all bytes that the reader had left, or the bytes that were read if the others are unknown
abbrev input_of : Option (List ℕ) → List ℕ → List ℕ
input_of None read = read
input_of (Some all) read = all

-- the bytes that were read are the first bytes of the input
read_first : (left : Option (List ℕ)) (read : List ℕ) → length read ≤ max_input_len → IfSome left (λ all. read ≡ take max_input_len all)
    → read ≡ take max_input_len (input_of left read)
read_first None read fits given = sym (take_all max_input_len read fits)
read_first (Some all) read fits given = given

-- the bytes that were read, if they are known, and the bytes left are all of the input
all_known : (left : Option (List ℕ)) (read : List ℕ) → IfSome left (λ all. input_of left read ≡ all)
all_known None read = tt
all_known (Some all) read = refl

-- an input was read
reads_input : (left still_left : Option (List ℕ)) (read : List ℕ) → read ≡ take max_input_len (input_of left read)
    → Consumes left still_left read → ReadsInput left still_left (input_of left read)
reads_input left still_left read first consumed = record {
  is_all = all_known left read;
  consumes = subst (Consumes left still_left) first consumed;
}

-- the report on an input is the report on the bytes that were read
same_report : (left : Option (List ℕ)) (read : List ℕ) → read ≡ take max_input_len (input_of left read)
    → report read ≡ report (input_of left read)
same_report left read first = ap report first ∙ first_bytes_decide (input_of left read)

-- a fact holds on an error if it holds
on_error : {T E : Type 0} (result : Result T E) (fact : Type 0) → fact → OnErr result fact
on_error (Ok value) fact holds = tt
on_error (Err error) fact holds = holds

pub returns-in_err-len-clause-failed : goal.returns-in_err-len-clause-failed
returns-in_err-len-clause-failed g c = on_error _ _ (inl (Keeps-refl _))

pub returns-in_err-write_out-clause-failed : goal.returns-in_err-write_out-clause-failed
returns-in_err-write_out-clause-failed g c =
    let left = g.R.Read.remaining c.args.input.now in
    let read = take c.in_ok-len.len c.fill.new.buffer in
    let first = read_first left read (omega (arith, length-take c.in_ok-len.len c.fill.new.buffer, c.in_ok-len.ensures.len))
    c.in_ok-len.ensures.bytes in
    let text = c.as_slice.ensures.value ∙ c.answer-text.ensures.text ∙ ap (λ answer. answer.0) (same_report left read first) in
    let begun : WritesBeginningOfReport left (g.R.Read.remaining c.fill.new.input) (g.W.Write.contents c.args.output.now)
    (g.W.Write.contents c.write_out.new.output) =
    record {
      input = input_of left read;
      reads = reads_input left _ read first c.in_ok-len.ensures.consumed;
      begins = subst (AppendsBeginning _ _) text c.in_err-write_out.ensures.begun;
    } in
    on_error _ _ (inr begun)

pub returns-clause-written : goal.returns-clause-written
returns-clause-written g c =
    let left = g.R.Read.remaining c.args.input.now in
    let read = take c.in_ok-len.len c.fill.new.buffer in
    let first = read_first left read (omega (arith, length-take c.in_ok-len.len c.fill.new.buffer, c.in_ok-len.ensures.len))
    c.in_ok-len.ensures.bytes in
    let same = same_report left read first in
    record {
      input = input_of left read;
      reads = reads_input left _ read first c.in_ok-len.ensures.consumed;
      has_status = c.answer-text.ensures.status ∙ ap (λ answer. answer.1) same;
      appends =
          subst (Appends _ _) (c.as_slice.ensures.value ∙ c.answer-text.ensures.text ∙ ap (λ answer. answer.0) same)
          c.in_ok-write_out.ensures.written;
    }
