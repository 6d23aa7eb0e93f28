use Rattle.std.proofs.Common.{Err, Ok, refl, rules, subst, sym}
use Rattle.capture_file.specs.Opening.{ReadsBeginning, ReadsRestOfBlock, ReadsRestOfHeader}
use Rattle.capture_file.proofs.OpeningLemmas.{header_read, pcapng_beginning, refused_classic}
use Rattle.capture_file.specs.declared.reader.capture_reader.CaptureReader.TheVariants.{Classic}
use Rattle.capture_file.proofs.reader.capture_reader.CaptureReader.read_header.Goals as goal

pub returns-in-Ok : goal.returns-in-Ok
returns-in-Ok g c =
    pcapng_beginning _ (g.R.Read.remaining c.fill.new.input) _ _ _ (Ok c.in-Ok.reader) (search rules) c.in_ok-len.ensures.consumed
    (subst (ReadsRestOfBlock _ _ _ _) c.in-Ok.is c.in_ok-reader.ensures)

pub returns-in-Err : goal.returns-in-Err
returns-in-Err g c =
    pcapng_beginning _ (g.R.Read.remaining c.fill.new.input) _ _ _ (Err c.in-Err.error) (search rules) c.in_ok-len.ensures.consumed
    (subst (ReadsRestOfBlock _ _ _ _) c.in-Err.is c.in_ok-reader.ensures)

pub returns-in-Ok-2 : goal.returns-in-Ok-2
returns-in-Ok-2 g c =
    let remaining = g.R.Read.remaining in
    let reads = subst (ReadsRestOfHeader _ _ _) c.in-Ok-2.is c.in_ok-header.ensures in
    subst (λ reader. ReadsBeginning (remaining c.args.input.now) (remaining c.read_header_after.new.input) c.args.buffer.now
    (Ok (Classic reader)))
    (sym c.new.ensures)
    (header_read _ (remaining c.fill.new.input) _ _ (Ok c.in-Ok-2.header) c.in_ok-len.ensures.consumed reads, refl)

pub returns-in-Err-2 : goal.returns-in-Err-2
returns-in-Err-2 g c =
    refused_classic _ (g.R.Read.remaining c.fill.new.input) _ _ c.args.buffer.now c.in-Err-2.error
    (search rules) c.in_ok-len.ensures.consumed
    (subst (ReadsRestOfHeader _ _ _) c.in-Err-2.is c.in_ok-header.ensures)
