-- The results of a whole capture.
use Rattle.std.proofs.Common.{◌≡◌, ℕ, List, Option, Result, Ok, Err, inl, inr, refl, subst, sym}
use Rattle.capture_copy.proofs.VisitLemmas.{refuses_no_record}
use Rattle.capture_copy.specs.Captures.{PassesCapture, PassesFile}
use Rattle.capture_copy.specs.Records.{first_records, records_of}
use Rattle.capture_copy.specs.declared.extent.Extent.{Extent}
use Rattle.capture_copy.specs.declared.part_error.PartError.{PartError}
use Rattle.capture_copy.specs.declared.part_error.PartError.TheVariants as errors
use Rattle.translator.specs.Captures.{TranslatesCapture}
use Rattle.translator.specs.Translation.{of_blocks, of_records, translation_of}
use Rattle.translator.specs.declared.capture_error.CaptureError.{CaptureError}
use Rattle.translator.specs.declared.counts.Counts.{Counts}
use Rattle.translator.specs.declared.table.Table.{Table}

-- the records after the header of a capture were copied, up to a result
translates_copied : (table : Table) (copied : Result Extent PartError) (left still_left held now_held : Option (List ℕ))
    (counts now_counts : Counts)
    → PassesCapture Extent (records_of (translation_of table)) first_records copied left still_left held now_held counts now_counts
    → TranslatesCapture table (of_records copied) left still_left held now_held counts now_counts
translates_copied table (Ok extent) left still_left held now_held counts now_counts passes = inl (Ok extent, refl, passes)
translates_copied table (Err (errors.CutOff place required len)) left still_left held now_held counts now_counts passes =
    (Err (errors.CutOff place required len), refl, passes)
translates_copied table (Err (errors.Refused error)) left still_left held now_held counts now_counts passes =
    absurd (refuses_no_record (translation_of table) error (first_records passes.header) passes.after _ _ _ _ _ _ passes.passes)
translates_copied table (Err (errors.Read place error)) left still_left held now_held counts now_counts passes =
    inr (inl (Err (errors.Read place error), refl, passes))
translates_copied table (Err errors.TooManyParts) left still_left held now_held counts now_counts passes =
    inl (Err errors.TooManyParts, refl, passes)
translates_copied table (Err (errors.Write error)) left still_left held now_held counts now_counts passes = tt

-- the same of the result that follows from the result of the copy
pub translates_records : (table : Table) (result : Result (Unit {0}) CaptureError) (copied : Result Extent PartError)
    (left still_left held now_held : Option (List ℕ)) (counts now_counts : Counts)
    → result ≡ of_records copied
    → PassesCapture Extent (records_of (translation_of table)) first_records copied left still_left held now_held counts now_counts
    → TranslatesCapture table result left still_left held now_held counts now_counts
translates_records table result copied left still_left held now_held counts now_counts is passes =
    subst (λ given. TranslatesCapture table given left still_left held now_held counts now_counts) (sym is)
    (translates_copied table copied left still_left held now_held counts now_counts passes)

-- the blocks of a pcapng file were copied, up to a result
translates_file : (table : Table) (copied : Result Extent PartError) (left still_left held now_held : Option (List ℕ))
    (counts now_counts : Counts)
    → PassesFile (translation_of table) copied left still_left held now_held counts now_counts
    → TranslatesCapture table (of_blocks copied) left still_left held now_held counts now_counts
translates_file table (Ok extent) left still_left held now_held counts now_counts passes = inr (Ok extent, refl, passes)
translates_file table (Err (errors.CutOff place required len)) left still_left held now_held counts now_counts passes =
    (Err (errors.CutOff place required len), refl, passes)
translates_file table (Err (errors.Refused error)) left still_left held now_held counts now_counts passes =
    (Err (errors.Refused error), refl, passes)
translates_file table (Err (errors.Read place error)) left still_left held now_held counts now_counts passes =
    inr (inr (Err (errors.Read place error), refl, passes))
translates_file table (Err errors.TooManyParts) left still_left held now_held counts now_counts passes =
    inr (Err errors.TooManyParts, refl, passes)
translates_file table (Err (errors.Write error)) left still_left held now_held counts now_counts passes = tt

-- the same of the result that follows from the result of the copy
pub translates_blocks : (table : Table) (result : Result (Unit {0}) CaptureError) (copied : Result Extent PartError)
    (left still_left held now_held : Option (List ℕ)) (counts now_counts : Counts)
    → result ≡ of_blocks copied
    → PassesFile (translation_of table) copied left still_left held now_held counts now_counts
    → TranslatesCapture table result left still_left held now_held counts now_counts
translates_blocks table result copied left still_left held now_held counts now_counts is passes =
    subst (λ given. TranslatesCapture table given left still_left held now_held counts now_counts) (sym is)
    (translates_file table copied left still_left held now_held counts now_counts passes)
