-- The translation as a visitor.
use Rattle.std.proofs.Common.{◌≡◌, Result, Ok, Err, OnOk, false, refl}
use Rattle.capture_copy.specs.Visits.{EndsWithEnough}
use Rattle.capture_copy.specs.declared.extent.Extent.{Extent}
use Rattle.capture_copy.specs.declared.extent.Extent.TheVariants.{Enough, Whole}
use Rattle.capture_copy.specs.declared.part_error.PartError.{PartError}
use Rattle.translator.specs.Translation.{of_copy}
use Rattle.translator.specs.declared.capture_error.CaptureError.{CaptureError}

-- a translation without an error reached the end of the capture, since it requests every packet
pub at_end_of : (error_of : PartError → CaptureError) (copied : Result Extent PartError) (AtEnd : Type 0) → EndsWithEnough false copied
    → (copied ≡ Ok Whole → AtEnd) → OnOk (of_copy error_of copied) AtEnd
at_end_of error_of (Ok Whole) AtEnd enough end = end refl
at_end_of error_of (Ok Enough) AtEnd enough end = absurd (cc enough)
at_end_of error_of (Err error) AtEnd enough end = tt
