use Rattle.std.proofs.Common.{◌-◌, FitsSigned, ap, arith, drop, length, rules, slice_range, subst, w64, ◌∙◌}
use Rattle.std.proofs.lemmas.Int.{to_z-of_z}
use Rattle.std.proofs.lemmas.List.{take_rest}
use Rattle.capture_arguments.specs.DateTimes.{ReadsDateTime}
use Rattle.capture_arguments.proofs.DateTimeLemmas.{has_parts, reads_parts}
use Rattle.capture_arguments.proofs.date_time.time_in.Goals as goal

-- the text is a date and time
pub returns : goal.returns
returns c =
    let bytes = c.as_bytes-bytes.result.now in
    let len = c.offset_len-offset_len.ensures.value in
    let day = c.in_ok-day.ensures in
    let fraction = ap (λ n. slice_range bytes 19 (length bytes - n)) len in
    let offset =
    take_rest bytes (length bytes - c.offset_len-offset_len.result) ∙ ap (λ n. drop (length bytes - n) bytes) len in
    let parts = has_parts bytes _ _ fraction offset (omega (arith, len, c.if-bytes-offset_len.false))
    (c.has_date_form.ensures.0 c.if-not-has_date_form.false) day.0 (c.has_time_of_day.ensures.0 c.if-not-has_time_of_day.false)
    (c.is_fraction.ensures.0 c.if-not-is_fraction.false) (c.is_offset.ensures.0 c.if-not-is_offset.false) in
    let day_fits : FitsSigned w64 c.in_ok-day.day = search rules in
    let ahead_fits : FitsSigned w64 c.offset_seconds.result = search rules in
    let seconds_fit : FitsSigned w64 c.seconds_since_1970-seconds.result = search rules in
    subst (λ text. ReadsDateTime text c.shifted_nanoseconds.result) c.as_bytes-bytes.ensures.value
    (reads_parts bytes _ _ c.shifted_nanoseconds.result c.seconds_of_day.result c.fraction_nanoseconds.result c.in_ok-day.day
    c.offset_seconds.result c.seconds_since_1970-seconds.result fraction offset parts day.1.0 c.seconds_of_day.ensures.value
    c.offset_seconds.ensures.value (simp (to_z-of_z, day_fits, ahead_fits) at c.seconds_since_1970-seconds.ensures.value) c.fraction_nanoseconds.ensures.value
    (simp (to_z-of_z, seconds_fit) at c.shifted_nanoseconds.ensures))
