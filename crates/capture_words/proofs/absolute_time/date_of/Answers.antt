use Rattle.std.proofs.Common.{◌≡◌, ◌≤ℤ◌, ◌<ℤ◌, FitsSigned, arith, false, pos, subst, sym, true, true≢false, unsigned_abs, w64}
use Rattle.std.proofs.lemmas.Int.{to_z-of_z}
use Rattle.jiff_core.proofs.SignedLemmas.{signed_arith}
use Rattle.capture_words.proofs.AbsoluteTimeLemmas.{date_is, no_date, no_day}
use Rattle.capture_words.specs.AbsoluteTime.{date_text, day_text, has_date}
use Rattle.capture_words.proofs.absolute_time.date_of.Goals as goal

-- the calendar does not contain this day
pub returns-in_default : goal.returns-in_default
returns-in_default c =
    let fits : FitsSigned w64 c.args.day = c.ranges.day in
    let none = simp to_z-of_z at c.in_default.ensures.succeeds in
    no_day c.args.day (λ is. true≢false (sym (none.1 is)))

-- the calendar has a date for the day, in a year before 0
pub returns-then-date-lt0 : goal.returns-then-date-lt0
returns-then-date-lt0 c =
    let fits : FitsSigned w64 c.args.day = c.ranges.day in
    let date = c.in-Ok.date in
    let early : date.year <ℤ pos 0 = omega (arith, signed_arith, date.year_in, c.if-date-lt0.true) in
    subst (λ day. has_date day ≡ false) (simp to_z-of_z at c.in-Ok.ensures.value) (no_date date early)

pub returns : goal.returns
returns c =
    let fits : FitsSigned w64 c.args.day = c.ranges.day in
    let date = c.in-Ok.date in
    let late : pos 0 ≤ℤ date.year = omega (arith, signed_arith, date.year_in, c.if-date-lt0.false) in
    subst (λ day. (has_date day ≡ true) × (day_text day ≡ date_text (unsigned_abs date.year) date.month date.day))
    (simp to_z-of_z at c.in-Ok.ensures.value) (date_is date late)
