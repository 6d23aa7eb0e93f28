-- Laws of the date of a day: the years, months and days that have begun are the date in the calendar.
use Rattle.std.proofs.Common.{◌≡◌, ◌≤◌, ◌<◌, ◌+◌, ◌∙◌, ℕ, zero, suc, ℤ, pos, negsuc, ◌-ℤ◌, ◌≤ℤ◌, ◌<ℤ◌, Bool, true, false, ap, arith, int_le, int_lt, refl, subst, unsigned_abs, inl, inr}
use Rattle.std.proofs.lemmas.Bool.{cases_order, false_from_ne_true, true_from_ne_false}
use Rattle.std.proofs.lemmas.Int.{by_lt_z}
use Rattle.std.specs.Int.{from_bool}
use Rattle.jiff_core.proofs.CalendarLemmas.{day_count-day, day_count-day_of_year, day_count-end, day_count-lt_month, day_count-lt_year, day_count-year_bounds, days_from_civil-day_count, days_in_month_bounds}
use Rattle.jiff_core.proofs.DateLemmas.{civil}
use Rattle.jiff_core.proofs.SignedLemmas.{one_part, signed_arith}
use Rattle.jiff_core.specs.Calendar.{IsCivilDate, IsEpochDay, day_count, days_from_civil}
use Rattle.jiff_core.specs.Date.{epoch_day}
use Rattle.jiff_core.specs.declared.civil.date.Date.{Date}
use Rattle.capture_words.specs.AbsoluteTime.{begun, date_text, day_of_month, day_text, has_date, month_of, year_of}

-- ---- tests of numbers with a sign

le_is : (a b : ℤ) → a ≤ℤ b → int_le a b ≡ true
le_is a b le = true_from_ne_false (int_le a b) (λ e. omega (arith, signed_arith))

lt_is : (a b : ℤ) → a <ℤ b → int_lt a b ≡ true
lt_is a b lt = true_from_ne_false (int_lt a b) (λ e. omega (arith, signed_arith))

le_not : (a b : ℤ) → b <ℤ a → int_le a b ≡ false
le_not a b lt = false_from_ne_true (int_le a b) (λ e. omega (arith, signed_arith))

lt_not : (a b : ℤ) → b ≤ℤ a → int_lt a b ≡ false
lt_not a b le = false_from_ne_true (int_lt a b) (λ e. omega (arith, signed_arith))

-- ---- how many have begun

begun_more : (start : ℕ → ℤ) (n k : ℕ) (day : ℤ) (has : Bool) → begun start n day ≡ k → int_le (start (suc n)) day ≡ has
    → begun start (suc n) day ≡ k + from_bool has
unfolding begun
begun_more start n k day has before test = rw (before, test) refl

-- the number of years or months that have begun is k if the first k have begun and the others have not
begun_is : (start : ℕ → ℤ) (n k : ℕ) (day : ℤ) → k ≤ n → ((i : ℕ) → 1 ≤ i → i ≤ k → start i ≤ℤ day)
    → ((i : ℕ) → k < i → i ≤ n → day <ℤ start i)
    → begun start n day ≡ k
unfolding begun
begun_is start zero k day within before after = omega arith
begun_is start (suc n) k day within before after =
    elim (cases_order k (suc n)) [
      | inl same ↦ begun_more start n n day true
          (begun_is start n n day (omega arith) (λ i low high. before i low (omega (arith, same, high)))
          (λ i low high. absurd (omega (arith, low, high))))
          (le_is (start (suc n)) day (before (suc n) (omega arith) (omega (arith, same))))
          ∙ omega (arith, same)
      | inr (inl lt) ↦ begun_more start n k day false
          (begun_is start n k day (omega (arith, lt)) before (λ i low high. after i low (omega (arith, high))))
          (le_not (start (suc n)) day (after (suc n) lt (omega arith)))
          ∙ omega arith
      | inr (inr gt) ↦ absurd (omega (arith, gt, within))
    ]

-- ---- dates and their days

-- a date with fewer days before it has a smaller number
counted_le : (y y₂ : ℤ) (m d m₂ d₂ : ℕ) → day_count y m d ≤ day_count y₂ m₂ d₂ → days_from_civil y m d ≤ℤ days_from_civil y₂ m₂ d₂
counted_le y y₂ m d m₂ d₂ h = omega (arith, signed_arith, days_from_civil-day_count y m d, days_from_civil-day_count y₂ m₂ d₂, h)

counted_lt : (y y₂ : ℤ) (m d m₂ d₂ : ℕ) → day_count y m d < day_count y₂ m₂ d₂ → days_from_civil y m d <ℤ days_from_civil y₂ m₂ d₂
counted_lt y y₂ m d m₂ d₂ h = omega (arith, signed_arith, days_from_civil-day_count y m d, days_from_civil-day_count y₂ m₂ d₂, h)

-- the first day of a month
first_day : (y m : ℕ) → y ≤ 9999 → 1 ≤ m → m ≤ 12 → IsCivilDate (pos y) m 1
first_day y m within low high =
    ((omega (arith, signed_arith), omega (arith, signed_arith)), (low, high), (omega arith, omega (arith, days_in_month_bounds (pos y) m)))

-- a year up to the year of a date begins on the date or before it
year_before : (y m d i : ℕ) → IsCivilDate (pos y) m d → i ≤ y → day_count (pos i) 1 1 ≤ day_count (pos y) m d
year_before y m d i is high =
    let within : y ≤ 9999 = omega (arith, signed_arith, is.0.1) in
    elim (cases_order i y) [
      | inl same ↦ rw same (omega (arith, day_count-day_of_year (pos y) m d is.2.0, is.2.0))
      | inr (inl lt) ↦ omega (
        arith,
        day_count-lt_year (pos i) 1 1 (pos y) m d (first_day i 1 (omega (arith, within, high)) (omega arith)
            (omega arith)) is.2.0 (omega (arith, signed_arith, lt)),
      )
      | inr (inr gt) ↦ absurd (omega (arith, gt, high))
    ]

-- a month up to the month of a date begins on the date or before it
month_before : (y m d i : ℕ) → IsCivilDate (pos y) m d → 1 ≤ i → i ≤ m → day_count (pos y) i 1 ≤ day_count (pos y) m d
month_before y m d i is low high =
    let within : y ≤ 9999 = omega (arith, signed_arith, is.0.1) in
    elim (cases_order i m) [
      | inl same ↦ rw same (omega (arith, day_count-day (pos y) m d 1 is.2.0 (omega arith), is.2.0))
      | inr (inl lt) ↦ omega (arith, day_count-lt_month (pos y) i 1 m d (first_day y i within low (omega (arith, high, is.1.1))) is.2.0 lt)
      | inr (inr gt) ↦ absurd (omega (arith, gt, high))
    ]

year_is : (y m d : ℕ) → IsCivilDate (pos y) m d → year_of (days_from_civil (pos y) m d) ≡ y
year_is y m d is =
    begun_is (λ year. days_from_civil (pos year) 1 1) 9999 y (days_from_civil (pos y) m d) (omega (arith, signed_arith, is.0.1))
    (λ i low high. counted_le (pos i) (pos y) 1 1 m d (year_before y m d i is high))
    (λ i low high. counted_lt (pos y) (pos i) m d 1 1
    (day_count-lt_year (pos y) m d (pos i) 1 1 is (omega arith) (omega (arith, signed_arith, low))))

month_is : (y m d : ℕ) → IsCivilDate (pos y) m d → month_of y (days_from_civil (pos y) m d) ≡ m
month_is y m d is =
    begun_is (λ month. days_from_civil (pos y) month 1) 12 m (days_from_civil (pos y) m d) is.1.1
    (λ i low high. counted_le (pos y) (pos y) i 1 m d (month_before y m d i is low high))
    (λ i low high. counted_lt (pos y) (pos y) m d i 1 (day_count-lt_month (pos y) m d i 1 is (omega arith) low))

day_is : (y m d : ℕ) → IsCivilDate (pos y) m d → day_of_month y m (days_from_civil (pos y) m d) ≡ d
day_is y m d is =
    omega (
      arith,
      signed_arith,
      days_from_civil-day_count (pos y) m d,
      days_from_civil-day_count (pos y) m 1,
      day_count-day (pos y) m d 1 is.2.0 (omega arith),
      is.2.0,
      one_part (days_from_civil (pos y) m d -ℤ days_from_civil (pos y) m 1),
    )

pub text_is : (y m d : ℕ) → IsCivilDate (pos y) m d → day_text (days_from_civil (pos y) m d) ≡ date_text y m d
text_is y m d is =
    let day = days_from_civil (pos y) m d in
    ap (λ year. date_text year (month_of year day) (day_of_month year (month_of year day) day)) (year_is y m d is)
    ∙ ap (λ month. date_text y month (day_of_month y month day)) (month_is y m d is)
    ∙ ap (date_text y m) (day_is y m d is)

pub has_is : (y m d : ℕ) → IsCivilDate (pos y) m d → has_date (days_from_civil (pos y) m d) ≡ true
has_is y m d is =
    let day = days_from_civil (pos y) m d in
    let after : int_le (days_from_civil (pos 0) 1 1) day ≡ true =
    le_is _ _ (counted_le (pos 0) (pos y) 1 1 m d (year_before y m d 0 is (omega arith))) in
    let before : int_lt day (days_from_civil (pos 10000) 1 1) ≡ true = lt_is _ _ (counted_lt (pos y) (pos 10000) m d 1 1
    (day_count-lt_year (pos y) m d (pos 10000) 1 1 is (omega arith) (omega (arith, signed_arith, is.0.1)))) in
    rw (after, before) refl

-- ---- results of the calendar

-- a date whose year is not negative is written
pub date_is : (date : Date) → pos 0 ≤ℤ date.year → (has_date (epoch_day date) ≡ true)
    × (day_text (epoch_day date) ≡ date_text (unsigned_abs date.year) date.month date.day)
date_is date low = by date.year refl
  where
    by : (year : ℤ) → date.year ≡ year → (has_date (epoch_day date) ≡ true)
        × (day_text (epoch_day date) ≡ date_text (unsigned_abs date.year) date.month date.day)
    by (negsuc n) e = absurd (omega (arith, signed_arith, low, e))
    by (pos y) e =
        let is : IsCivilDate (pos y) date.month date.day = subst (λ year. IsCivilDate year date.month date.day) e (civil date) in
        rw e (has_is y date.month date.day is, text_is y date.month date.day is)

-- a date before the year 0 is not written
pub no_date : (date : Date) → date.year <ℤ pos 0 → has_date (epoch_day date) ≡ false
no_date date low =
    let before : int_le (days_from_civil (pos 0) 1 1) (epoch_day date) ≡ false =
    le_not _ _ (counted_lt date.year (pos 0) date.month date.day 1 1
    (day_count-lt_year date.year date.month date.day (pos 0) 1 1 (civil date) (omega arith) low)) in
    rw before refl

-- a day without a date is not written
pub no_day : (day : ℤ) → (IsEpochDay day → ⊥) → has_date day ≡ false
no_day day none =
    let first = days_from_civil (pos 0) 1 1 in
    let last = days_from_civil (pos 10000) 1 1 in
    by_lt_z day first (λ lt. let before : int_le first day ≡ false = le_not first day lt in rw before refl)
    (λ ge. by_lt_z day last
    (λ lt. absurd (none (
      omega (
        arith,
        signed_arith,
        ge,
        days_from_civil-day_count (pos 0) 1 1,
        day_count-year_bounds (pos 0) (omega (arith, signed_arith), omega (arith, signed_arith)),
      ),
      omega (arith, signed_arith, lt, days_from_civil-day_count (pos 10000) 1 1, day_count-end),
    )))
    (λ le. let after : int_le first day ≡ true = le_is first day ge in
    let late : int_lt day last ≡ false = lt_not day last le in
    rw (after, late) refl))
