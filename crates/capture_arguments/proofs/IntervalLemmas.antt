-- For the width of the intervals of the timeline.
use Rattle.std.proofs.Common.{◌≡◌, ◌<◌, ◌≤◌, ◌^◌, ℕ, List, MatchOption, Option, arith, length, subst, sym}
use Rattle.std.proofs.Math.Nat.{pow-le-pow_right}
use Rattle.std.proofs.lemmas.Int.Digits.{digits_value-lt}
use Rattle.capture_arguments.specs.Intervals.{IsNumber, IsSeconds, IsSecondsBy, max_interval, parts_in}

-- a number of seconds by the parts of its text
pub seconds_by : (text : List ℕ) (parts : Option (List ℕ × List ℕ)) (found : Option ℕ) → parts_in text ≡ parts
    → MatchOption found ((nanoseconds : ℕ) → IsSecondsBy text parts nanoseconds → max_interval < nanoseconds) (IsSecondsBy text parts)
    → MatchOption found ((nanoseconds : ℕ) → IsSeconds text nanoseconds → max_interval < nanoseconds) (IsSeconds text)
seconds_by text parts found is by =
    subst (λ each. MatchOption found ((nanoseconds : ℕ) → IsSecondsBy text each nanoseconds → max_interval < nanoseconds)
    (IsSecondsBy text each)) (sym is) by

-- at most nine digits are a number below 10^9
pub short_number : (text : List ℕ) (number : ℕ) → length text ≤ 9 → IsNumber text number → number < 10 ^ 9
short_number text number short is =
    let most : 10 ^ length text ≤ 10 ^ 9 = pow-le-pow_right {n = 10} (omega arith) short in
    omega (arith, digits_value-lt 10 text is.0.1, is.1, most)
