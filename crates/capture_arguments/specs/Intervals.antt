-- The width of the intervals of the timeline, as a number of seconds on the command line.
use Rattle.std.specs.Prelude.{◌≡◌, ◌<◌, ◌≤◌, ◌==◌, ◌+◌, ◌-◌, ◌*◌, ◌^◌, ℕ, Bool, nat_lt, if◌then◌else◌, List, ◌++◌, codes, length, None, Option, Some}
use Rattle.std.specs.List.{after_first, before_first, position_or_len}
use Rattle.std.specs.Str.Parse.{IsNumeral, digits_value}

-- ---- seconds

-- a byte is a point (46)
abbrev pub is_point : ℕ → Bool
is_point byte = byte == 46

-- the text contains a point
abbrev pub has_point : List ℕ → Bool
has_point text = nat_lt (position_or_len is_point text) (length text)

-- the texts before and after the first point, if there is one
abbrev pub parts_in : List ℕ → Option (List ℕ × List ℕ)
parts_in text = if has_point text then Some (before_first is_point text, after_first is_point text) else None

-- the text consists of decimal digits, and they are this number
abbrev pub IsNumber : List ℕ → ℕ → Type 0
IsNumber text number = IsNumeral 10 text × (digits_value 10 text ≡ number)

-- the text is a number of whole seconds, which are so many nanoseconds
abbrev pub IsWhole : List ℕ → ℕ → Type 0
IsWhole text nanoseconds = (seconds : ℕ) × IsNumber text seconds × (nanoseconds ≡ seconds * 10 ^ 9)

-- the text consists of at most nine digits after the point, which are so many nanoseconds
abbrev pub IsFraction : List ℕ → ℕ → Type 0
IsFraction text nanoseconds = (digits : ℕ) × (length text ≤ 9) × IsNumber text digits × (nanoseconds ≡ digits * 10 ^ (9 - length text))

-- the sum of whole seconds and of a fraction, in nanoseconds
abbrev pub IsSum : List ℕ → List ℕ → ℕ → Type 0
IsSum whole fraction nanoseconds =
    (first : ℕ) × (second : ℕ) × IsWhole whole first × IsFraction fraction second × (nanoseconds ≡ first + second)

-- the text with these parts is a number of seconds, which are so many nanoseconds
abbrev pub IsSecondsBy : List ℕ → Option (List ℕ × List ℕ) → ℕ → Type 0
IsSecondsBy text None nanoseconds = IsWhole text nanoseconds
IsSecondsBy text (Some parts) nanoseconds = IsSum parts.0 parts.1 nanoseconds

-- the text is a number of seconds such as `1` or `0.5`, which are so many nanoseconds
abbrev pub IsSeconds : List ℕ → ℕ → Type 0
IsSeconds text nanoseconds = IsSecondsBy text (parts_in text) nanoseconds

-- ---- the width of intervals

-- the greatest width in nanoseconds: 1,000,000,000 seconds
abbrev pub max_interval : ℕ
max_interval = 10 ^ 18

-- the text is this width in nanoseconds
abbrev pub ReadsInterval : List ℕ → ℕ → Type 0
ReadsInterval text nanoseconds = IsSeconds text nanoseconds × ((0 < nanoseconds) × (nanoseconds ≤ max_interval))

-- the text is not a width
abbrev pub IsNoInterval : List ℕ → Type 0
IsNoInterval text = (nanoseconds : ℕ) → ¬ (ReadsInterval text nanoseconds)

-- the width with the text that is given; without a text there is no width
abbrev pub IsIntervalOf : Option (List ℕ) → Option ℕ → Type 0
IsIntervalOf None interval = interval ≡ None
IsIntervalOf (Some text) None = ⊥
IsIntervalOf (Some text) (Some nanoseconds) = ReadsInterval text nanoseconds

-- `wrong` is the text that is given, and it is not a width
abbrev pub IsWrongInterval : Option (List ℕ) → List ℕ → Type 0
IsWrongInterval None wrong = ⊥
IsWrongInterval (Some text) wrong = (wrong ≡ text) × IsNoInterval text

-- ---- the message

-- the message about a wrong width
abbrev pub interval_text : List ℕ → List ℕ
interval_text text =
    codes "invalid value '" ++ (text
    ++ codes "' for '--interval <SECONDS>': not a number of seconds from 0.000000001 to 1000000000, such as 0.5")
