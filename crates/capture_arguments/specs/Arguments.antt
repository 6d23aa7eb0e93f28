-- What the matches of a command line contain.
use Rattle.std.specs.Prelude.{◌≡◌, ◌<◌, ◌^◌, ℕ, Bool, true, false, List, [], codes, None, Some, unwrap_or}
use Rattle.std.specs.Option.{option_map}
use Rattle.std.specs.Str.Parse.{IsNumeral, digits_value, without_leading_plus}
use Rattle.clap.specs.Words.{found_of, matched_of, one_text, raw_values}
use Rattle.clap.specs.declared.parser.matches.ArgMatches.{ArgMatches}

-- the text that stands for a flag in the matches
abbrev pub flag_text : Bool → List ℕ
flag_text true = codes "true"
flag_text false = codes "false"

-- the matches contain this value of a flag; a flag that is not among the words is false
abbrev pub HasFlag : ArgMatches → List ℕ → Bool → Type 0
HasFlag matches id flag = one_text (found_of matches) id ≡ Some (flag_text flag)

-- the values of an argument, in the order of the words
abbrev pub values_of : ArgMatches → List ℕ → List (List ℕ)
values_of matches id = unwrap_or (option_map raw_values (matched_of (found_of matches) id)) []

-- a text is a decimal number of at most this number of bits; a plus sign may precede it
abbrev pub IsNumberText : ℕ → List ℕ → ℕ → Type 0
IsNumberText bits text number =
    IsNumeral 10 (without_leading_plus text) × (digits_value 10 (without_leading_plus text) ≡ number) × (number < 2 ^ bits)

-- If the matches contain a number of at most `bits` bits for this argument, the value is what `value_of` makes of the number. If they
-- contain no text for the argument, the value is `other`.
abbrev pub HasNumberOr : {X : Type 0} → ArgMatches → List ℕ → ℕ → (ℕ → X) → X → X → Type 0
HasNumberOr matches id bits value_of other value =
    (one_text (found_of matches) id ≡ None → value ≡ other)
    × ((text : List ℕ) (given : ℕ) → one_text (found_of matches) id ≡ Some text → IsNumberText bits text given → value ≡ value_of given)
