-- The options that can't be used together.
use Rattle.std.specs.Prelude.{◌&&◌, Bool, true, false, List, [], ◌∷◌, ◌++◌, codes, find, if◌then◌else◌, Option, Some, option_and_then}
use Rattle.std.specs.Str.{bytes_eq}
use Rattle.clap.specs.Words.{Row, Text}
use Rattle.clap.specs.declared.parser.matches.ValueSource.{ValueSource}
use Rattle.clap.specs.declared.parser.matches.ValueSource.TheVariants.{CommandLine}

-- ---- the options

-- the names of options that can't be used together, in pairs; the pairs are tested in this order
abbrev pub exclusive_pairs : List (Text × Text)
exclusive_pairs =
    (codes "summary", codes "packets") ∷ (codes "wrong", codes "summary") ∷ (codes "absolute", codes "summary")
    ∷ (codes "top", codes "packets") ∷ (codes "timeline", codes "packets") ∷ (codes "interval", codes "packets")
    ∷ (codes "write", codes "summary") ∷ (codes "write", codes "packets") ∷ (codes "write", codes "absolute")
    ∷ (codes "write", codes "check")
    ∷ (codes "write", codes "json") ∷ (codes "write", codes "top") ∷ (codes "write", codes "timeline") ∷ (codes "write", codes "interval") ∷ []

-- a value comes from the command line, and is not a default
abbrev pub is_from_words : Option ValueSource → Bool
is_from_words (Some CommandLine) = true
is_from_words source = false

-- the option with this name occurs on the command line
abbrev pub is_given : List Row → Text → Bool
is_given rows name = is_from_words (option_and_then (λ row. row.source) (find (λ row. bytes_eq row.id name) rows))

-- the first pair whose two options both occur on the command line
abbrev pub conflict_in : List Row → Option (Text × Text)
conflict_in rows = find (λ pair. is_given rows pair.0 && is_given rows pair.1) exclusive_pairs

-- ---- the message

-- the value of an option as a message shows it; it is empty for an option without a value
abbrev pub shown_value : Text → Text
shown_value name =
    if bytes_eq name (codes "top") then codes " <N>"
    else (if bytes_eq name (codes "write") then codes " <FILE>"
    else (if bytes_eq name (codes "interval") then codes " <SECONDS>" else []))

-- an option as a message shows it, such as '--top <N>'
abbrev pub shown_option : Text → Text
shown_option name = codes "'--" ++ (name ++ (shown_value name ++ codes "'"))

-- the message about two options that can't be used together
abbrev pub conflict_text : Text → Text → Text
conflict_text first second = codes "the argument " ++ (shown_option first ++ (codes " cannot be used with " ++ shown_option second))
