-- Words that look like options but are not options of the program.
use Rattle.std.specs.Prelude.{ℕ, ◌==◌, Bool, false, true, not, if◌then◌else◌, List, [], ◌∷◌, ◌++◌, codes, drop, Option, None, Some}
use Rattle.std.specs.List.{before_first, list_any}
use Rattle.std.specs.Str.{bytes_eq}

-- the long names of the options
abbrev pub long_options : List (List ℕ)
long_options =
    codes "--summary" ∷ codes "--packets" ∷ codes "--wrong" ∷ codes "--verbose" ∷ codes "--absolute" ∷ codes "--check" ∷ codes "--json"
    ∷ codes "--top" ∷ codes "--timeline" ∷ codes "--interval" ∷ codes "--tunnels" ∷ codes "--host" ∷ codes "--source" ∷ codes "--destination"
    ∷ codes "--not-host" ∷ codes "--port" ∷ codes "--not-port"
    ∷ codes "--protocol" ∷ codes "--from" ∷ codes "--to" ∷ codes "--count" ∷ codes "--write" ∷ codes "--line-buffered" ∷ codes "--numeric" ∷ codes "--read" ∷ codes "--help"
    ∷ codes "--version" ∷ []

-- the letters of the options that have no value
abbrev pub flag_letters : List ℕ
flag_letters = codes "vlnhV"

-- the letters of the options that have a value
abbrev pub valued_letters : List ℕ
valued_letters = codes "cwr"

-- `letter` is one of these letters
abbrev pub is_letter : ℕ → List ℕ → Bool
is_letter letter letters = list_any (λ known. known == letter) letters

-- one of these letters is not an option; if an option has a value, the letters after the option are the value
abbrev pub has_unknown_letter : List ℕ → Bool
has_unknown_letter [] = false
has_unknown_letter (letter ∷ letters) =
    if is_letter letter valued_letters then false
    else (if is_letter letter flag_letters then has_unknown_letter letters else true)

-- the part of a word before its first `=` (61); without `=` it is the whole word
abbrev pub option_name : List ℕ → List ℕ
option_name word = before_first (λ byte. byte == 61) word

-- the name in a word that begins with `--` is not the name of a long option
abbrev pub is_unknown_long : List ℕ → Bool
is_unknown_long word = not (list_any (λ name. bytes_eq name (option_name word)) long_options)

-- the word is not an option of the program; its first byte is `-`, and `letters` are the bytes after this one
abbrev pub is_unknown_after : List ℕ → List ℕ → Bool
is_unknown_after word [] = false
is_unknown_after word (second ∷ letters) = if second == 45 then is_unknown_long word else has_unknown_letter (second ∷ letters)

-- the word begins with `-` but is not an option of the program; the word `-` is the name of a capture
abbrev pub is_unknown : List ℕ → Bool
is_unknown [] = false
is_unknown (first ∷ letters) = if first == 45 then is_unknown_after (first ∷ letters) letters else false

-- the first of these words that looks like an option but is unknown; the words after `--` are not checked
abbrev pub first_unknown : List (List ℕ) → Option (List ℕ)
first_unknown [] = None
first_unknown (word ∷ words) = if bytes_eq word (codes "--") then None else (if is_unknown word then Some word else first_unknown words)

-- the first word of a command line that looks like an option but is unknown; the name of the program, which is the first word, is not
-- checked
abbrev pub unknown_option : List (List ℕ) → Option (List ℕ)
unknown_option words = first_unknown (drop 1 words)

-- the message about a word that looks like an option but is unknown
abbrev pub unknown_text : List ℕ → List ℕ
unknown_text word = codes "unexpected argument '" ++ (word ++ codes "' found")
