-- The words of the command line.
use Rattle.std.specs.Prelude.{◌≡◌, ◌⊎◌, ◌==◌, ◌&&◌, ℕ, ◌+◌, ◌-◌, ◌^◌, Bool, false, if◌then◌else◌, List, [], ◌∷◌, ◌++◌, codes, drop, length, map, None, Option, Some}
use Rattle.std.specs.IoError.{error_kind}
use Rattle.std.specs.List.{flat_map}
use Rattle.std.specs.Str.{bytes_eq, is_utf8}
use Rattle.std.specs.declared.io.Error.{Error}
use Rattle.std.specs.declared.io.ErrorKind.TheVariants.{ArgumentListTooLong, OutOfMemory}
use Rattle.capture_words.specs.ShownText.{escaped_byte}
use Rattle.capture_request.specs.Names.{without_mark}

-- An argument as a word. If the argument is not UTF-8, the word consists of NUL (0), which no argument contains, and the escaped bytes.
abbrev pub word_of : List ℕ → List ℕ
word_of bytes = if is_utf8 bytes then bytes else 0 ∷ flat_map escaped_byte bytes

-- these are the arguments from this place on; `holds` is the statement about a place and its argument
abbrev pub AreArguments : (ℕ → List ℕ → Type 0) → ℕ → List (List ℕ) → Type 0
AreArguments holds place [] = Unit {0}
AreArguments holds place (argument ∷ arguments) = holds place argument × AreArguments holds (place + 1) arguments

-- These are the words of all arguments, in their order. `ends` is the statement about a place after the last argument.
pub record AreWordsOf (holds : ℕ → List ℕ → Type 0) (ends : ℕ → Type 0) (words : List (List ℕ)) : Type 0 where
  pub arguments : List (List ℕ)
  pub are_arguments : AreArguments holds 0 arguments
  pub are_all : ends (length arguments)
  pub are_words : words ≡ map word_of arguments

-- ---- options that are not UTF-8

-- the word is the escaped form of an argument that begins with `-` (45)
abbrev pub is_escaped_option : List ℕ → Bool
is_escaped_option [] = false
is_escaped_option (mark ∷ []) = false
is_escaped_option (mark ∷ (first ∷ word)) = mark == 0 && first == 45

-- the first of these words that is an escaped option; the words after `--` are not options
abbrev pub first_escaped_option : List (List ℕ) → Option (List ℕ)
first_escaped_option [] = None
first_escaped_option (word ∷ words) =
    if bytes_eq word (codes "--") then None else (if is_escaped_option word then Some word else first_escaped_option words)

-- the first escaped option of a command line; the first word is the name of the program, and is skipped
abbrev pub escaped_option : List (List ℕ) → Option (List ℕ)
escaped_option words = first_escaped_option (drop 1 words)

-- the message about an option that is not UTF-8
abbrev pub escaped_option_text : List ℕ → List ℕ
escaped_option_text word = codes "the argument '" ++ (without_mark word ++ codes "' is not UTF-8")

-- ---- refusals

-- the greatest length of an argument that Linux accepts, in bytes
abbrev pub max_argument_len : ℕ
max_argument_len = 2 ^ 17

-- The arguments are too long. Either the argument after these arguments exceeds the greatest length, as `exceeds` states. Or there are 2^64
-- - 1 arguments.
pub record AreTooLong (holds : ℕ → List ℕ → Type 0) (exceeds : ℕ → ℕ → Type 0) : Type 0 where
  pub arguments : List (List ℕ)
  pub are_arguments : AreArguments holds 0 arguments
  pub are_too_long : exceeds (length arguments) max_argument_len ⊎ (length arguments ≡ 2 ^ 64 - 1)

-- why there are no words: an allocation failed, or the arguments are too long
abbrev pub AreNoWords : (ℕ → List ℕ → Type 0) → (ℕ → ℕ → Type 0) → Type 0 → Error → Type 0
AreNoWords holds exceeds RanOut error =
    ((error_kind error ≡ OutOfMemory) × RanOut) ⊎ ((error_kind error ≡ ArgumentListTooLong) × AreTooLong holds exceeds)
