-- Laws of the words of the command line.
use Rattle.std.proofs.Common.{◌≡◌, ◌⊎◌, ◌+◌, ◌-◌, ◌^◌, ◌∷◌, ◌++◌, [], Bool, IsUtf8, List, ℕ, arith, false, if◌then◌else◌, inl, inr, length, refl, subst, true}
use Rattle.std.proofs.lemmas.Str.{IsUtf8-from_is_utf8, is_utf8-from_IsUtf8}
use Rattle.std.specs.List.{flat_map}
use Rattle.std.specs.Str.{is_utf8}
use Rattle.std.specs.declared.io.ErrorKind.{ErrorKind}
use Rattle.std.specs.declared.io.ErrorKind.TheVariants.{ArgumentListTooLong, OutOfMemory}
use Rattle.capture_words.specs.ShownText.{escaped_byte}
use Rattle.capture_arguments.specs.Words.{AreArguments, AreTooLong, max_argument_len, word_of}

-- bytes that are UTF-8 are the word itself
pub text_word : (bytes text : List ℕ) → text ≡ bytes → IsUtf8 bytes → text ≡ word_of bytes
text_word bytes text same utf8 = rw (is_utf8-from_IsUtf8 bytes utf8) same

escaped_by : (bytes : List ℕ) (test : Bool) → is_utf8 bytes ≡ test → (IsUtf8 bytes → ⊥)
    → 0 ∷ flat_map escaped_byte bytes ≡ (if test then bytes else 0 ∷ flat_map escaped_byte bytes)
escaped_by bytes true is other = absurd (other (IsUtf8-from_is_utf8 bytes is))
escaped_by bytes false is other = refl

-- bytes that are not UTF-8 are escaped in the word
pub escaped_word : (bytes : List ℕ) → (IsUtf8 bytes → ⊥) → 0 ∷ flat_map escaped_byte bytes ≡ word_of bytes
escaped_word bytes other = escaped_by bytes (is_utf8 bytes) refl other

-- the arguments after another argument
pub arguments-push : (holds : ℕ → List ℕ → Type 0) (place now : ℕ) (arguments : List (List ℕ)) (argument : List ℕ)
    → AreArguments holds place arguments → now ≡ place + length arguments → holds now argument
    → AreArguments holds place (arguments ++ argument ∷ [])
arguments-push holds place now [] argument all same one = (subst (λ p. holds p argument) (omega (arith, same)) one, tt)
arguments-push holds place now (first ∷ arguments) argument all same one =
    (all.0, arguments-push holds (place + 1) now arguments argument all.1 (omega (arith, same)) one)

-- why there are no words, by the kind of the error
abbrev AreNoWordsBy : (ℕ → List ℕ → Type 0) → (ℕ → ℕ → Type 0) → Type 0 → ErrorKind → Type 0
AreNoWordsBy holds exceeds RanOut kind =
    ((kind ≡ OutOfMemory) × RanOut) ⊎ ((kind ≡ ArgumentListTooLong) × AreTooLong holds exceeds)

-- the next argument is too long
pub next_too_long : (holds : ℕ → List ℕ → Type 0) (exceeds : ℕ → ℕ → Type 0) (RanOut : Type 0) (kind : ErrorKind)
    (arguments : List (List ℕ))
    (place room : ℕ) → AreArguments holds 0 arguments → place ≡ length arguments → room ≡ max_argument_len → exceeds place room
    → kind ≡ ArgumentListTooLong → AreNoWordsBy holds exceeds RanOut kind
next_too_long holds exceeds RanOut kind arguments place room are is_place is_room over is_kind = inr (
  is_kind,
  record {
    arguments = arguments;
    are_arguments = are;
    are_too_long = inl (subst (λ at. exceeds at max_argument_len) is_place (subst (λ len. exceeds place len) is_room over));
  },
)

-- there are as many arguments as a place can number
pub too_many : (holds : ℕ → List ℕ → Type 0) (exceeds : ℕ → ℕ → Type 0) (RanOut : Type 0) (kind : ErrorKind) (arguments : List (List ℕ))
    → AreArguments holds 0 arguments → length arguments ≡ 2 ^ 64 - 1 → kind ≡ ArgumentListTooLong → AreNoWordsBy holds exceeds RanOut kind
too_many holds exceeds RanOut kind arguments are is_last is_kind =
    inr (is_kind, record { arguments = arguments; are_arguments = are; are_too_long = inr is_last })
