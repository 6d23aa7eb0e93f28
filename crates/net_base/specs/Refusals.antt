-- The conditions under which a call returns an error, and the error.
use Rattle.std.specs.Prelude.{◌≡◌, ℕ, Bool, nat_lt, if◌then◌else◌, List, [], ◌∷◌, length, Option, Some, None, Result, MatchResult}
use Rattle.net_base.specs.declared.err.layer.Layer.{Layer}
use Rattle.net_base.specs.declared.err.len_error.LenError.{LenError}
use Rattle.net_base.specs.declared.err.len_source.LenSource.TheVariants.{Slice}
use Rattle.net_base.specs.declared.err.value_type.ValueType.{ValueType}
use Rattle.net_base.specs.declared.err.value_too_big_error.ValueTooBigError.{ValueTooBigError}

-- a rule: if the condition holds, the call refuses with this error
abbrev pub refused_if : {E : Type 0} → Bool → E → Option E
refused_if condition error = if condition then Some error else None

-- the error of the first rule that refuses, in the order of the rules
abbrev pub first_of : {E : Type 0} → List (Option E) → Option E
first_of [] = None
first_of (Some error ∷ rules) = Some error
first_of (None ∷ rules) = first_of rules

-- if there is an error, the call returns exactly this error, and otherwise it succeeds
abbrev pub RefusesExactly : {T E : Type 0} → Result T E → Option E → Type 0
RefusesExactly result refusal = MatchResult result (λ _. refusal ≡ None) (λ error. refusal ≡ Some error)

-- the error for a slice of length `len` whose layer requires another length
abbrev pub wrong_length : Layer → ℕ → ℕ → LenError
wrong_length layer required_len len =
    record { required_len = required_len; len = len; len_source = Slice; layer = layer; layer_start_offset = 0 }

-- the error if a slice of this length is too short for these bytes of this layer
abbrev pub no_room : Layer → List ℕ → ℕ → Option LenError
no_room layer bytes len = refused_if (nat_lt len (length bytes)) (wrong_length layer (length bytes) len)

-- the error if a value is above its limit
abbrev pub too_big : ValueType → ℕ → ℕ → Option (ValueTooBigError ℕ)
too_big value_type limit value =
    refused_if (nat_lt limit value) (record { actual = value; max_allowed = limit; value_type = value_type })
