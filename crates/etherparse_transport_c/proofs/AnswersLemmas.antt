-- The status of the test of a checksum, if the packet is valid.
use Rattle.std.proofs.Common.{◌≡◌, ◌⊎◌, ℕ, Bool, true, false, Option, None, Some, inl, inr, refl}
use Rattle.std.specs.Prelude.{◌↔◌, IsTrue, if◌then◌else◌}
use Rattle.etherparse_transport_c.specs.Errors.{Answers, Tells}
use Rattle.etherparse_transport_c.specs.Numbers as numbers
use Rattle.etherparse_transport_c.specs.declared.error.EtherparseError.{EtherparseError}

-- a valid packet is not reported as wrong
only_ok : (other : ℕ) (Valid : Type 0) → Valid
    → ((other ≡ numbers.status_ok) × Valid) ⊎ ((other ≡ numbers.status_checksum_wrong) × (Valid → ⊥)) → other ≡ numbers.status_ok
only_ok other Valid valid (inl right) = right.0
only_ok other Valid valid (inr wrong) = absurd (wrong.1 valid)

-- if a valid packet is accepted and has a checksum, the test returns `OK`
pub answers_ok : (refusal : Option EtherparseError) (absent : Bool) (Valid : Type 0) → refusal ≡ None → absent ≡ false → Valid
    → Answers (Tells refusal absent Valid) numbers.status_ok
answers_ok None false Valid accepted present valid = (inl (refl, valid), λ other told. only_ok other Valid valid told)
answers_ok (Some error) absent Valid accepted present valid = cc
answers_ok None true Valid accepted present valid = cc

-- the status of a test, if the packet is accepted and has a checksum
pub told : (refusal : Option EtherparseError) (valid : Bool) (Valid : Type 0) (status : ℕ) → refusal ≡ None → (IsTrue valid ↔ Valid)
    → status ≡ (if valid then numbers.status_ok else numbers.status_checksum_wrong) → Tells refusal false Valid status
told (Some error) valid Valid status accepted is answered = cc
told None true Valid status accepted is answered = inl (answered, is.0 refl)
told None false Valid status accepted is answered = inr (answered, λ valid. let clash : false ≡ true = is.1 valid in cc)

-- the status of a test, if the packet is accepted and has a checksum, but the protocol also allows packets without a checksum
pub told_present : (refusal : Option EtherparseError) (absent valid : Bool) (Valid : Type 0) (status : ℕ) → refusal ≡ None → absent ≡ false
    → (IsTrue valid ↔ Valid) → status ≡ (if valid then numbers.status_ok else numbers.status_checksum_wrong)
    → Tells refusal absent Valid status
told_present refusal true valid Valid status accepted present is answered = cc
told_present refusal false valid Valid status accepted present is answered = told refusal valid Valid status accepted is answered
