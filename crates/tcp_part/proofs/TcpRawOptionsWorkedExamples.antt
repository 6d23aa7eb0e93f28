-- Worked examples of the definitions of options of all kinds, so that a wrong definition fails before any code does.
use Rattle.std.proofs.Common.{◌≡◌, ℕ, List, [], ◌∷◌, Some, None, Ok, Err, refl, inl, inr, arith}
use Rattle.net_base.specs.declared.tcp_option_read_error.TcpOptionReadError.TheVariants.{UnexpectedEndOfSlice, UnexpectedSize, UnknownId}
use Rattle.tcp_part.specs.TcpRawOptions.{IsFaultOf, RawOption, ReadsRaw, element_refusal, raw_fault, raw_join, raw_spelling}
use Rattle.tcp_part.specs.declared.tcp_raw_option_error.TcpRawOptionError.TheVariants.{NoLengthByte, LengthBelowTwo, LengthBeyondEnd}

-- an option with this kind and value
abbrev option_of : ℕ → List ℕ → RawOption
option_of kind value = record { kind = kind; value = value }

-- ---- options and their bytes

fast_open_spelled : raw_spelling (option_of 34 []) ≡ 34 ∷ 2 ∷ []
fast_open_spelled = refl

multipath_spelled : raw_spelling (option_of 30 (0xAA ∷ 0xBB ∷ [])) ≡ 0x1E ∷ 4 ∷ 0xAA ∷ 0xBB ∷ []
multipath_spelled = refl

noop_spelled : raw_spelling (option_of 1 []) ≡ 1 ∷ []
noop_spelled = refl

options_joined : raw_join (option_of 30 (0xAA ∷ 0xBB ∷ []) ∷ option_of 1 [] ∷ option_of 34 [] ∷ []) ≡ 0x1E ∷ 4 ∷ 0xAA ∷ 0xBB ∷ 1 ∷ 34 ∷ 2
    ∷ []
options_joined = refl

-- ---- readings

fast_open_read : ReadsRaw (0x22 ∷ 2 ∷ []) (Ok (option_of 34 []) ∷ [])
fast_open_read = (_, record { spelled = refl; is_no_end = λ e. omega arith; noop_has_no_value = λ e. refl }, inl refl)

multipath_read : ReadsRaw (0x1E ∷ 4 ∷ 0xAA ∷ 0xBB ∷ 1 ∷ 0 ∷ []) (Ok (option_of 30 (0xAA ∷ 0xBB ∷ [])) ∷ Ok (option_of 1 []) ∷ [])
multipath_read = (
  _,
  record { spelled = refl; is_no_end = λ e. omega arith; noop_has_no_value = λ e. absurd (omega arith) },
  (_, record { spelled = refl; is_no_end = λ e. omega arith; noop_has_no_value = λ e. refl }, inr refl),
)

unknown_kind_read : ReadsRaw (0xFE ∷ 2 ∷ []) (Ok (option_of 254 []) ∷ [])
unknown_kind_read = (_, record { spelled = refl; is_no_end = λ e. omega arith; noop_has_no_value = λ e. refl }, inl refl)

fault_read : ReadsRaw (3 ∷ 3 ∷ 7 ∷ 0xFE ∷ 5 ∷ 1 ∷ 2 ∷ []) (Ok (option_of 3 (7 ∷ [])) ∷ Err (LengthBeyondEnd 254 5 4) ∷ [])
fault_read = (_, record { spelled = refl; is_no_end = λ e. omega arith; noop_has_no_value = λ e. absurd (omega arith) }, (refl, refl))

nothing_read_after_the_end : ReadsRaw (0 ∷ 0xFF ∷ 0xFF ∷ []) []
nothing_read_after_the_end = inr refl

nothing_read : ReadsRaw [] []
nothing_read = inl refl

-- ---- faults

kind_alone : raw_fault (0xFE ∷ []) ≡ Some (NoLengthByte 254)
kind_alone = refl

length_of_one : raw_fault (0xFE ∷ 1 ∷ []) ≡ Some (LengthBelowTwo 254 1)
length_of_one = refl

length_of_zero : raw_fault (2 ∷ 0 ∷ 0 ∷ 0 ∷ []) ≡ Some (LengthBelowTwo 2 0)
length_of_zero = refl

cut_off : raw_fault (0xFE ∷ 5 ∷ 1 ∷ 2 ∷ []) ≡ Some (LengthBeyondEnd 254 5 4)
cut_off = refl

no_fault_at_the_end : raw_fault (0 ∷ 1 ∷ []) ≡ None
no_fault_at_the_end = refl

no_fault_of_noop : raw_fault (1 ∷ 1 ∷ []) ≡ None
no_fault_of_noop = refl

-- ---- as elements

wrong_length_refused : element_refusal (option_of 3 (7 ∷ 7 ∷ [])) ≡ Some (UnexpectedSize 3 4)
wrong_length_refused = refl

half_a_block_refused : element_refusal (option_of 5 (1 ∷ 2 ∷ 3 ∷ 4 ∷ [])) ≡ Some (UnexpectedSize 5 6)
half_a_block_refused = refl

unknown_kind_refused : element_refusal (option_of 254 []) ≡ Some (UnknownId 254)
unknown_kind_refused = refl

end_refused : element_refusal (option_of 0 []) ≡ Some (UnknownId 0)
end_refused = refl

noop_accepted : element_refusal (option_of 1 []) ≡ None
noop_accepted = refl

-- if an option with a wrong length is the last two bytes, reading it as an element reports a missing byte
missing_byte : IsFaultOf 2 (option_of 3 []) (UnexpectedEndOfSlice 3 3 2)
missing_byte = inr (omega arith, refl, refl)
