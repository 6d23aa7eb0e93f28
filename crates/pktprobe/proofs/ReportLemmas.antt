-- The law of the longest input: the bytes after the first 8,194 bytes do not change the answer.
use Rattle.std.proofs.Common.{◌≡◌, ℕ, ◌+◌, ◌-◌, ◌<◌, ◌≤◌, Bool, true, false, List, length, take, if◌then◌else◌, sym, ap, ◌∙◌, arith, codes, nat_eq, length-take-le, ⊎_elim}
use Rattle.std.proofs.lemmas.List.{take_all}
use Rattle.std.specs.List.{ends_with}
use Rattle.std.proofs.lemmas.Bool.{cases_lt}
use Rattle.std.proofs.lemmas.Bool.Decides.{nat_tests}
use Rattle.pktprobe.specs.Report.{bad_input, line_of, line_report, max_input_len, max_line_len, report}

-- a line that is too long is bad input
too_long : (line : List ℕ) → max_line_len < length line → line_report line ≡ bad_input
too_long line long = grind (arith, nat_tests)

-- an input is at most one byte longer than its line, which may lack the last byte
length-without_last : (drops : Bool) (input : List ℕ)
    → length input ≤ length (if drops then take (length input - 1) input else input) + 1
length-without_last true input = omega (arith, length-take-le (length input - 1) input (omega arith))
length-without_last false input = omega arith

-- an input of at least 8,194 bytes is bad
too_long_input : (input : List ℕ) → max_input_len ≤ length input → report input ≡ bad_input
too_long_input input long =
    too_long (line_of input) (omega (arith, length-without_last (ends_with nat_eq input (codes "\n")) input))

-- if an input is short, its first bytes are all its bytes
short_input : (count : ℕ) (input : List ℕ) → length input ≤ count → report (take count input) ≡ report input
short_input count input short = ap report (take_all count input short)

-- a long input is a bad input, and so are its first bytes
long_input : (count : ℕ) (input : List ℕ) → max_input_len ≤ count → count ≤ length input → report (take count input) ≡ report input
long_input count input enough long =
    too_long_input (take count input) (omega (arith, length-take-le count input long))
    ∙ sym (too_long_input input (omega arith))

-- the first 8,194 bytes of an input decide its answer
pub first_bytes_decide : (input : List ℕ) → report (take max_input_len input) ≡ report input
first_bytes_decide input =
    ⊎_elim
    (λ short. short_input max_input_len input (omega (arith, short)))
    (λ long. long_input max_input_len input (omega arith) long)
    (cases_lt (length input) max_input_len)
