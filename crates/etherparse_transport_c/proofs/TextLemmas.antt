-- Texts that are truncated at their maximum length.
use Rattle.std.proofs.Common.{◌≡◌, ℕ, ◌+◌, ◌-◌, ◌≤◌, ◌<◌, Bool, true, false, List, [], ◌∷◌, ◌++◌, length, take, drop, slice_set, append-nil, length-append, refl, sym, ap, ◌∙◌, arith}
use Rattle.std.proofs.lemmas.Bool.Decides.{nat_tests}
use Rattle.std.proofs.lemmas.List.{append_assoc, drop_more, length-take-le, set_at, take-append-le, take_all}
use Rattle.std.specs.Prelude.{nat_lt}
use Rattle.etherparse_transport_c.proofs.IcmpLemmas.{take_past}
use Rattle.etherparse_transport_c.specs.Errors.{at_front}
use Rattle.etherparse_transport_c.specs.Text.{IsCut, max_text_len}

-- if as many bytes as fit are appended to a truncated text, the result is the longer text, truncated too
appended_at : (text before bytes : List ℕ) (room : ℕ) (above : Bool) → nat_lt max_text_len (length before) ≡ above → IsCut text before
    → room + length text ≡ max_text_len → IsCut (text ++ take room bytes) (before ++ bytes)
appended_at text before bytes room false is cut full =
    let within : length before ≤ max_text_len = grind (arith, nat_tests) in
    let same : text ≡ before = cut ∙ take_all max_text_len before within in
    let left : max_text_len - length before ≡ room = omega (arith, full, ap length same) in
    rw (take_past before bytes max_text_len within, left, same) refl
appended_at text before bytes room true is cut full =
    let beyond : max_text_len < length before = grind (arith, nat_tests) in
    let len : length text ≡ max_text_len = ap length cut ∙ length-take-le max_text_len before (omega (arith, beyond)) in
    let none : room ≡ 0 = omega (arith, full, len) in
    rw (none, append-nil text, take-append-le max_text_len before bytes (omega (arith, beyond))) cut

pub appended : (text before bytes : List ℕ) (room : ℕ) → IsCut text before → room + length text ≡ max_text_len
    → IsCut (text ++ take room bytes) (before ++ bytes)
appended text before bytes room cut full = appended_at text before bytes room _ refl cut full

-- a zero byte follows the bytes at the front of a buffer
pub zero_after : (front buffer : List ℕ) → length front < length buffer
    → slice_set (front ++ drop (length front) buffer) (length front) 0 ≡ at_front (front ++ (0 ∷ [])) buffer
unfolding at_front
zero_after front buffer within =
    ap (λ back. slice_set (front ++ back) (length front) 0) (drop_more buffer (length front) 0 within)
    ∙ set_at front _ _ 0 (length front) refl
    ∙ sym (append_assoc front (0 ∷ []) (drop (length front + 1) buffer))
    ∙ ap (λ len. (front ++ (0 ∷ [])) ++ drop len buffer) (sym (length-append front (0 ∷ [])))
