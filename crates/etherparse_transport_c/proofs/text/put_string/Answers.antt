use Rattle.std.proofs.Common.{◌≡◌, ◌==◌, ◌++◌, ◌-◌, ◌<◌, [], ◌∷◌, Bool, false, if◌then◌else◌, take, drop, length, length-take, slice_set, arith, sym, ap, ◌∙◌}
use Rattle.std.proofs.lemmas.Bool.Decides.{nat_tests}
use Rattle.etherparse_transport_c.specs.Errors.{at_front}
use Rattle.etherparse_transport_c.proofs.TextLemmas.{zero_after}
use Rattle.etherparse_transport_c.proofs.text.put_string.Goals as goal

pub returns-then-not-is_empty-clause-buffer : goal.returns-then-not-is_empty-clause-buffer
returns-then-not-is_empty-clause-buffer c =
    let buffer = c.args.buffer.now in
    let front = c.fitting-front.result.now in
    let text = c.args.text.now in
    let has_room : (length buffer == 0) ≡ false = sym c.is_empty.ensures ∙ c.if-not-is_empty.true in
    let within : length front < length buffer = grind (arith, nat_tests, length-take) in
    ap (λ bytes. slice_set (bytes ++ drop (length front) buffer) (length front) 0) c.copy_from_slice.ensures.after
    ∙ zero_after front buffer within
    ∙ ap (λ bytes. at_front (bytes ++ (0 ∷ [])) buffer) c.fitting-front.ensures
    ∙ sym (ap (λ (empty : Bool). if empty then buffer else at_front (take (length buffer - 1) text ++ (0 ∷ [])) buffer) has_room)
