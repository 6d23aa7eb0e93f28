use Rattle.std.proofs.Common.{◌≡◌, ℕ, ◌-◌, List, ◌++◌, length, take, drop, sym, ap, ◌∙◌, append_assoc, take-append-drop}
use Rattle.std.proofs.lemmas.List.{take_rest}
use Rattle.std.proofs.KnownBytes.{Appends-trans}
use Rattle.streams.proofs.write_whole.Goals as goal

-- after another write, a beginning of the rest belongs to what was written
moves_front : (text written rest : List ℕ) (n : ℕ) → text ≡ written ++ rest
    → text ≡ (written ++ take n rest) ++ take (length rest - n) (drop n rest)
moves_front text written rest n parts =
    parts
    ∙ ap (λ l. written ++ l) (sym (take-append-drop n rest))
    ∙ sym (append_assoc written (take n rest) (drop n rest))
    ∙ ap (λ l. (written ++ take n rest) ++ l) (sym (take_rest rest n))

pub loop-rest-preserved : goal.loop-rest-preserved
loop-rest-preserved g c =
    let (written, parts, appends) = c.loop-rest.invariant in
    let rest = c.loop-rest.rest.now in
    let n = c.in_ok-len.len in
    (written ++ take n rest, moves_front _ written rest n parts, Appends-trans _ _ _ _ _ appends c.in_ok-len.ensures.bytes)
