use Rattle.std.proofs.Common.{◌≡◌, ◌-◌, ◌≤◌, ◌++◌, ℕ, List, arith, ap, ◌∙◌, drop, length, length-append, length-drop, length-take, length-take-le, take}
use Rattle.std.proofs.lemmas.List.{take_at}
use Rattle.streams.proofs.FillLemmas.{length-written, take-written}
use Rattle.streams.proofs.fill_behind.Goals as goal

pub returns-clause-fills : goal.returns-clause-fills
returns-clause-fills g c =
    let first : List ℕ = c.args.first.now in
    let copied : List ℕ = c.copy_from_slice.new.self in
    let old : List ℕ = copied ++ drop (length first) c.args.buffer.now in
    let part : List ℕ = c.fill.new.buffer in
    let count : ℕ = c.in_ok-len.len in
    let front : length first ≤ length old =
    omega (arith, ap length c.copy_from_slice.ensures.after, length-append copied (drop (length first) c.args.buffer.now)) in
    let room : length part ≡ length old - length first =
    omega (arith, c.fill.auto.buffer, length-take {A = ℕ}, length-drop {A = ℕ}, length-append {A = ℕ}) in
    let fits : count ≤ length part = c.in_ok-len.ensures.len in
    record {
      bytes = take count part;
      consumed = c.in_ok-len.ensures.consumed;
      whole = take-written (length first) _ count old part front fits
          ∙ ap (λ l. l ++ take count part)
          (take_at copied (drop (length first) c.args.buffer.now) (length first) (ap length c.copy_from_slice.ensures.after)
          ∙ c.copy_from_slice.ensures.after);
      has_len = omega (arith, length-take-le count part fits);
      within = length-written (length first) _ count old part front fits;
      end = λ short. c.in_ok-len.ensures.end
          (omega (arith, short, room, front, length-take {A = ℕ}, length-drop {A = ℕ}, length-append {A = ℕ}));
    }
