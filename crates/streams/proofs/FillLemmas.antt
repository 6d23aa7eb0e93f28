-- The buffer after a read into its bytes from a place on.
use Rattle.std.proofs.Common.{◌≡◌, ℕ, ◌+◌, ◌≤◌, List, ◌++◌, arith, length, take, sym, ap, ◌∙◌, length-append, length-take-le}
use Rattle.std.proofs.Math.Seq.{take-append-add}
use Rattle.std.proofs.lemmas.List.{take-append-le}
use borrow.Rule.Slice.PartMut.{put_mid, post_of}

-- after a write from place `from` on, the first `from + count` bytes are the old front and the written bytes
pub take-written : (from room count : ℕ) (old part : List ℕ) → from ≤ length old → count ≤ length part
    → take (from + count) (put_mid from room old part) ≡ take from old ++ take count part
take-written from room count old part within fits =
    let after = post_of from room old in
    ap (λ n. take (n + count) (take from old ++ (part ++ after))) (sym (length-take-le from old within))
    ∙ take-append-add (take from old) (part ++ after) count
    ∙ ap (λ l. take from old ++ l) (take-append-le count part after fits)

-- after a write, the front has at least this length
pub length-written : (from room count : ℕ) (old part : List ℕ) → from ≤ length old → count ≤ length part
    → from + count ≤ length (put_mid from room old part)
length-written from room count old part within fits =
    let after = post_of from room old in
    omega (arith, length-append (take from old) (part ++ after), length-append part after, length-take-le from old within)
