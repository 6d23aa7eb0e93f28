-- Lemmas on records as lists of bytes: the length of a record is in its header, so the bytes after it change nothing.
use Rattle.std.proofs.Common.{◌≡◌, ℕ, zero, suc, ◌+◌, ◌≤◌, List, ◌++◌, arith, length, take, refl, sym, ap, ◌∙◌, length-append}
use Rattle.std.proofs.lemmas.List.{append_cancel_left, get_or_append_left, take_at}
use Rattle.net_base.specs.Bytes.{be_number}
use Rattle.capture_file.specs.Classic.{record_header, record_len, IsPartial, IsRecord}
use Rattle.capture_numbers.specs.Numbers.{le_number, number_at}
use Rattle.capture_numbers.specs.declared.byte_order.ByteOrder.{ByteOrder}

-- a number in the first bytes is the number in all bytes at its place
pub be_number_front : (count : ℕ) (first more : List ℕ) (from : ℕ) → from + count ≤ length first
    → be_number (first ++ more) from count ≡ be_number first from count
be_number_front zero first more from within = refl
be_number_front (suc count) first more from within = grind (arith, be_number_front count first more from, get_or_append_left)

le_number_front : (count : ℕ) (first more : List ℕ) (from : ℕ) → from + count ≤ length first
    → le_number (first ++ more) from count ≡ le_number first from count
le_number_front zero first more from within = refl
le_number_front (suc count) first more from within = grind (arith, le_number_front count first more from, get_or_append_left)

pub number_at_front : (order : ByteOrder) (first more : List ℕ) (place : ℕ) → place + 4 ≤ length first
    → number_at order (first ++ more) place ≡ number_at order first place
number_at_front order first more place within = grind (arith, be_number_front 4 first more place, le_number_front 4 first more place)

-- the header of a record depends only on its first bytes
pub record_header_front : (order : ByteOrder) (first more : List ℕ) → 16 ≤ length first
    → record_header order (first ++ more) ≡ record_header order first
record_header_front order first more within = grind (arith, number_at_front)

-- the length of a record depends only on its first bytes
pub record_len_front : (order : ByteOrder) (first more : List ℕ) → 16 ≤ length first
    → record_len order (first ++ more) ≡ record_len order first
record_len_front order first more within = ap (λ n. 16 + n) (number_at_front order first more 8 (omega arith))

-- bytes that begin with a record are not a partial record
pub not_partial : (order : ByteOrder) (first more : List ℕ) → IsRecord order first → IsPartial order (first ++ more) → ⊥
not_partial order first more is_record partial = grind (arith, record_len_front, length-append)

-- two records at the front of the same bytes are the same record, and the same bytes follow it
pub same_record : (order : ByteOrder) (a b x y : List ℕ) → IsRecord order a → IsRecord order b → a ++ x ≡ b ++ y → (a ≡ b) × (x ≡ y)
same_record order a b x y first second same =
    let lengths : length a ≡ length b =
    first ∙ sym (record_len_front order a x (omega (arith, first))) ∙ ap (record_len order) same
    ∙ record_len_front order b y (omega (arith, second)) ∙ sym second in
    let equal : a ≡ b = sym (take_at a x (length b) lengths) ∙ ap (take (length b)) same ∙ take_at b y (length b) refl in
    (equal, append_cancel_left b x y (ap (λ l. l ++ x) (sym equal) ∙ same))
