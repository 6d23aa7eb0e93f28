use Rattle.std.proofs.Common.{◌≡◌, ℕ, ◌+◌, ◌-◌, List, [], ◌++◌, length, take, drop, append_assoc, length-append, refl, sym, ap, ◌∙◌, arith, rules}
use Rattle.std.proofs.lemmas.List.{append-nil, drop-drop, drop_all, drop_at, take_all, take_at}
use borrow.Rule.Slice.PartMut.{put_mid}
use Rattle.tcp_part.specs.TcpFormat.{wire}
use Rattle.tcp_part.proofs.tcp_header.TcpHeader.write_to_slice.Goals as goal

-- The slice contains the header after the fields and then the options were written, and the bytes after the header are
-- unchanged.
written_after_fields : (fields options old part header : List ℕ) (from count : ℕ) → length fields ≡ from
    → count ≡ length (fields ++ drop from old) - from
    → part ≡ options ++ drop (length options) (take count (drop from (fields ++ drop from old))) → fields ++ options ≡ header
    → put_mid from count (fields ++ drop from old) part ≡ header ++ drop (length header) old
written_after_fields fields options old part header from count len counted lent whole =
    let rest = drop from old in
    let all : count ≡ length rest = omega (arith, length-append fields rest) in
    let tail : drop from (fields ++ rest) ≡ rest = drop_at fields rest from len in
    let taken : take count (drop from (fields ++ rest)) ≡ rest = ap (λ b. take count b) tail ∙ take_all count rest (omega arith) in
    let nothing : drop count (drop from (fields ++ rest)) ≡ [] = ap (λ b. drop count b) tail ∙ drop_all count rest (omega arith) in
    let written : part ≡ options ++ drop (length options) rest = lent ∙ ap (λ b. options ++ drop (length options) b) taken in
    let header_len : length header ≡ from + length options =
    sym (ap length whole) ∙ length-append fields options ∙ ap (λ n. n + length options) len in
    let after : drop (length options) rest ≡ drop (length header) old =
    drop-drop (length options) from old ∙ ap (λ n. drop n old) (sym header_len) in
    ap (λ b. b ++ (part ++ drop count (drop from (fields ++ rest)))) (take_at fields rest from len)
    ∙ ap (λ b. fields ++ (part ++ b)) nothing
    ∙ ap (λ b. fields ++ b) (append-nil part ∙ written)
    ∙ sym (append_assoc fields options (drop (length options) rest))
    ∙ ap (λ b. b ++ drop (length options) rest) whole
    ∙ ap (λ b. header ++ b) after

pub returns-clause-written : goal.returns-clause-written
returns-clause-written c =
    let len : length c.copy_from_slice.new.self ≡ 20 = search rules in
    let whole : c.copy_from_slice.new.self ++ c.options-options.result.now ≡ wire c.args.self.now = search rules in
    written_after_fields c.copy_from_slice.new.self c.options-options.result.now c.args.slice.now c.write_options.new.slice
    (wire c.args.self.now) 20 _
    len refl c.write_options.ensures whole

pub returns-then-slice-len-clause-refused : goal.returns-then-slice-len-clause-refused
returns-then-slice-len-clause-refused c = search rules
