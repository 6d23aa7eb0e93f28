-- The bytes that the iterator over options of any kind has left after a call of `next`.
use Rattle.std.proofs.Common.{◌≡◌, ℕ, ◌-◌, List, [], ◌++◌, length, take, drop, length-append, drop_of_length-le, append_assoc, Option, None, Some, Ok, Err, sym, ap, ◌∙◌, subst, arith}
use Rattle.std.proofs.Math.Seq.{drop-append_seam}
use Rattle.std.proofs.lemmas.List.{take-append-drop}
use Rattle.tcp_part.specs.TcpRawOptions.{RawItem, ReadsRawNext, raw_spelling}

-- if bytes begin with `front`, the bytes after `front` are the last bytes
pub after_front : (options front after : List ℕ) → options ≡ front ++ after → drop (length options - length after) options ≡ after
after_front options front after whole =
    let len : length options - length after ≡ length front = omega (arith, ap length whole, length-append front after) in
    rw len (ap (drop (length front)) whole ∙ drop-append_seam front after)

pub after_all : (options after : List ℕ) → after ≡ [] → drop (length options - length after) options ≡ after
after_all options after none = rw none (drop_of_length-le options (omega arith))

seam : (options before after : List ℕ) (from : ℕ) (item : Option RawItem) → before ≡ drop from options → ReadsRawNext before item after
    → drop (length options - length after) options ≡ after
seam options before after from None is reads = after_all options after reads.1
seam options before after from (Some (Err error)) is reads = after_all options after reads.1
seam options before after from (Some (Ok option)) is reads =
    after_front options (take from options ++ raw_spelling option) after
    (sym (take-append-drop from options) ∙ ap (λ b. take from options ++ b) (sym is ∙ reads.spelled)
    ∙ sym (append_assoc (take from options) (raw_spelling option) after))

pub reads_from : (options before after : List ℕ) (from : ℕ) (item : Option RawItem) → before ≡ drop from options
    → ReadsRawNext before item after
    → ReadsRawNext (drop from options) item (drop (length options - length after) options)
reads_from options before after from item is reads =
    subst (λ b. ReadsRawNext b item (drop (length options - length after) options)) is
    (subst (λ a. ReadsRawNext before item a) (sym (seam options before after from item is reads)) reads)
