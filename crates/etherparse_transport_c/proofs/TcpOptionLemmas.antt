-- The bytes that the iterator over elements has left after a call of `next`.
use Rattle.std.proofs.Common.{◌≡◌, ℕ, ◌-◌, List, ◌++◌, length, take, drop, append_assoc, Option, None, Some, Ok, Err, ap, sym, ◌∙◌, subst}
use Rattle.std.proofs.lemmas.List.{take-append-drop}
use Rattle.tcp_part.specs.TcpOptions.{spelling}
use Rattle.tcp_part.specs.TcpOptionsReading.{Item, ReadsNext}
use Rattle.etherparse_transport_c.proofs.TcpRawOptionLemmas.{after_all, after_front}

seam : (options before after : List ℕ) (from : ℕ) (item : Option Item) → before ≡ drop from options → ReadsNext before item after
    → drop (length options - length after) options ≡ after
seam options before after from None is reads = after_all options after reads.1
seam options before after from (Some (Err error)) is reads = after_all options after reads.1
seam options before after from (Some (Ok element)) is reads =
    after_front options (take from options ++ spelling element) after
    (sym (take-append-drop from options) ∙ ap (λ b. take from options ++ b) (sym is ∙ reads.spelled)
    ∙ sym (append_assoc (take from options) (spelling element) after))

pub reads_from : (options before after : List ℕ) (from : ℕ) (item : Option Item) → before ≡ drop from options → ReadsNext before item after
    → ReadsNext (drop from options) item (drop (length options - length after) options)
reads_from options before after from item is reads =
    subst (λ b. ReadsNext b item (drop (length options - length after) options)) is
    (subst (λ a. ReadsNext before item a) (sym (seam options before after from item is reads)) reads)
