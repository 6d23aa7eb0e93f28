use Rattle.std.proofs.Common.{◌≡◌, ℕ, List, Bool, Option, None, true, false, codes, length, nat_eq, refl, sym, take, ◌∙◌}
use Rattle.std.proofs.lemmas.Bool.Decides.{Decides-eqb}
use Rattle.std.proofs.lemmas.Slice.Eq.{slice_eq-Decides}
use Rattle.std.specs.Cmp.Lexicographic.{pointwise}
use Rattle.std.specs.Option.{option_or}
use Rattle.etherparse_transport.specs.Proto.{Proto}
use Rattle.etherparse_transport.specs.Proto.TheVariants.{Udp, Tcp, Icmpv4, Icmpv6}
use Rattle.pktprobe.specs.Report.{digits_after}
use Rattle.pktprobe.proofs.probe.request_of.Goals as goal

-- if bytes differ from a word, the word differs from the bytes
differ : (front word : List ℕ) (same : Bool) → pointwise nat_eq word front ≡ same → pointwise nat_eq front word ≡ false → same ≡ false
differ front word false test other = refl
differ front word true test other =
    let equal : word ≡ front = (slice_eq-Decides Decides-eqb word front true (sym test)).0 refl in
    sym ((slice_eq-Decides Decides-eqb front word (pointwise nat_eq front word) refl).1 (sym equal)) ∙ other

-- a line that does not begin with a word contains no digits after the word
no_digits : (word : List ℕ) (protocol : Proto) (line : List ℕ) → pointwise nat_eq (take (length word) line) word ≡ false
    → digits_after word protocol line ≡ None
no_digits word protocol line other = rw (differ (take (length word) line) word _ refl other) refl

-- if none of four requests is present, there is no request
no_request : {Request : Type 0} (first second third fourth : Option Request) → first ≡ None → second ≡ None → third ≡ None → fourth ≡ None
    → None ≡ option_or first (option_or second (option_or third fourth))
no_request first second third fourth a b c d = rw (a, b, c, d) refl

pub returns : goal.returns
returns c =
    let line = c.args.line.now in
    no_request _ _ _ _
    (no_digits (codes "udp ") Udp line c.in_default.ensures.cases)
    (no_digits (codes "tcp ") Tcp line c.in_default-strip_prefix.ensures.cases)
    (no_digits (codes "icmpv4 ") Icmpv4 line c.in_default-strip_prefix-2.ensures.cases)
    (no_digits (codes "icmpv6 ") Icmpv6 line c.in_default-strip_prefix-3.ensures.cases)
