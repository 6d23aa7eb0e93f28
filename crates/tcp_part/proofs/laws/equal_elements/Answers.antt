use Rattle.std.proofs.Common.{◌≡◌, ℕ, Bool, true, false, List, [], ◌∷◌, Option, None, Some, ap, refl, subst, rules}
use Rattle.std.specs.Prelude.{◌&&◌, IsTrue, nat_eq}
use Rattle.std.specs.Cmp.Lexicographic.{pointwise}
use Rattle.std.specs.Option.{option_eq}
use Rattle.std.specs.Cmp.Rules.{comparing}
use Rattle.tcp_part.specs.contracts.tcp_option_element.TcpOptionElementPartialEq.TheImpl as equal
use Rattle.tcp_part.specs.declared.tcp_option_element.TcpOptionElement.{TcpOptionElement}
use Rattle.tcp_part.specs.declared.tcp_option_element.TcpOptionElement.TheVariants.{Noop, MaximumSegmentSize, WindowScale, SelectiveAcknowledgementPermitted, SelectiveAcknowledgement, Timestamp}
use Rattle.tcp_part.proofs.laws.equal_elements.Goals as goal

-- two conditions that are both true
both : (x y : Bool) → IsTrue (x && y) → IsTrue x × IsTrue y
both true y is = (refl, is)
both false y is = cc

together : (x y : Bool) → IsTrue x → IsTrue y → IsTrue (x && y)
together x y is is_too = rw (is, is_too) refl

-- two numbers that are equal as a test are the same number
same_number : (x y : ℕ) → IsTrue (nat_eq x y) → x ≡ y
same_number x y is = search (comparing, rules)

same_pair : (x y : ℕ × ℕ) → IsTrue (nat_eq x.0 y.0 && nat_eq x.1 y.1) → x ≡ y
same_pair (a, b) (d, e) is =
    let parts = both _ _ is in
    let first = same_number a d parts.0 in
    let second = same_number b e parts.1 in
    cc

-- two pairs are equal
abbrev pair_eq : ℕ × ℕ → ℕ × ℕ → Bool
pair_eq x y = nat_eq x.0 y.0 && nat_eq x.1 y.1

same_blocks : (xs ys : List (Option (ℕ × ℕ))) → IsTrue (pointwise (option_eq pair_eq) xs ys) → xs ≡ ys
same_blocks [] [] is = refl
same_blocks [] (y ∷ ys) is = cc
same_blocks (x ∷ xs) [] is = cc
same_blocks (None ∷ xs) (None ∷ ys) is = ap (λ blocks. None ∷ blocks) (same_blocks xs ys is)
same_blocks (None ∷ xs) (Some y ∷ ys) is = cc
same_blocks (Some x ∷ xs) (None ∷ ys) is = cc
same_blocks (Some x ∷ xs) (Some y ∷ ys) is =
    let parts = both (pair_eq x y) (pointwise (option_eq pair_eq) xs ys) is in
    let first = same_pair x y parts.0 in
    let others = same_blocks xs ys parts.1 in
    cc

equal_pair : (x : ℕ × ℕ) → IsTrue (pair_eq x x)
equal_pair x = search (comparing, rules)

equal_blocks : (xs : List (Option (ℕ × ℕ))) → IsTrue (pointwise (option_eq pair_eq) xs xs)
equal_blocks [] = refl
equal_blocks (None ∷ xs) = equal_blocks xs
equal_blocks (Some x ∷ xs) = together (pair_eq x x) (pointwise (option_eq pair_eq) xs xs) (equal_pair x) (equal_blocks xs)

-- two elements that are equal as a test are the same element
same : (a b : TcpOptionElement) → IsTrue ((equal.ghosts).eq a b) → a ≡ b
same Noop Noop is = refl
same Noop (MaximumSegmentSize size_too) is = cc
same Noop (WindowScale shift_too) is = cc
same Noop SelectiveAcknowledgementPermitted is = cc
same Noop (SelectiveAcknowledgement first_too more_too) is = cc
same Noop (Timestamp value_too echo_too) is = cc
same (MaximumSegmentSize size) Noop is = cc
same (MaximumSegmentSize size) (MaximumSegmentSize size_too) is = ap MaximumSegmentSize (same_number size size_too is)
same (MaximumSegmentSize size) (WindowScale shift_too) is = cc
same (MaximumSegmentSize size) SelectiveAcknowledgementPermitted is = cc
same (MaximumSegmentSize size) (SelectiveAcknowledgement first_too more_too) is = cc
same (MaximumSegmentSize size) (Timestamp value_too echo_too) is = cc
same (WindowScale shift) Noop is = cc
same (WindowScale shift) (MaximumSegmentSize size_too) is = cc
same (WindowScale shift) (WindowScale shift_too) is = ap WindowScale (same_number shift shift_too is)
same (WindowScale shift) SelectiveAcknowledgementPermitted is = cc
same (WindowScale shift) (SelectiveAcknowledgement first_too more_too) is = cc
same (WindowScale shift) (Timestamp value_too echo_too) is = cc
same SelectiveAcknowledgementPermitted Noop is = cc
same SelectiveAcknowledgementPermitted (MaximumSegmentSize size_too) is = cc
same SelectiveAcknowledgementPermitted (WindowScale shift_too) is = cc
same SelectiveAcknowledgementPermitted SelectiveAcknowledgementPermitted is = refl
same SelectiveAcknowledgementPermitted (SelectiveAcknowledgement first_too more_too) is = cc
same SelectiveAcknowledgementPermitted (Timestamp value_too echo_too) is = cc
same (SelectiveAcknowledgement first more) Noop is = cc
same (SelectiveAcknowledgement first more) (MaximumSegmentSize size_too) is = cc
same (SelectiveAcknowledgement first more) (WindowScale shift_too) is = cc
same (SelectiveAcknowledgement first more) SelectiveAcknowledgementPermitted is = cc
same (SelectiveAcknowledgement first more) (SelectiveAcknowledgement first_too more_too) is =
    let parts = both _ _ is in
    let one : first ≡ first_too = same_pair first first_too parts.0 in
    let others = same_blocks more more_too parts.1 in
    cc
same (SelectiveAcknowledgement first more) (Timestamp value_too echo_too) is = cc
same (Timestamp value echo) Noop is = cc
same (Timestamp value echo) (MaximumSegmentSize size_too) is = cc
same (Timestamp value echo) (WindowScale shift_too) is = cc
same (Timestamp value echo) SelectiveAcknowledgementPermitted is = cc
same (Timestamp value echo) (SelectiveAcknowledgement first_too more_too) is = cc
same (Timestamp value echo) (Timestamp value_too echo_too) is =
    let parts = both (nat_eq value value_too) (nat_eq echo echo_too) is in
    let first = same_number value value_too parts.0 in
    let second = same_number echo echo_too parts.1 in
    cc

equal_self : (a : TcpOptionElement) → IsTrue ((equal.ghosts).eq a a)
equal_self Noop = refl
equal_self (MaximumSegmentSize size) = search (comparing, rules)
equal_self (WindowScale shift) = search (comparing, rules)
equal_self SelectiveAcknowledgementPermitted = refl
equal_self (SelectiveAcknowledgement first more) =
    together (pair_eq first first) (pointwise (option_eq pair_eq) more more) (equal_pair first) (equal_blocks more)
equal_self (Timestamp value echo) = search (comparing, rules)

pub returns : goal.returns
returns c =
    rw c.eq.ensures record {
      same = (same c.args.a.now c.args.b.now, λ e. subst (λ b. IsTrue ((equal.ghosts).eq c.args.a.now b)) e (equal_self c.args.a.now));
    }
