use Rattle.std.proofs.Common.{◌++◌, ◌+◌, ◌/◌, ◌%◌, ◌≤◌, ◌<◌, ◌^◌, [], ◌∷◌, ap, subst, sym, ◌∙◌, rules}
use Rattle.std.proofs.lemmas.Fmt.{decimal_digit, decimal_step}
use Rattle.std.proofs.lemmas.List.{append_assoc}
use Rattle.std.specs.Fmt.{decimal}
use Rattle.etherparse_transport_c.specs.Text.{IsCut}
use Rattle.etherparse_transport_c.proofs.text.+put_number.Goals as goal

pub returns-then-number-lt10 : goal.returns-then-number-lt10
returns-then-number-lt10 d c before cut =
    subst (λ digits. IsCut c.put_digit.new.text.items (before ++ digits)) (sym (decimal_digit c.args.number (search rules)))
    (c.put_digit.ensures before cut)

pub returns : goal.returns
returns d c before cut =
    let n = c.args.number in
    let above : 10 ≤ n = search rules in
    let small : n < 2 ^ 64 = search rules in
    let front = decimal (n / 10) in
    let last = (48 + n % 10) ∷ [] in
    subst (λ whole. IsCut c.put_digit-2.new.text.items whole)
    (append_assoc before front last ∙ ap (λ digits. before ++ digits) (sym (decimal_step n above small)))
    (c.put_digit-2.ensures (before ++ front) (c.put_number.ensures before cut))
