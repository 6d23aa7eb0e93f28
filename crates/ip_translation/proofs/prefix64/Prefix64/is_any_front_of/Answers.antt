use Rattle.std.proofs.Common.{ap, sym, ◌∙◌, take, nat_eq}
use Rattle.std.specs.Cmp.Lexicographic.{pointwise}
use Rattle.ip_translation.specs.Prefixes as specs
use Rattle.ip_translation.proofs.ListedLemmas.{whole}
use Rattle.ip_translation.proofs.prefix64.Prefix64.is_any_front_of.Goals as goal

pub returns-in-Bits32 : goal.returns-in-Bits32
returns-in-Bits32 c =
    c.eq.ensures
    ∙ ap (λ address. pointwise nat_eq (take 4 (specs.without_reserved address)) c.in-Bits32.start)
    (whole c.args.address.now 16 c.told-address)
    ∙ ap (λ prefix. pointwise nat_eq (take (specs.octet_count prefix) (specs.without_reserved c.args.address.now)) (specs.octets prefix))
    (sym c.in-Bits32.is)

pub returns-in-Bits40 : goal.returns-in-Bits40
returns-in-Bits40 c =
    c.eq-in-Bits40.ensures
    ∙ ap (λ address. pointwise nat_eq (take 5 (specs.without_reserved address)) c.in-Bits40.start)
    (whole c.args.address.now 16 c.told-address)
    ∙ ap (λ prefix. pointwise nat_eq (take (specs.octet_count prefix) (specs.without_reserved c.args.address.now)) (specs.octets prefix))
    (sym c.in-Bits40.is)

pub returns-in-Bits48 : goal.returns-in-Bits48
returns-in-Bits48 c =
    c.eq-in-Bits48.ensures
    ∙ ap (λ address. pointwise nat_eq (take 6 (specs.without_reserved address)) c.in-Bits48.start)
    (whole c.args.address.now 16 c.told-address)
    ∙ ap (λ prefix. pointwise nat_eq (take (specs.octet_count prefix) (specs.without_reserved c.args.address.now)) (specs.octets prefix))
    (sym c.in-Bits48.is)

pub returns-in-Bits56 : goal.returns-in-Bits56
returns-in-Bits56 c =
    c.eq-in-Bits56.ensures
    ∙ ap (λ address. pointwise nat_eq (take 7 (specs.without_reserved address)) c.in-Bits56.start)
    (whole c.args.address.now 16 c.told-address)
    ∙ ap (λ prefix. pointwise nat_eq (take (specs.octet_count prefix) (specs.without_reserved c.args.address.now)) (specs.octets prefix))
    (sym c.in-Bits56.is)

pub returns-in-Bits64 : goal.returns-in-Bits64
returns-in-Bits64 c =
    c.eq-in-Bits64.ensures
    ∙ ap (λ address. pointwise nat_eq (take 8 (specs.without_reserved address)) c.in-Bits64.start)
    (whole c.args.address.now 16 c.told-address)
    ∙ ap (λ prefix. pointwise nat_eq (take (specs.octet_count prefix) (specs.without_reserved c.args.address.now)) (specs.octets prefix))
    (sym c.in-Bits64.is)
