use Rattle.std.proofs.Common.{◌≡◌, refl, arith, rules}
use Rattle.net_base.specs.Bytes.{be_number}
use Rattle.transport_part.specs.Verdicts.{VerifiesUpTo}
use Rattle.transport_part.proofs.VerdictLemmas.{judged_wrong, stored_passes, verifies_expected, zero_fails}
use Rattle.transport_part.proofs.expected.judged.Goals as goal

pub returns-in-None : goal.returns-in-None
returns-in-None c = λ max_len pseudo_header_of within pseudo.
    (stored_passes max_len pseudo_header_of c.args.place c.args.packet.now _ _ _ c.requires.there c.requires.even within pseudo refl refl).0
    c.in-None.ensures

pub returns-in-Some : goal.returns-in-Some
returns-in-Some c = λ max_len pseudo_header_of within pseudo.
    let sum = c.in-Some.ensures.0 in
    let passes = stored_passes max_len pseudo_header_of c.args.place c.args.packet.now _ _ _ c.requires.there c.requires.even within pseudo
    refl refl in
    let stored : c.from_be_bytes-stored.result ≡ be_number c.args.packet.now c.args.place 2 = search (rules, arith) in
    judged_wrong (VerifiesUpTo max_len pseudo_header_of) c.args.place c.args.packet.now _ _ _ _ _ stored pseudo (
      λ valid. c.in-Some.ensures.1 (passes.1 valid),
      verifies_expected max_len pseudo_header_of c.args.place c.args.packet.now _ _ _ c.requires.there c.requires.even within pseudo sum
          c.ones_complement.ensures,
      λ most valid. zero_fails pseudo_header_of c.args.place c.args.packet.now _ _ _ c.requires.there pseudo sum c.ones_complement.ensures
          most valid.1,
    )
    c.wrong_or_partial.ensures
