use Rattle.std.proofs.Common.{◌≡◌, ◌<◌, ◌∷◌, length, ap, arith, rules}
use Rattle.std.specs.Int.{to_be_bytes, w16}
use Rattle.net_base.specs.PseudoHeader.{ipv4_pseudo_header}
use Rattle.word_sum.specs.Checksum.{folded, total}
use Rattle.word_sum.proofs.ChecksumLemmas.{folded-some, folded_twice, total-append_twice}
use Rattle.net_base.proofs.pseudo_header.pseudo_header_ipv4.Goals as goal

pub returns-clause-sum : goal.returns-clause-sum
returns-clause-sum c =
    let even : length c.args.source ≡ 4 = search rules in
    let even_too : length c.args.destination ≡ 4 = search rules in
    let back = 0 ∷ c.args.protocol.0 ∷ to_be_bytes w16 c.args.len in
    let pseudo_header = total-append_twice c.args.source c.args.destination back (omega arith) (omega arith) in
    rw (c.add_2bytes-2.ensures, c.to_be_bytes.ensures, c.add_2bytes.ensures, c.add_4bytes-2.ensures, c.add_4bytes.ensures, c.new.ensures)
    (simp folded_twice (ap folded (omega arith)))

pub returns-clause-some : goal.returns-clause-some
returns-clause-some c = λ some.
    let even : length c.args.source ≡ 4 = search rules in
    let even_too : length c.args.destination ≡ 4 = search rules in
    let back = 0 ∷ c.args.protocol.0 ∷ to_be_bytes w16 c.args.len in
    let pseudo_header = total-append_twice c.args.source c.args.destination back (omega arith) (omega arith) in
    let there : 0 < total (ipv4_pseudo_header c.args.source c.args.destination c.args.protocol.0 c.args.len) =
    omega (arith, some, pseudo_header) in
    omega (
      arith,
      returns-clause-sum c,
      folded-some (total (ipv4_pseudo_header c.args.source c.args.destination c.args.protocol.0 c.args.len)) there,
    )
