use Rattle.std.proofs.Common.{◌≡◌, ◌<◌, [], ◌∷◌, ◌++◌, length, ap, arith, rules}
use Rattle.std.specs.Int.{to_be_bytes, w32}
use Rattle.net_base.specs.PseudoHeader.{ipv6_pseudo_header}
use Rattle.word_sum.specs.Checksum.{folded, total}
use Rattle.word_sum.proofs.ChecksumLemmas.{folded-some, folded_twice, total-append_twice}
use Rattle.net_base.proofs.pseudo_header.pseudo_header_ipv6.Goals as goal

pub returns-clause-sum : goal.returns-clause-sum
returns-clause-sum c =
    let even : length c.args.source ≡ 16 = search rules in
    let even_too : length c.args.destination ≡ 16 = search rules in
    let back = to_be_bytes w32 c.args.len ++ (0 ∷ 0 ∷ 0 ∷ c.args.protocol.0 ∷ []) in
    let pseudo_header = total-append_twice c.args.source c.args.destination back (omega arith) (omega arith) in
    rw (c.add_16bytes-2.ensures, c.add_16bytes.ensures, c.add_4bytes-2.ensures, c.add_4bytes.ensures, c.to_be_bytes.ensures, c.new.ensures)
    (simp folded_twice (ap folded (omega arith)))

pub returns-clause-some : goal.returns-clause-some
returns-clause-some c = λ some.
    let even : length c.args.source ≡ 16 = search rules in
    let even_too : length c.args.destination ≡ 16 = search rules in
    let back = to_be_bytes w32 c.args.len ++ (0 ∷ 0 ∷ 0 ∷ c.args.protocol.0 ∷ []) in
    let pseudo_header = total-append_twice c.args.source c.args.destination back (omega arith) (omega arith) in
    let there : 0 < total (ipv6_pseudo_header c.args.source c.args.destination c.args.protocol.0 c.args.len) =
    omega (arith, some, pseudo_header) in
    omega (
      arith,
      returns-clause-sum c,
      folded-some (total (ipv6_pseudo_header c.args.source c.args.destination c.args.protocol.0 c.args.len)) there,
    )
