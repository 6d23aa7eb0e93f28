use Rattle.std.proofs.Common.{◌≡◌, ◌∷◌, length, ap, arith, rules}
use Rattle.std.specs.Int.{to_be_bytes, w16}
use Rattle.word_sum.specs.Checksum.{complement, folded, zero_as_all_ones}
use Rattle.word_sum.proofs.ChecksumLemmas.{folded_twice, total-append_twice}
use Rattle.udp_part.proofs.udp_header.UdpHeader.calc_checksum_ipv4_internal.Goals as goal

pub returns : goal.returns
returns c =
    let even : length c.args.source ≡ 4 = search rules in
    let even_too : length c.args.destination ≡ 4 = search rules in
    let after = 0 ∷ 17 ∷ to_be_bytes w16 c.args.self.now.length in
    let pseudo_header = total-append_twice c.args.source c.args.destination after (omega arith) (omega arith) in
    rw (
      c.to_ones_complement_with_no_zero.ensures,
      c.add_slice.ensures.sum,
      c.add_4bytes-2.ensures,
      c.add_4bytes.ensures,
      c.sum_of_fields.ensures.sum,
    )
    (simp folded_twice (ap (λ n. zero_as_all_ones (complement (folded n))) (omega (arith, c.sum_of_fields.ensures.fits))))
