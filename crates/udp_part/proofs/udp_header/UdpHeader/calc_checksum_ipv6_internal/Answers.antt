use Rattle.std.proofs.Common.{◌≡◌, [], ◌∷◌, ◌++◌, length, ap, arith, rules}
use Rattle.std.specs.Int.{to_be_bytes, w32}
use Rattle.word_sum.specs.Checksum.{complement, folded, zero_as_all_ones}
use Rattle.word_sum.proofs.ChecksumLemmas.{folded_twice, total-append_twice}
use Rattle.udp_part.proofs.udp_header.UdpHeader.calc_checksum_ipv6_internal.Goals as goal

pub returns : goal.returns
returns c =
    let even : length c.args.source ≡ 16 = search rules in
    let even_too : length c.args.destination ≡ 16 = search rules in
    let after = to_be_bytes w32 c.args.self.now.length ++ (0 ∷ 0 ∷ 0 ∷ 17 ∷ []) in
    let pseudo_header = total-append_twice c.args.source c.args.destination after (omega arith) (omega arith) in
    rw (
      c.to_ones_complement_with_no_zero.ensures,
      c.add_slice.ensures.sum,
      c.add_16bytes-2.ensures,
      c.add_16bytes.ensures,
      c.sum_of_fields.ensures.sum,
    )
    (simp folded_twice (ap (λ n. zero_as_all_ones (complement (folded n))) (omega (arith, c.sum_of_fields.ensures.fits))))
