use Rattle.std.proofs.Common.{◌≡◌, ◌+◌, ◌/◌, ◌%◌, ◌<◌, ap, ◌∙◌, arith, rules}
use Rattle.word_sum.specs.Checksum.{complement, folded, total}
use Rattle.word_sum.specs.SumValue.{sum_value}
use Rattle.word_sum.proofs.ChecksumLemmas.{folded_twice}
use Rattle.word_sum.proofs.NumberLemmas.{total_shifted}
use Rattle.tcp_part.proofs.ChecksumLemmas.{total-fields}
use Rattle.tcp_part.proofs.tcp_header.TcpHeader.checksum_post_ip.Goals as goal

pub returns-clause-sum : goal.returns-clause-sum
returns-clause-sum c =
    let h = c.args.self.now in
    let source_port : h.source_port < 65536 = search rules in
    let destination_port : h.destination_port < 65536 = search rules in
    let sequence_number : h.sequence_number < 4294967296 = search rules in
    let acknowledgment_number : h.acknowledgment_number < 4294967296 = search rules in
    let window_size : h.window_size < 65536 = search rules in
    let urgent_pointer : h.urgent_pointer < 65536 = search rules in
    let fields = total-fields h source_port destination_port sequence_number acknowledgment_number window_size urgent_pointer in
    let options : total c.options.result.now ≡ total h.options = ap total c.options.ensures.value in
    let words = c.from.result + c.from-2.result + c.from-3.result + c.from-4.result + c.from-5.result in
    let room : words < 16777216 = omega arith in
    let others = sum_value c.args.pseudo_header + (h.sequence_number / 65536 + h.sequence_number % 65536)
    + (h.acknowledgment_number / 65536 + h.acknowledgment_number % 65536) + (total h.options + total c.args.payload.now) in
    rw (
      c.ones_complement.ensures,
      c.add_slice.ensures.sum,
      c.add_options.ensures,
      c.add_4bytes-fields.ensures,
      c.add_4bytes-2.ensures,
      c.add_4bytes.ensures,
      c.to_le_bytes.ensures,
      c.to_be_bytes.ensures,
      c.to_be_bytes-2.ensures,
    )
    (simp folded_twice (ap complement (ap folded (omega arith) ∙ total_shifted words others room ∙ ap folded (omega arith))))
