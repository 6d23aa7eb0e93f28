use Rattle.std.proofs.Common.{◌∙◌, ◌+◌, ◌<◌, ap, arith, rules}
use Rattle.word_sum.specs.Checksum.{folded}
use Rattle.word_sum.proofs.NumberLemmas.{total_shifted}
use Rattle.udp_part.proofs.udp_header.UdpHeader.sum_of_fields.Goals as goal

pub returns-clause-sum : goal.returns-clause-sum
returns-clause-sum c =
    let h = c.args.self.now in
    let source_port : h.source_port < 65536 = search rules in
    let destination_port : h.destination_port < 65536 = search rules in
    let length : h.length < 65536 = search rules in
    let words = c.from.result + c.from-2.result + c.from-3.result + c.from-4.result + c.from-5.result in
    rw (c.add_4bytes.ensures, c.to_le_bytes.ensures, c.new.ensures)
    (total_shifted words 0 (omega arith) ∙ ap folded (omega arith))
