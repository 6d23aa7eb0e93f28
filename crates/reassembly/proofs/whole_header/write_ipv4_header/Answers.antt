use Rattle.std.proofs.Common.{length, sym, ◌∙◌, ap, arith}
use Rattle.std.proofs.lemmas.List.{length-take-le, take_rest}
use Rattle.reassembly.proofs.WholeHeaderLemmas.{ipv4_header_written}
use Rattle.reassembly.proofs.whole_header.write_ipv4_header.Goals as goal

pub copy_from_slice-requires : goal.copy_from_slice-requires
copy_from_slice-requires c =
    length-take-le 12 c.args.written.now (omega (arith, c.requires.shortest, c.requires.len)) ∙ sym (ap length c.front_with_checksum.ensures)

pub returns-clause-header : goal.returns-clause-header
returns-clause-header c =
    ipv4_header_written c.args.written.now c.args.header.now c.copy_from_slice.new.self c.copy_from_slice-2.new.self
    c.copy_from_slice-3.new.self c.args.total_len c.checksum_of-checksum.result
    (c.copy_from_slice.ensures.after ∙ c.front_with_checksum.ensures) (c.copy_from_slice-2.ensures.after ∙ take_rest c.args.header.now 12)
    c.checksum_of-checksum.ensures
    (c.copy_from_slice-3.ensures.after ∙ c.front_with_checksum-2.ensures)
