use Rattle.std.proofs.Common.{◌≡◌, sym, ◌∙◌, rules}
use Rattle.icmp_part.specs.Icmpv4Format.{layout_of}
use Rattle.icmp_part.proofs.Icmpv4FormatLemmas.{header_len_of_others, header_len_of_timestamps, length_wire}
use Rattle.icmp_part.proofs.icmpv4_slice.header_len.Goals as goal

pub returns-in-13-clause-written : goal.returns-in-13-clause-written
returns-in-13-clause-written c =
    let layout : 20 ≡ (layout_of c.args.packet.now).header_len = search (rules, header_len_of_timestamps) in
    layout ∙ sym (length_wire c.args.packet.now (λ place. (c.type_inv.packet place).fits) c.requires)

pub returns-in_default-clause-written : goal.returns-in_default-clause-written
returns-in_default-clause-written c =
    let layout : 8 ≡ (layout_of c.args.packet.now).header_len = search (rules, header_len_of_others) in
    layout ∙ sym (length_wire c.args.packet.now (λ place. (c.type_inv.packet place).fits) c.requires)

pub returns-in_default-2-clause-written : goal.returns-in_default-2-clause-written
returns-in_default-2-clause-written c =
    let layout : 8 ≡ (layout_of c.args.packet.now).header_len = search (rules, header_len_of_others) in
    layout ∙ sym (length_wire c.args.packet.now (λ place. (c.type_inv.packet place).fits) c.requires)

pub returns-in_default-3-clause-written : goal.returns-in_default-3-clause-written
returns-in_default-3-clause-written c =
    let layout : 8 ≡ (layout_of c.args.packet.now).header_len = search (rules, header_len_of_others) in
    layout ∙ sym (length_wire c.args.packet.now (λ place. (c.type_inv.packet place).fits) c.requires)
