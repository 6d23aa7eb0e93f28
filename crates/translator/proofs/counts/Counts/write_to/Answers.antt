use Rattle.std.specs.List.{flat_map}
use Rattle.translator.proofs.CountLemmas.{four_parts}
use Rattle.translator.specs.Outcomes.{all_reasons, counted_line, packets_line, protocol_lines, refusal_line}
use Rattle.translator.proofs.counts.Counts.write_to.Goals as goal

-- the parts of the text were written one after the other
pub returns : goal.returns
returns g c =
    let counts = c.args.self.now in
    four_parts _ _ _ _ _ (packets_line counts) (flat_map (counted_line counts) all_reasons) (refusal_line counts)
    (protocol_lines 0 counts.by_protocol) _ c.in_ok-writeln.ensures.bytes c.in_ok-write_reasons.ensures c.in_ok-write_refusal.ensures
    c.write_protocols.ensures
