use Rattle.std.proofs.Common.{◌≡◌, None, rules, arith}
use Rattle.std.proofs.lemmas.Grind.{common_steps}
use Rattle.std.proofs.lemmas.Option.{slice_get_past}
use Rattle.std.specs.Prelude.{Some, slice_index}
use Rattle.net_base.specs.Bytes.{be_number}
use Rattle.icmp_part.specs.Icmpv4Format.{dest_unreachable_formats, formats, parameter_problem_formats}
use Rattle.icmp_part.specs.MessageFormat.{codes_of, listed}
use Rattle.icmp_part.proofs.Icmpv4FormatLemmas.{icmp_type_of_listed, unlisted_is_unknown}
use Rattle.icmp_part.proofs.ListedLemmas.{listed_inside, listed_mapped}
use Rattle.icmp_part.proofs.icmpv4_slice.Icmpv4Slice.message.Goals as goal
use Rattle.icmp_part.proofs.icmpv4_slice.Icmpv4Slice.message.Goals.{in-0+else-code-eq0, in-3+in_default-from_values, in-5+in_default-from_u8, in-8+else-code-eq0-2, in-11+in_default-from_u8-2, in-12+in_default-from_values-2, in-13+else-code-eq0-3, in-14+else-code-eq0-4, in_default-1}

pub returns-in-Some : goal.returns-in-Some
returns-in-Some c =
    let mtu : be_number c.args.self.now 6 2 ≡ c.from_be_bytes-next_hop_mtu.result = search rules in
    let part : Some c.in-Some.header ≡ listed dest_unreachable_formats c.code_u8-code.result c.args.self.now =
    c.in-Some.ensures c.args.self.now mtu in
    grind (arith, common_steps, icmp_type_of_listed, listed_inside)

pub returns : goal.returns
returns c =
    let unlisted : listed (codes_of formats (slice_index c.args.self.now 0)) (slice_index c.args.self.now 1) c.args.self.now ≡ None =
    elim c.match-type_u8.branch [
      | in-0+else-code-eq0 w ↦ grind (arith, common_steps, slice_get_past, listed_mapped)
      | in-3+in_default-from_values w ↦
          let mtu : be_number c.args.self.now 6 2 ≡ w.from_be_bytes-next_hop_mtu.result = search rules in
          let part : w.from_values.result ≡ listed dest_unreachable_formats c.code_u8-code.result c.args.self.now =
          w.from_values.ensures c.args.self.now mtu in
          grind (arith, common_steps, listed_inside)
      | in-5+in_default-from_u8 w ↦ grind (arith, common_steps, slice_get_past, listed_mapped)
      | in-8+else-code-eq0-2 w ↦ grind (arith, common_steps, slice_get_past, listed_mapped)
      | in-11+in_default-from_u8-2 w ↦ grind (arith, common_steps, slice_get_past, listed_mapped)
      | in-12+in_default-from_values-2 w ↦
          let part : w.from_values-in-12.result ≡ listed parameter_problem_formats c.code_u8-code.result c.args.self.now = search rules in
          grind (arith, common_steps, listed_inside)
      | in-13+else-code-eq0-3 w ↦ grind (arith, common_steps, slice_get_past, listed_mapped)
      | in-14+else-code-eq0-4 w ↦ grind (arith, common_steps, slice_get_past, listed_mapped)
      | in_default-1 w ↦ grind (arith, common_steps, slice_get_past, listed_mapped)
    ] in
    unlisted_is_unknown c.args.self.now _ _ _ c.type_u8-2.ensures c.code_u8-code.ensures c.bytes5to8-2.ensures unlisted
