use Rattle.std.proofs.Common.{◌≡◌, None, arith}
use Rattle.std.proofs.lemmas.Grind.{common_steps}
use Rattle.std.proofs.lemmas.Option.{slice_get_past}
use Rattle.std.specs.Prelude.{slice_index}
use Rattle.icmp_part.specs.Icmpv6Format.{formats}
use Rattle.icmp_part.specs.MessageFormat.{codes_of, listed}
use Rattle.icmp_part.proofs.Icmpv6FormatLemmas.{icmp_type_of_listed, unlisted_is_unknown}
use Rattle.icmp_part.proofs.ListedLemmas.{listed_mapped}
use Rattle.icmp_part.proofs.icmpv6_slice.Icmpv6Slice.message.Goals as goal
use Rattle.icmp_part.proofs.icmpv6_slice.Icmpv6Slice.message.Goals.{in-1+in_default-from_u8, in-2+else-code-eq0, in-3+in_default-from_u8-2, in-4+in_default-from_u8-3, in-128+else-code-eq0-2, in-129+else-code-eq0-3, in-133+else-code-eq0-4, in-134+else-code-eq0-5, in-135+else-code-eq0-6, in-136+else-code-eq0-7, in-137+else-code-eq0-8, in_default-1}

pub returns : goal.returns
returns c =
    let unlisted : listed (codes_of formats (slice_index c.args.self.now 0)) (slice_index c.args.self.now 1) c.args.self.now ≡ None =
    elim c.match-type_u8.branch [
      | in-1+in_default-from_u8 w ↦ grind (arith, common_steps, slice_get_past, listed_mapped)
      | in-2+else-code-eq0 w ↦ grind (arith, common_steps, slice_get_past, listed_mapped)
      | in-3+in_default-from_u8-2 w ↦ grind (arith, common_steps, slice_get_past, listed_mapped)
      | in-4+in_default-from_u8-3 w ↦ grind (arith, common_steps, slice_get_past, listed_mapped)
      | in-128+else-code-eq0-2 w ↦ grind (arith, common_steps, slice_get_past, listed_mapped)
      | in-129+else-code-eq0-3 w ↦ grind (arith, common_steps, slice_get_past, listed_mapped)
      | in-133+else-code-eq0-4 w ↦ grind (arith, common_steps, slice_get_past, listed_mapped)
      | in-134+else-code-eq0-5 w ↦ grind (arith, common_steps, slice_get_past, listed_mapped)
      | in-135+else-code-eq0-6 w ↦ grind (arith, common_steps, slice_get_past, listed_mapped)
      | in-136+else-code-eq0-7 w ↦ grind (arith, common_steps, slice_get_past, listed_mapped)
      | in-137+else-code-eq0-8 w ↦ grind (arith, common_steps, slice_get_past, listed_mapped)
      | in_default-1 w ↦ grind (arith, common_steps, slice_get_past, listed_mapped)
    ] in
    unlisted_is_unknown c.args.self.now _ _ _ c.type_u8-2.ensures c.code_u8-code.ensures c.bytes5to8-2.ensures unlisted

pub returns-in-134 : goal.returns-in-134
returns-in-134 c = grind (arith, common_steps, icmp_type_of_listed, listed_mapped)
