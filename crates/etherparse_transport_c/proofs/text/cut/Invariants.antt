use Rattle.std.proofs.Common.{take}
use Rattle.std.specs.List.{flat_map}
use Rattle.net_base.specs.TextParts.{part_text}
use Rattle.etherparse_transport_c.specs.Text.{IsCut}
use Rattle.etherparse_transport_c.proofs.text.cut.Given as goal

-- the text consists of the parts appended so far, truncated at its maximum length
abbrev pub invariant-loop-part : goal.invariant-loop-part
invariant-loop-part l = IsCut l.text.items (flat_map part_text (take l.part-index l.part-items))
