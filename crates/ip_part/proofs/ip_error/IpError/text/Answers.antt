use Rattle.std.proofs.Common.{sym, ap, ◌∙◌}
use Rattle.ip_part.specs.ErrorTexts.{ip_text}
use Rattle.net_base.specs.TextParts.{reads_as}
use Rattle.ip_part.proofs.ip_error.IpError.text.Goals as goal

pub returns-in-HeaderCutOff : goal.returns-in-HeaderCutOff
returns-in-HeaderCutOff c = ap reads_as c.from_parts.ensures ∙ sym (ap ip_text c.in-HeaderCutOff.is)

pub returns-in-PacketCutOff : goal.returns-in-PacketCutOff
returns-in-PacketCutOff c = ap reads_as c.from_parts-in-PacketCutOff.ensures ∙ sym (ap ip_text c.in-PacketCutOff.is)
