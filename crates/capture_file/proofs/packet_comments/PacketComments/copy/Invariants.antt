use Rattle.std.proofs.Common.{◌≡◌, take}
use Rattle.capture_file.proofs.packet_comments.PacketComments.copy.Given as goal

-- the texts so far were copied
abbrev pub invariant-loop-text : goal.invariant-loop-text
invariant-loop-text l = l.texts.items ≡ take l.text-index l.self.texts.items
