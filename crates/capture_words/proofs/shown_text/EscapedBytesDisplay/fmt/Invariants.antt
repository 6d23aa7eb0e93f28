use Rattle.std.proofs.Common.{take}
use Rattle.std.specs.Fmt.{HasWritten, IsPlainFormatter}
use Rattle.std.specs.List.{flat_map}
use Rattle.capture_words.specs.ShownText.{escaped_byte}
use Rattle.capture_words.proofs.shown_text.EscapedBytesDisplay.fmt.Given as goal

-- the bytes so far were written
abbrev pub invariant-loop-byte : goal.invariant-loop-byte
invariant-loop-byte g l =
    IsPlainFormatter l.initial.f
    → HasWritten g.W.Write.write_str_gives l.initial.f (flat_map escaped_byte (take l.byte-index l.fn.self.0.now)) l.f
