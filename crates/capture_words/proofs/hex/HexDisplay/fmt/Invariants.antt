use Rattle.std.proofs.Common.{take}
use Rattle.std.specs.Fmt.{HasWritten, IsPlainFormatter}
use Rattle.capture_words.specs.Numbers.{hex_bytes}
use Rattle.capture_words.proofs.hex.HexDisplay.fmt.Given as goal

-- the bytes so far were written
abbrev pub invariant-loop-byte : goal.invariant-loop-byte
invariant-loop-byte g l =
    IsPlainFormatter l.initial.f → HasWritten g.W.Write.write_str_gives l.initial.f (hex_bytes (take l.byte-index l.byte-items)) l.f
