use Rattle.std.proofs.Common.{◌≡◌, take}
use Rattle.capture_json.specs.Words.{with_underscores}
use Rattle.capture_json.proofs.text.fill_with_underscores.Given as goal

-- the bytes so far were written
abbrev pub invariant-loop-byte : goal.invariant-loop-byte
invariant-loop-byte l = l.room.items ≡ with_underscores (take l.byte-index l.word)
