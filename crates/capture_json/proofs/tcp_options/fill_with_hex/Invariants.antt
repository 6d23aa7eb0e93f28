use Rattle.std.proofs.Common.{◌≡◌, take}
use Rattle.capture_words.specs.Numbers.{hex_bytes}
use Rattle.capture_json.proofs.tcp_options.fill_with_hex.Given as goal

-- the digits so far were written
abbrev pub invariant-loop-byte : goal.invariant-loop-byte
invariant-loop-byte l = l.room.items ≡ hex_bytes (take l.byte-index l.bytes)
