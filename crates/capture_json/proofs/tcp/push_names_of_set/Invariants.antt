use Rattle.std.proofs.Common.{◌≡◌, map, take}
use Rattle.capture_json.specs.Tokens.{tokens_in, with_items}
use Rattle.serde_json.specs.Data.{string}
use Rattle.capture_json.specs.JsonPacket.{names_of_set}
use Rattle.capture_json.proofs.tcp.push_names_of_set.Given as goal

-- the names so far were written
abbrev pub invariant-loop-flag : goal.invariant-loop-flag
invariant-loop-flag l =
    tokens_in l.line ≡ with_items (map string (names_of_set (λ flag. (flag.0, flag.1.now)) (take l.flag-index l.flags)))
    (tokens_in l.initial.line)
