use Rattle.std.proofs.Common.{◌≡◌, take}
use Rattle.capture_json.specs.JsonFacts.{interfaces_data}
use Rattle.capture_json.specs.Tokens.{tokens_in, with_items}
use Rattle.capture_json.proofs.facts.push_interfaces.Given as goal

-- the interfaces so far were written
abbrev pub invariant-loop-number : goal.invariant-loop-number
invariant-loop-number l =
    tokens_in l.line ≡ with_items (interfaces_data l.texts 0 (take l.number l.interfaces)) (tokens_in l.initial.line)
