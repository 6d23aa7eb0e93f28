use Rattle.std.proofs.Common.{◌≡◌, ◌++◌, List, Option}
use Rattle.capture_json.specs.JsonOptions.{AreOptionObjects}
use Rattle.capture_json.specs.Tokens.{tokens_in, with_items}
use Rattle.serde_json.specs.Data.{Data}
use Rattle.tcp_part.specs.declared.tcp_raw_option_error.TcpRawOptionError.{TcpRawOptionError}
use Rattle.capture_json.proofs.tcp_options.push_options.Given as goal

-- the objects so far, together with the objects of the rest, are the objects of all options
abbrev pub invariant-loop-option : goal.invariant-loop-option
invariant-loop-option l =
    goal.iterator-loop-option.can_next l.options
    × goal.iterator-loop-option.is_finite l.options
    × (values : List Data)
    × (tokens_in l.line ≡ with_items values (tokens_in l.initial.line))
    × (l.rest ≡ l.options)
    × ((more : List Data) (fault : Option TcpRawOptionError) → AreOptionObjects l.rest more fault
    → AreOptionObjects l.initial.rest (values ++ more) fault)
