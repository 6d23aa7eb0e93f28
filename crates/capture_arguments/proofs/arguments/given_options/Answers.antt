use Rattle.std.proofs.Common.{◌∙◌, ap, inl, inr, map, refl, string_bytes, subst, sym}
use Rattle.std.specs.Option.{option_map}
use Rattle.clap.specs.Words.{app_of}
use Rattle.capture_arguments.specs.Options.{IsRefusedBy}
use Rattle.capture_arguments.proofs.CommandLemmas.{matches_of_command_line, no_match, rejected_by_fault}
use Rattle.capture_arguments.proofs.arguments.given_options.Goals as goal

-- the options are read from the matches of the words
pub returns-in-Ok-options_of-clause-options : goal.returns-in-Ok-options_of-clause-options
returns-in-Ok-options_of-clause-options g c =
    let words = map (λ word. string_bytes word) c.args.words.now in
    let line = c.in_ok-command.ensures.line in
    let found = matches_of_command_line (app_of c.in_ok-command.command) words _ line c.in-Ok.ensures.matches c.in-Ok.ensures.kinds in (
      c.in-Ok.matches,
      (found, sym c.escaped_option.ensures ∙ ap (option_map (λ word. word.now)) c.in-None.is),
      c.in-Ok-options_of.ensures.options,
    )

-- clap refuses the words
pub returns-in-Err-clause-rejected : goal.returns-in-Err-clause-rejected
returns-in-Err-clause-rejected g c =
    no_match (g.M.Memory.ran_out c.args.memory.now) (g.M.Memory.refuses c.args.memory.now) (g.M.Memory.explains c.args.memory.now)
    (app_of c.in_ok-command.command) (map (λ word. string_bytes word) c.args.words.now) c.in-Err.error c.without_tips.result
    c.in_ok-command.ensures.line c.in-Err.ensures.passes c.in-Err.ensures.ran_out c.in-Err.ensures.kinds c.in-Err.ensures.refuses
    c.without_tips.ensures

-- an option is not UTF-8
pub returns-in-Some-clause-rejected : goal.returns-in-Some-clause-rejected
returns-in-Some-clause-rejected g c =
    let words = map (λ word. string_bytes word) c.args.words.now in
    let line = c.in_ok-command.ensures.line in
    let found = matches_of_command_line (app_of c.in_ok-command.command) words _ line c.in-Ok.ensures.matches c.in-Ok.ensures.kinds in
    rejected_by_fault (g.M.Memory.ran_out c.args.memory.now) (g.M.Memory.refuses c.args.memory.now) (g.M.Memory.explains c.args.memory.now)
    words _ _ c.invalid_option.result c.invalid_option.ensures
    (inl (refl, (c.in-Ok.matches, c.in-Some.word.now, found, sym c.in-Some.ensures, refl)))

-- two of the options are not used together
pub returns-in-Err-Conflict-clause-rejected : goal.returns-in-Err-Conflict-clause-rejected
returns-in-Err-Conflict-clause-rejected g c =
    let words = map (λ word. string_bytes word) c.args.words.now in
    let line = c.in_ok-command.ensures.line in
    let found = matches_of_command_line (app_of c.in_ok-command.command) words _ line c.in-Ok.ensures.matches c.in-Ok.ensures.kinds in
    let refusal = subst (IsRefusedBy (g.M.Memory.ran_out c.args.memory.now) c.in-Ok.matches) c.in-Err-Conflict.field-0-is
    c.in-Err-Conflict.ensures.refusal in
    rejected_by_fault (g.M.Memory.ran_out c.args.memory.now) (g.M.Memory.refuses c.args.memory.now) (g.M.Memory.explains c.args.memory.now)
    words _ _ c.invalid_pair.result c.invalid_pair.ensures
    (inr (inl (
      refl,
      (
        c.in-Ok.matches,
        c.in-Err-Conflict.first.now,
        c.in-Err-Conflict.second.now,
        (found, sym c.escaped_option.ensures ∙ ap (option_map (λ word. word.now)) c.in-None.is),
        refusal,
        refl,
      ),
    )))

-- the matches contain no choice
pub returns-in-Err-Choice-clause-rejected : goal.returns-in-Err-Choice-clause-rejected
returns-in-Err-Choice-clause-rejected g c =
    let words = map (λ word. string_bytes word) c.args.words.now in
    let line = c.in_ok-command.ensures.line in
    let found = matches_of_command_line (app_of c.in_ok-command.command) words _ line c.in-Ok.ensures.matches c.in-Ok.ensures.kinds in
    let refusal = subst (IsRefusedBy (g.M.Memory.ran_out c.args.memory.now) c.in-Ok.matches) c.in-Err-Choice.field-0-is
    c.in-Err-Choice.ensures.refusal in
    rejected_by_fault (g.M.Memory.ran_out c.args.memory.now) (g.M.Memory.refuses c.args.memory.now) (g.M.Memory.explains c.args.memory.now)
    words _ _ c.invalid_choice.result c.invalid_choice.ensures
    (inr (inr (inl (
      refl,
      (
        c.in-Ok.matches,
        c.in-Err-Choice.error,
        (found, sym c.escaped_option.ensures ∙ ap (option_map (λ word. word.now)) c.in-None.is),
        refusal.0,
        refusal.1,
        refl,
      ),
    ))))

-- the width of the intervals is wrong
pub returns-in-Err-Interval-clause-rejected : goal.returns-in-Err-Interval-clause-rejected
returns-in-Err-Interval-clause-rejected g c =
    let words = map (λ word. string_bytes word) c.args.words.now in
    let line = c.in_ok-command.ensures.line in
    let found = matches_of_command_line (app_of c.in_ok-command.command) words _ line c.in-Ok.ensures.matches c.in-Ok.ensures.kinds in
    let refusal = subst (IsRefusedBy (g.M.Memory.ran_out c.args.memory.now) c.in-Ok.matches) c.in-Err-Interval.field-0-is
    c.in-Err-Interval.ensures.refusal in
    rejected_by_fault (g.M.Memory.ran_out c.args.memory.now) (g.M.Memory.refuses c.args.memory.now) (g.M.Memory.explains c.args.memory.now)
    words _ _ c.invalid_interval.result c.invalid_interval.ensures
    (inr (inr (inr (inl (
      refl,
      (
        c.in-Ok.matches,
        c.in-Err-Interval.text.now,
        (found, sym c.escaped_option.ensures ∙ ap (option_map (λ word. word.now)) c.in-None.is),
        refusal.0,
        refusal.1.0,
        refusal.1.1,
        refl,
      ),
    )))))
