use Rattle.std.proofs.Common.{◌∷◌, ◌++◌, ◌∙◌, [], Err, ap, arith, length, length-append, refl, rules, take}
use Rattle.std.proofs.lemmas.List.{map-append}
use Rattle.capture_arguments.proofs.WordLemmas.{arguments-push, next_too_long, too_many}
use Rattle.capture_arguments.proofs.words.words_of.Goals as goal

-- before the first argument
pub loop-place-init : goal.loop-place-init
loop-place-init g c = ([], tt, refl, search rules, search rules)

-- the invariant holds after another argument
pub loop-place-preserved : goal.loop-place-preserved
loop-place-preserved g c =
    let (arguments, are, place, room, words) = c.loop-place.invariant in
    let bytes = take c.in-Ok.len c.argument.new.buffer in (
      arguments ++ bytes ∷ [],
      arguments-push (g.A.Arguments.holds c.args.arguments.now) 0 c.loop-place.place arguments bytes are
          (omega (arith, place)) c.in-Ok.ensures.given,
      omega (arith, place, length-append arguments (bytes ∷ [])),
      c.argument.auto.buffer ∙ room,
      rw c.in_ok-push-in-Ok.ensures.items (simp (map-append, words, c.in_ok-word_of-in-Ok.ensures.word) refl),
    )

-- an argument is too long
pub returns-in-Err-TooLong-clause-refusal : goal.returns-in-Err-TooLong-clause-refusal
returns-in-Err-TooLong-clause-refusal g c =
    let (arguments, are, place, room, words) = c.loop-place.invariant in
    next_too_long _ _ _ _ arguments c.loop-place.place (length c.loop-place.room) are place room
    (c.in-Err-TooLong.ensures.long (ap Err c.in-Err-TooLong.field-0-is)) (search rules)

-- there are too many arguments
pub returns-clause-refusal : goal.returns-clause-refusal
returns-clause-refusal g c =
    let (arguments, are, place, room, words) = c.loop-place.invariant in
    too_many _ _ _ _ arguments are (omega (arith, place, c.loop-place-test.false, c.loop-place.auto.place-end)) (search rules)
