use Rattle.std.specs.Prelude.{codes}
use Rattle.std.proofs.Common.{◌≡◌, ◌==◌, ◌∙◌, ◌∷◌, ap, arith, false}
use Rattle.std.proofs.lemmas.Result.{on_ok_weaker}
use Rattle.capture_json.specs.JsonSummary.{file_count_members}
use Rattle.capture_json.specs.Members.{whole_number}
use Rattle.capture_json.specs.Tokens.{object_ended, put, tokens_in, with_members}
use Rattle.capture_json.proofs.TokensLemmas.{nested}
use Rattle.capture_json.proofs.files.put_others.Goals as goal

-- the numbers in braces
pub returns : goal.returns
returns c =
    let numbers = file_count_members c.args.others in
    let files = whole_number c.args.other_files in
    let some : (c.args.other_files == 0) ≡ false = grind (arith, c.if-other_files-eq0.false) in
    on_ok_weaker c.end_object.result
    (λ ended. rw some (ended
    ∙ ap object_ended (c.in_ok-put_file_count.ensures
    ∙ ap (with_members numbers) (c.in_ok-put_number.ensures ∙ ap (put (codes "files") files) c.in_ok-begin_object.ensures))
    ∙ nested (codes "other_files") ((codes "files", files) ∷ numbers) (tokens_in c.args.line.now)))
    c.end_object.ensures
