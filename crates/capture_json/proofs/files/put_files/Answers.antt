use Rattle.std.specs.Prelude.{codes}
use Rattle.std.proofs.Common.{◌≡◌, ◌==◌, ◌∙◌, ◌∷◌, [], List, ap, ap₂, false, length, map, refl, sym, true, ℕ}
use Rattle.std.proofs.lemmas.List.{length-map}
use Rattle.std.proofs.lemmas.Result.{on_ok_weaker}
use Rattle.capture_summary.specs.Files.{Files}
use Rattle.capture_summary.specs.declared.file_count.FileCount.{FileCount}
use Rattle.capture_summary.specs.declared.file_table.FileRow.{FileRow}
use Rattle.capture_json.specs.JsonSummary.{file_data, files_members, others_members}
use Rattle.capture_json.specs.Members.{array_of}
use Rattle.capture_json.specs.Tokens.{tokens_in, with_members}
use Rattle.capture_json.proofs.files.put_files.Goals as goal

-- the objects of rows, from the rows with their names
objects : {X : Type 0} (named : X → List ℕ × FileCount) (rows : List X)
    → map (λ row. file_data (named row)) rows ≡ map file_data (map named rows)
objects named [] = refl
objects named (row ∷ rows) = ap (λ others. file_data (named row) ∷ others) (objects named rows)

-- a table without rows has no members
without_rows : {X : Type 0} (named : X → List ℕ × FileCount) (rows : List X) (files : Files) → map named rows ≡ files.rows
    → (length rows == 0) ≡ true → files_members files ≡ []
without_rows named rows files is none = rw (sym is, length-map rows named, none) refl

-- the members of a table with rows
with_rows : {X : Type 0} (named : X → List ℕ × FileCount) (rows : List X) (files : Files) → map named rows ≡ files.rows
    → (length rows == 0) ≡ false
    → (codes "files", array_of (map (λ row. file_data (named row)) rows)) ∷ others_members files.other_files files.others
    ≡ files_members files
with_rows named rows files is some =
    ap (λ items. (codes "files", array_of items) ∷ others_members files.other_files files.others) (objects named rows)
    ∙ rw (sym is, length-map rows named, some) refl

pub returns-then-is_empty : goal.returns-then-is_empty
returns-then-is_empty c =
    ap (λ members. with_members members (tokens_in c.args.line.now))
    (sym (without_rows (λ (row : FileRow). (row.name.now, row.count)) c.rows-rows.result.now c.args.files.now c.rows-rows.ensures
    (sym c.is_empty.ensures ∙ c.if-is_empty.true)))

pub returns : goal.returns
returns c =
    let files = c.args.files.now in
    on_ok_weaker c.put_others.result
    (λ others. others
    ∙ ap₂ (λ number count. with_members (others_members number count) (tokens_in c.put_rows.new.line)) c.other_files.ensures
    c.others.ensures
    ∙ ap (with_members (others_members files.other_files files.others)) c.in_ok-put_rows.ensures
    ∙ ap (λ members. with_members members (tokens_in c.args.line.now))
    (with_rows (λ (row : FileRow). (row.name.now, row.count)) c.rows-rows.result.now files c.rows-rows.ensures
    (sym c.is_empty.ensures ∙ c.if-is_empty.false)))
    c.put_others.ensures
