use Rattle.std.proofs.Common.{◌≡◌, ◌==◌, ◌∙◌, ◌++◌, [], List, ap, arith, false, length, map, refl, rules, sym, take, true, ℕ}
use Rattle.std.proofs.KnownBytes.{Appends-nil}
use Rattle.std.proofs.lemmas.Grind.{common_steps}
use Rattle.std.proofs.lemmas.List.{length-map}
use Rattle.std.proofs.lemmas.List.Folds.{flat_map-map}
use Rattle.std.specs.List.{flat_map}
use Rattle.capture_summary.specs.Files.{Files}
use Rattle.capture_summary.specs.declared.file_count.FileCount.{FileCount}
use Rattle.capture_summary.specs.declared.file_table.FileRow.{FileRow}
use Rattle.capture_text.specs.FilesText.{file_row, files_head, files_table, others_row}
use Rattle.capture_words.proofs.WrittenLemmas.{each_more, written_3}
use Rattle.capture_text.proofs.files.write_files.Goals as goal

-- a table without rows has no text
without_rows : {X : Type 0} (named : X → List ℕ × FileCount) (rows : List X) (files : Files) → map named rows ≡ files.rows
    → (length rows == 0) ≡ true → files_table files ≡ []
without_rows named rows files is none = rw (sym is, length-map rows named, none) refl

-- the text of a table with rows
with_rows : {X : Type 0} (named : X → List ℕ × FileCount) (rows : List X) (files : Files) → map named rows ≡ files.rows
    → (length rows == 0) ≡ false
    → files_head ++ (flat_map (λ row. file_row (named row)) rows ++ others_row files.other_files files.others) ≡ files_table files
with_rows named rows files is some =
    ap (λ text. files_head ++ (text ++ others_row files.other_files files.others)) (sym (flat_map-map file_row named rows))
    ∙ rw (sym is, length-map rows named, some) refl

-- the invariant holds after another row
pub loop-row-preserved : goal.loop-row-preserved
loop-row-preserved g c =
    each_more c.rows-rows.result.now (λ (row : FileRow). file_row (row.name.now, row.count)) _ _ _ _ _ c.loop-row.invariant
    c.in_ok-write_file.ensures (search rules)

pub returns-then-is_empty : goal.returns-then-is_empty
returns-then-is_empty g c =
    rw (without_rows (λ (row : FileRow). (row.name.now, row.count)) c.rows-rows.result.now c.args.files.now c.rows-rows.ensures
    (sym c.is_empty.ensures ∙ c.if-is_empty.true)) (Appends-nil _)

pub returns : goal.returns
returns g c =
    let rows = c.rows-rows.result.now in
    let all : take c.loop-row.row-index rows ≡ rows = grind (arith, common_steps) in
    written_3 _ _ _ _ _ _ _ _ _ c.in_ok-write_files_head.ensures c.loop-row.invariant c.write_others.ensures
    ((simp (all, c.other_files.ensures, c.others.ensures))
    ∙ with_rows (λ (row : FileRow). (row.name.now, row.count)) rows c.args.files.now c.rows-rows.ensures
    (sym c.is_empty.ensures ∙ c.if-is_empty.false))
