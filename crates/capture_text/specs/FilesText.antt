-- The table of files: a row for each of several captures.
use Rattle.std.specs.Prelude.{ℕ, ◌==◌, if◌then◌else◌, List, [], ◌++◌, length, codes, decimal}
use Rattle.std.specs.List.{flat_map}
use Rattle.capture_summary.specs.Files.{Files}
use Rattle.capture_summary.specs.declared.file_count.FileCount.{FileCount}
use Rattle.capture_text.specs.SummaryText.{number_cell, title_cell}
use Rattle.capture_words.specs.ShownText.{shown_text}

-- an empty line, and the head of the table
abbrev pub files_head : List ℕ
files_head =
    codes "\n" ++ (title_cell 11 (codes "packets") ++ (codes " " ++ (title_cell 17 (codes "bytes") ++ (codes " "
    ++ (title_cell 11 (codes "wrong") ++ (codes " " ++ (title_cell 11 (codes "refused") ++ codes " files\n")))))))

-- the numbers of packets and bytes, of packets with a wrong checksum, and of refused packets
abbrev pub file_cells : FileCount → List ℕ
file_cells count =
    number_cell 11 count.all.packets ++ (codes " " ++ (number_cell 17 count.all.bytes ++ (codes " "
    ++ (number_cell 11 count.wrong ++ (codes " " ++ number_cell 11 count.refused)))))

-- the row of a capture: the numbers of its packets, and its name
abbrev pub file_row : List ℕ × FileCount → List ℕ
file_row row = file_cells row.1 ++ (codes " " ++ (shown_text row.0 ++ codes "\n"))

-- The row of the captures without a row: the numbers of their packets, and the number of these captures. If there is no such capture, the
-- row is left out.
abbrev pub others_row : ℕ → FileCount → List ℕ
others_row other_files others =
    if other_files == 0 then [] else file_cells others ++ (codes " other captures: " ++ (decimal other_files ++ codes "\n"))

-- the table; it is left out if it has no rows
abbrev pub files_table : Files → List ℕ
files_table files =
    if length files.rows == 0 then []
    else files_head ++ (flat_map file_row files.rows ++ others_row files.other_files files.others)
