-- The table of files: the counted packets of each capture.
use Rattle.std.specs.Prelude.{ℕ, ◌+◌, ◌-◌, ◌^◌, min, nat_lt, if◌then◌else◌, List, [], ◌∷◌, ◌++◌, length}
use Rattle.capture_summary.specs.Tables.{counted, no_packets}
use Rattle.capture_summary.specs.declared.file_count.FileCount.{FileCount}
use Rattle.capture_summary.specs.declared.verdict_kind.VerdictKind.{VerdictKind}
use Rattle.capture_summary.specs.declared.verdict_kind.VerdictKind.TheVariants.{Refused, Wrong}

-- ---- the packets of one capture

-- the count without packets
abbrev pub no_file_packets : FileCount
no_file_packets = record { all = no_packets; wrong = 0; refused = 0 }

-- the number of packets with a wrong checksum after a packet with a verdict of this kind
abbrev pub wrong_counted : VerdictKind → ℕ → ℕ
wrong_counted Wrong number = number + 1
wrong_counted other number = number

-- the number of refused packets after a packet with a verdict of this kind
abbrev pub refused_counted : VerdictKind → ℕ → ℕ
refused_counted Refused number = number + 1
refused_counted other number = number

-- a count after a packet with a verdict of this kind, and of this length
abbrev pub file_counted : VerdictKind → ℕ → FileCount → FileCount
file_counted verdict len count = record {
  all = counted len count.all;
  wrong = wrong_counted verdict count.wrong;
  refused = refused_counted verdict count.refused;
}

-- the packets of both counts; each number is at most 2^64 - 1
abbrev pub file_sum : FileCount → FileCount → FileCount
file_sum first second = record {
  all = record {
    packets = min (first.all.packets + second.all.packets) (2 ^ 64 - 1);
    bytes = min (first.all.bytes + second.all.bytes) (2 ^ 64 - 1);
  };
  wrong = min (first.wrong + second.wrong) (2 ^ 64 - 1);
  refused = min (first.refused + second.refused) (2 ^ 64 - 1);
}

-- ---- the table

-- The table: the name and the packets of each capture with a row, in the order in which the captures were read. `other_files` is the number
-- of captures without a row, and `others` counts their packets together.
pub record Files : Type 0 where
  pub rows : List (List ℕ × FileCount)
  pub other_files : ℕ
  pub others : FileCount

-- the table without captures
abbrev pub no_files : Files
no_files = record { rows = []; other_files = 0; others = no_file_packets }

-- the greatest number of rows
abbrev pub max_files : ℕ
max_files = 64

-- the table after another capture with this name and these packets; it has a row if the table has fewer than `max_files` rows
abbrev pub with_file : List ℕ → FileCount → Files → Files
with_file name count files =
    if nat_lt (length files.rows) max_files then record {
      rows = files.rows ++ (name, count) ∷ [];
      other_files = files.other_files;
      others = files.others;
    }
    else record {
      rows = files.rows;
      other_files = min (files.other_files + 1) (2 ^ 64 - 1);
      others = file_sum files.others count;
    }
