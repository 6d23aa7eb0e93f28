-- What one run of the program reads and writes. If the bytes of the reader or writer are unknown, nothing is stated about them.
use Rattle.std.specs.Prelude.{◌≡◌, ℕ, List, take, Option, IfSome}
use Rattle.std.specs.Io.KnownBytes.{Appends, Consumes}
use Rattle.streams.specs.Streams.{AppendsBeginning}
use Rattle.pktprobe.specs.Report.{max_input_len, report}

-- The input consists of all bytes that the reader had left. The first 8,194 of these bytes were read, or all of them if there are fewer.
pub record ReadsInput (left still_left : Option (List ℕ)) (input : List ℕ) : Type 0 where
  pub is_all : IfSome left (λ all. input ≡ all)
  pub consumes : Consumes left still_left (take max_input_len input)

-- an input was read, its answer has this status, and the whole text of the answer was written
pub record WritesReport (left still_left before after : Option (List ℕ)) (status : ℕ) : Type 0 where
  pub input : List ℕ
  pub reads : ReadsInput left still_left input
  pub has_status : status ≡ (report input).1
  pub appends : Appends before after (report input).0

-- an input was read, and a beginning of the text of its answer was written
pub record WritesBeginningOfReport (left still_left before after : Option (List ℕ)) : Type 0 where
  pub input : List ℕ
  pub reads : ReadsInput left still_left input
  pub begins : AppendsBeginning before after (report input).0
