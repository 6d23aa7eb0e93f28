-- The input from which the capture is read.
use Rattle.std.specs.Prelude.{ℕ, List, Option, None, Some, codes}
use Rattle.std.specs.Borrow.{Bor}

-- the name of the capture in these options, and `-`, which stands for standard input, if the options contain no name
abbrev pub input_name : Option (Bor (List ℕ)) → List ℕ
input_name None = codes "-"
input_name (Some name) = name.now
