-- The parts of the text of an error.
use Rattle.std.specs.Prelude.{ℕ, List}
use Rattle.std.specs.Fmt.{decimal}
use Rattle.std.specs.List.{flat_map}
use Rattle.net_base.specs.declared.err.error_text.TextPart.{TextPart}
use Rattle.net_base.specs.declared.err.error_text.TextPart.TheVariants.{Words, Number}

-- the text of a part: its words, or its number in decimal
abbrev pub part_text : TextPart → List ℕ
part_text (Words words) = words.now
part_text (Number number) = decimal number

-- a part; where its words are stored does not matter
pub data Part : Type 0 where
  WordsOf : List ℕ → Part
  NumberOf : ℕ → Part

-- the words or the number of a part
abbrev pub part_by_value : TextPart → Part
part_by_value (Words words) = WordsOf words.now
part_by_value (Number number) = NumberOf number

-- the whole text: the texts of its parts, one after the other
abbrev pub reads_as : List TextPart → List ℕ
reads_as parts = flat_map part_text parts

-- the greatest number of parts of a text
abbrev pub max_text_parts : ℕ
max_text_parts = 11
