-- The words of tables as names in JSON.
use Rattle.std.specs.Prelude.{ℕ, ◌==◌, if◌then◌else◌, List, map}

-- the code of a space
abbrev pub space : ℕ
space = 32

-- the code of an underscore
abbrev pub underscore : ℕ
underscore = 95

-- an underscore if the byte is a space, otherwise the byte
abbrev pub underscore_if_space : ℕ → ℕ
underscore_if_space byte = if byte == space then underscore else byte

-- a word with underscores instead of its spaces
abbrev pub with_underscores : List ℕ → List ℕ
with_underscores word = map underscore_if_space word
