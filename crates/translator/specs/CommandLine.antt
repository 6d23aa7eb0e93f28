-- The command line of the program, as clap reads it, and the options that its words request.
use Rattle.std.specs.Prelude.{◌≡◌, ◌++◌, ◌∷◌, ◌⊎◌, [], List, None, Option, Some, codes, fold, option_map, true}
use Rattle.clap.specs.Words.{App, Rule, Text, fault_of, first_value, found_of, kind_of, matches_of, new_app, new_rule, rows_of, with_rule}
use Rattle.clap.specs.declared.builder.action.ArgAction.TheVariants.{Append, Set}
use Rattle.clap.specs.declared.error.Error.{Error}
use Rattle.clap.specs.declared.error.kind.ErrorKind.{ErrorKind}
use Rattle.clap.specs.declared.error.kind.ErrorKind.TheVariants.{OutOfMemory}
use Rattle.clap.specs.declared.parser.matches.ArgMatches.{ArgMatches}
use Rattle.translator.specs.Arguments.{IsTableOf}
use Rattle.translator.specs.declared.arguments.Options.{Options}

-- an option that gives replacements, and may occur several times
abbrev pub replacement_rule : Text → Rule
replacement_rule name = record (new_rule name) { long = Some name; value_names = 1; action = Some Append }

-- the options that replace networks of addresses
abbrev pub network_rules : List Rule
network_rules = replacement_rule (codes "both") ∷ replacement_rule (codes "source") ∷ replacement_rule (codes "destination") ∷ []

-- the options that replace ports
abbrev pub port_rules : List Rule
port_rules = replacement_rule (codes "source-port") ∷ replacement_rule (codes "destination-port") ∷ []

-- an option that names a file
abbrev pub named_file_rule : Text → Rule
named_file_rule name = record (new_rule name) { long = Some name; value_names = 1; action = Some Set }

-- the option that names the capture, `-r` (114)
abbrev pub read_rule : Rule
read_rule = record (named_file_rule (codes "read")) { short = Some 114 }

-- the option that names the file to write, `-w` (119)
abbrev pub write_rule : Rule
write_rule = record (named_file_rule (codes "write")) { short = Some 119 }

-- the name of the capture without an option
abbrev pub file_rule : Rule
file_rule = record (new_rule (codes "file")) { value_names = 1; action = Some Set }

-- the names of files
abbrev pub file_rules : List Rule
file_rules = read_rule ∷ write_rule ∷ file_rule ∷ []

-- a command line to which these options are added, in their order
abbrev pub with_rules : App → List Rule → App
with_rules app rules = fold with_rule app rules

-- the command line without options; it has a version
abbrev pub bare_command : App
bare_command = let app = new_app (codes "translator") in record app { top = record app.top { has_version = true } }

-- the command line of the program, with all its options
abbrev pub command_line : App
command_line = with_rules bare_command (network_rules ++ port_rules ++ file_rules)

-- `app` is the command line of the program
abbrev pub IsCommandLine : App → Type 0
IsCommandLine app = app ≡ command_line

-- These words fit the command line, and `matches` are their matches. The first word is the name of the program.
abbrev pub AreMatchesOf : List Text → ArgMatches → Type 0
AreMatchesOf words matches =
    (app : App) × IsCommandLine app × (fault_of app words ≡ []) × (rows_of (found_of matches) ≡ matches_of app words)

-- the name of the capture: the value of the option `read`, or else the name without an option
abbrev pub capture_name : Option Text → Option Text → Option Text
capture_name None file = file
capture_name (Some read) file = Some read

-- the options that these matches contain
pub record IsOptionsOf (matches : ArgMatches) (options : Options) : Type 0 where
  pub table : IsTableOf matches options.table
  pub file : option_map (λ name. name.now) options.file
      ≡ capture_name (first_value (found_of matches) (codes "read")) (first_value (found_of matches) (codes "file"))
  pub write : option_map (λ name. name.now) options.write ≡ first_value (found_of matches) (codes "write")

-- these words request these options; the first word is the name of the program
abbrev pub AreRequestedBy : List Text → Options → Type 0
AreRequestedBy words options = (matches : ArgMatches) × AreMatchesOf words matches × IsOptionsOf matches options

-- the error has this kind, or it is about memory
abbrev pub IsKind : ErrorKind → Error → Type 0
IsKind kind error = (kind_of error ≡ kind) ⊎ (kind_of error ≡ OutOfMemory)
