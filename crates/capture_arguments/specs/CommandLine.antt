-- The command line of the program, as clap reads it.
use Rattle.std.specs.Prelude.{◌≡◌, ◌-◌, ◌^◌, true, List, [], ◌∷◌, ◌++◌, Option, None, Some, codes, fold, option_map}
use Rattle.std.specs.Borrow.{Bor}
use Rattle.clap.specs.Words.{App, Rule, Text, fault_of as faults_of, found_of, matches_of, new_app, new_rule, rows_of, with_rule}
use Rattle.clap.specs.declared.builder.action.ArgAction.TheVariants.{Append, Set, SetTrue}
use Rattle.clap.specs.declared.builder.command.Command.{Command}
use Rattle.clap.specs.declared.builder.command.Command.TheViews.{out-Command}
use Rattle.clap.specs.declared.builder.value_parser.ValueParser.{ValueParser}
use Rattle.clap.specs.declared.builder.value_parser.ValueParser.TheVariants as parsers
use Rattle.clap.specs.declared.parser.matches.ArgMatches.{ArgMatches}
use Rattle.capture_arguments.specs.Options.{IsOptionsOf}
use Rattle.capture_arguments.specs.Words.{escaped_option}
use Rattle.capture_arguments.specs.declared.arguments.Options.{Options}

-- an option without a value
abbrev pub flag_rule : Text → Rule
flag_rule name = record (new_rule name) { long = Some name; action = Some SetTrue }

-- an option with a value
abbrev pub value_rule : Text → Rule
value_rule name = record (new_rule name) { long = Some name; value_names = 1; action = Some Set }

-- an option whose value this parser checks
abbrev pub parsed_rule : Text → ValueParser → Rule
parsed_rule name parser = record (value_rule name) { parser = Some parser }

-- an option that may occur several times
abbrev pub repeated : Rule → Rule
repeated rule = record rule { action = Some Append }

-- the option that requests more fields in each line, `-v` (118)
abbrev pub verbose_rule : Rule
verbose_rule = record (flag_rule (codes "verbose")) { short = Some 118 }

-- the options that select the lines of the report
abbrev pub line_rules : List Rule
line_rules = flag_rule (codes "summary") ∷ flag_rule (codes "packets") ∷ flag_rule (codes "wrong") ∷ verbose_rule ∷ []

-- the option that states how many conversations the summary lists; the number has at most 64 bits
abbrev pub top_rule : Rule
top_rule = parsed_rule (codes "top") (parsers.Unsigned 0 (2 ^ 64 - 1))

-- the options for the form of the report and for its exit status
abbrev pub form_rules : List Rule
form_rules = flag_rule (codes "absolute") ∷ flag_rule (codes "check") ∷ flag_rule (codes "json") ∷ top_rule ∷ flag_rule (codes "timeline")
    ∷ value_rule (codes "interval") ∷ flag_rule (codes "tunnels")
    ∷ []

-- the options that choose packets by hosts
abbrev pub host_rules : List Rule
host_rules =
    repeated (value_rule (codes "host")) ∷ repeated (value_rule (codes "source")) ∷ repeated (value_rule (codes "destination"))
    ∷ repeated (value_rule (codes "not-host")) ∷ []

-- the other options that choose packets
abbrev pub choice_rules : List Rule
choice_rules =
    repeated (value_rule (codes "port")) ∷ repeated (value_rule (codes "not-port")) ∷ repeated (value_rule (codes "protocol")) ∷ []

-- the options that choose packets by their times
abbrev pub time_rules : List Rule
time_rules = value_rule (codes "from") ∷ value_rule (codes "to") ∷ []

-- the option that ends the report after a number of packets, `-c` (99); the number is at least 1 and has at most 64 bits
abbrev pub count_rule : Rule
count_rule = record (parsed_rule (codes "count") (parsers.Unsigned 1 (2 ^ 64 - 1))) { short = Some 99 }

-- the options that end the report
abbrev pub end_rules : List Rule
end_rules = count_rule ∷ []

-- the option that writes packets to a file instead of a report, `-w` (119)
abbrev pub write_rule : Rule
write_rule = record (value_rule (codes "write")) { short = Some 119 }

-- the options that replace the report by another output
abbrev pub output_rules : List Rule
output_rules = write_rule ∷ []

-- the option that writes out each line as soon as it is complete, `-l` (108)
abbrev pub line_buffered_rule : Rule
line_buffered_rule = record (flag_rule (codes "line-buffered")) { short = Some 108 }

-- the option that has no effect, `-n` (110)
abbrev pub numeric_rule : Rule
numeric_rule = record (flag_rule (codes "numeric")) { short = Some 110 }

-- the option that names a capture, `-r` (114)
abbrev pub read_rule : Rule
read_rule = record (repeated (value_rule (codes "read"))) { short = Some 114 }

-- the names of captures without an option
abbrev pub file_rule : Rule
file_rule = record (new_rule (codes "file")) { value_names = 1; action = Some Append }

-- the option that writes out each line, the option without an effect, and the names of captures
abbrev pub file_rules : List Rule
file_rules = line_buffered_rule ∷ numeric_rule ∷ read_rule ∷ file_rule ∷ []

-- a command line to which these options are added, in their order
abbrev pub with_rules : App → List Rule → App
with_rules app rules = fold with_rule app rules

-- The command line without options. It has a version. An option that occurs again replaces its earlier use, unless its values are appended.
abbrev pub bare_command : App
bare_command =
    let app = new_app (codes "capture_report") in record app { top = record app.top { has_version = true; args_override_self = true } }

-- the version of the program
abbrev pub version_text : Text
version_text = codes "0.5.0"

-- the text of the help before the usage
abbrev pub about_text : Text
about_text = codes "Reads captures, and reports what each packet is and whether its checksum is right"

-- the text is present, and it is this text
abbrev pub IsText : Option (Bor Text) → Text → Type 0
IsText given text = option_map (λ one. one.now) given ≡ Some text

-- the texts that the help and the version show
pub record IsDescribed (command : Command) : Type 0 where
  pub name : (out-Command command).name.now ≡ codes "capture_report"
  pub version : IsText (out-Command command).version version_text
  pub about : IsText (out-Command command).about about_text

-- the command line of the program, with all its options
abbrev pub command_line : App
command_line =
    with_rules bare_command
    (line_rules ++ form_rules ++ host_rules ++ choice_rules ++ time_rules ++ end_rules ++ output_rules ++ file_rules)

-- `app` is the command line of the program
abbrev pub IsCommandLine : App → Type 0
IsCommandLine app = app ≡ command_line

-- These words fit the command line, and `matches` are their matches. The first word is the name of the program.
abbrev pub AreMatchesOf : List Text → ArgMatches → Type 0
AreMatchesOf words matches =
    (app : App) × IsCommandLine app × (faults_of app words ≡ []) × (rows_of (found_of matches) ≡ matches_of app words)

-- these words fit the command line, `matches` are their matches, and each option among the words is UTF-8
abbrev pub ArePlainMatchesOf : List Text → ArgMatches → Type 0
ArePlainMatchesOf words matches = AreMatchesOf words matches × (escaped_option words ≡ None)

-- these words request these options; the first word is the name of the program
abbrev pub AreRequestedBy : List Text → Options → Type 0
AreRequestedBy words options = (matches : ArgMatches) × ArePlainMatchesOf words matches × IsOptionsOf matches options
