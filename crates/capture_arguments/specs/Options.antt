-- The options in the matches of a command line.
use Rattle.std.specs.Prelude.{◌≡◌, ◌||◌, ℕ, Bool, List, ◌++◌, not, if◌then◌else◌, codes, map, None, Option, Some}
use Rattle.std.specs.Option.{is_some, option_map}
use Rattle.clap.specs.Words.{first_value, found_of, rows_of}
use Rattle.clap.specs.declared.parser.matches.ArgMatches.{ArgMatches}
use Rattle.capture_request.specs.Intervals.{width_of}
use Rattle.capture_request.specs.Lines.{lines_by}
use Rattle.capture_request.specs.declared.parts.Format.TheVariants as formats
use Rattle.capture_summary.specs.Ranking.{default_top}
use Rattle.capture_summary.specs.declared.choice.Choice.{Choice as PacketChoice}
use Rattle.capture_words.specs.TimeText.{times_by}
use Rattle.capture_arguments.specs.Arguments.{HasFlag, HasNumberOr, values_of}
use Rattle.capture_arguments.specs.Chosen.{IsChoiceOf, IsRefusal}
use Rattle.capture_arguments.specs.Conflicts.{conflict_in}
use Rattle.capture_arguments.specs.Intervals.{IsIntervalOf, IsWrongInterval}
use Rattle.capture_arguments.specs.declared.arguments.Options.{Options}
use Rattle.capture_arguments.specs.declared.arguments.OptionsError.{OptionsError}
use Rattle.capture_arguments.specs.declared.arguments.OptionsError.TheVariants.{Choice, Conflict, Interval, NoMemory}

-- no two of the options in the matches exclude each other
abbrev pub IsCompatible : ArgMatches → Type 0
IsCompatible matches = conflict_in (rows_of (found_of matches)) ≡ None

-- the text of the width of the intervals in these matches, if they contain one
abbrev pub interval_given : ArgMatches → Option (List ℕ)
interval_given matches = first_value (found_of matches) (codes "interval")

-- the options that choose packets have no wrong value
abbrev pub HasChoice : ArgMatches → Type 0
HasChoice matches = (choice : PacketChoice) × IsChoiceOf matches choice

-- The reason why options can't be read from these matches. Options that can't be used together come first, then a wrong choice of packets,
-- and then a wrong width of intervals. An allocation can fail at any time.
abbrev pub IsRefusedBy : Type 0 → ArgMatches → OptionsError → Type 0
IsRefusedBy RanOut matches (Conflict first second) = conflict_in (rows_of (found_of matches)) ≡ Some (first.now, second.now)
IsRefusedBy RanOut matches (Choice error) = IsCompatible matches × IsRefusal matches error
IsRefusedBy RanOut matches (Interval text) = IsCompatible matches × (HasChoice matches × IsWrongInterval (interval_given matches) text.now)
IsRefusedBy RanOut matches (NoMemory error) = RanOut

-- the names of the captures: first the values of the option `read`, and then the names without an option
abbrev pub names_of : ArgMatches → List (List ℕ)
names_of matches = values_of matches (codes "read") ++ values_of matches (codes "file")

-- the options that these matches contain
pub record IsOptionsOf (matches : ArgMatches) (options : Options) : Type 0 where
  pub compatible : IsCompatible matches
  pub lines : (summary wrong : Bool) → HasFlag matches (codes "summary") summary → HasFlag matches (codes "wrong") wrong
      → options.parts.lines ≡ lines_by summary wrong
  pub times : (absolute : Bool) → HasFlag matches (codes "absolute") absolute → options.parts.times ≡ times_by absolute
  pub verbose : (flag : Bool) → HasFlag matches (codes "verbose") flag → options.parts.verbose ≡ flag
  pub summary : (packets : Bool) → HasFlag matches (codes "packets") packets → options.parts.summary ≡ not packets
  pub check : (flag : Bool) → HasFlag matches (codes "check") flag → options.parts.check ≡ flag
  pub format : (flag : Bool) → HasFlag matches (codes "json") flag → options.parts.format ≡ (if flag then formats.Json else formats.Text)
  pub top : HasNumberOr matches (codes "top") 64 (λ given. given) default_top options.parts.top
  pub timeline : (flag : Bool) → HasFlag matches (codes "timeline") flag
      → options.parts.timeline ≡ (flag || is_some options.parts.interval)
  pub interval : IsIntervalOf (interval_given matches) (width_of options.parts)
  pub choice : IsChoiceOf matches options.parts.choice
  pub limit : HasNumberOr matches (codes "count") 64 Some None options.parts.limit
  pub line_buffered : (flag : Bool) → HasFlag matches (codes "line-buffered") flag → options.line_buffered ≡ flag
  pub write : option_map (λ name. name.now) options.write ≡ first_value (found_of matches) (codes "write")
  pub files : map (λ name. name.now) options.files.items ≡ names_of matches
