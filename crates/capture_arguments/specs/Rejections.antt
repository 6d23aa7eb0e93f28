-- Why the words of a command line are refused, and by which error. The first word is the name of the program.
use Rattle.std.specs.Prelude.{◌≡◌, ◌⊎◌, ℕ, false, List, codes, MatchOption, None, Option, Some}
use Rattle.clap.specs.Words.{App, IsAmong, Text, fault_of as faults_of, found_of, kind_of, rows_of, takes}
use Rattle.clap.specs.declared.error.Error.{Error}
use Rattle.clap.specs.declared.error.kind.ErrorKind.{ErrorKind}
use Rattle.clap.specs.declared.error.kind.ErrorKind.TheVariants.{ArgumentConflict, DisplayHelp, DisplayVersion, OutOfMemory, UnknownArgument, ValueValidation}
use Rattle.clap.specs.declared.parser.matches.ArgMatches.{ArgMatches}
use Rattle.capture_arguments.specs.Chosen.{IsRefusal, choice_text}
use Rattle.capture_arguments.specs.Conflicts.{conflict_in, conflict_text}
use Rattle.capture_arguments.specs.Intervals.{IsWrongInterval, interval_text}
use Rattle.capture_arguments.specs.Options.{HasChoice, IsCompatible, interval_given}
use Rattle.capture_arguments.specs.CommandLine.{AreMatchesOf, ArePlainMatchesOf, AreRequestedBy, IsCommandLine}
use Rattle.capture_arguments.specs.OutputFaults.{fault_of}
use Rattle.capture_arguments.specs.Unknown.{unknown_option, unknown_text}
use Rattle.capture_arguments.specs.Words.{escaped_option, escaped_option_text}
use Rattle.capture_arguments.specs.declared.arguments.Options.{Options}
use Rattle.capture_arguments.specs.declared.chosen.ChoiceError.{ChoiceError}

-- ---- faults that clap does not find, in the order of the tests

-- an option is not UTF-8
abbrev pub HaveEscapedOption : List Text → Text → Type 0
HaveEscapedOption words message =
    (matches : ArgMatches) × (option : Text) × AreMatchesOf words matches × (escaped_option words ≡ Some option)
    × (message ≡ escaped_option_text option)

-- two options can't be used together
abbrev pub HaveConflict : List Text → Text → Type 0
HaveConflict words message =
    (matches : ArgMatches) × (first : Text) × (second : Text) × ArePlainMatchesOf words matches
    × (conflict_in (rows_of (found_of matches)) ≡ Some (first, second)) × (message ≡ conflict_text first second)

-- the options that choose packets have a wrong value
abbrev pub HaveNoChoice : List Text → Text → Type 0
HaveNoChoice words message =
    (matches : ArgMatches) × (error : ChoiceError) × ArePlainMatchesOf words matches × IsCompatible matches × IsRefusal matches error
    × (message ≡ choice_text error)

-- the width of the intervals of the timeline is wrong
abbrev pub HaveNoInterval : List Text → Text → Type 0
HaveNoInterval words message =
    (matches : ArgMatches) × (text : Text) × ArePlainMatchesOf words matches × IsCompatible matches × HasChoice matches
    × IsWrongInterval (interval_given matches) text × (message ≡ interval_text text)

-- packets can't be written to the file that the words name
abbrev pub HaveNoOutput : List Text → Text → Type 0
HaveNoOutput words message = (options : Options) × AreRequestedBy words options × (fault_of options ≡ Some message)

-- the first fault in words that fit the command line; the error has this kind and this message
abbrev pub HaveFault : List Text → ErrorKind → Text → Type 0
HaveFault words kind message =
    ((kind ≡ UnknownArgument) × HaveEscapedOption words message)
    ⊎ (((kind ≡ ArgumentConflict) × HaveConflict words message)
    ⊎ (((kind ≡ ValueValidation) × HaveNoChoice words message)
    ⊎ (((kind ≡ ValueValidation) × HaveNoInterval words message)
    ⊎ ((kind ≡ ArgumentConflict) × HaveNoOutput words message))))

-- the message if there is no capture to read
abbrev pub no_capture_text : Text
no_capture_text = codes "no FILE is named, and standard input is a terminal"

-- ---- errors

-- clap made this error, with this kind, this message and the usage of the program. `Explains` is the statement about errors that clap
-- makes.
abbrev pub IsExplained : (App → ErrorKind → Text → Error → Type 0) → ErrorKind → Text → Error → Type 0
IsExplained Explains kind message error =
    (kind_of error ≡ kind) × ((app : App) × IsCommandLine app × Explains app kind message error)

-- the error is about memory, and an allocation failed
abbrev pub IsAboutMemory : Type 0 → Error → Type 0
IsAboutMemory RanOut error = (kind_of error ≡ OutOfMemory) × RanOut

-- the error has this kind, this message and the usage of the program, or it is about memory
abbrev pub IsExplainedUnless : Type 0 → (App → ErrorKind → Text → Error → Type 0) → ErrorKind → Text → Error → Type 0
IsExplainedUnless RanOut Explains kind message error = IsExplained Explains kind message error ⊎ IsAboutMemory RanOut error

-- the word that the shown error names: the first unknown option if the kind is `UnknownArgument`, and otherwise no word
abbrev pub named_word : ErrorKind → List Text → Option Text
named_word UnknownArgument words = unknown_option words
named_word kind words = None

-- `shown` is the error that is shown for `found`, which clap found in these words. If `found` is about an unknown option, `shown` names
-- this option and no other option, or it is about memory. Otherwise it is `found`.
abbrev pub IsShownFor : Type 0 → (App → ErrorKind → Text → Error → Type 0) → List Text → Error → Error → Type 0
IsShownFor RanOut Explains words found shown = MatchOption (named_word (kind_of found) words) (shown ≡ found)
    (λ word. IsExplainedUnless RanOut Explains UnknownArgument (unknown_text word) shown)

-- These words do not fit the command line, or request help or the version. clap found a fault in them, and `error` is shown for it.
-- `Refuses` is the statement about errors that clap returns for words.
abbrev pub AreNoMatch : Type 0 → (App → List Text → Error → Type 0) → (App → ErrorKind → Text → Error → Type 0) → List Text → Error → Type 0
AreNoMatch RanOut Refuses Explains words error =
    (app : App) × (found : Error) × IsCommandLine app × (takes app words ≡ false) × IsAmong (kind_of found) (faults_of app words)
    × Refuses app words found × IsShownFor RanOut Explains words found error

-- the error is about memory, or clap refuses these words, or the error has the kind and the message of the first fault in them
abbrev pub AreRejectedBy : Type 0 → (App → List Text → Error → Type 0) → (App → ErrorKind → Text → Error → Type 0) → List Text → Error
    → Type 0
AreRejectedBy RanOut Refuses Explains words error =
    IsAboutMemory RanOut error
    ⊎ (AreNoMatch RanOut Refuses Explains words error
    ⊎ ((kind : ErrorKind) × (message : Text) × HaveFault words kind message × IsExplained Explains kind message error))

-- the exit status after an error of this kind: 0 for help and for the version, 3 if no memory is left, and 2 for any other error
abbrev pub answer_number : ErrorKind → ℕ
answer_number DisplayHelp = 0
answer_number DisplayVersion = 0
answer_number OutOfMemory = 3
answer_number kind = 2
