-- For the arguments of the command line.
use Rattle.std.proofs.Common.{◌≡◌, ◌∙◌, ◌⊎◌, ◌++◌, Bool, List, [], MatchOption, false, inl, inr, true, ap, refl, subst, ⊎_elim}
use Rattle.clap.specs.Words.{AddsArg, App, HasKind, HasMatchesOf, Rule, Text, app_of, fault_of as faults_of, is_simple, is_simple_and_free, kind_of, rule_of, takes, with_rule}
use Rattle.clap.specs.declared.builder.arg.Arg.{Arg}
use Rattle.clap.specs.declared.builder.command.Command.{Command}
use Rattle.clap.specs.declared.error.Error.{Error}
use Rattle.clap.specs.declared.error.kind.ErrorKind.{ErrorKind}
use Rattle.clap.specs.declared.error.kind.ErrorKind.TheVariants.{OutOfMemory, UnknownArgument}
use Rattle.clap.specs.declared.parser.matches.ArgMatches.{ArgMatches}
use Rattle.capture_arguments.specs.CommandLine.{AreMatchesOf, IsCommandLine, bare_command, choice_rules, end_rules, file_rules, form_rules, host_rules, line_rules, output_rules, time_rules, with_rules}
use Rattle.capture_arguments.specs.Rejections.{AreRejectedBy, HaveFault, IsExplainedUnless, IsShownFor, named_word}
use Rattle.capture_arguments.specs.Unknown.{unknown_text}

-- clap states what the matches of the command line are, and why it refuses words
pub is_simple_command_line : (app : App) → IsCommandLine app → is_simple app ≡ true
is_simple_command_line app is_line = ap is_simple is_line ∙ refl

pub is_free_command_line : (app : App) → IsCommandLine app → is_simple_and_free app ≡ true
is_free_command_line app is_line = ap is_simple_and_free is_line ∙ refl

-- the matches that clap finds are the matches of the command line
pub matches_of_command_line : (app : App) (words : List Text) (matches : ArgMatches) → IsCommandLine app → HasMatchesOf app words matches
    → (is_simple_and_free app ≡ true → faults_of app words ≡ []) → AreMatchesOf words matches
matches_of_command_line app words matches is_line has fits =
    (app, is_line, fits (is_free_command_line app is_line), (has (is_simple_command_line app is_line)).0)

-- the command after another argument is added
pub adds_rule : (old : Command) (arg : Arg) (new : Command) (app : App) (rule : Rule) → AddsArg old arg new
    → arg.global ≡ false → rule_of arg ≡ rule → app_of old ≡ app → app_of new ≡ with_rule app rule
adds_rule old arg new app rule adds local is_rule is_app =
    adds.shape local ∙ (ap (with_rule (app_of old)) is_rule ∙ ap (λ some. with_rule some rule) is_app)

-- the command line, of a bare command with all options
pub all_options : (bare lines form hosts choice times all : App) → bare ≡ bare_command → lines ≡ with_rules bare line_rules
    → form ≡ with_rules lines form_rules → hosts ≡ with_rules form host_rules → choice ≡ with_rules hosts choice_rules
    → times ≡ with_rules choice (time_rules ++ end_rules) → all ≡ with_rules times (output_rules ++ file_rules) → IsCommandLine all
all_options bare lines form hosts choice times all is_bare is_lines is_form is_hosts is_choice is_times is_all =
    is_all
    ∙ ap (λ app. with_rules app (output_rules ++ file_rules)) (is_times
    ∙ ap (λ app. with_rules app (time_rules ++ end_rules)) (is_choice
    ∙ ap (λ app. with_rules app choice_rules) (is_hosts
    ∙ ap (λ app. with_rules app host_rules) (is_form
    ∙ ap (λ app. with_rules app form_rules) (is_lines
    ∙ ap (λ app. with_rules app line_rules) is_bare)))))

decided : (test : Bool) → (test ≡ true) ⊎ (test ≡ false)
decided true = inl refl
decided false = inr refl

-- an error about the memory is shown as it is
shown_memory : (RanOut : Type 0) (Explains : App → ErrorKind → Text → Error → Type 0) (words : List Text) (found shown : Error)
    → IsShownFor RanOut Explains words found shown → kind_of found ≡ OutOfMemory → shown ≡ found
shown_memory RanOut Explains words found shown is_shown is_memory =
    subst (λ kind. MatchOption (named_word kind words) (shown ≡ found)
    (λ word. IsExplainedUnless RanOut Explains UnknownArgument (unknown_text word) shown))
    is_memory is_shown

-- clap refuses the words, unless an allocation failed
pub no_match : (RanOut : Type 0) (Refuses : App → List Text → Error → Type 0) (Explains : App → ErrorKind → Text → Error → Type 0)
    (app : App)
    (words : List Text) (found shown : Error) → IsCommandLine app → (takes app words ≡ true → kind_of found ≡ OutOfMemory)
    → (kind_of found ≡ OutOfMemory → RanOut) → (is_simple_and_free app ≡ true → HasKind (faults_of app words) found)
    → Refuses app words found
    → IsShownFor RanOut Explains words found shown → AreRejectedBy RanOut Refuses Explains words shown
no_match RanOut Refuses Explains app words found shown is_line passes ran_out kinds refused is_shown =
    let about_memory : kind_of found ≡ OutOfMemory → AreRejectedBy RanOut Refuses Explains words shown =
    λ is. inl (ap kind_of (shown_memory RanOut Explains words found shown is_shown is) ∙ is, ran_out is) in
    ⊎_elim (λ taken. about_memory (passes taken)) (λ rejected.
    ⊎_elim about_memory (λ among. inr (inl (app, found, is_line, rejected, among, refused, is_shown)))
    (kinds (is_free_command_line app is_line)))
    (decided (takes app words))

-- the words are rejected for a fault that clap does not find, or since an allocation failed
pub rejected_by_fault : (RanOut : Type 0) (Refuses : App → List Text → Error → Type 0) (Explains : App → ErrorKind → Text → Error → Type 0)
    (words : List Text) (kind : ErrorKind) (message : Text) (error : Error) → IsExplainedUnless RanOut Explains kind message error
    → HaveFault words kind message → AreRejectedBy RanOut Refuses Explains words error
rejected_by_fault RanOut Refuses Explains words kind message error explained fault =
    ⊎_elim (λ is. inr (inr (kind, message, fault, is))) inl explained
