-- Laws of the options that are not used together.
use Rattle.std.proofs.Common.{◌≡◌, ◌∙◌, Option, None, Some, ap, refl}
use Rattle.std.specs.Prelude.{find, option_and_then, option_map}
use Rattle.std.specs.Str.{bytes_eq}
use Rattle.clap.specs.Facts.{Entry}
use Rattle.clap.specs.Walk.{Row, Text, row_of, rows_of}
use Rattle.clap.specs.Matches.{matched_of}
use Rattle.clap.specs.declared.parser.matches.Found.{Found}
use Rattle.clap.specs.declared.parser.matches.MatchedArg.{MatchedArg}
use Rattle.clap.proofs.WalkLemmas.{find_row}
use Rattle.capture_arguments.specs.Conflicts.{is_from_words, is_given}

same_source : (entry : Option Entry)
    → option_and_then (λ (row : Row). row.source) (option_map row_of entry)
    ≡ option_and_then (λ (found : MatchedArg). found.source) (option_map (λ e. e.1) entry)
same_source None = refl
same_source (Some entry) = refl

-- the source of the value of an option, by the rows of the matches
pub given-rows : (found : Found) (name : Text)
    → is_given (rows_of found) name ≡ is_from_words (option_and_then (λ (entry : MatchedArg). entry.source) (matched_of found name))
given-rows found name =
    ap (λ row. is_from_words (option_and_then (λ (one : Row). one.source) row)) (find_row found.entries.items name)
    ∙ ap is_from_words (same_source (find (λ e. bytes_eq e.0.now name) found.entries.items))
