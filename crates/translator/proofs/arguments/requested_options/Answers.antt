use Rattle.std.proofs.Common.{◌∙◌, ap, ap₂, map, string_bytes}
use Rattle.std.specs.Option.{option_map}
use Rattle.clap.specs.Words.{app_of}
use Rattle.translator.specs.CommandLine.{capture_name}
use Rattle.translator.proofs.ArgumentLemmas.{matches_of_command_line, named}
use Rattle.translator.proofs.arguments.requested_options.Goals as goal

-- the options are read from the matches of the words
pub returns-clause-options : goal.returns-clause-options
returns-clause-options c =
    let words = map (λ word. string_bytes word) c.args.words.now in (
      c.in_ok-matches.matches,
      matches_of_command_line (app_of c.in_ok-command.command) words _ c.in_ok-command.ensures c.in_ok-matches.ensures.matches
          c.in_ok-matches.ensures.kinds,
      record {
        table = c.in_ok-table.ensures;
        file = ap (option_map (λ name. name.now)) c.or.ensures ∙ (named c.get_str-read.result c.get_str-file.result
            ∙ ap₂ capture_name c.get_str-read.ensures c.get_str-file.ensures);
        write = c.get_str-write.ensures;
      },
    )
