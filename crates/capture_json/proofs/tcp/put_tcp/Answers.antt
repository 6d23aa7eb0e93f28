use Rattle.std.proofs.Common.{◌∙◌, ap, refl}
use Rattle.std.specs.Prelude.{codes}
use Rattle.capture_json.specs.Tokens.{object_ended, tokens_in, with_members}
use Rattle.capture_json.proofs.TokensLemmas.{nested, with_append}
use Rattle.capture_json.proofs.tcp.put_tcp.Goals as goal

-- ports and header
pub returns : goal.returns
returns c =
    let (header, are, put) = c.in_ok-put_header.ensures in (
      _,
      (header, are, refl),
      c.in_ok-end_object.ensures ∙ ap object_ended (put ∙ ap (with_members header) c.in_ok-begin_object.ensures)
          ∙ nested (codes "tcp") header (tokens_in c.put_ports.new.line)
          ∙ simp (with_append, c.in_ok-put_ports.ensures, c.source_port.ensures, c.destination_port.ensures),
    )
