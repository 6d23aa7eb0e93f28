use Rattle.std.proofs.Common.{◌≡◌, ◌∙◌, ap, subst, sym}
use Rattle.std.specs.Option.{option_map}
use Rattle.std.specs.Prelude.{codes}
use Rattle.capture_packet.specs.Quotes.{by_value}
use Rattle.capture_json.specs.JsonPacket.{quoted_fields, quoted_members}
use Rattle.capture_json.specs.Tokens.{object_ended, tokens_in, with_members}
use Rattle.capture_json.proofs.TokensLemmas.{nested}
use Rattle.capture_json.proofs.quoted.put_quoted.Goals as goal

-- the object of the quoted packet
pub returns-in_ok-end_object-in-Some : goal.returns-in_ok-end_object-in-Some
returns-in_ok-end_object-in-Some c =
    let before = tokens_in c.args.line.now in
    let quoted = quoted_fields (by_value c.in-Some.quoted) in
    subst (λ packet. tokens_in c.end_object.new.self ≡ with_members (quoted_members (option_map by_value packet)) before)
    (sym c.in-Some.is)
    (c.in_ok-end_object-in-Some.ensures
    ∙ ap object_ended (c.in_ok-put_quoted_fields-in-Some.ensures ∙ ap (with_members quoted) c.in_ok-begin_object-in-Some.ensures)
    ∙ nested (codes "quoted") quoted before)
