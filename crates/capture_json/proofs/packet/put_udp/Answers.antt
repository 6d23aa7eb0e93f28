use Rattle.std.proofs.Common.{[], ◌∷◌, ◌∙◌}
use Rattle.std.proofs.lemmas.Result.{on_ok_weaker}
use Rattle.std.specs.Prelude.{codes}
use Rattle.net_base.specs.Bytes.{be_number}
use Rattle.capture_json.specs.Members.{Member, whole_number}
use Rattle.capture_json.specs.Tokens.{tokens_in}
use Rattle.capture_json.proofs.TokensLemmas.{nested_by}
use Rattle.capture_json.proofs.packet.put_udp.Goals as goal

-- the ports, and the length in braces
pub returns : goal.returns
returns c =
    let length : Member = (codes "length", whole_number (be_number c.args.datagram.now 4 2)) in
    on_ok_weaker c.end_object.result
    (λ ended. nested_by (codes "udp") (length ∷ []) (tokens_in c.put_ports.new.line) _ _ _ c.in_ok-begin_object.ensures
    (c.in_ok-put_number.ensures ∙ (simp (c.from.ensures, c.length.ensures))) ended
    ∙ (simp (c.in_ok-put_ports.ensures, c.source_port.ensures, c.destination_port.ensures)))
    c.end_object.ensures
