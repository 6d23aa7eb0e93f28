use Rattle.std.specs.Prelude.{codes}
use Rattle.capture_json.specs.JsonPacket.{icmpv4_content}
use Rattle.capture_json.specs.Tokens.{tokens_in}
use Rattle.capture_json.proofs.TokensLemmas.{nested_by}
use Rattle.capture_json.proofs.icmp.put_icmpv4.Goals as goal

-- the members of the message in braces
pub returns : goal.returns
returns c =
    nested_by (codes "icmpv4") (icmpv4_content c.args.message.now) (tokens_in c.args.line.now) _ _ _
    c.in_ok-begin_object.ensures c.in_ok-put_icmpv4_content.ensures c.in_ok-end_object.ensures
