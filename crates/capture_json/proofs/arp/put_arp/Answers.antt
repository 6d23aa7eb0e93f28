use Rattle.std.specs.Prelude.{codes}
use Rattle.capture_json.specs.JsonArp.{arp_content}
use Rattle.capture_json.specs.Tokens.{tokens_in}
use Rattle.capture_json.proofs.TokensLemmas.{nested_by}
use Rattle.capture_json.proofs.arp.put_arp.Goals as goal

-- the object of the ARP packet
pub returns-in_ok-end_object-in-Some : goal.returns-in_ok-end_object-in-Some
returns-in_ok-end_object-in-Some c =
    rw c.in-Some.is
    (nested_by (codes "arp") (arp_content c.in-Some.arp) (tokens_in c.args.line.now) _ _ _
    c.in_ok-begin_object-in-Some.ensures c.in_ok-put_arp_content-in-Some.ensures c.in_ok-end_object-in-Some.ensures)
