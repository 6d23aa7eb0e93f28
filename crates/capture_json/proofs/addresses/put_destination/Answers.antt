use Rattle.std.proofs.Common.{◌≡◌, OnOk, rules, subst, true}
use Rattle.std.specs.Prelude.{codes}
use Rattle.ip_part.specs.Addresses.{by_value}
use Rattle.capture_json.specs.Tokens.{put, tokens_in}
use Rattle.capture_packet.specs.Addresses.{destination_text}
use Rattle.capture_packet.specs.Addresses.{has_destination}
use Rattle.capture_json.proofs.JsonLemmas.{known_destination}
use Rattle.capture_json.proofs.addresses.put_destination.Goals as goal

-- the text of the address that is known
pub returns-in_ok-write-in-Some : goal.returns-in_ok-write-in-Some
returns-in_ok-write-in-Some c =
    let addresses = by_value c.args.addresses in
    let known : has_destination addresses ≡ true = search rules in
    let text : c.as_slice.result.now ≡ destination_text addresses = search rules in
    subst (λ value. OnOk c.put_written.result
    (tokens_in c.put_written.new.line ≡ put (codes "destination") value (tokens_in c.args.line.now)))
    (known_destination addresses c.as_slice.result.now known text) c.put_written.ensures
