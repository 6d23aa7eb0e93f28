use Rattle.std.proofs.Common.{◌≡◌, ◌++◌, append_assoc, arith}
use Rattle.std.specs.Prelude.{codes, decimal}
use Rattle.std.specs.Net.Text.{socket_text}
use Rattle.ip_part.specs.Addresses.{by_value}
use Rattle.capture_text.specs.AddressText.{destination_endpoint, source_endpoint}
use Rattle.capture_text.proofs.AddressLemmas.{destination_shown, source_shown}
use Rattle.capture_words.proofs.WrittenLemmas.{written_1}
use Rattle.capture_text.proofs.addresses.write_endpoints.Goals as goal

pub returns-in-None : goal.returns-in-None
returns-in-None g c =
    let addresses = by_value c.args.addresses in
    let source : socket_text c.new-source.result ≡ source_endpoint addresses c.args.source_port = grind (arith, source_shown) in
    let unknown : destination_endpoint addresses c.args.destination_port ≡ codes "unknown:" ++ decimal c.args.destination_port =
    grind arith in
    written_1 _ _ _ _ _ c.write-in-None.ensures.bytes (simp (append_assoc, source, unknown))

pub returns-in-Some : goal.returns-in-Some
returns-in-Some g c =
    let addresses = by_value c.args.addresses in
    let source : socket_text c.new-source.result ≡ source_endpoint addresses c.args.source_port = grind (arith, source_shown) in
    let destination : socket_text c.new-destination.result ≡ destination_endpoint addresses c.args.destination_port =
    grind (arith, destination_shown) in
    written_1 _ _ _ _ _ c.write.ensures.bytes (simp (append_assoc, source, destination))
