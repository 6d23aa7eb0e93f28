use Rattle.std.proofs.Common.{◌≡◌, ap, ◌∙◌, rules}
use Rattle.udp_part.specs.UdpFormat.{header_of, wire}
use Rattle.udp_part.specs.declared.udp_header.UdpHeader.{UdpHeader}
use Rattle.udp_part.proofs.UdpFormatLemmas.{wire-header_of_whole}
use Rattle.udp_part.proofs.udp_header.UdpHeader.from_bytes.Goals as goal

pub returns-clause-written_back : goal.returns-clause-written_back
returns-clause-written_back c =
    let header : UdpHeader = record {
      source_port = c.from_be_bytes.result;
      destination_port = c.from_be_bytes-2.result;
      length = c.from_be_bytes-3.result;
      checksum = c.from_be_bytes-4.result;
    } in
    let read : header ≡ header_of c.args.bytes = search rules in
    ap wire read ∙ wire-header_of_whole c.args.bytes (search rules) (search rules)
