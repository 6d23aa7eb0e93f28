use Rattle.std.proofs.Common.{◌≡◌, ap, ◌∙◌, rules}
use Rattle.std.specs.Prelude.{slice_index}
use Rattle.net_base.specs.Bytes.{IsBytes, flag}
use Rattle.icmp_part.specs.Icmpv6Format.{managed_bit, other_bit, router_advertisement_fields, router_advertisement_of}
use Rattle.icmp_part.specs.declared.icmpv6.router_advertisement_header.RouterAdvertisementHeader.{RouterAdvertisementHeader}
use Rattle.icmp_part.proofs.Icmpv6FormatLemmas.{router_advertisement_written_back}
use Rattle.icmp_part.proofs.icmpv6.router_advertisement_header.RouterAdvertisementHeader.from_bytes.Goals as goal

pub returns-clause-written_back : goal.returns-clause-written_back
returns-clause-written_back c =
    let fits : IsBytes c.args.bytes = search rules in
    let header : RouterAdvertisementHeader = record {
      cur_hop_limit = slice_index c.args.bytes 0;
      managed_address_config = flag c.args.bytes 1 managed_bit;
      other_config = flag c.args.bytes 1 other_bit;
      router_lifetime = c.from_be_bytes.result;
    } in
    let read : header ≡ router_advertisement_of c.args.bytes 0 = search rules in
    ap router_advertisement_fields read ∙ router_advertisement_written_back c.args.bytes fits (search rules)
