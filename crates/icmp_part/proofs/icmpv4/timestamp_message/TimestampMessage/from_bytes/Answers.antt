use Rattle.std.proofs.Common.{◌≡◌, ap, ◌∙◌, rules}
use Rattle.net_base.specs.Bytes.{IsBytes}
use Rattle.icmp_part.specs.Icmpv4Format.{timestamp_fields, timestamp_of}
use Rattle.icmp_part.specs.declared.icmpv4.timestamp_message.TimestampMessage.{TimestampMessage}
use Rattle.icmp_part.proofs.TimestampLemmas.{timestamp_written_back}
use Rattle.icmp_part.proofs.icmpv4.timestamp_message.TimestampMessage.from_bytes.Goals as goal

pub returns-clause-written_back : goal.returns-clause-written_back
returns-clause-written_back c =
    let fits : IsBytes c.args.bytes = search rules in
    let message : TimestampMessage = record {
      id = c.from_be_bytes.result;
      seq = c.from_be_bytes-2.result;
      originate_timestamp = c.from_be_bytes-3.result;
      receive_timestamp = c.from_be_bytes-4.result;
      transmit_timestamp = c.from_be_bytes-5.result;
    } in
    let read : message ≡ timestamp_of c.args.bytes 0 = search rules in
    ap timestamp_fields read ∙ timestamp_written_back c.args.bytes fits (search rules)
