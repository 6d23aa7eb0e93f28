use Rattle.std.proofs.Common.{arith}
use Rattle.icmp_part.specs.Icmpv4ReadsBack.{TimestampFits}
use Rattle.icmp_part.proofs.TimestampLemmas.{timestamp_fields_read}
use Rattle.icmp_part.proofs.icmpv4.timestamp_message.TimestampMessage.to_bytes.Goals as goal

pub returns-clause-read_back : goal.returns-clause-read_back
returns-clause-read_back c =
    let fit : TimestampFits c.args.self.now = (omega arith, omega arith, omega arith, omega arith, omega arith) in
    rw (
      c.to_be_bytes-id.ensures,
      c.to_be_bytes-seq.ensures,
      c.to_be_bytes-originate.ensures,
      c.to_be_bytes-receive.ensures,
      c.to_be_bytes-transmit.ensures,
    )
    (timestamp_fields_read c.args.self.now fit)

pub returns-clause-fits : goal.returns-clause-fits
returns-clause-fits c = (omega arith, omega arith, omega arith, omega arith, omega arith)
