use Rattle.ip_part.specs.Addresses.{by_value}
use Rattle.transport_part.proofs.OneVerdict.{one_verdict}
use Rattle.transport_part.proofs.transport_slice.TransportSlice.checksum_verdict.Goals as goal

pub returns-clause-one_verdict : goal.returns-clause-one_verdict
returns-clause-one_verdict c = one_verdict (by_value c.args.addresses) c.args.self.now c.lacks_length.ensures.long
