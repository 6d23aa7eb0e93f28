use Rattle.std.proofs.Common.{◌∙◌, sym, ap}
use Rattle.std.specs.Option.{option_map}
use Rattle.ip_part.specs.Addresses.{by_value}
use Rattle.word_sum.specs.SumValue.{sum_value}
use Rattle.transport_part.proofs.RightChecksumLaws.{partial_tested}
use Rattle.transport_part.specs.StoredChecksums.{pseudo_header_over}
use Rattle.transport_part.proofs.transport_slice.TransportSlice.is_checksum_partial.Goals as goal

pub returns-in-Some-clause-partial : goal.returns-in-Some-clause-partial
returns-in-Some-clause-partial c =
    partial_tested (pseudo_header_over (by_value c.args.addresses) c.args.self.now) c.args.self.now (sum_value c.in-Some.sum) _ _
    (sym (ap (option_map sum_value) c.in-Some.is) ∙ c.pseudo_header_over.ensures.sum) c.ones_complement.ensures
    c.stored_checksum.ensures.stored
