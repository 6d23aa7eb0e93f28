use Rattle.std.proofs.Common.{◌≡◌, ◌-◌, List, Option, Some, ℕ, ap, sym, ◌∙◌, rules, arith}
use Rattle.std.specs.Option.{option_map}
use Rattle.ip_part.specs.Addresses.{by_value}
use Rattle.word_sum.specs.Checksum.{folded, total}
use Rattle.word_sum.specs.SumValue.{sum_value}
use Rattle.transport_part.proofs.RightChecksumLaws.{partial_is, partial_with}
use Rattle.transport_part.specs.StoredChecksums.{pseudo_header_over}
use Rattle.transport_part.proofs.transport_slice.TransportSlice.partial_checksum.Goals as goal

pub returns-in-Some-clause-sum : goal.returns-in-Some-clause-sum
returns-in-Some-clause-sum c =
    partial_is (pseudo_header_over (by_value c.args.addresses) c.args.self.now) (sum_value c.in-Some.sum) _
    (sym (ap (option_map sum_value) c.in-Some.is) ∙ c.pseudo_header_over.ensures.sum) c.ones_complement.ensures

pub returns-in-Some-clause-partial : goal.returns-in-Some-clause-partial
returns-in-Some-clause-partial c =
    let header : Option (List ℕ) = pseudo_header_over (by_value c.args.addresses) c.args.self.now in
    let is : Some (65535 - c.ones_complement.result) ≡ option_map (λ bytes. folded (total bytes)) header = returns-in-Some-clause-sum c in
    partial_with (by_value c.args.addresses) c.args.self.now (65535 - c.ones_complement.result) c.pseudo_header_over.ensures.long
    (search (rules, arith)) is
