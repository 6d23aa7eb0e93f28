use Rattle.std.proofs.Common.{arith}
use Rattle.ip_translation.proofs.MappingLemmas.{high_below}
use Rattle.ip_translation.proofs.address_mapping.AddressMapping.new.Goals as goal

pub invariant_of-result-clause-ipv4_fits : goal.invariant_of-result-clause-ipv4_fits
invariant_of-result-clause-ipv4_fits c =
    let fits = high_below c.from-ipv4_number.result c.args.ipv4_len 32 (omega arith) (omega arith) in
    grind (arith, fits)

pub invariant_of-result-clause-ipv6_fits : goal.invariant_of-result-clause-ipv6_fits
invariant_of-result-clause-ipv6_fits c =
    let fits = high_below c.from_be_bytes-ipv6_number.result c.args.ipv6_len 128 (omega arith) (omega arith) in
    grind (arith, fits)
