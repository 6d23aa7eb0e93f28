use Rattle.std.proofs.Common.{◌^◌, ◌<◌, ◌-◌, arith, subst, sym}
use Rattle.std.proofs.lemmas.Nat.{mod_below, pow_pos}
use Rattle.ip_translation.proofs.MappingLemmas.{joined_fits}
use Rattle.ip_translation.proofs.address_mapping.AddressMapping.to_ipv4.Goals as goal

pub overflow_cast-result : goal.overflow_cast-result
overflow_cast-result c =
    let mapping = c.args.self.now in
    let len = 32 - mapping.ipv4_len in
    let below = mod_below c.high_bits.result (2 ^ len) (pow_pos len) in
    let counted = mapping.ipv4_counted in
    let low : c.low_bits-suffix.result < 2 ^ len = subst (λ n. n < 2 ^ len) (sym c.low_bits-suffix.ensures) below in
    let fits = joined_fits mapping.ipv4 mapping.ipv4_len len c.low_bits-suffix.result 32 mapping.ipv4_fits low (omega arith) in
    grind (arith, fits)
