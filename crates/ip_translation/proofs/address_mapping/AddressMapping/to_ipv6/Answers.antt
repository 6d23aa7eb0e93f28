use Rattle.std.proofs.Common.{◌^◌, ◌<◌, ◌-◌, ◌+◌, arith, subst, sym}
use Rattle.std.proofs.lemmas.Nat.{mod_below, pow_pos}
use Rattle.ip_translation.proofs.MappingLemmas.{joined_fits, shifted_fits}
use Rattle.ip_translation.proofs.address_mapping.AddressMapping.to_ipv6.Goals as goal

pub with_zeros-requires : goal.with_zeros-requires
with_zeros-requires c =
    let mapping = c.args.self.now in
    let counted = mapping.ipv6_counted in
    let suffix = mapping.suffix_fits in
    shifted_fits mapping.ipv6 mapping.ipv6_len (32 - mapping.ipv4_len) 128 mapping.ipv6_fits (omega arith)

pub overflow_add-with_zeros : goal.overflow_add-with_zeros
overflow_add-with_zeros c =
    let mapping = c.args.self.now in
    let len = 32 - mapping.ipv4_len in
    let counted = mapping.ipv6_counted in
    let suffix = mapping.suffix_fits in
    let below = mod_below c.from.result (2 ^ len) (pow_pos len) in
    let low : c.low_bits-suffix.result < 2 ^ len = subst (λ n. n < 2 ^ len) (sym c.low_bits-suffix.ensures) below in
    let fits = joined_fits mapping.ipv6 mapping.ipv6_len len c.low_bits-suffix.result 128 mapping.ipv6_fits low (omega arith) in
    grind (arith, fits)

pub with_zeros-requires-2 : goal.with_zeros-requires-2
with_zeros-requires-2 c =
    let mapping = c.args.self.now in
    let len = 32 - mapping.ipv4_len in
    let counted = mapping.ipv6_counted in
    let suffix = mapping.suffix_fits in
    let below = mod_below c.from.result (2 ^ len) (pow_pos len) in
    let low : c.low_bits-suffix.result < 2 ^ len = subst (λ n. n < 2 ^ len) (sym c.low_bits-suffix.ensures) below in
    let joined = joined_fits mapping.ipv6 mapping.ipv6_len len c.low_bits-suffix.result (mapping.ipv6_len + len) mapping.ipv6_fits low
    (omega arith) in
    let fits = shifted_fits _ (mapping.ipv6_len + len) ((128 - mapping.ipv6_len) - len) 128 joined (omega arith) in
    grind (arith, fits)
