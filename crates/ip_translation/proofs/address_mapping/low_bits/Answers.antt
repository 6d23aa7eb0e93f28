use Rattle.std.proofs.Common.{◌≡◌, ◌^◌, ◌*◌, ◌/◌, ◌<◌, ap, arith, subst, sym, ◌∙◌}
use Rattle.std.proofs.Math.Pow.{split}
use Rattle.ip_translation.proofs.address_mapping.low_bits.Goals as goal

pub with_zeros-requires : goal.with_zeros-requires
with_zeros-requires c =
    let number = c.args.number in
    let len = c.args.len in
    subst (λ bits. bits * 2 ^ len < 2 ^ 128) (sym c.high_bits.ensures) (omega (arith, split number len))

pub overflow_sub-result : goal.overflow_sub-result
overflow_sub-result c =
    let number = c.args.number in
    let len = c.args.len in
    let high : c.with_zeros.result ≡ number / 2 ^ len * 2 ^ len =
    c.with_zeros.ensures ∙ ap (λ bits. bits * 2 ^ len) c.high_bits.ensures in
    omega (arith, split number len, high)

pub returns : goal.returns
returns c =
    let number = c.args.number in
    let len = c.args.len in
    let high : c.with_zeros.result ≡ number / 2 ^ len * 2 ^ len =
    c.with_zeros.ensures ∙ ap (λ bits. bits * 2 ^ len) c.high_bits.ensures in
    omega (arith, split number len, high)
