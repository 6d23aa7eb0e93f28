use Rattle.std.proofs.Common.{◌≡◌, ◌+◌, ◌-◌, ◌++◌, List, ℕ, length, drop, rules, subst, ap, ◌∙◌}
use Rattle.ip_translation.specs.ErrorsToIpv6.{error_without_checksum, with_new_checksum}
use Rattle.ip_translation.specs.HeadersToIpv6.{header_with, time_to_live}
use Rattle.ip_translation.specs.PacketsToIpv6 as specs
use Rattle.ip_translation.proofs.packet_translation.translate_error.Goals as goal

pub returns-clause-written : goal.returns-clause-written
returns-clause-written c =
    let header : List ℕ = c.args.header.now in
    let message : List ℕ = c.args.message.now in
    let same : c.as_slice.result.now ≡ error_without_checksum c.args.prefixes.now message = search rules in
    subst (λ error. c.write_error_parts.new.buffer
    ≡ (header_with c.args.prefixes.now (length error) (time_to_live header - 1) header
    ++ with_new_checksum c.args.prefixes.now header message error) ++ drop (40 + length error) c.args.buffer.now)
    same c.write_error_parts.ensures.written
    ∙ ap (λ len. specs.error_packet header c.args.prefixes.now message ++ drop len c.args.buffer.now) (search rules)

pub returns-clause-alike : goal.returns-clause-alike
returns-clause-alike c =
    let same : c.as_slice.result.now ≡ error_without_checksum c.args.prefixes.now c.args.message.now = search rules in
    subst (specs.IsChecksumAlike c.args.prefixes.now c.args.header.now c.args.message.now) same c.write_error_parts.ensures.alike
