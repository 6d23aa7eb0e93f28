use Rattle.std.proofs.Common.{◌≡◌, ◌+◌, ◌%◌, List, ℕ, sym, ap, ◌∙◌, subst, arith, rules}
use Rattle.net_base.specs.StoredChecksum.{with_checksum}
use Rattle.etherparse_transport.specs.Ipv4Translations.{IsHeaderAccepted}
use Rattle.etherparse_transport.specs.HopLimits.{lowered_word}
use Rattle.etherparse_transport.specs.Translations.{with_bytes}
use Rattle.etherparse_transport.proofs.HopLimitLemmas.{lowered_accepted}
use Rattle.etherparse_transport.proofs.ip.hop_limit.lower_ipv4.Goals as goal

pub returns-clause-header : goal.returns-clause-header
returns-clause-header c =
    let packet : List ℕ = c.args.packet.now in
    let checksum : ℕ = c.apply-checksum.result in
    let is : c.replace_bytes.new.bytes ≡ with_bytes 8 (lowered_word packet) (with_checksum 10 packet checksum) = search rules in
    subst (IsHeaderAccepted packet) (sym is)
    (lowered_accepted packet (lowered_word packet) checksum c.requires.header (search rules) (search rules)
    (λ before after turns. c.apply-checksum.ensures.remainder before after
    (c.replace_2bytes-change.ensures.extends before before after (omega (arith, turns)) (c.new.ensures.unchanged before))
    ∙ ap (λ n. (before + n) % 65535) c.number.ensures))
