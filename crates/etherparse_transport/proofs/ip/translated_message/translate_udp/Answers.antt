use Rattle.std.proofs.Common.{◌≡◌, ◌+◌, List, ℕ, refl, sym, ap, ◌∙◌, arith}
use Rattle.net_base.specs.StoredChecksum.{with_checksum}
use Rattle.word_sum.specs.Checksum.{folded, total}
use Rattle.word_sum.specs.ChecksumChange.{TurnsInto}
use Rattle.etherparse_transport.specs.Translations.{number, port_or, with_number}
use Rattle.etherparse_transport.proofs.TranslationSums.{number_after, stored_number_total}
use Rattle.etherparse_transport.proofs.ip.translated_message.translate_udp.Goals as goal

pub returns-clause-verifies : goal.returns-clause-verifies
returns-clause-verifies c = λ before after turns long some.
    let message : List ℕ = c.args.packet.now in
    let with_ports : List ℕ = c.replace_ports-change.new.message in
    let translated : List ℕ = c.replace_number.new.message in
    let checksum : ℕ = number 6 message in
    let same : number 6 with_ports ≡ checksum =
    ap (number 6) c.replace_ports-change.ensures.ports
    ∙ number_after 2 (port_or c.args.destination_port 2 message) 6 (with_number 0 (port_or c.args.source_port 0 message) message)
    (omega arith)
    ∙ number_after 0 (port_or c.args.source_port 0 message) 6 message (omega arith) in
    let without : ℕ = total (with_checksum 6 message 0) in
    let without_too : ℕ = total (with_checksum 6 with_ports 0) in
    let len = c.replace_ports-change.auto.message in
    let was : without + checksum ≡ total message + 0 = stored_number_total 6 0 message refl (omega arith) (omega (arith, long)) in
    let is : without_too + number 6 with_ports ≡ total with_ports + 0 =
    stored_number_total 6 0 with_ports refl (omega arith) (omega (arith, long, len)) in
    let stored : total translated + number 6 with_ports ≡ total with_ports + c.apply_udp.result =
    c.replace_number.ensures.total (omega (arith, long, len)) in
    let ports = c.replace_ports-change.ensures.total (omega (arith, long)) in
    let turned : TurnsInto c.replace_ports-change.result (before + without) (after + without_too) =
    c.replace_ports-change.ensures.extends (omega (arith, long)) before after without without_too turns
    (omega (arith, was, is, same, ports)) in
    let sum : before + without + c.number-checksum.result ≡ before + total message = omega (arith, was, c.number-checksum.ensures) in
    let sum_too : after + without_too + c.apply_udp.result ≡ after + total translated = omega (arith, is, stored) in
    let iff = c.apply_udp.ensures.verifies (before + without) (after + without_too) turned
    (λ none. some (sym c.number-checksum.ensures ∙ none)) in (
      λ ones. ap folded (sym sum) ∙ iff.0 (ap folded sum_too ∙ ones),
      λ ones. ap folded (sym sum_too) ∙ iff.1 (ap folded sum ∙ ones),
    )
