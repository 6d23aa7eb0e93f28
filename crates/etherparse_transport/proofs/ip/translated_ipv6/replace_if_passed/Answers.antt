use Rattle.std.proofs.Common.{◌∙◌, List, ℕ, ap, drop, sym, take, unwrap_or}
use Rattle.etherparse_transport.specs.Translations.{with_bytes}
use Rattle.etherparse_transport.proofs.ReplacedBytes.{bytes_kept}
use Rattle.etherparse_transport.proofs.ip.translated_ipv6.replace_if_passed.Goals as goal

pub returns-in_default-clause-written : goal.returns-in_default-clause-written
returns-in_default-clause-written c =
    let packet : List ℕ = c.args.packet.now in
    let place : ℕ = c.args.place in
    sym (ap (λ new. with_bytes place (unwrap_or new (take 16 (drop place packet))) packet) c.in_default.is
    ∙ bytes_kept place 16 packet c.requires.room)
