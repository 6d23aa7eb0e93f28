use Rattle.std.proofs.Common.{◌≡◌, false, subst}
use Rattle.std.specs.Prelude.{◌==◌, length}
use Rattle.std.proofs.KnownBytes.{Appends-trans}
use Rattle.capture_words.proofs.WrittenLemmas.{one_then}
use Rattle.capture_words.proofs.TcpTextLemmas.{options_written}
use Rattle.capture_words.proofs.tcp_options.write_options.Goals as goal

pub returns : goal.returns
returns g c =
    let (list, is, appends) = c.in_ok-write_each.ensures in
    one_then _ _ _ _ _ _ _
    (Appends-trans _ _ _ _ _ c.in_ok-write.ensures.bytes appends)
    (options_written _ list (subst (λ bytes. false ≡ (length bytes == 0)) c.options.ensures.value c.if-is_empty.ensures) is)
    c.write-2.ensures.bytes
