use Rattle.std.proofs.Common.{◌∙◌, ap, append_assoc, subst}
use Rattle.std.specs.Io.KnownBytes.{Appends}
use Rattle.std.proofs.KnownBytes.{Appends-trans}
use Rattle.capture_words.specs.Flags.{flags_text}
use Rattle.capture_words.proofs.FlagLemmas.{flags_mapped}
use Rattle.capture_words.proofs.WrittenLemmas.{then_one}
use Rattle.capture_words.proofs.tcp.write_header.Goals as goal

pub returns : goal.returns
returns g c =
    let mapped = flags_mapped (λ flag. (flag.0, flag.1.now)) c.named_flags.result in
    let flags = subst (Appends _ _) (mapped ∙ ap (flags_text (λ flag. flag)) c.named_flags.ensures) c.in_ok-write_flags.ensures in
    then_one _ _ _ _ _ _ _
    (Appends-trans _ _ _ _ _ (Appends-trans _ _ _ _ _ flags c.in_ok-write_numbers.ensures) c.in_ok-write_urgent_pointer.ensures)
    (λ options are. (options, are, simp append_assoc)) c.write_options.ensures
