use Rattle.std.proofs.Common.{rules, sym, ap, ◌∙◌}
use Rattle.std.specs.Option.{option_map}
use Rattle.etherparse_transport.specs.declared.err.packet.translate_error.TranslateError.TheVariants.{Ip}
use Rattle.etherparse_transport.proofs.TranslationLemmas.{lax_accepts}
use Rattle.etherparse_transport.proofs.ip.translated_ipv4.check_after_header.Goals as goal

pub returns : goal.returns
returns c =
    ap (option_map Ip) (lax_accepts c.args.packet.now c.args.header.now c.requires.header c.requires.begins
    (sym c.is_total_len_too_short.ensures ∙ c.if-is_total_len_too_short.false) (search rules))
