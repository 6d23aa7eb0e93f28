use Rattle.std.proofs.Common.{rules}
use Rattle.etherparse_transport.proofs.TranslationLemmas.{ends_with_total}
use Rattle.etherparse_transport.proofs.ip.translated_ipv4.message_end.Goals as goal

pub returns-clause-message : goal.returns-clause-message
returns-clause-message c =
    (ends_with_total c.args.packet.now c.args.header.now c.from-total_len.result c.requires.header
    (search rules) c.requires.begins c.requires.read
    (search rules) (search rules)).message
