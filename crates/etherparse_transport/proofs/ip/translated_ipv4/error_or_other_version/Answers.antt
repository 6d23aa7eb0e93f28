use Rattle.std.proofs.Common.{rules}
use Rattle.etherparse_transport.proofs.TranslationLemmas.{no_version_4}
use Rattle.etherparse_transport.proofs.ip.translated_ipv4.error_or_other_version.Goals as goal

pub returns-in-Ok : goal.returns-in-Ok
returns-in-Ok c = λ has_port. no_version_4 has_port c.args.packet.now (search rules) (search rules)
