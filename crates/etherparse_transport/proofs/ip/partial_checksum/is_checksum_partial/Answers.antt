use Rattle.etherparse_transport.proofs.WrittenChecksumLemmas.{has_partial_in, says_whether}
use Rattle.etherparse_transport.proofs.ip.partial_checksum.is_checksum_partial.Goals as goal

pub returns-in-Ok-clause-partial : goal.returns-in-Ok-clause-partial
returns-in-Ok-clause-partial c =
    has_partial_in c.args.packet.now c.in-Ok.found c.has_partial.result c.in-Ok.ensures.refused c.in-Ok.ensures.found c.in-Ok.ensures.stated
    c.has_partial.ensures

pub returns-in-Ok-clause-verdict : goal.returns-in-Ok-clause-verdict
returns-in-Ok-clause-verdict c verdict has =
    says_whether c.args.packet.now c.in-Ok.found verdict c.in-Ok.ensures.found c.in-Ok.ensures.stated has
