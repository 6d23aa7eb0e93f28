use Rattle.std.proofs.Common.{◌∙◌, [], subst}
use Rattle.ip_part.specs.Ip.{ipv4_header}
use Rattle.word_sum.specs.Checksum.{Verifies}
use Rattle.etherparse_transport_c.proofs.Ipv4HeaderLemmas.{accepted-begins, passes}
use Rattle.etherparse_transport_c.specs.Checksums.{with_checksum}
use Rattle.etherparse_transport_c.proofs.ipv4_header.computed.Goals as goal

valid : (c : goal.After-checksum_of_header) → Verifies [] (with_checksum 10 (ipv4_header c.args.bytes.now) c.checksum_of_header.result)
valid c =
    subst (λ h. Verifies [] (with_checksum 10 h c.checksum_of_header.result))
    (c.slice.ensures ∙ c.in-Ok.ensures.kept) c.checksum_of_header.ensures.valid

pub returns-in-Ok-clause-valid : goal.returns-in-Ok-clause-valid
returns-in-Ok-clause-valid c = valid c

pub returns-in-Ok-clause-passes : goal.returns-in-Ok-clause-passes
returns-in-Ok-clause-passes c =
    passes c.args.bytes.now c.checksum_of_header.result (accepted-begins c.args.bytes.now c.in-Ok.ensures.refused) c.in-Ok.ensures.refused
    (valid c)
