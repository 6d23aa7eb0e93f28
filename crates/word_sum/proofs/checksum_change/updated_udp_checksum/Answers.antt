use Rattle.word_sum.specs.Checksum.{total}
use Rattle.word_sum.proofs.checksum_change.updated_udp_checksum.Goals as goal

pub returns-clause-updated : goal.returns-clause-updated
returns-clause-updated c packet changed replaced =
    c.apply_udp.ensures.updated (total packet) (total changed)
    (c.replace_slice.ensures.replaces (total packet) packet changed replaced (c.new.ensures.unchanged (total packet)))

pub returns-clause-remainder : goal.returns-clause-remainder
returns-clause-remainder c packet changed replaced =
    c.apply_udp.ensures.remainder (total packet) (total changed)
    (c.replace_slice.ensures.replaces (total packet) packet changed replaced (c.new.ensures.unchanged (total packet)))

pub returns-clause-verifies : goal.returns-clause-verifies
returns-clause-verifies c packet changed replaced =
    c.apply_udp.ensures.verifies (total packet) (total changed)
    (c.replace_slice.ensures.replaces (total packet) packet changed replaced (c.new.ensures.unchanged (total packet)))
