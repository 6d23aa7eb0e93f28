use Rattle.std.proofs.Common.{◌+◌, refl}
use Rattle.net_base.proofs.DetectionLemmas.{complement_tested}
use Rattle.word_sum.specs.Checksum.{total}
use Rattle.net_base.proofs.ipv4_header_slice.is_valid.Goals as goal

pub returns-clause-valid : goal.returns-clause-valid
returns-clause-valid c =
    complement_tested (0 + total c.args.header.now) _ (rw (c.ones_complement.ensures, c.add_slice.ensures.sum, c.new.ensures) refl)

pub returns-clause-bytes : goal.returns-clause-bytes
returns-clause-bytes c = λ place. (c.type_inv.header place).fits
