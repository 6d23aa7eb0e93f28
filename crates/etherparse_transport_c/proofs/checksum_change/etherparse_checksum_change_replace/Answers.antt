use Rattle.std.proofs.Common.{◌≡◌, ◌+◌, ap, arith}
use Rattle.word_sum.specs.Checksum.{total}
use Rattle.word_sum.proofs.ChecksumChangeLemmas.{folded_extended, total_replaced}
use Rattle.etherparse_transport_c.proofs.checksum_change.etherparse_checksum_change_replace.Goals as goal

pub returns-clause-replaces : goal.returns-clause-replaces
returns-clause-replaces c packet between changed replaced turns =
    let old = c.args.old.now in
    let new = c.args.new.now in
    let same = total_replaced replaced.before old new replaced.after replaced.at_even_place replaced.alike in
    let kept : total between + total new ≡ total changed + total old = omega (arith, ap total replaced.was, ap total replaced.is, same) in
    rw (c.added.ensures, c.added-2.ensures)
    (folded_extended packet c.args.change.added (total between) c.args.change.removed (total old) (total new) (total changed) turns kept)
