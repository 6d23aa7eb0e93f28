use Rattle.etherparse_transport.proofs.WrittenChecksumLemmas.{both_matched, if_matched, not_refused, refused_for, right_after, there, writes_by, written_is}
use Rattle.etherparse_transport.proofs.ip.written_checksum.right_checksum.Goals as goal

pub returns-in-Ok-clause-refused : goal.returns-in-Ok-clause-refused
returns-in-Ok-clause-refused c =
    let found = c.in-Ok.ensures in
    both_matched c.checksum_in.result c.checksum_in.ensures
    (λ right is. not_refused c.args.packet.now c.in-Ok.found right.0 right.1 found.refused found.found found.stated is)
    (λ error is. refused_for c.args.packet.now c.in-Ok.found error found.refused found.found found.stated is)

pub returns-in-Ok-clause-there : goal.returns-in-Ok-clause-there
returns-in-Ok-clause-there c =
    let found = c.in-Ok.ensures in
    if_matched _ c.checksum_in.result c.checksum_in.ensures
    (λ right is. there c.args.packet.now c.in-Ok.found right.0 right.1 found.refused found.found found.stated is)

pub returns-in-Ok-clause-written : goal.returns-in-Ok-clause-written
returns-in-Ok-clause-written c =
    let found = c.in-Ok.ensures in
    if_matched _ c.checksum_in.result c.checksum_in.ensures
    (λ right is. written_is c.args.packet.now c.in-Ok.found right.0 right.1 found.refused found.found found.stated is)

pub returns-in-Ok-clause-right : goal.returns-in-Ok-clause-right
returns-in-Ok-clause-right c =
    let found = c.in-Ok.ensures in
    if_matched _ c.checksum_in.result c.checksum_in.ensures
    (λ right is. right_after c.args.packet.now c.in-Ok.found right.0 right.1 found.refused found.found found.stated is)

pub returns-in-Ok-clause-chosen : goal.returns-in-Ok-clause-chosen
returns-in-Ok-clause-chosen c =
    let found = c.in-Ok.ensures in
    if_matched _ c.checksum_in.result c.checksum_in.ensures
    (λ right is. writes_by c.args.packet.now c.in-Ok.found right.0 right.1 found.refused found.found found.stated is
    (λ place. (c.type_inv.packet place).fits))
