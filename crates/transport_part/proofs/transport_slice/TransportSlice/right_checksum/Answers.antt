use Rattle.std.proofs.Common.{◌<◌, refl, subst, rules, arith}
use Rattle.ip_part.specs.Addresses.{by_value}
use Rattle.transport_part.specs.Verdicts.{Judges}
use Rattle.transport_part.specs.declared.checksum_verdict.ChecksumVerdict.TheVariants as verdicts
use Rattle.transport_part.proofs.RightChecksumLaws.{chosen_by, judged_right}
use Rattle.transport_part.proofs.transport_slice.TransportSlice.right_checksum.Goals as goal

pub returns-in-Right-clause-right : goal.returns-in-Right-clause-right
returns-in-Right-clause-right c =
    judged_right (by_value c.args.addresses) c.args.self.now verdicts.Right c.stored_checksum-stored.result
    c.stored_checksum-stored.ensures.bytes
    c.stored_checksum-stored.ensures.long tt (λ is. cc is)
    (subst (Judges (by_value c.args.addresses) c.args.self.now) c.in-Right.is c.checksum_verdict.ensures.judged)
    c.stored_checksum-stored.ensures.stored

pub returns-in-Absent-clause-chosen : goal.returns-in-Absent-clause-chosen
returns-in-Absent-clause-chosen c =
    chosen_by (by_value c.args.addresses) c.args.self.now verdicts.Absent _ c.absent_checksum.result c.checksum_verdict.ensures.one_verdict
    tt
    (subst (Judges (by_value c.args.addresses) c.args.self.now) c.in-Absent.is c.checksum_verdict.ensures.judged)
    c.absent_checksum.ensures.some

pub returns-in-Wrong-clause-chosen : goal.returns-in-Wrong-clause-chosen
returns-in-Wrong-clause-chosen c =
    let small : c.in-Wrong.expected < 65536 = search (rules, arith) in
    chosen_by (by_value c.args.addresses) c.args.self.now (verdicts.Wrong c.in-Wrong.expected) _ c.in-Wrong.expected
    c.checksum_verdict.ensures.one_verdict small
    (subst (Judges (by_value c.args.addresses) c.args.self.now) c.in-Wrong.is c.checksum_verdict.ensures.judged) refl

pub returns-in-Partial-clause-chosen : goal.returns-in-Partial-clause-chosen
returns-in-Partial-clause-chosen c =
    let small : c.in-Partial.expected < 65536 = search (rules, arith) in
    chosen_by (by_value c.args.addresses) c.args.self.now (verdicts.Partial c.in-Partial.expected) _ c.in-Partial.expected
    c.checksum_verdict.ensures.one_verdict small
    (subst (Judges (by_value c.args.addresses) c.args.self.now) c.in-Partial.is c.checksum_verdict.ensures.judged) refl
