use Rattle.std.proofs.Common.{◌∙◌, sym, rules}
use Rattle.icmp_part.specs.Icmpv6ReadsBack.{FieldsFit}
use Rattle.etherparse_transport_c.proofs.Icmpv6ReadsBackLemmas.{buffer_read}
use Rattle.etherparse_transport_c.proofs.icmpv6.etherparse_icmpv6_header_write.Goals as goal

pub returns-in-Some-clause-reads_back : goal.returns-in-Some-clause-reads_back
returns-in-Some-clause-reads_back c accepted len above within =
    let fit : FieldsFit c.in-Some.icmp_type = search rules in
    (buffer_read c.args.fields.now c.in-Some.icmp_type c.deref.result.now c.args.buffer.now c.write.new.buffer c.write.new.written
    c.args.written.now len
    (sym c.in-Some.ensures) fit (search rules) (c.deref.ensures.0 ∙ c.to_bytes.ensures.written) c.to_bytes.ensures.reads_back accepted
    c.write.ensures.buffer c.write.ensures.written above).0

pub returns-in-Some-clause-same : goal.returns-in-Some-clause-same
returns-in-Some-clause-same c accepted len above within =
    let fit : FieldsFit c.in-Some.icmp_type = search rules in
    (buffer_read c.args.fields.now c.in-Some.icmp_type c.deref.result.now c.args.buffer.now c.write.new.buffer c.write.new.written
    c.args.written.now len
    (sym c.in-Some.ensures) fit (search rules) (c.deref.ensures.0 ∙ c.to_bytes.ensures.written) c.to_bytes.ensures.reads_back accepted
    c.write.ensures.buffer c.write.ensures.written above).1
