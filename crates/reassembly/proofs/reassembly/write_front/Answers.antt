use Rattle.std.proofs.Common.{◌≡◌, Some, sym, ◌∙◌, ap, subst, rules}
use Rattle.reassembly.proofs.PacketLemmas.{front_by}
use Rattle.reassembly.specs.Packets.{IsFront}
use Rattle.reassembly.proofs.reassembly.write_front.Goals as goal

pub returns-clause-payload : goal.returns-clause-payload
returns-clause-payload c =
    let same : c.in_ok-payload_len.payload_len ≡ c.args.received = search rules in
    let complete : c.args.end ≡ Some c.args.received = search rules in
    (front_by c.args.room c.in_ok-payload_len.payload_len c.args.buffer.now c.write_whole_header.new.buffer c.as_slice.result.now c.args.end
    c.write_whole_header.result (complete ∙ ap (λ n. Some n) (sym same)) c.write_whole_header.ensures.found c.write_whole_header.ensures.place
    c.write_whole_header.ensures.written c.write_whole_header.ensures.unchanged (c.requires.long complete)).0

pub returns-clause-written : goal.returns-clause-written
returns-clause-written c =
    let same : c.in_ok-payload_len.payload_len ≡ c.args.received = search rules in
    let complete : c.args.end ≡ Some c.args.received = search rules in
    subst (λ header. IsFront c.args.room c.write_whole_header.new.buffer header c.args.end c.args.received c.write_whole_header.result)
    c.as_slice.ensures.value
    (subst (λ n. IsFront c.args.room c.write_whole_header.new.buffer c.as_slice.result.now c.args.end n c.write_whole_header.result) same
    (front_by c.args.room c.in_ok-payload_len.payload_len c.args.buffer.now c.write_whole_header.new.buffer c.as_slice.result.now c.args.end
    c.write_whole_header.result (complete ∙ ap (λ n. Some n) (sym same)) c.write_whole_header.ensures.found c.write_whole_header.ensures.place
    c.write_whole_header.ensures.written c.write_whole_header.ensures.unchanged (c.requires.long complete)).1)
