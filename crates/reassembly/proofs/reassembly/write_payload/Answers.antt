use Rattle.std.proofs.Common.{drop, ◌∙◌, ap}
use Rattle.reassembly.proofs.PacketLemmas.{payload_after}
use Rattle.reassembly.proofs.reassembly.write_payload.Goals as goal

pub returns : goal.returns
returns c = ap (drop c.args.room) c.write.ensures ∙ payload_after c.args.room c.args.offset c.args.buffer.now c.args.bytes.now c.requires
