use Rattle.std.proofs.Common.{◌≡◌, length}
use Rattle.capture_file.specs.PcapngSteps.{PassesBlocks}
use Rattle.capture_file.proofs.reader.pcapng_reader.PcapngReader.next_packet.Given as goal

-- the blocks that were read have no item
abbrev pub invariant-loop-passed : goal.invariant-loop-passed
invariant-loop-passed g l =
    (length l.buffer ≡ length l.initial.buffer)
    × PassesBlocks (length l.initial.buffer) l._passed l.initial.self (g.R.Read.remaining l.initial.input)
    (g.R.Read.remaining l.input) l.self
