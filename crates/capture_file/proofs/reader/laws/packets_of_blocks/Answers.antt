use Rattle.capture_file.proofs.PacketsOfBlocksLaws.{packets_are, packets_of_file}
use Rattle.capture_file.proofs.reader.laws.packets_of_blocks.Goals as goal

pub returns : goal.returns
returns c = record { read = packets_are; file = packets_of_file }
