use Rattle.std.proofs.Common.{subst}
use Rattle.capture_file.specs.PcapngBlocks.{AreItems}
use Rattle.capture_file.proofs.PcapngBlocksLemmas.{run_reads}
use Rattle.capture_file.proofs.pcapng.block.Blocks.new.Goals as goal

pub returns-clause-reads : goal.returns-clause-reads
returns-clause-reads c = λ run seen from whole. subst (λ file. AreItems file.section file.rest run.items) from (run_reads run whole)
