use Rattle.capture_file.proofs.PcapngLaws.{blocks_before_cut}
use Rattle.capture_file.proofs.pcapng.laws.cut_files.Goals as goal

pub returns : goal.returns
returns c = record { before = blocks_before_cut }
