use Rattle.capture_file.proofs.PcapngLemmas.{accepted, begins_with}
use Rattle.capture_file.proofs.pcapng.laws.accepted_blocks.Goals as goal

pub returns : goal.returns
returns c = record { begins = λ section bytes none. (begins_with section bytes none).is_block; accepted = accepted }
