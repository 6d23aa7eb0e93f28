use Rattle.capture_file.proofs.PcapngLaws.{there_is_a_reading, there_is_one_reading}
use Rattle.capture_file.proofs.pcapng.laws.one_reading.Goals as goal

pub returns : goal.returns
returns c = record { exists = there_is_a_reading; unique = there_is_one_reading }
