use Rattle.capture_file.proofs.CapturePacketsExist.{there_are_packets}
use Rattle.capture_file.proofs.CapturePacketsLaws.{first_packets, there_is_one_list}
use Rattle.capture_file.proofs.reader.laws.one_list.Goals as goal

pub returns : goal.returns
returns c = record { exists = there_are_packets; unique = there_is_one_list; first = first_packets }
