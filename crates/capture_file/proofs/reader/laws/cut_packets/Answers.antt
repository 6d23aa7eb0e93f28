use Rattle.capture_file.proofs.CapturePacketsLaws.{packets_before_cut}
use Rattle.capture_file.proofs.reader.laws.cut_packets.Goals as goal

pub returns : goal.returns
returns c = record { before = packets_before_cut }
