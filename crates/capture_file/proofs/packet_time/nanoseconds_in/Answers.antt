use Rattle.std.proofs.Common.{arith}
use Rattle.std.proofs.Math.Nat.{one-le-pow}
use Rattle.capture_file.proofs.packet_time.nanoseconds_in.Goals as goal

pub nonzero_div-result : goal.nonzero_div-result
nonzero_div-result c = grind (arith, c.saturating_pow.ensures, one-le-pow c.in-PowerOfTen.exponent 10 (omega arith))
