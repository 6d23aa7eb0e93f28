use Rattle.std.proofs.Common.{◌-◌, length}
use Rattle.reassembly.proofs.FragmentHeaderLemmas.{IsReached}
use Rattle.reassembly.proofs.fragment_header.fragment_header_at.Given as goal

abbrev pub invariant-loop-number : goal.invariant-loop-number
invariant-loop-number l = IsReached l.counted l.number.0 l.number_at l.place

abbrev pub decreases-loop-number : goal.decreases-loop-number
decreases-loop-number l = length l.counted - l.place
