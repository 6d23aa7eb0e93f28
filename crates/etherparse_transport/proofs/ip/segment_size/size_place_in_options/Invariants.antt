use Rattle.std.proofs.Common.{◌≡◌, ◌≤◌, ◌+◌, length}
use Rattle.etherparse_transport.proofs.SegmentSizeLemmas.{IsSearched}
use Rattle.etherparse_transport.proofs.ip.segment_size.size_place_in_options.Given as goal

-- no maximum segment size was found up to `start`
abbrev pub invariant-loop-option : goal.invariant-loop-option
invariant-loop-option l =
    goal.iterator-loop-option.can_next l.rest
    × goal.iterator-loop-option.is_finite l.rest
    × (20 ≤ l.start)
    × (l.start + length l.rest ≡ 20 + length l.options)
    × (IsSearched l.options l.start l.rest)
