use Rattle.std.proofs.Common.{◌≡◌, ◌+◌, ◌≤◌, [], length, take}
use Rattle.etherparse_transport_c.specs.TcpOptions.{gathered}
use Rattle.etherparse_transport_c.proofs.tcp_option.gather.Given as goal

-- the elements found so far and the rest are the whole list, which fits in the buffer
abbrev pub invariant-loop-option : goal.invariant-loop-option
invariant-loop-option l =
    record {
      gathers : gathered (take l.count l.found) l.rest ≡ gathered [] l.options;
      room : l.count + length l.rest ≤ 40;
      len : length l.found ≡ 40;
    }

abbrev pub decreases-loop-option : goal.decreases-loop-option
decreases-loop-option l = length l.rest
