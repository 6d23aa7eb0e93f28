use Rattle.std.proofs.Common.{◌≡◌, ◌+◌, List, [], length}
use Rattle.tcp_part.specs.TcpOptions.{join, saturated}
use Rattle.tcp_part.specs.declared.tcp_option_element.TcpOptionElement.{TcpOptionElement}
use Rattle.etherparse_transport_c.specs.TcpOptions.{gathered}
use Rattle.etherparse_transport_c.proofs.tcp_option.refusal_of_many.Given as goal

-- the elements found so far and the rest are the whole list; `needed` is the number of bytes of the found elements
abbrev pub invariant-loop-option : goal.invariant-loop-option
invariant-loop-option l =
    (found : List TcpOptionElement)
    × (gathered found l.rest ≡ gathered [] l.options)
    × (length found + length l.rest ≡ length l.options)
    × (l.needed ≡ saturated (length (join found)))

abbrev pub decreases-loop-option : goal.decreases-loop-option
decreases-loop-option l = length l.rest
