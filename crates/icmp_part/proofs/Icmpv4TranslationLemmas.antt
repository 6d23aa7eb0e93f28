-- The effect of a new identifier on the sum for an ICMPv4 checksum.
use Rattle.std.proofs.Common.{◌≡◌, ℕ, ◌+◌, List, Some, arith}
use Rattle.std.specs.Int.{to_be_bytes, w16}
use Rattle.icmp_part.specs.EchoIdentifier.{icmpv4_echo_id, icmpv4_with_echo_id}
use Rattle.icmp_part.specs.Icmpv4Format.{checksummed}
use Rattle.icmp_part.specs.declared.icmpv4_type.Icmpv4Type.{Icmpv4Type}
use Rattle.icmp_part.specs.declared.icmpv4_type.Icmpv4Type.TheVariants.{Unknown, EchoReply, DestinationUnreachable, Redirect, EchoRequest, TimeExceeded, ParameterProblem, TimestampRequest, TimestampReply}
use Rattle.word_sum.specs.Checksum.{total}

-- the sum for the checksum of this message and payload
abbrev pub message_sum : Icmpv4Type → List ℕ → ℕ
message_sum message payload = checksummed (record { icmp_type = message; checksum = 0 }) payload

id_replaced : (message : Icmpv4Type) (old id : ℕ) (payload : List ℕ) → Some old ≡ icmpv4_echo_id message
    → message_sum (icmpv4_with_echo_id message id) payload + total (to_be_bytes w16 old) ≡ message_sum message payload
    + total (to_be_bytes w16 id)
id_replaced (EchoRequest echo) old id payload found = let same : old ≡ echo.id = cc in omega arith
id_replaced (EchoReply echo) old id payload found = let same : old ≡ echo.id = cc in omega arith
id_replaced (Unknown type code fields) old id payload found = cc
id_replaced (DestinationUnreachable header) old id payload found = cc
id_replaced (Redirect header) old id payload found = cc
id_replaced (TimeExceeded code) old id payload found = cc
id_replaced (ParameterProblem header) old id payload found = cc
id_replaced (TimestampRequest message) old id payload found = cc
id_replaced (TimestampReply message) old id payload found = cc

pub echo_id_replaced : (message changed : Icmpv4Type) (old id : ℕ) (payload : List ℕ) → Some old ≡ icmpv4_echo_id message
    → changed ≡ icmpv4_with_echo_id message id
    → message_sum changed payload + total (to_be_bytes w16 old) ≡ message_sum message payload + total (to_be_bytes w16 id)
echo_id_replaced message changed old id payload found replaced = rw replaced (id_replaced message old id payload found)
