-- The effect of a new identifier and a new address on the sum for an ICMPv6 checksum.
use Rattle.std.proofs.Common.{◌≡◌, ◌≢◌, ℕ, ◌+◌, ◌%◌, List, [], ◌∷◌, ◌++◌, length, Some, refl, arith}
use Rattle.std.specs.Int.{to_be_bytes, w16, w32}
use Rattle.icmp_part.specs.EchoIdentifier.{icmpv6_echo_id, icmpv6_with_echo_id}
use Rattle.icmp_part.specs.Icmpv6Format.{checksummed, wire}
use Rattle.icmp_part.specs.declared.icmpv6_type.Icmpv6Type.{Icmpv6Type}
use Rattle.icmp_part.specs.declared.icmpv6_type.Icmpv6Type.TheVariants.{Unknown, DestinationUnreachable, PacketTooBig, TimeExceeded, ParameterProblem, EchoRequest, EchoReply, RouterSolicitation, RouterAdvertisement, NeighborSolicitation, NeighborAdvertisement, Redirect}
use Rattle.word_sum.specs.Checksum.{total}
use Rattle.word_sum.proofs.ChecksumLemmas.{total-append_twice}
use Rattle.word_sum.proofs.ChecksumChangeLemmas.{total_replaced}

-- the sum for the checksum of this message and payload
abbrev pub message_sum : List ℕ → List ℕ → Icmpv6Type → List ℕ → ℕ
message_sum source destination message payload = checksummed source destination (record { icmp_type = message; checksum = 0 }) payload

-- the length of the packet with this message and payload
abbrev packet_len : Icmpv6Type → List ℕ → ℕ
packet_len message payload = length (wire (record { icmp_type = message; checksum = 0 })) + length payload

id_replaced : (source destination : List ℕ) (message : Icmpv6Type) (old id : ℕ) (payload : List ℕ) → Some old ≡ icmpv6_echo_id message
    → message_sum source destination (icmpv6_with_echo_id message id) payload + total (to_be_bytes w16 old)
    ≡ message_sum source destination message payload + total (to_be_bytes w16 id)
id_replaced source destination (EchoRequest echo) old id payload found = let same : old ≡ echo.id = cc in omega arith
id_replaced source destination (EchoReply echo) old id payload found = let same : old ≡ echo.id = cc in omega arith
id_replaced source destination (Unknown type code fields) old id payload found = cc
id_replaced source destination (DestinationUnreachable code) old id payload found = cc
id_replaced source destination (PacketTooBig mtu) old id payload found = cc
id_replaced source destination (TimeExceeded code) old id payload found = cc
id_replaced source destination (ParameterProblem header) old id payload found = cc
id_replaced source destination RouterSolicitation old id payload found = cc
id_replaced source destination (RouterAdvertisement header) old id payload found = cc
id_replaced source destination NeighborSolicitation old id payload found = cc
id_replaced source destination (NeighborAdvertisement header) old id payload found = cc
id_replaced source destination Redirect old id payload found = cc

pub echo_id_replaced : (source destination : List ℕ) (message changed : Icmpv6Type) (old id : ℕ) (payload : List ℕ)
    → Some old ≡ icmpv6_echo_id message
    → changed ≡ icmpv6_with_echo_id message id
    → message_sum source destination changed payload + total (to_be_bytes w16 old)
    ≡ message_sum source destination message payload + total (to_be_bytes w16 id)
echo_id_replaced source destination message changed old id payload found replaced =
    rw replaced (id_replaced source destination message old id payload found)

pub source_replaced : (old new destination : List ℕ) (message : Icmpv6Type) (payload : List ℕ) → length old % 2 ≡ length new % 2
    → message_sum new destination message payload + total old ≡ message_sum old destination message payload + total new
source_replaced old new destination message payload alike =
    omega (
      arith,
      total_replaced [] old new (destination ++ (to_be_bytes w32 (packet_len message payload) ++ (0 ∷ 0 ∷ 0 ∷ 58 ∷ []))) refl
          alike,
    )

pub destination_replaced : (source old new : List ℕ) (message : Icmpv6Type) (payload : List ℕ) → length source % 2 ≡ 0
    → length old % 2 ≡ length new % 2
    → message_sum source new message payload + total old ≡ message_sum source old message payload + total new
destination_replaced source old new message payload even alike =
    omega (arith, total_replaced source old new (to_be_bytes w32 (packet_len message payload) ++ (0 ∷ 0 ∷ 0 ∷ 58 ∷ [])) even alike)

-- the sum of a pseudo header is not 0, since its next header is not 0
pub some_sum : (source destination : List ℕ) (message : Icmpv6Type) (payload : List ℕ) → length source % 2 ≡ 0 → length destination % 2 ≡ 0
    → message_sum source destination message payload ≢ 0
some_sum source destination message payload even even_too none =
    omega (
      arith,
      total-append_twice source destination
          (to_be_bytes w32 (packet_len message payload) ++ (0 ∷ 0 ∷ 0 ∷ 58 ∷ [])) even even_too,
    )
