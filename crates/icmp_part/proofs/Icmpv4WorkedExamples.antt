-- Worked examples of the ICMPv4 definitions, so that a wrong definition fails before any code does.
use Rattle.std.proofs.Common.{◌≡◌, ℕ, zero, suc, List, [], ◌∷◌, length, replicate, Some, inr, refl, arith}
use Rattle.std.specs.declared.result.Result.TheVariants.{Ok, Err}
use Rattle.net_base.specs.declared.err.layer.Layer.{Layer}
use Rattle.net_base.specs.declared.err.layer.Layer.TheVariants as layers
use Rattle.net_base.specs.declared.err.len_error.LenError.{LenError}
use Rattle.net_base.specs.declared.err.len_source.LenSource.TheVariants.{Slice}
use Rattle.word_sum.specs.Checksum.{AcceptsChecksum, checksum_of, folded}
use Rattle.icmp_part.specs.Icmpv4Format.{DecodesAs, canonical, checksummed, dest_unreachable_formats, fixed_payload_size, format_of, icmp_type_of, refusal, wire}
use Rattle.icmp_part.specs.Icmpv4ReadsBack.{reads_back}
use Rattle.net_base.specs.Detection.{IsAllZeros, SumsUpToZero}
use Rattle.icmp_part.specs.Icmpv4Validity.{IsValidIcmpv4}
use Rattle.icmp_part.specs.MessageFormat.{with_zero_checksum}
use Rattle.icmp_part.specs.declared.icmpv4.dest_unreachable_header.DestUnreachableHeader.TheVariants as dest
use Rattle.icmp_part.specs.declared.icmpv4.parameter_problem_header.ParameterProblemHeader.TheVariants as problem
use Rattle.icmp_part.specs.declared.icmpv4.redirect_code.RedirectCode.TheVariants as redirected
use Rattle.icmp_part.specs.declared.icmpv4.time_exceeded_code.TimeExceededCode.TheVariants as exceeded
use Rattle.icmp_part.specs.declared.icmpv4_type.Icmpv4Type.{Icmpv4Type}
use Rattle.icmp_part.specs.declared.icmpv4_type.Icmpv4Type.TheVariants as kinds

-- ---- reading

fragmentation_needed : Icmpv4Type
fragmentation_needed = kinds.DestinationUnreachable (dest.FragmentationNeeded 1500)

-- a packet with a next-hop MTU of 1500
fragmentation_needed_bytes : List ℕ
fragmentation_needed_bytes = 3 ∷ 4 ∷ 0 ∷ 0 ∷ 1 ∷ 2 ∷ 5 ∷ 0xDC ∷ []

fragmentation_needed_read : DecodesAs fragmentation_needed_bytes (record { icmp_type = fragmentation_needed; checksum = 0 }) []
unfolding format_of fragmentation_needed fragmentation_needed_bytes
fragmentation_needed_read = record { accepted = refl; fields = refl; after_header = refl }

fragmentation_needed_canonical : canonical fragmentation_needed_bytes ≡ 3 ∷ 4 ∷ 0 ∷ 0 ∷ 0 ∷ 0 ∷ 5 ∷ 0xDC ∷ []
unfolding format_of fragmentation_needed_bytes
fragmentation_needed_canonical = refl

-- a packet with a byte after its header
pointed : List ℕ
pointed = 0x0C ∷ 0 ∷ 0 ∷ 0 ∷ 7 ∷ 1 ∷ 1 ∷ 1 ∷ 9 ∷ []

pointed_read : DecodesAs pointed (record { icmp_type = kinds.ParameterProblem (problem.PointerIndicatesError 7); checksum = 0 }) (9 ∷ [])
unfolding format_of pointed
pointed_read = record { accepted = refl; fields = refl; after_header = refl }

pointed_canonical : canonical pointed ≡ 0x0C ∷ 0 ∷ 0 ∷ 0 ∷ 7 ∷ 0 ∷ 0 ∷ 0 ∷ 9 ∷ []
unfolding format_of pointed
pointed_canonical = refl

-- a redirect message with the gateway 192.168.0.1
redirect_for_host : icmp_type_of (5 ∷ 1 ∷ 0 ∷ 0 ∷ 192 ∷ 168 ∷ 0 ∷ 1 ∷ [])
    ≡ kinds.Redirect (record { code = redirected.RedirectForHost; gateway_internet_address = 192 ∷ 168 ∷ 0 ∷ 1 ∷ [] })
unfolding format_of
redirect_for_host = refl

-- code 4 of a redirect message is not listed
redirect_unlisted : icmp_type_of (5 ∷ 4 ∷ 0 ∷ 0 ∷ 192 ∷ 168 ∷ 0 ∷ 1 ∷ []) ≡ kinds.Unknown 5 4 (192 ∷ 168 ∷ 0 ∷ 1 ∷ [])
unfolding format_of
redirect_unlisted = refl

reassembly : icmp_type_of (11 ∷ 1 ∷ replicate 6 0) ≡ kinds.TimeExceeded exceeded.FragmentReassemblyTimeExceeded
unfolding format_of
reassembly = refl

-- code 16 of a destination unreachable message is not listed, so every bit is kept
unlisted_bytes : List ℕ
unlisted_bytes = 3 ∷ 16 ∷ 0 ∷ 0 ∷ 1 ∷ 2 ∷ 3 ∷ 4 ∷ []

unlisted_read : DecodesAs unlisted_bytes (record { icmp_type = kinds.Unknown 3 16 (1 ∷ 2 ∷ 3 ∷ 4 ∷ []); checksum = 0 }) []
unfolding format_of unlisted_bytes
unlisted_read = record { accepted = refl; fields = refl; after_header = refl }

unlisted_canonical : canonical unlisted_bytes ≡ unlisted_bytes
unfolding format_of unlisted_bytes
unlisted_canonical = refl

sixteen_codes : length dest_unreachable_formats ≡ 16
sixteen_codes = refl

-- ---- errors

expects : Layer → ℕ → ℕ → LenError
expects layer required len =
    record { required_len = required; len = len; len_source = Slice; layer = layer; layer_start_offset = 0 }

seven_bytes : refusal (replicate 7 0) ≡ Some (expects layers.Icmpv4 8 7)
unfolding expects
seven_bytes = refl

-- fewer than eight bytes are refused for their length, for any type
short_timestamp : refusal (13 ∷ 0 ∷ []) ≡ Some (expects layers.Icmpv4 8 2)
unfolding expects
short_timestamp = refl

-- a timestamp message with a byte after it is refused
timestamp_of_21 : refusal (13 ∷ 0 ∷ replicate 19 0) ≡ Some (expects layers.Icmpv4Timestamp 20 21)
unfolding expects
timestamp_of_21 = refl

timestamp_reply_of_8 : refusal (14 ∷ 0 ∷ replicate 6 0) ≡ Some (expects layers.Icmpv4TimestampReply 20 8)
unfolding expects
timestamp_reply_of_8 = refl

timestamp_reply_of_19 : refusal (14 ∷ 0 ∷ replicate 17 0) ≡ Some (expects layers.Icmpv4TimestampReply 20 19)
unfolding expects
timestamp_reply_of_19 = refl

-- a timestamp type with code 1, which is not listed, is read raw
code_1 : DecodesAs (13 ∷ 1 ∷ replicate 19 0) (record { icmp_type = kinds.Unknown 13 1 (replicate 4 0); checksum = 0 }) (replicate 13 0)
unfolding format_of
code_1 = record { accepted = refl; fields = refl; after_header = refl }

-- ---- timestamp messages

times : Icmpv4Type
times = kinds.TimestampRequest
    (record { id = 1; seq = 2; originate_timestamp = 3; receive_timestamp = 4; transmit_timestamp = 5 })

times_bytes : List ℕ
times_bytes = 13 ∷ 0 ∷ 0xF2 ∷ 0xF0 ∷ 0 ∷ 1 ∷ 0 ∷ 2 ∷ 0 ∷ 0 ∷ 0 ∷ 3 ∷ 0 ∷ 0 ∷ 0 ∷ 4 ∷ 0 ∷ 0 ∷ 0 ∷ 5 ∷ []

times_read : DecodesAs times_bytes (record { icmp_type = times; checksum = 0xF2F0 }) []
unfolding format_of times times_bytes
times_read = record { accepted = refl; fields = refl; after_header = refl }

times_written : wire (record { icmp_type = times; checksum = 0xF2F0 }) ≡ times_bytes
unfolding times times_bytes
times_written = refl

times_alone : fixed_payload_size times ≡ Some 0
unfolding times
times_alone = refl

-- ---- checksums

-- an echo message with identifier 1 and sequence number 2
echo_message : Icmpv4Type
echo_message = kinds.EchoRequest (record { id = 1; seq = 2 })

echo_written : wire (record { icmp_type = echo_message; checksum = 0xF7FC }) ≡ 8 ∷ 0 ∷ 0xF7 ∷ 0xFC ∷ 0 ∷ 1 ∷ 0 ∷ 2 ∷ []
unfolding echo_message
echo_written = refl

-- the checksum field is not summed
echo_checksummed : checksummed (record { icmp_type = echo_message; checksum = 99 }) [] ≡ 0x0803
unfolding echo_message
echo_checksummed = refl

checksum_without_payload : Icmpv4Type → ℕ
checksum_without_payload message = checksum_of (checksummed (record { icmp_type = message; checksum = 0 }) [])

echo_checksum : checksum_without_payload echo_message ≡ 0xF7FC
unfolding checksum_without_payload echo_message folded
echo_checksum = refl

empty_checksum : checksum_without_payload (kinds.EchoReply (record { id = 0; seq = 0 })) ≡ 0xFFFF
unfolding checksum_without_payload folded
empty_checksum = refl

fragmentation_needed_checksum : checksum_without_payload fragmentation_needed ≡ 0xF71F
unfolding checksum_without_payload fragmentation_needed folded
fragmentation_needed_checksum = refl

times_checksum : checksum_without_payload times ≡ 0xF2F0
unfolding checksum_without_payload times folded
times_checksum = refl

-- a payload is summed, even if the packet is not accepted
times_checksum_with_payload : checksum_of (checksummed (record { icmp_type = times; checksum = 0 }) (1 ∷ [])) ≡ 0xF1F0
unfolding times folded
times_checksum_with_payload = refl

-- ---- a receiver's check

echo_bytes : List ℕ
echo_bytes = 8 ∷ 0 ∷ 0xF7 ∷ 0xFC ∷ 0 ∷ 1 ∷ 0 ∷ 2 ∷ []

echo_valid : IsValidIcmpv4 echo_bytes
unfolding echo_bytes folded
echo_valid = refl

-- a message with one byte of payload, which is the word 0100
echo_with_a_byte_valid : IsValidIcmpv4 (8 ∷ 0 ∷ 0xF6 ∷ 0xFC ∷ 0 ∷ 1 ∷ 0 ∷ 2 ∷ 1 ∷ [])
unfolding folded
echo_with_a_byte_valid = refl

times_valid : IsValidIcmpv4 times_bytes
unfolding folded times_bytes
times_valid = refl

-- a change from 0002 to 0003 is detected
three_not_valid : IsValidIcmpv4 (8 ∷ 0 ∷ 0xF7 ∷ 0xFC ∷ 0 ∷ 1 ∷ 0 ∷ 3 ∷ []) → ⊥
unfolding folded
three_not_valid valid = omega (arith, valid)

-- an exchange of words is not detected
exchanged_valid : IsValidIcmpv4 (8 ∷ 0 ∷ 0xF7 ∷ 0xFC ∷ 0 ∷ 2 ∷ 0 ∷ 1 ∷ [])
unfolding folded
exchanged_valid = refl

-- zeros with their checksum are valid, and zeros with a checksum of zeros are not
empty_valid : IsValidIcmpv4 (0 ∷ 0 ∷ 0xFF ∷ 0xFF ∷ replicate 4 0)
unfolding folded
empty_valid = refl

zeros_not_valid : IsValidIcmpv4 (replicate 8 0) → ⊥
unfolding folded
zeros_not_valid valid = omega (arith, valid)

two_zeros : IsAllZeros (0 ∷ 0 ∷ [])
two_zeros zero = refl
two_zeros (suc zero) = refl
two_zeros (suc (suc place)) = refl

zeros_sum_up_to_zero : SumsUpToZero (0 ∷ 0 ∷ [])
zeros_sum_up_to_zero = inr two_zeros

-- if the checksum is 0, all ones are also accepted
zero_valid : IsValidIcmpv4 (0 ∷ 0 ∷ 0 ∷ 0 ∷ 0xFF ∷ 0xFF ∷ 0 ∷ 0 ∷ [])
unfolding folded
zero_valid = refl

ones_valid : IsValidIcmpv4 (0 ∷ 0 ∷ 0xFF ∷ 0xFF ∷ 0xFF ∷ 0xFF ∷ 0 ∷ 0 ∷ [])
unfolding folded
ones_valid = refl

ones_accepted : AcceptsChecksum 0xFFFF 0xFFFF
unfolding folded
ones_accepted = inr (refl, refl)

echo_with_zero_checksum : with_zero_checksum echo_bytes ≡ 8 ∷ 0 ∷ 0 ∷ 0 ∷ 0 ∷ 1 ∷ 0 ∷ 2 ∷ []
unfolding echo_bytes
echo_with_zero_checksum = refl

-- ---- headers read back

times_with_payload : reads_back times 7 (1 ∷ []) ≡ Err (expects layers.Icmpv4Timestamp 20 21)
unfolding times expects
times_with_payload = refl

times_without_payload : reads_back times 7 [] ≡ Ok (record { icmp_type = times; checksum = 7 }, [])
unfolding times
times_without_payload = refl

raw_timestamp_alone : reads_back (kinds.Unknown 13 0 (replicate 4 0)) 7 [] ≡ Err (expects layers.Icmpv4Timestamp 20 8)
unfolding expects
raw_timestamp_alone = refl

raw_timestamp_with_20_bytes : reads_back (kinds.Unknown 14 0 (replicate 4 0)) 7 (replicate 20 0)
    ≡ Err (expects layers.Icmpv4TimestampReply 20 28)
unfolding expects
raw_timestamp_with_20_bytes = refl

raw_timestamp_with_12_bytes : reads_back (kinds.Unknown 13 0 (0 ∷ 1 ∷ 0 ∷ 2 ∷ [])) 7 (0 ∷ 0 ∷ 0 ∷ 3 ∷ 0 ∷ 0 ∷ 0 ∷ 4 ∷ 0 ∷ 0 ∷ 0 ∷ 5 ∷ [])
    ≡ Ok (record { icmp_type = times; checksum = 7 }, [])
unfolding times
raw_timestamp_with_12_bytes = refl

raw_echo : reads_back (kinds.Unknown 8 0 (0 ∷ 1 ∷ 0 ∷ 2 ∷ [])) 7 (9 ∷ []) ≡ Ok (record { icmp_type = echo_message; checksum = 7 }, 9 ∷ [])
unfolding echo_message
raw_echo = refl

raw_fragmentation_needed : reads_back (kinds.Unknown 3 4 (1 ∷ 2 ∷ 5 ∷ 0xDC ∷ [])) 7 []
    ≡ Ok (record { icmp_type = fragmentation_needed; checksum = 7 }, [])
unfolding fragmentation_needed
raw_fragmentation_needed = refl

raw_pointer : reads_back (kinds.Unknown 12 0 (7 ∷ 1 ∷ 1 ∷ 1 ∷ [])) 7 []
    ≡ Ok (record { icmp_type = kinds.ParameterProblem (problem.PointerIndicatesError 7); checksum = 7 }, [])
raw_pointer = refl

-- a raw header with an unlisted type or code stays raw
raw_unlisted : reads_back (kinds.Unknown 13 1 (1 ∷ 2 ∷ 3 ∷ 4 ∷ [])) 7 (replicate 12 0)
    ≡ Ok (record { icmp_type = kinds.Unknown 13 1 (1 ∷ 2 ∷ 3 ∷ 4 ∷ []); checksum = 7 }, replicate 12 0)
raw_unlisted = refl

listed_stays : reads_back fragmentation_needed 7 (9 ∷ []) ≡ Ok (record { icmp_type = fragmentation_needed; checksum = 7 }, 9 ∷ [])
unfolding fragmentation_needed
listed_stays = refl
