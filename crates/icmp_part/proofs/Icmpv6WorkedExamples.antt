-- Worked examples of the ICMPv6 definitions, so that a wrong definition fails before any code does.
use Rattle.std.proofs.Common.{◌≡◌, ◌≢◌, ℕ, zero, suc, List, [], ◌∷◌, length, replicate, true, false, Some, None, refl, arith}
use Rattle.std.specs.Prelude.{slice_index}
use Rattle.std.specs.declared.result.Result.TheVariants.{Ok}
use Rattle.net_base.specs.Refusals.{too_big}
use Rattle.net_base.specs.declared.err.layer.Layer.TheVariants as layers
use Rattle.net_base.specs.declared.err.len_source.LenSource.TheVariants.{Slice}
use Rattle.net_base.specs.declared.err.value_type.ValueType.TheVariants.{Icmpv6PayloadLength}
use Rattle.word_sum.specs.Checksum.{checksum_of, folded, total}
use Rattle.icmp_part.specs.Icmpv6Format.{DecodesAs, canonical, checksummed, dest_unreachable_codes, format_of, icmp_type_of, max_payload_len, parameter_problem_codes, pseudo_header, refusal, wire}
use Rattle.icmp_part.specs.Icmpv6ReadsBack.{reads_back}
use Rattle.net_base.specs.Detection.{DifferInOneByte, DifferInOneWord, WordsExchanged}
use Rattle.icmp_part.specs.Icmpv6Validity.{IsValidIcmpv6}
use Rattle.icmp_part.specs.declared.icmpv6.dest_unreachable_code.DestUnreachableCode.TheVariants as unreachable
use Rattle.icmp_part.specs.declared.icmpv6.parameter_problem_code.ParameterProblemCode.TheVariants as problem
use Rattle.icmp_part.specs.declared.icmpv6.time_exceeded_code.TimeExceededCode.TheVariants as exceeded
use Rattle.icmp_part.specs.declared.icmpv6_type.Icmpv6Type.{Icmpv6Type}
use Rattle.icmp_part.specs.declared.icmpv6_type.Icmpv6Type.TheVariants as kinds

-- ---- reading

-- a neighbor advertisement with every bit of bytes 4 to 7 set
advertisement_bytes : List ℕ
advertisement_bytes = 0x88 ∷ 0 ∷ 0 ∷ 0 ∷ 0xFF ∷ 0xFF ∷ 0xFF ∷ 0xFF ∷ []

every_flag : Icmpv6Type
every_flag = kinds.NeighborAdvertisement (record { router = true; solicited = true; override_flag = true })

advertisement_read : DecodesAs advertisement_bytes (record { icmp_type = every_flag; checksum = 0 }) []
unfolding format_of every_flag advertisement_bytes
advertisement_read = record { accepted = refl; fields = refl; after_header = refl }

advertisement_canonical : canonical advertisement_bytes ≡ 0x88 ∷ 0 ∷ 0 ∷ 0 ∷ 0xE0 ∷ 0 ∷ 0 ∷ 0 ∷ []
unfolding format_of advertisement_bytes
advertisement_canonical = refl

-- neighbor advertisements with one flag each
router_alone : icmp_type_of (0x88 ∷ 0 ∷ 0 ∷ 0 ∷ 0x9F ∷ 0 ∷ 0 ∷ 0 ∷ [])
    ≡ kinds.NeighborAdvertisement (record { router = true; solicited = false; override_flag = false })
unfolding format_of
router_alone = refl

solicited_alone : icmp_type_of (0x88 ∷ 0 ∷ 0 ∷ 0 ∷ 0x5F ∷ 0 ∷ 0 ∷ 0 ∷ [])
    ≡ kinds.NeighborAdvertisement (record { router = false; solicited = true; override_flag = false })
unfolding format_of
solicited_alone = refl

override_alone : icmp_type_of (0x88 ∷ 0 ∷ 0 ∷ 0 ∷ 0x3F ∷ 0 ∷ 0 ∷ 0 ∷ [])
    ≡ kinds.NeighborAdvertisement (record { router = false; solicited = false; override_flag = true })
unfolding format_of
override_alone = refl

-- a packet with a byte after its header
address_unreachable_bytes : List ℕ
address_unreachable_bytes = 1 ∷ 3 ∷ 0x12 ∷ 0x34 ∷ 0xFF ∷ 0xFF ∷ 0xFF ∷ 0xFF ∷ 9 ∷ []

address_unreachable : Icmpv6Type
address_unreachable = kinds.DestinationUnreachable unreachable.Address

address_unreachable_read : DecodesAs address_unreachable_bytes (record { icmp_type = address_unreachable; checksum = 0x1234 }) (9 ∷ [])
unfolding format_of address_unreachable address_unreachable_bytes
address_unreachable_read = record { accepted = refl; fields = refl; after_header = refl }

address_unreachable_canonical : canonical address_unreachable_bytes ≡ 1 ∷ 3 ∷ 0x12 ∷ 0x34 ∷ 0 ∷ 0 ∷ 0 ∷ 0 ∷ 9 ∷ []
unfolding format_of address_unreachable_bytes
address_unreachable_canonical = refl

-- code 7 of a destination unreachable message is not listed, and every bit is kept
unlisted_bytes : List ℕ
unlisted_bytes = 1 ∷ 7 ∷ 0 ∷ 0 ∷ 0xFF ∷ 0xFF ∷ 0xFF ∷ 0xFF ∷ []

unlisted : icmp_type_of unlisted_bytes ≡ kinds.Unknown 1 7 (replicate 4 0xFF)
unfolding format_of unlisted_bytes
unlisted = refl

unlisted_canonical : canonical unlisted_bytes ≡ unlisted_bytes
unfolding format_of unlisted_bytes
unlisted_canonical = refl

seven_codes : length dest_unreachable_codes ≡ 7
seven_codes = refl

eleven_codes : length parameter_problem_codes ≡ 11
eleven_codes = refl

mtu_of_1500 : icmp_type_of (2 ∷ 0 ∷ 0 ∷ 0 ∷ 0 ∷ 0 ∷ 5 ∷ 0xDC ∷ []) ≡ kinds.PacketTooBig 1500
unfolding format_of
mtu_of_1500 = refl

reassembly : icmp_type_of (3 ∷ 1 ∷ replicate 6 0) ≡ kinds.TimeExceeded exceeded.FragmentReassemblyTimeExceeded
unfolding format_of
reassembly = refl

option_too_big : icmp_type_of (4 ∷ 0x0A ∷ 0 ∷ 0 ∷ 0 ∷ 0 ∷ 0 ∷ 0x28 ∷ [])
    ≡ kinds.ParameterProblem (record { code = problem.OptionTooBig; pointer = 40 })
unfolding format_of
option_too_big = refl

code_11 : icmp_type_of (4 ∷ 0x0B ∷ 0 ∷ 0 ∷ 0 ∷ 0 ∷ 0 ∷ 0x28 ∷ []) ≡ kinds.Unknown 4 0x0B (0 ∷ 0 ∷ 0 ∷ 0x28 ∷ [])
unfolding format_of
code_11 = refl

solicitation : icmp_type_of (0x85 ∷ 0 ∷ 0 ∷ 0 ∷ 1 ∷ 2 ∷ 3 ∷ 4 ∷ []) ≡ kinds.RouterSolicitation
unfolding format_of
solicitation = refl

-- a router advertisement with a hop limit of 64, the M flag, five reserved bits, and a lifetime of 1800 seconds
router_advertised : icmp_type_of (0x86 ∷ 0 ∷ 0x32 ∷ 0x35 ∷ 0x40 ∷ 0xBF ∷ 7 ∷ 8 ∷ [])
    ≡ kinds.RouterAdvertisement (record { cur_hop_limit = 64; managed_address_config = true; other_config = false; router_lifetime = 1800 })
unfolding format_of
router_advertised = refl

other_code_of_advertisement : icmp_type_of (0x86 ∷ 1 ∷ 0 ∷ 0 ∷ 0x40 ∷ 0xBF ∷ 7 ∷ 8 ∷ []) ≡ kinds.Unknown 0x86 1 (0x40 ∷ 0xBF ∷ 7 ∷ 8 ∷ [])
unfolding format_of
other_code_of_advertisement = refl

redirected : icmp_type_of (0x89 ∷ 0 ∷ 0 ∷ 0 ∷ 0xFF ∷ 0xFF ∷ 0xFF ∷ 0xFF ∷ []) ≡ kinds.Redirect
unfolding format_of
redirected = refl

-- ---- errors

seven_bytes : refusal (replicate 7 0)
    ≡ Some (record { required_len = 8; len = 7; len_source = Slice; layer = layers.Icmpv6; layer_start_offset = 0 })
seven_bytes = refl

eight_bytes : refusal (replicate 8 0) ≡ None
eight_bytes = refl

longest_payload : too_big Icmpv6PayloadLength max_payload_len 4294967287 ≡ None
longest_payload = refl

payload_too_long : too_big Icmpv6PayloadLength max_payload_len 4294967288
    ≡ Some (record { actual = 4294967288; max_allowed = 4294967287; value_type = Icmpv6PayloadLength })
payload_too_long = refl

-- ---- writing

-- a router advertisement with a hop limit of 64, the M flag, and a lifetime of 1800 seconds
advertised : Icmpv6Type
advertised =
    kinds.RouterAdvertisement (record { cur_hop_limit = 64; managed_address_config = true; other_config = false; router_lifetime = 1800 })

advertised_written : wire (record { icmp_type = advertised; checksum = 0 }) ≡ 0x86 ∷ 0 ∷ 0 ∷ 0 ∷ 0x40 ∷ 0x80 ∷ 7 ∷ 8 ∷ []
unfolding advertised
advertised_written = refl

every_flag_written : wire (record { icmp_type = every_flag; checksum = 0xABCD }) ≡ 0x88 ∷ 0 ∷ 0xAB ∷ 0xCD ∷ 0xE0 ∷ 0 ∷ 0 ∷ 0 ∷ []
unfolding every_flag
every_flag_written = refl

redirect_written : wire (record { icmp_type = kinds.Redirect; checksum = 0 }) ≡ 137 ∷ replicate 7 0
redirect_written = refl

-- ---- checksums, between two addresses of zeros

zeros : List ℕ
zeros = replicate 16 0

ping : Icmpv6Type
ping = kinds.EchoRequest (record { id = 0; seq = 0 })

-- the sum of a pseudo header with next header 58 and length 8
pseudo_header_total : total (pseudo_header zeros zeros 8) ≡ 66
unfolding zeros
pseudo_header_total = refl

ping_checksum : checksum_of (checksummed zeros zeros (record { icmp_type = ping; checksum = 99 }) []) ≡ 0x7FBD
unfolding folded ping zeros
ping_checksum = refl

-- a message with one byte of payload, which is the word 0100 and is counted in the length
ping_with_a_byte : checksummed zeros zeros (record { icmp_type = ping; checksum = 0 }) (1 ∷ []) ≡ 0x8143
unfolding ping zeros
ping_with_a_byte = refl

advertised_checksum : checksum_of (checksummed zeros zeros (record { icmp_type = advertised; checksum = 0 }) []) ≡ 0x3235
unfolding advertised folded zeros
advertised_checksum = refl

ping_valid : IsValidIcmpv6 zeros zeros (0x80 ∷ 0 ∷ 0x7F ∷ 0xBD ∷ 0 ∷ 0 ∷ 0 ∷ 0 ∷ [])
unfolding folded zeros
ping_valid = (omega arith, refl)

ping_with_a_byte_valid : IsValidIcmpv6 zeros zeros (0x80 ∷ 0 ∷ 0x7E ∷ 0xBC ∷ 0 ∷ 0 ∷ 0 ∷ 0 ∷ 1 ∷ [])
unfolding folded zeros
ping_with_a_byte_valid = (omega arith, refl)

-- a change from 0000 to FFFF is not detected
other_zero_valid : IsValidIcmpv6 zeros zeros (0x80 ∷ 0 ∷ 0x7F ∷ 0xBD ∷ 0xFF ∷ 0xFF ∷ 0 ∷ 0 ∷ [])
unfolding folded zeros
other_zero_valid = (omega arith, refl)

-- a change from 0000 to 0001 is detected
one_not_valid : IsValidIcmpv6 zeros zeros (0x80 ∷ 0 ∷ 0x7F ∷ 0xBD ∷ 0 ∷ 1 ∷ 0 ∷ 0 ∷ []) → ⊥
unfolding folded zeros
one_not_valid valid = omega (arith, valid.1)

exchanged_valid : IsValidIcmpv6 zeros zeros (0x80 ∷ 0 ∷ 0xC1 ∷ 0xBB ∷ 0xAB ∷ 0xCD ∷ 0x12 ∷ 0x34 ∷ [])
unfolding folded zeros
exchanged_valid = (omega arith, refl)

-- a packet, in which two words are exchanged, one word is changed, or a byte is added
sent : List ℕ
sent = 0x80 ∷ 0 ∷ 0xC1 ∷ 0xBB ∷ 0x12 ∷ 0x34 ∷ 0xAB ∷ 0xCD ∷ []

exchanged : List ℕ
exchanged = 0x80 ∷ 0 ∷ 0xC1 ∷ 0xBB ∷ 0xAB ∷ 0xCD ∷ 0x12 ∷ 0x34 ∷ []

changed : List ℕ
changed = 0x80 ∷ 0 ∷ 0xC1 ∷ 0xBB ∷ 0x12 ∷ 0x35 ∷ 0xAB ∷ 0xCD ∷ []

exchanged_elsewhere : (at : ℕ) → at ≢ 4 → at ≢ 5 → at ≢ 6 → at ≢ 7 → slice_index exchanged at ≡ slice_index sent at
unfolding sent exchanged
exchanged_elsewhere zero a b c d = refl
exchanged_elsewhere (suc zero) a b c d = refl
exchanged_elsewhere (suc (suc zero)) a b c d = refl
exchanged_elsewhere (suc (suc (suc zero))) a b c d = refl
exchanged_elsewhere (suc (suc (suc (suc zero)))) a b c d = absurd (a refl)
exchanged_elsewhere (suc (suc (suc (suc (suc zero))))) a b c d = absurd (b refl)
exchanged_elsewhere (suc (suc (suc (suc (suc (suc zero)))))) a b c d = absurd (c refl)
exchanged_elsewhere (suc (suc (suc (suc (suc (suc (suc zero))))))) a b c d = absurd (d refl)
exchanged_elsewhere (suc (suc (suc (suc (suc (suc (suc (suc at)))))))) a b c d = refl

words_exchanged : WordsExchanged sent exchanged 4 6
unfolding sent exchanged
words_exchanged = record {
  first_aligned = refl;
  second_aligned = refl;
  first_within = omega arith;
  second_within = omega arith;
  first_is_second = refl;
  second_is_first = refl;
  elsewhere = exchanged_elsewhere;
}

changed_elsewhere : (at : ℕ) → at ≢ 5 → slice_index changed at ≡ slice_index sent at
unfolding sent changed
changed_elsewhere zero a = refl
changed_elsewhere (suc zero) a = refl
changed_elsewhere (suc (suc zero)) a = refl
changed_elsewhere (suc (suc (suc zero))) a = refl
changed_elsewhere (suc (suc (suc (suc zero)))) a = refl
changed_elsewhere (suc (suc (suc (suc (suc zero))))) a = absurd (a refl)
changed_elsewhere (suc (suc (suc (suc (suc (suc at)))))) a = refl

word_changed : DifferInOneWord sent changed 4
unfolding sent changed
word_changed = record {
  aligned = refl;
  within = omega arith;
  differ = λ same. omega (arith, same);
  elsewhere = λ at first second. changed_elsewhere at second;
}

byte_changed : DifferInOneByte sent changed 5
unfolding sent changed
byte_changed = record { within = omega arith; differ = λ same. omega (arith, same); elsewhere = changed_elsewhere }

-- ---- headers read back

-- a message is read back unchanged
advertised_read_back : reads_back advertised 7 (9 ∷ []) ≡ Ok (record { icmp_type = advertised; checksum = 7 }, 9 ∷ [])
unfolding advertised
advertised_read_back = refl

redirect_read_back : reads_back kinds.Redirect 7 [] ≡ Ok (record { icmp_type = kinds.Redirect; checksum = 7 }, [])
redirect_read_back = refl

-- a raw message is read back as the message that its type and code name
raw_advertisement : reads_back (kinds.Unknown 136 0 (replicate 4 0xFF)) 7 [] ≡ Ok (record { icmp_type = every_flag; checksum = 7 }, [])
unfolding every_flag
raw_advertisement = refl

raw_router_advertisement : reads_back (kinds.Unknown 134 0 (64 ∷ 191 ∷ 7 ∷ 8 ∷ [])) 7 []
    ≡ Ok (record { icmp_type = advertised; checksum = 7 }, [])
unfolding advertised
raw_router_advertisement = refl

raw_address_unreachable : reads_back (kinds.Unknown 1 3 (1 ∷ 2 ∷ 3 ∷ 4 ∷ [])) 7 []
    ≡ Ok (record { icmp_type = address_unreachable; checksum = 7 }, [])
unfolding address_unreachable
raw_address_unreachable = refl

-- a raw message with an unlisted type or code stays raw
raw_unlisted : reads_back (kinds.Unknown 136 1 (replicate 4 0xFF)) 7 []
    ≡ Ok (record { icmp_type = kinds.Unknown 136 1 (replicate 4 0xFF); checksum = 7 }, [])
raw_unlisted = refl

listed_stays : reads_back every_flag 7 (9 ∷ []) ≡ Ok (record { icmp_type = every_flag; checksum = 7 }, 9 ∷ [])
unfolding every_flag
listed_stays = refl
