-- Worked examples of the fields of ICMPv6 messages, so that a wrong definition fails before any code does.
use Rattle.std.proofs.Common.{◌≡◌, ℕ, List, [], ◌∷◌, ◌++◌, None, Some, codes, refl, replicate}
use Rattle.std.specs.Fmt.{char_count, digits, padded_integral}
use Rattle.icmp_part.specs.Icmpv6Format.{format_of}
use Rattle.icmp_part.specs.declared.icmpv6_type.Icmpv6Type.TheVariants.{Unknown}
use Rattle.capture_words.specs.HardwareAddress.{hardware_address_text}
use Rattle.capture_words.specs.Icmpv6Fields.{fields_of, link_layer_address_from, link_layer_address_in}
use Rattle.capture_words.specs.Icmpv6Text.{message_text}

hardware_address : hardware_address_text (0 ∷ 0x1B ∷ 0xC0 ∷ 0xFF ∷ 10 ∷ 7 ∷ []) ≡ codes "00:1b:c0:ff:0a:07"
unfolding char_count digits padded_integral
hardware_address = refl

-- a prefix option of 32 bytes, and then the link-layer address of the source (RFC 4861, sections 4.6.1 and 4.6.2)
after_prefix : link_layer_address_in (3 ∷ 4 ∷ (replicate 30 0 ++ 1 ∷ 1 ∷ 2 ∷ 0 ∷ 0 ∷ 0 ∷ 0 ∷ 1 ∷ [])) ≡ Some (2 ∷ 0 ∷ 0 ∷ 0 ∷ 0 ∷ 1 ∷ [])
unfolding link_layer_address_from
after_prefix = refl

-- an option of length 0 ends the reading
after_zero : link_layer_address_in (replicate 8 0 ++ 1 ∷ 1 ∷ 2 ∷ 0 ∷ 0 ∷ 0 ∷ 0 ∷ 1 ∷ []) ≡ None
unfolding link_layer_address_from
after_zero = refl

-- the fe80::1 that a neighbor solicitation asks for
abbrev target : List ℕ
target = 0xFE ∷ 0x80 ∷ (replicate 13 0 ++ 1 ∷ [])

solicitation : fields_of (135 ∷ (replicate 7 0 ++ (target ++ 1 ∷ 1 ∷ 2 ∷ 0 ∷ 0 ∷ 0 ∷ 0 ∷ 1 ∷ [])))
    ≡ record { target = Some target; destination = None; group = None; link_layer_address = Some (2 ∷ 0 ∷ 0 ∷ 0 ∷ 0 ∷ 1 ∷ []) }
unfolding format_of link_layer_address_from
solicitation = refl

-- a report of a listener (RFC 2710, section 3.1), and a query with a maximum response code of 10,000
report : fields_of (131 ∷ (replicate 7 0 ++ target))
    ≡ record { target = None; destination = None; group = Some target; link_layer_address = None }
unfolding format_of
report = refl

query : message_text (Unknown 130 0 (0x27 ∷ 0x10 ∷ 0 ∷ 0 ∷ [])) ≡ codes "multicast listener query, code 0, maximum response code 10000"
unfolding digits
query = refl
