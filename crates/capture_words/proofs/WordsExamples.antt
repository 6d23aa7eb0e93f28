-- Worked examples of the words for packets, so that a wrong definition fails before any code does. Bytes and texts are those of packets in
-- the stored run of `capture_report`.
use Rattle.std.proofs.Common.{◌≡◌, ◌++◌, ℕ, List, [], ◌∷◌, None, arith, codes, inl, inr, refl}
use Rattle.std.specs.Char.{encode_utf8}
use Rattle.std.specs.Fmt.{char_count, digits, padded_integral}
use Rattle.icmp_part.specs.Icmpv4Format as icmpv4
use Rattle.icmp_part.specs.Icmpv6Format as icmpv6
use Rattle.ip_part.specs.declared.ip_error.IpError.TheVariants.{ExtensionHeaderCutOff}
use Rattle.tcp_part.specs.declared.tcp_option_element.TcpOptionElement.TheVariants.{MaximumSegmentSize, Noop}
use Rattle.tcp_part.specs.declared.tcp_raw_option_error.TcpRawOptionError.TheVariants.{LengthBeyondEnd}
use Rattle.capture_packet.specs.declared.refusal.Refusal.TheVariants as refusals
use Rattle.capture_words.specs.Icmpv4Text as icmpv4_text
use Rattle.capture_words.specs.Icmpv6Text as icmpv6_text
use Rattle.capture_words.specs.Refusals.{refusal_text}
use Rattle.capture_words.specs.TcpText.{AreOptionTexts, IsHeaderText}

-- ---- TCP

-- the first option of packet 6 is a segment size
segment_size : AreOptionTexts (2 ∷ 4 ∷ 0x05 ∷ 0xB4 ∷ []) (codes "maximum segment size 1460" ∷ [])
unfolding digits
segment_size = inr (inr (
  record { kind = 2; value = 0x05 ∷ 0xB4 ∷ [] },
  [],
  record { spelled = refl; is_no_end = λ end. absurd (omega (arith, end)); noop_has_no_value = λ noop. absurd (omega (arith, noop)) },
  (MaximumSegmentSize 1460, record { spelled = refl; read_back = refl; in_range = omega arith }, refl),
  refl,
))

-- The TCP segment of packet 8. Its options are a byte without an operation, and a window scale whose length byte is 254. 32 bytes of
-- payload follow.
abbrev pub segment : List ℕ
segment =
    0xC0 ∷ 0x01 ∷ 0 ∷ 80 ∷ 0 ∷ 0 ∷ 0x03 ∷ 0xE8 ∷ 0 ∷ 0 ∷ 0 ∷ 0 ∷ 0x60 ∷ 0x18 ∷ 0xFA ∷ 0xF0 ∷ 0x6C ∷ 0x75 ∷ 0 ∷ 0 ∷ 1 ∷ 3 ∷ 254 ∷ 0 ∷
    0 ∷ 1 ∷ 2 ∷ 3 ∷ 4 ∷ 5 ∷ 6 ∷ 7 ∷ 8 ∷ 9 ∷ 10 ∷ 11 ∷ 12 ∷ 13 ∷ 14 ∷ 15 ∷ 16 ∷ 17 ∷ 18 ∷ 19 ∷ 20 ∷ 21 ∷ 22 ∷ 23 ∷ 24 ∷ 25 ∷ 26 ∷ 27 ∷ 28 ∷
    29 ∷ 30 ∷ 31 ∷ []

-- the text of the header in the line, up to the payload
abbrev pub header_text : List ℕ
header_text =
    codes "flags PSH ACK, sequence 1000, acknowledgment 0, window 64240, options [no operation, option 3 with length 254 above the 3 bytes left]"

segment_options : AreOptionTexts (1 ∷ 3 ∷ 254 ∷ 0 ∷ [])
    (codes "no operation" ∷ codes "option 3 with length 254 above the 3 bytes left" ∷ [])
unfolding digits
segment_options = inr (inr (
  record { kind = 1; value = [] },
  3 ∷ 254 ∷ 0 ∷ [],
  record { spelled = refl; is_no_end = λ end. absurd (omega (arith, end)); noop_has_no_value = λ noop. refl },
  (Noop, record { spelled = refl; read_back = refl; in_range = tt }, refl),
  inr (inl (LengthBeyondEnd 3 254 3, refl, refl, refl)),
))

pub is_header_text : IsHeaderText segment header_text
unfolding digits
is_header_text =
    let list = codes "no operation, option 3 with length 254 above the 3 bytes left" in
    let texts = codes "no operation" ∷ codes "option 3 with length 254 above the 3 bytes left" ∷ [] in
    (codes ", options [" ++ (list ++ codes "]"), (list, (texts, segment_options, refl), refl), refl)

-- ---- ICMP

-- packet 12 is destination unreachable, code 4, with a next-hop MTU of 1500
too_big : icmpv4_text.message_text (icmpv4.icmp_type_of (3 ∷ 4 ∷ 0xD8 ∷ 0xFB ∷ 0 ∷ 0 ∷ 0x05 ∷ 0xDC ∷ 0x45 ∷ []))
    ≡ codes "destination unreachable, code 4 (fragmentation needed), next-hop MTU 1500"
unfolding digits icmpv4.format_of
too_big = refl

-- packet 26 is a router advertisement
advertised : icmpv6_text.message_text (icmpv6.icmp_type_of (134 ∷ 0 ∷ 0x5D ∷ 0x5F ∷ 64 ∷ 0xC0 ∷ 0x07 ∷ 0x08 ∷ 0 ∷ 0 ∷ 0x75 ∷ 0x30 ∷ []))
    ≡ codes "router advertisement, code 0, current hop limit 64, flags managed other, router lifetime 1800"
unfolding digits icmpv6.format_of
advertised = refl

-- packet 18 is a message of an unknown type
unknown_message : icmpv4_text.message_text (icmpv4.icmp_type_of (42 ∷ 7 ∷ 0 ∷ 0 ∷ 1 ∷ 2 ∷ 3 ∷ 4 ∷ []))
    ≡ codes "type 42, code 7, bytes 5 to 8 01020304"
unfolding char_count digits encode_utf8 icmpv4.format_of padded_integral
unknown_message = refl

-- ---- refusals

-- packet 44 is refused for an extension header that is cut off
extension_header : refusal_text (refusals.Ip (ExtensionHeaderCutOff (record { 0 = 0 }) 40 32 8))
    ≡ codes "IP extension header 0 at byte 40 needs 32 bytes, has 8"
unfolding digits
extension_header = refl
