-- Lemmas of the translation of packets.
use Rattle.std.proofs.Common.{◌≡◌, ◌≤◌, ◌+◌, ◌-◌, ◌++◌, ◌∙◌, ℕ, Bool, List, [], ◌∷◌, Option, None, Some, Result, Ok, Err, true, false, ap, ap₂, arith, drop, take, refl, subst, sym, inl, inr}
use Rattle.std.proofs.Math.Bool.{and-true}
use Rattle.std.proofs.lemmas.Bool.Decides.{Decides-eqb, nat_tests}
use Rattle.std.proofs.lemmas.List.{drop-drop, drop-take, take-append-drop, take-take}
use Rattle.std.proofs.lemmas.Slice.Eq.{slice_eq-Decides}
use Rattle.std.specs.Prelude.{◌==◌, ◌&&◌, is_none, not, if◌then◌else◌}
use Rattle.std.specs.Cmp.Lexicographic.{pointwise}
use Rattle.std.specs.List.{slice_range}
use Rattle.std.specs.Option.{option_eq, option_map}
use borrow.Rule.Slice.PartMut.{Post-is, put_mid}
use Rattle.capture_numbers.specs.declared.byte_order.ByteOrder.{ByteOrder}
use Rattle.capture_numbers.specs.declared.link_type.LinkType.{LinkType}
use Rattle.capture_packet.specs.Contents.{ports_at, ports_in}
use Rattle.etherparse_transport.specs.Ipv4Translations.{ipv4_translated}
use Rattle.etherparse_transport.specs.Ipv6Translations.{ipv6_translated}
use Rattle.etherparse_transport.specs.declared.err.packet.translate_error.TranslateError.{TranslateError}
use Rattle.etherparse_transport.specs.declared.ip.ipv4_translation.Ipv4Translation.{Ipv4Translation}
use Rattle.etherparse_transport.specs.declared.ip.ipv6_translation.Ipv6Translation.{Ipv6Translation}
use Rattle.ip_part.specs.Addresses.{by_value}
use Rattle.ip_part.specs.Ip.{Carries, counted, header_refusal, headers_of, lacks_len, lax_refusal}
use Rattle.ip_part.specs.Protocols.{proto_over}
use Rattle.ip_part.specs.declared.ip_error.IpError.{IpError}
use Rattle.ip_part.specs.declared.proto.Proto.{Proto}
use Rattle.ip_part.specs.declared.transport.TransportInIp.{TransportInIp}
use Rattle.net_base.specs.IpHeaders.{BeginsWithIpv4Header, BeginsWithIpv6Header, ipv4_header_len, ipv4_header_of, ipv6_header_of, version}
use Rattle.net_base.specs.Refusals.{first_of, refused_if}
use Rattle.net_base.specs.declared.ipv4_header.Ipv4Header.{Ipv4Header}
use Rattle.net_base.specs.declared.ipv6_header.Ipv6Header.{Ipv6Header}
use Rattle.translator.specs.Given.{headers_in, ipv4_by, ipv4_by_quoted, ipv4_given, ipv4_opposite, ipv6_by, ipv6_by_quoted, ipv6_given, ipv6_opposite, message_after, ports_after, ports_of, proto_after, quoted_after, quoted_at, quoted_in, quoted_of}
use Rattle.translator.specs.Outcomes.{done_with, outcome_of}
use Rattle.translator.specs.Packets.{HasNoPacket, IsPacketIn, TranslatesFrame, TranslatesIp, TranslatesIpv4, TranslatesIpv6, TranslatesPacket}
use Rattle.translator.specs.Reasons.{ipv4_reason, ipv4_unknown_reason, ipv6_reason, ipv6_unknown_reason, is_ipv4_nothing, is_ipv6_nothing, is_read, is_same, is_same_ipv4, is_same_ipv6, quoted_reason, reason_by, unknown_reason}
use Rattle.translator.specs.Replacements.{exchanged, ipv4_translation, ipv6_translation}
use Rattle.translator.specs.declared.done.Done.{Done}
use Rattle.translator.specs.declared.reason.Reason.{Reason}
use Rattle.translator.specs.declared.reason.Reason.TheVariants as reasons
use Rattle.translator.specs.declared.table.Table.{Table}

-- a range of a beginning is a range of all elements
range_within : (a b n : ℕ) (xs : List ℕ) → a ≤ b → b ≤ n → slice_range (take n xs) a b ≡ slice_range xs a b
range_within a b n xs order within =
    let split : n ≡ a + (n - a) = omega arith in
    ap (λ m. take (b - a) (drop a (take m xs))) split
    ∙ ap (λ ys. take (b - a) ys) (drop-take a (n - a) xs)
    ∙ take-take (b - a) (n - a) (drop a xs) (omega arith)

-- the addresses in a kept IPv4 header are the addresses of the packet
pub ipv4_source_kept : (packet kept : List ℕ) → kept ≡ take (ipv4_header_len packet) packet → 20 ≤ ipv4_header_len packet
    → slice_range kept 12 16 ≡ slice_range packet 12 16
ipv4_source_kept packet kept is words =
    ap (λ bytes. slice_range bytes 12 16) is ∙ range_within 12 16 (ipv4_header_len packet) packet (omega arith) (omega (arith, words))

pub ipv4_destination_kept : (packet kept : List ℕ) → kept ≡ take (ipv4_header_len packet) packet → 20 ≤ ipv4_header_len packet
    → slice_range kept 16 20 ≡ slice_range packet 16 20
ipv4_destination_kept packet kept is words =
    ap (λ bytes. slice_range bytes 16 20) is ∙ range_within 16 20 (ipv4_header_len packet) packet (omega arith) (omega (arith, words))

pub ipv4_header_kept : (packet kept : List ℕ) → kept ≡ take (ipv4_header_len packet) packet → 20 ≤ ipv4_header_len packet
    → ipv4_header_of kept ≡ ipv4_header_of packet
ipv4_header_kept packet kept is words =
    ap (λ bytes. record { source = bytes; destination = slice_range kept 16 20 }) (ipv4_source_kept packet kept is words)
    ∙ ap (λ bytes. record { source = slice_range packet 12 16; destination = bytes }) (ipv4_destination_kept packet kept is words)

-- the addresses in a kept IPv6 header are the addresses of the packet
pub ipv6_source_kept : (packet kept : List ℕ) → kept ≡ take 40 packet → slice_range kept 8 24 ≡ slice_range packet 8 24
ipv6_source_kept packet kept is = ap (λ bytes. slice_range bytes 8 24) is ∙ range_within 8 24 40 packet (omega arith) (omega arith)

pub ipv6_destination_kept : (packet kept : List ℕ) → kept ≡ take 40 packet → slice_range kept 24 40 ≡ slice_range packet 24 40
ipv6_destination_kept packet kept is = ap (λ bytes. slice_range bytes 24 40) is ∙ range_within 24 40 40 packet (omega arith) (omega arith)

pub ipv6_header_kept : (packet kept : List ℕ) → kept ≡ take 40 packet → ipv6_header_of kept ≡ ipv6_header_of packet
ipv6_header_kept packet kept is =
    ap (λ bytes. record { source = bytes; destination = slice_range kept 24 40 }) (ipv6_source_kept packet kept is)
    ∙ ap (λ bytes. record { source = slice_range packet 8 24; destination = bytes }) (ipv6_destination_kept packet kept is)

-- ---- the transport of a packet

-- what is read from the transport of a packet is what is read from its headers and the bytes after them
read_is : {A : Type 0} → (read : Bool → Option Proto → List ℕ → A) (packet : List ℕ) (found : TransportInIp)
    (carries : Carries packet found)
    → found.is_length_missing ≡ lacks_len packet
    → read found.is_later_fragment (proto_over (by_value found.addresses) found.protocol.0) found.payload.now
    ≡ read carries.headers.is_later_fragment (proto_after carries.headers) (message_after carries.headers packet)
read_is read packet found carries stated =
    let headers = carries.headers in
    ap (λ later. read later (proto_over (by_value found.addresses) found.protocol.0) found.payload.now) carries.is_later_fragment
    ∙ ap (λ between. read headers.is_later_fragment (proto_over between found.protocol.0) found.payload.now) carries.addresses
    ∙ ap (λ number. read headers.is_later_fragment (proto_over headers.addresses number.0) found.payload.now) carries.protocol
    ∙ ap (read headers.is_later_fragment (proto_after headers))
    (carries.payload ∙ ap (λ missing. drop headers.len (counted missing packet)) stated)

-- the headers of a packet with this transport
headers_are : (packet : List ℕ) (found : TransportInIp) (carries : Carries packet found) → found.is_length_missing ≡ lacks_len packet
    → headers_in packet ≡ Ok carries.headers
headers_are packet found carries stated = ap (λ missing. headers_of missing packet) (sym stated) ∙ carries.read

-- the ports of a packet with this transport
pub ports_are : (packet : List ℕ) (found : TransportInIp) → Carries packet found → found.is_length_missing ≡ lacks_len packet
    → ports_in found ≡ ports_of packet
ports_are packet found carries stated =
    read_is ports_at packet found carries stated ∙ sym (ap (ports_after packet) (headers_are packet found carries stated))

-- the packet that a packet with this transport quotes
pub quoted_is : (packet : List ℕ) (found : TransportInIp) → Carries packet found → found.is_length_missing ≡ lacks_len packet
    → quoted_in found ≡ quoted_of packet
quoted_is packet found carries stated =
    read_is quoted_at packet found carries stated ∙ sym (ap (quoted_after packet) (headers_are packet found carries stated))

-- what the table gives for a packet that is quoted, in the other direction
pub ipv4_inner_given : (table : Table) (quoted source destination : List ℕ) (ports exchanged_ports : Option (ℕ × ℕ))
    (inner : Ipv4Translation)
    → source ≡ slice_range quoted 16 20 → destination ≡ slice_range quoted 12 16 → ports ≡ ports_of quoted
    → exchanged_ports ≡ exchanged ports
    → inner ≡ ipv4_translation table (record { source = source; destination = destination }) exchanged_ports
    → inner ≡ ipv4_by_quoted table quoted
ipv4_inner_given table quoted source destination ports exchanged_ports inner source_is destination_is ports_are exchanged_are given =
    given
    ∙ ap (λ bytes. ipv4_translation table (record { source = bytes; destination = destination }) exchanged_ports) source_is
    ∙ ap (λ bytes. ipv4_translation table (record { source = slice_range quoted 16 20; destination = bytes }) exchanged_ports)
    destination_is
    ∙ ap (λ both. ipv4_translation table (ipv4_opposite (ipv4_header_of quoted)) both) (exchanged_are ∙ ap exchanged ports_are)

pub ipv6_inner_given : (table : Table) (quoted source destination : List ℕ) (ports exchanged_ports : Option (ℕ × ℕ))
    (inner : Ipv6Translation)
    → source ≡ slice_range quoted 24 40 → destination ≡ slice_range quoted 8 24 → ports ≡ ports_of quoted
    → exchanged_ports ≡ exchanged ports
    → inner ≡ ipv6_translation table (record { source = source; destination = destination }) exchanged_ports
    → inner ≡ ipv6_by_quoted table quoted
ipv6_inner_given table quoted source destination ports exchanged_ports inner source_is destination_is ports_are exchanged_are given =
    given
    ∙ ap (λ bytes. ipv6_translation table (record { source = bytes; destination = destination }) exchanged_ports) source_is
    ∙ ap (λ bytes. ipv6_translation table (record { source = slice_range quoted 24 40; destination = bytes }) exchanged_ports)
    destination_is
    ∙ ap (λ both. ipv6_translation table (ipv6_opposite (ipv6_header_of quoted)) both) (exchanged_are ∙ ap exchanged ports_are)

-- what the table gives for the addresses and ports of a packet
pub ipv4_own_given : (table : Table) (packet : List ℕ) (header : Ipv4Header) (ports : Option (ℕ × ℕ)) (new : Ipv4Translation)
    → header ≡ ipv4_header_of packet → ports ≡ ports_of packet → new ≡ ipv4_translation table header ports → new ≡ ipv4_by table packet
ipv4_own_given table packet header ports new header_is ports_are given =
    given ∙ ap (λ both. ipv4_translation table both ports) header_is ∙ ap (ipv4_translation table (ipv4_header_of packet)) ports_are

pub ipv6_own_given : (table : Table) (packet : List ℕ) (header : Ipv6Header) (ports : Option (ℕ × ℕ)) (new : Ipv6Translation)
    → header ≡ ipv6_header_of packet → ports ≡ ports_of packet → new ≡ ipv6_translation table header ports → new ≡ ipv6_by table packet
ipv6_own_given table packet header ports new header_is ports_are given =
    given ∙ ap (λ both. ipv6_translation table both ports) header_is ∙ ap (ipv6_translation table (ipv6_header_of packet)) ports_are

-- ---- accepted packets

-- an accepted packet with this version is read
pub is_read_by : (expected : ℕ) (packet : List ℕ) → lax_refusal packet ≡ None → version packet ≡ expected → is_read expected packet ≡ true
is_read_by expected packet accepted is =
    ap (λ refusal. is_none refusal && version packet == expected) accepted ∙ ap (λ number. number == expected) is ∙ grind (arith, nat_tests)

-- a refused packet is not read
pub not_read : (expected : ℕ) (packet : List ℕ) (error : IpError) → lax_refusal packet ≡ Some error → is_read expected packet ≡ false
not_read expected packet error rejected = ap (λ refusal. is_none refusal && version packet == expected) rejected

-- if neither of two rules refuses, the first does not refuse
first_none : {E : Type 0} → (first second : Option E) → first_of (first ∷ second ∷ []) ≡ None → first ≡ None
first_none None second none = refl
first_none (Some error) second none = none

-- an accepted packet has an accepted header
header_accepted : (packet : List ℕ) → lax_refusal packet ≡ None → header_refusal packet ≡ None
header_accepted packet accepted = first_none (header_refusal packet) _ accepted

ipv4_begins : (packet : List ℕ) → header_refusal packet ≡ None → version packet ≡ 4 → BeginsWithIpv4Header packet
ipv4_begins packet accepted is = record {
  shortest = grind (arith, nat_tests);
  is_version_4 = is;
  five_words = grind (arith, nat_tests);
  whole = grind (arith, nat_tests);
}

ipv6_begins : (packet : List ℕ) → header_refusal packet ≡ None → version packet ≡ 6 → BeginsWithIpv6Header packet
ipv6_begins packet accepted is = record { whole = grind (arith, nat_tests); is_version_6 = is }

-- a test for another version fails
other_version : (number expected : ℕ) (is : Bool) → (number == expected) ≡ is → (number ≡ expected → ⊥) → (number == expected) ≡ false
other_version number expected is computes other = grind (arith, nat_tests)

-- an accepted packet that does not begin with a header of the version has another version
pub other_than_ipv4 : (packet : List ℕ) → lax_refusal packet ≡ None → (BeginsWithIpv4Header packet → ⊥) → (version packet == 4) ≡ false
other_than_ipv4 packet accepted none =
    other_version (version packet) 4 _ refl (λ is. none (ipv4_begins packet (header_accepted packet accepted) is))

pub other_than_ipv6 : (packet : List ℕ) → lax_refusal packet ≡ None → (BeginsWithIpv6Header packet → ⊥) → (version packet == 6) ≡ false
other_than_ipv6 packet accepted none =
    other_version (version packet) 6 _ refl (λ is. none (ipv6_begins packet (header_accepted packet accepted) is))

-- so it is not read
pub no_ipv4 : (packet : List ℕ) → lax_refusal packet ≡ None → (BeginsWithIpv4Header packet → ⊥) → is_read 4 packet ≡ false
no_ipv4 packet accepted none =
    ap (λ refusal. is_none refusal && version packet == 4) accepted ∙ other_than_ipv4 packet accepted none

pub no_ipv6 : (packet : List ℕ) → lax_refusal packet ≡ None → (BeginsWithIpv6Header packet → ⊥) → is_read 6 packet ≡ false
no_ipv6 packet accepted none =
    ap (λ refusal. is_none refusal && version packet == 6) accepted ∙ other_than_ipv6 packet accepted none

-- ---- rules in their order

-- a single rule decides alone
last_rule : {E : Type 0} → (rule : Option E) → first_of (rule ∷ []) ≡ rule
last_rule None = refl
last_rule (Some error) = refl

-- the rules for a packet whose headers have these outcomes
unknown_rules : (expected : ℕ) (packet : List ℕ) (quoting : Option Reason) (refusal : Option IpError) (is : Bool)
    → lax_refusal packet ≡ refusal → (version packet == expected) ≡ is
    → unknown_reason expected packet quoting
    ≡ first_of (option_map reasons.IpHeaders refusal ∷ refused_if (not is) reasons.OtherVersion ∷ quoting ∷ [])
unknown_rules expected packet quoting refusal is refusal_is is_version =
    ap (λ refusal. first_of (option_map reasons.IpHeaders refusal ∷ refused_if (not (version packet == expected)) reasons.OtherVersion
    ∷ quoting ∷ [])) refusal_is
    ∙ ap (λ is. first_of (option_map reasons.IpHeaders refusal ∷ refused_if (not is) reasons.OtherVersion ∷ quoting ∷ [])) is_version

-- a packet with refused headers is unknown for this reason
pub unknown_rejected : (expected : ℕ) (packet : List ℕ) (quoting : Option Reason) (error : IpError) → lax_refusal packet ≡ Some error
    → unknown_reason expected packet quoting ≡ Some (reasons.IpHeaders error)
unknown_rejected expected packet quoting error rejected = unknown_rules expected packet quoting (Some error) _ rejected refl

-- a packet with accepted headers of another version is unknown for this reason
pub unknown_other : (expected : ℕ) (packet : List ℕ) (quoting : Option Reason) → lax_refusal packet ≡ None
    → (version packet == expected) ≡ false → unknown_reason expected packet quoting ≡ Some reasons.OtherVersion
unknown_other expected packet quoting accepted other = unknown_rules expected packet quoting None false accepted other

-- a packet with accepted headers is unknown only by the rules after them
pub unknown_read : (expected : ℕ) (packet : List ℕ) (quoting : Option Reason) → lax_refusal packet ≡ None → version packet ≡ expected
    → unknown_reason expected packet quoting ≡ quoting
unknown_read expected packet quoting accepted is =
    unknown_rules expected packet quoting None true accepted (ap (λ number. number == expected) is ∙ grind (arith, nat_tests))
    ∙ last_rule quoting

-- the rules for a quoted packet
pub quoted_rules : (expected : ℕ) (quoted : List ℕ) (are_same read same : Bool) → is_read expected quoted ≡ read → are_same ≡ same
    → quoted_reason expected quoted are_same
    ≡ first_of (refused_if (not read) reasons.QuotedPacket ∷ refused_if (not same) reasons.QuotedAddresses ∷ [])
quoted_rules expected quoted are_same read same read_is same_is =
    ap (λ read. first_of (refused_if (not read) reasons.QuotedPacket ∷ refused_if (not are_same) reasons.QuotedAddresses ∷ [])) read_is
    ∙ ap (λ same. first_of (refused_if (not read) reasons.QuotedPacket ∷ refused_if (not same) reasons.QuotedAddresses ∷ [])) same_is

-- the rules for a packet, in their order
pub reason_rules : (unknown reason : Option Reason) (nothing is : Bool) (refusal error : Option TranslateError)
    → unknown ≡ reason → nothing ≡ is → refusal ≡ error → reason_by unknown nothing refusal ≡ reason_by reason is error
reason_rules unknown reason nothing is refusal error unknown_is nothing_is refusal_is =
    ap (λ unknown. reason_by unknown nothing refusal) unknown_is ∙ ap (λ nothing. reason_by reason nothing refusal) nothing_is
    ∙ ap (reason_by reason is) refusal_is

-- a packet is unchanged if it is not known what to replace in it
pub ipv4_stays : (table : Table) (packet after : List ℕ) (result : Result Bool Reason) (reason : Reason)
    → ipv4_unknown_reason table packet ≡ Some reason → after ≡ packet → result ≡ Err reason → TranslatesIpv4 table packet after result
ipv4_stays table packet after result reason unknown same fails =
    subst (TranslatesIpv4 table packet after) (sym fails) (reason_rules _ _ _ _ _ _ unknown refl refl, same)

pub ipv6_stays : (table : Table) (packet after : List ℕ) (result : Result Bool Reason) (reason : Reason)
    → ipv6_unknown_reason table packet ≡ Some reason → after ≡ packet → result ≡ Err reason → TranslatesIpv6 table packet after result
ipv6_stays table packet after result reason unknown same fails =
    subst (TranslatesIpv6 table packet after) (sym fails) (reason_rules _ _ _ _ _ _ unknown refl refl, same)

-- ---- equal translations

-- an option is equal to `None` exactly if it has no value
is_no_value : {A : Type 0} → (eq : A → A → Bool) (value : Option A) → option_eq eq value None ≡ is_none value
is_no_value eq None = refl
is_no_value eq (Some value) = refl

-- a translation is equal to the empty translation exactly if it replaces nothing
pub ipv4_nothing_by : (new none : Ipv4Translation) → none.source ≡ None → none.destination ≡ None → none.source_port ≡ None
    → none.destination_port ≡ None
    → (option_eq (pointwise ◌==◌) new.source none.source && (option_eq (pointwise ◌==◌) new.destination none.destination
    && (option_eq ◌==◌ new.source_port none.source_port && option_eq ◌==◌ new.destination_port none.destination_port)))
    ≡ is_ipv4_nothing new
ipv4_nothing_by new none source destination source_port destination_port =
    ap₂ ◌&&◌ (ap (option_eq (pointwise ◌==◌) new.source) source ∙ is_no_value (pointwise ◌==◌) new.source)
    (ap₂ ◌&&◌ (ap (option_eq (pointwise ◌==◌) new.destination) destination ∙ is_no_value (pointwise ◌==◌) new.destination)
    (ap₂ ◌&&◌ (ap (option_eq ◌==◌ new.source_port) source_port ∙ is_no_value ◌==◌ new.source_port)
    (ap (option_eq ◌==◌ new.destination_port) destination_port ∙ is_no_value ◌==◌ new.destination_port)))

-- a translation is equal to the empty translation exactly if it replaces nothing
pub ipv6_nothing_by : (new none : Ipv6Translation) → none.source ≡ None → none.destination ≡ None → none.source_port ≡ None
    → none.destination_port ≡ None
    → (option_eq (pointwise ◌==◌) new.source none.source && (option_eq (pointwise ◌==◌) new.destination none.destination
    && (option_eq ◌==◌ new.source_port none.source_port && option_eq ◌==◌ new.destination_port none.destination_port)))
    ≡ is_ipv6_nothing new
ipv6_nothing_by new none source destination source_port destination_port =
    ap₂ ◌&&◌ (ap (option_eq (pointwise ◌==◌) new.source) source ∙ is_no_value (pointwise ◌==◌) new.source)
    (ap₂ ◌&&◌ (ap (option_eq (pointwise ◌==◌) new.destination) destination ∙ is_no_value (pointwise ◌==◌) new.destination)
    (ap₂ ◌&&◌ (ap (option_eq ◌==◌ new.source_port) source_port ∙ is_no_value ◌==◌ new.source_port)
    (ap (option_eq ◌==◌ new.destination_port) destination_port ∙ is_no_value ◌==◌ new.destination_port)))

-- a port is equal to itself
same_port : (port : Option ℕ) → option_eq ◌==◌ port port ≡ true
same_port None = refl
same_port (Some port) = grind (arith, nat_tests)

-- translations with the same ports are equal if they have the same addresses
pub same_addresses : (source destination other_source other_destination : Option (List ℕ)) (source_port destination_port : Option ℕ)
    → (option_eq (pointwise ◌==◌) source other_source && (option_eq (pointwise ◌==◌) destination other_destination
    && (option_eq ◌==◌ source_port source_port && option_eq ◌==◌ destination_port destination_port)))
    ≡ (is_same source other_source && is_same destination other_destination)
same_addresses source destination other_source other_destination source_port destination_port =
    ap₂ (λ first second. is_same source other_source && (is_same destination other_destination && (first && second)))
    (same_port source_port) (same_port destination_port)
    ∙ ap (λ rest. is_same source other_source && rest) (and-true (is_same destination other_destination))

-- a contradiction
pub false_is_true : false ≡ true → ⊥
false_is_true clash = cc

-- addresses that are equal as a test are equal
same_value : (address other : Option (List ℕ)) → is_same address other ≡ true → address ≡ other
same_value None None is = refl
same_value None (Some other) is = absurd (false_is_true is)
same_value (Some address) None is = absurd (false_is_true is)
same_value (Some address) (Some other) is = ap Some ((slice_eq-Decides Decides-eqb address other true (sym is)).0 refl)

both_true : (first second : Bool) → (first && second) ≡ true → (first ≡ true) × (second ≡ true)
both_true true true is = (refl, refl)
both_true true false is = absurd (false_is_true is)
both_true false second is = absurd (false_is_true is)

-- the translation with these addresses and ports
abbrev ipv4_parts : Option (List ℕ) → Option (List ℕ) → Option ℕ → Option ℕ → Ipv4Translation
ipv4_parts source destination source_port destination_port =
    record { source = source; destination = destination; source_port = source_port; destination_port = destination_port }

pub ipv4_same_is : (outer inner given : Ipv4Translation) → is_same_ipv4 outer inner ≡ true → inner ≡ given
    → ipv4_parts outer.source outer.destination inner.source_port inner.destination_port
    ≡ ipv4_parts given.source given.destination given.source_port given.destination_port
ipv4_same_is outer inner given same is =
    let both = both_true (is_same outer.source inner.source) (is_same outer.destination inner.destination) same in
    ap (λ source. ipv4_parts source outer.destination inner.source_port inner.destination_port)
    (same_value outer.source inner.source both.0)
    ∙ ap (λ destination. ipv4_parts inner.source destination inner.source_port inner.destination_port)
    (same_value outer.destination inner.destination both.1)
    ∙ ap (λ new. ipv4_parts new.source new.destination new.source_port new.destination_port) is

-- the translation with these addresses and ports
abbrev ipv6_parts : Option (List ℕ) → Option (List ℕ) → Option ℕ → Option ℕ → Ipv6Translation
ipv6_parts source destination source_port destination_port =
    record { source = source; destination = destination; source_port = source_port; destination_port = destination_port }

pub ipv6_same_is : (outer inner given : Ipv6Translation) → is_same_ipv6 outer inner ≡ true → inner ≡ given
    → ipv6_parts outer.source outer.destination inner.source_port inner.destination_port
    ≡ ipv6_parts given.source given.destination given.source_port given.destination_port
ipv6_same_is outer inner given same is =
    let both = both_true (is_same outer.source inner.source) (is_same outer.destination inner.destination) same in
    ap (λ source. ipv6_parts source outer.destination inner.source_port inner.destination_port)
    (same_value outer.source inner.source both.0)
    ∙ ap (λ destination. ipv6_parts inner.source destination inner.source_port inner.destination_port)
    (same_value outer.destination inner.destination both.1)
    ∙ ap (λ new. ipv6_parts new.source new.destination new.source_port new.destination_port) is

-- ---- either version

six : (packet : List ℕ) → version packet ≡ 6 → (version packet == 6) ≡ true
six packet is = ap (λ number. number == 6) is

-- the law for a packet of version 6
six_translates : (table : Table) (packet after : List ℕ) (result : Result Bool Reason) → version packet ≡ 6
    → TranslatesIpv6 table packet after result → TranslatesIp table packet after result
six_translates table packet after (Ok true) is translates = (
  ap (λ six. if six then ipv6_reason table packet else ipv4_reason table packet) (six packet is) ∙ translates.0,
  ap (λ six. if six then is_ipv6_nothing (ipv6_given table packet) else is_ipv4_nothing (ipv4_given table packet)) (six packet is)
      ∙ translates.1,
  translates.2
      ∙ sym (ap (λ six. if six then ipv6_translated (ipv6_given table packet) packet else ipv4_translated (ipv4_given table packet) packet)
      (six packet is)),
)
six_translates table packet after (Ok false) is translates = (
  ap (λ six. if six then ipv6_reason table packet else ipv4_reason table packet) (six packet is) ∙ translates.0,
  ap (λ six. if six then is_ipv6_nothing (ipv6_given table packet) else is_ipv4_nothing (ipv4_given table packet)) (six packet is)
      ∙ translates.1,
  translates.2,
)
six_translates table packet after (Err reason) is translates = (
  ap (λ six. if six then ipv6_reason table packet else ipv4_reason table packet) (six packet is) ∙ translates.0,
  translates.1,
)

-- the law for a packet of another version
other_translates : (table : Table) (packet after : List ℕ) (result : Result Bool Reason) → (version packet == 6) ≡ false
    → TranslatesIpv4 table packet after result → TranslatesIp table packet after result
other_translates table packet after (Ok true) other translates = (
  ap (λ six. if six then ipv6_reason table packet else ipv4_reason table packet) other ∙ translates.0,
  ap (λ six. if six then is_ipv6_nothing (ipv6_given table packet) else is_ipv4_nothing (ipv4_given table packet)) other ∙ translates.1,
  translates.2
      ∙ sym (ap (λ six. if six then ipv6_translated (ipv6_given table packet) packet else ipv4_translated (ipv4_given table packet) packet)
      other),
)
other_translates table packet after (Ok false) other translates = (
  ap (λ six. if six then ipv6_reason table packet else ipv4_reason table packet) other ∙ translates.0,
  ap (λ six. if six then is_ipv6_nothing (ipv6_given table packet) else is_ipv4_nothing (ipv4_given table packet)) other ∙ translates.1,
  translates.2,
)
other_translates table packet after (Err reason) other translates = (
  ap (λ six. if six then ipv6_reason table packet else ipv4_reason table packet) other ∙ translates.0,
  translates.1,
)

is_number : (number expected : ℕ) → (number == expected) ≡ true → number ≡ expected
is_number number expected is = grind (arith, nat_tests)

-- a packet of version 6 that does not begin with an IPv6 header is refused
abbrev IsRefused : List ℕ → Type 0
IsRefused packet = (error : IpError) × (lax_refusal packet ≡ Some error)

refused_by : (packet : List ℕ) (refusal : Option IpError) → lax_refusal packet ≡ refusal → version packet ≡ 6
    → (BeginsWithIpv6Header packet → ⊥) → IsRefused packet
refused_by packet None accepted is none = absurd (none (ipv6_begins packet (header_accepted packet accepted) is))
refused_by packet (Some error) rejected is none = (error, rejected)

refused_six : (packet : List ℕ) → (version packet == 6) ≡ true → (BeginsWithIpv6Header packet → ⊥) → IsRefused packet
refused_six packet is none = refused_by packet _ refl (is_number (version packet) 6 is) none

-- a packet that is refused has no other reason
rejected_of : (expected : ℕ) (packet : List ℕ) (quoting : Option Reason) (nothing : Bool) (refusal : Option TranslateError)
    → (rejected : IsRefused packet)
    → reason_by (unknown_reason expected packet quoting) nothing refusal ≡ Some (reasons.IpHeaders rejected.0)
rejected_of expected packet quoting nothing refusal rejected =
    ap (λ unknown. reason_by unknown nothing refusal) (unknown_rejected expected packet quoting rejected.0 rejected.1)

some_is_none : {A : Type 0} → (value : A) → Some value ≡ None → ⊥
some_is_none value clash = cc

by_version : (table : Table) (packet after : List ℕ) (result : Result Bool Reason) (is : Bool) → (version packet == 6) ≡ is
    → (BeginsWithIpv6Header packet → ⊥) → TranslatesIpv4 table packet after result → TranslatesIp table packet after result
by_version table packet after result false other none translates = other_translates table packet after result other translates
by_version table packet after (Ok true) true is none translates =
    absurd (some_is_none (reasons.IpHeaders (refused_six packet is none).0)
    (sym (rejected_of 4 packet _ _ _ (refused_six packet is none)) ∙ translates.0))
by_version table packet after (Ok false) true is none translates =
    absurd (some_is_none (reasons.IpHeaders (refused_six packet is none).0)
    (sym (rejected_of 4 packet _ _ _ (refused_six packet is none)) ∙ translates.0))
by_version table packet after (Err reason) true is none translates = (
  ap (λ six. if six then ipv6_reason table packet else ipv4_reason table packet) is
      ∙ rejected_of 6 packet _ _ _ (refused_six packet is none) ∙ sym (rejected_of 4 packet _ _ _ (refused_six packet is none))
      ∙ translates.0,
  translates.1,
)

-- the law for a packet that begins with an IPv6 header
pub ipv6_translates : (table : Table) (packet after : List ℕ) (result : Result Bool Reason) → version packet ≡ 6
    → TranslatesIpv6 table packet after result → TranslatesPacket table packet after (outcome_of true result)
ipv6_translates table packet after (Ok applies) is translates =
    (applies, ap (λ is_ipv6. done_with is_ipv6 applies) (sym (six packet is)), six_translates table packet after (Ok applies) is translates)
ipv6_translates table packet after (Err reason) is translates = six_translates table packet after (Err reason) is translates

four_translates : (table : Table) (packet after : List ℕ) (result : Result Bool Reason) (is : Bool) → (version packet == 6) ≡ is
    → (BeginsWithIpv6Header packet → ⊥) → TranslatesIpv4 table packet after result
    → TranslatesPacket table packet after (outcome_of false result)
four_translates table packet after (Ok applies) false other none translates =
    (applies, ap (λ is_ipv6. done_with is_ipv6 applies) (sym other), other_translates table packet after (Ok applies) other translates)
four_translates table packet after (Ok true) true is none translates =
    absurd (some_is_none (reasons.IpHeaders (refused_six packet is none).0)
    (sym (rejected_of 4 packet _ _ _ (refused_six packet is none)) ∙ translates.0))
four_translates table packet after (Ok false) true is none translates =
    absurd (some_is_none (reasons.IpHeaders (refused_six packet is none).0)
    (sym (rejected_of 4 packet _ _ _ (refused_six packet is none)) ∙ translates.0))
four_translates table packet after (Err reason) is at none translates = by_version table packet after (Err reason) is at none translates

-- the law for a packet that does not begin with an IPv6 header
pub ipv4_translates : (table : Table) (packet after : List ℕ) (result : Result Bool Reason) → (BeginsWithIpv6Header packet → ⊥)
    → TranslatesIpv4 table packet after result → TranslatesPacket table packet after (outcome_of false result)
ipv4_translates table packet after result none translates = four_translates table packet after result _ refl none translates

-- ---- frames

-- a frame consists of the bytes before a place, between both places, and after the other place
three_parts : (frame : List ℕ) (start end : ℕ) → start ≤ end → take start frame ++ (slice_range frame start end ++ drop end frame) ≡ frame
three_parts frame start end ordered =
    let places : start + (end - start) ≡ end = omega (arith, ordered) in
    let rest : drop end frame ≡ drop (end - start) (drop start frame) =
    ap (λ place. drop place frame) (sym places) ∙ sym (drop-drop (end - start) start frame) in
    ap (λ bytes. take start frame ++ (slice_range frame start end ++ bytes)) rest
    ∙ ap (λ bytes. take start frame ++ bytes) (take-append-drop (end - start) (drop start frame))
    ∙ take-append-drop start frame

-- the frame after its packet is translated
pub frame_translated : (table : Table) (link_type : LinkType) (order : ByteOrder) (frame packet : List ℕ) (start end : ℕ)
    (result : Result Done Reason)
    → IsPacketIn link_type order frame start end → TranslatesPacket table (slice_range frame start end) packet result
    → TranslatesFrame table link_type order frame (take start frame ++ (packet ++ drop end frame)) result
frame_translated table link_type order frame packet start end (Ok done) is_packet translates = record {
  start = start;
  end = end;
  is_packet = is_packet;
  packet = packet;
  translates = translates;
  written = refl;
}
frame_translated table link_type order frame packet start end (Err reason) is_packet translates = (
  ap (λ bytes. take start frame ++ (bytes ++ drop end frame)) translates.1 ∙ three_parts frame start end is_packet.ordered,
  inr (record {
    start = start;
    end = end;
    is_packet = is_packet;
    packet = packet;
    translates = translates;
    written = refl;
  }),
)

-- a frame without an IP packet is unchanged
pub frame_stays : (table : Table) (link_type : LinkType) (order : ByteOrder) (frame after : List ℕ) (result : Result Done Reason)
    (reason : Reason)
    → HasNoPacket link_type order frame reason → after ≡ frame → result ≡ Err reason
    → TranslatesFrame table link_type order frame after result
frame_stays table link_type order frame after result reason no_packet same fails =
    subst (TranslatesFrame table link_type order frame after) (sym fails) (same, inl no_packet)

-- the frame after its bytes between two places are written
pub put_between : (frame packet : List ℕ) (start end : ℕ) → start ≤ end
    → put_mid start (end - start) frame packet ≡ take start frame ++ (packet ++ drop end frame)
put_between frame packet start end ordered = ap (λ bytes. take start frame ++ (packet ++ bytes)) (Post-is start end frame ordered)
