-- Worked examples of the definitions, so that a wrong definition fails before any code does.
use Rattle.std.proofs.Common.{◌≡◌, ℕ, Bool, true, false, not, List, [], ◌∷◌, ◌++◌, replicate, Some, None, Ok, refl, inl, inr, arith}
use Rattle.ip_part.specs.ExtensionHeaders.{ExtensionHeader, destination_by, extension_len, final_destination, is_fragment_by, source_by}
use Rattle.ip_part.specs.FixedHeaders as fixed
use Rattle.ip_part.specs.FixedHeaders.{fixed_header}
use Rattle.ip_part.specs.Ip.{IsRefusedAfterHeaders, Reads, counted, counted_len, headers_of, headers_to_transport, is_cut_off, jumbo_len, lacks_len, lax_refusal, padding, refusal}
use Rattle.ip_part.specs.Options.{ipv4_destination_by, ipv4_option, options_of, options_within}
use Rattle.ip_part.specs.Headers.{Headers}
use Rattle.ip_part.specs.Addresses.{Ipv4, Ipv6}
use Rattle.ip_part.specs.declared.ip_error.IpError.TheVariants.{ExtensionHeaderCutOff, HeaderCutOff, HeaderLength, JumboPayloadFragment, JumboPayloadLength, JumboPayloadMissing, JumboPayloadUnexpected, PacketCutOff, TotalLength, Version}

-- ---- IPv4

-- an IPv4 packet with this total length, these bytes 6 and 7, and no options
ipv4_packet : ℕ → ℕ → ℕ → List ℕ → List ℕ
ipv4_packet total flags offset after =
    0x45 ∷ 0 ∷ 0 ∷ total ∷ 0 ∷ 0 ∷ flags ∷ offset ∷ 64 ∷ 17 ∷ 0 ∷ 0 ∷ 10 ∷ 0 ∷ 0 ∷ 1 ∷ 10 ∷ 0 ∷ 0 ∷ 2 ∷ after

over_ipv4 : headers_of false (ipv4_packet 21 0x40 0 (7 ∷ 8 ∷ [])) ≡ Ok (record {
  addresses = Ipv4 (10 ∷ 0 ∷ 0 ∷ 1 ∷ []) (10 ∷ 0 ∷ 0 ∷ 2 ∷ []);
  protocol = record { 0 = 17 };
  len = 20;
  is_fragment = false;
  is_later_fragment = false;
  may_be_extended = false;
  payload_len = 0;
  is_jumbogram = false;
})
unfolding ipv4_packet headers_to_transport options_within
over_ipv4 = refl

-- the fixed part of a header is read, even if the packet is refused because its six words are cut off
fixed_over_ipv4 : fixed_header (ipv4_packet 21 0x40 0 (7 ∷ 8 ∷ [])) ≡ Some (fixed.Ipv4 (10 ∷ 0 ∷ 0 ∷ 1 ∷ []) (10 ∷ 0 ∷ 0 ∷ 2 ∷ []) 64 17)
unfolding ipv4_packet
fixed_over_ipv4 = refl

fixed_of_six_words : fixed_header (0x46 ∷ replicate 19 5) ≡ Some (fixed.Ipv4 (replicate 4 5) (replicate 4 5) 5 5)
fixed_of_six_words = refl

nineteen_bytes : fixed_header (0x45 ∷ replicate 18 5) ≡ None
nineteen_bytes = refl

fixed_over_ipv6 : fixed_header (0x60 ∷ 1 ∷ 2 ∷ 3 ∷ 4 ∷ 5 ∷ 17 ∷ 64 ∷ replicate 16 8 ++ replicate 16 9)
    ≡ Some (fixed.Ipv6 (replicate 16 8) (replicate 16 9) 64 17)
fixed_over_ipv6 = refl

thirty_nine_bytes : fixed_header (0x60 ∷ replicate 38 5) ≡ None
thirty_nine_bytes = refl

no_version : fixed_header (0x50 ∷ replicate 39 5) ≡ None
no_version = refl

one_byte_of_padding : padding false (ipv4_packet 21 0x40 0 (7 ∷ 8 ∷ [])) ≡ 8 ∷ []
unfolding ipv4_packet
one_byte_of_padding = refl

total_below_header : refusal (ipv4_packet 19 0 0 []) ≡ Some (TotalLength 19 20)
unfolding ipv4_packet headers_to_transport
total_below_header = refl

total_beyond_slice : refusal (ipv4_packet 23 0 0 (7 ∷ 8 ∷ [])) ≡ Some (PacketCutOff 23 22)
unfolding ipv4_packet headers_to_transport
total_beyond_slice = refl

lax_beyond_slice : lax_refusal (ipv4_packet 23 0 0 (7 ∷ 8 ∷ [])) ≡ None
unfolding ipv4_packet headers_to_transport
lax_beyond_slice = refl

no_byte : refusal [] ≡ Some (HeaderCutOff 1 0)
unfolding headers_to_transport
no_byte = refl

version_5 : refusal (0x55 ∷ []) ≡ Some (Version 5)
unfolding headers_to_transport
version_5 = refl

four_words : refusal (0x44 ∷ replicate 19 0) ≡ Some (HeaderLength 16)
unfolding headers_to_transport
four_words = refl

six_words : refusal (0x46 ∷ replicate 22 0) ≡ Some (HeaderCutOff 24 23)
unfolding headers_to_transport
six_words = refl

-- ---- source routes

-- the destination with these options, if the destination in the header is 10.0.0.2
destination_of : List ℕ → List ℕ
destination_of options = ipv4_destination_by (10 ∷ 0 ∷ 0 ∷ 2 ∷ []) (options_of ipv4_option options)

-- an option of this kind with two addresses
route_of_two : ℕ → ℕ → List ℕ
route_of_two kind pointer = kind ∷ 11 ∷ pointer ∷ 10 ∷ 0 ∷ 0 ∷ 3 ∷ 10 ∷ 0 ∷ 0 ∷ 4 ∷ []

loose_route : destination_of (131 ∷ 7 ∷ 4 ∷ 10 ∷ 0 ∷ 0 ∷ 3 ∷ 0 ∷ []) ≡ 10 ∷ 0 ∷ 0 ∷ 3 ∷ []
unfolding destination_of options_within
loose_route = refl

strict_route_of_two : destination_of (route_of_two 137 4) ≡ 10 ∷ 0 ∷ 0 ∷ 4 ∷ []
unfolding destination_of route_of_two options_within
strict_route_of_two = refl

-- a source route whose pointer is at its last address
one_address_left : destination_of (route_of_two 131 8) ≡ 10 ∷ 0 ∷ 0 ∷ 4 ∷ []
unfolding destination_of route_of_two options_within
one_address_left = refl

-- a source route whose pointer is at a byte within the last address, but not its first byte
between_two_addresses : destination_of (route_of_two 131 9) ≡ 10 ∷ 0 ∷ 0 ∷ 2 ∷ []
unfolding destination_of route_of_two options_within
between_two_addresses = refl

within_last_address : destination_of (route_of_two 137 11) ≡ 10 ∷ 0 ∷ 0 ∷ 2 ∷ []
unfolding destination_of route_of_two options_within
within_last_address = refl

within_only_address : destination_of (131 ∷ 7 ∷ 5 ∷ 10 ∷ 0 ∷ 0 ∷ 3 ∷ 0 ∷ []) ≡ 10 ∷ 0 ∷ 0 ∷ 2 ∷ []
unfolding destination_of options_within
within_only_address = refl

last_byte_of_only_address : destination_of (131 ∷ 7 ∷ 7 ∷ 10 ∷ 0 ∷ 0 ∷ 3 ∷ 0 ∷ []) ≡ 10 ∷ 0 ∷ 0 ∷ 2 ∷ []
unfolding destination_of options_within
last_byte_of_only_address = refl

route_past_its_end : destination_of (route_of_two 131 12) ≡ 10 ∷ 0 ∷ 0 ∷ 2 ∷ []
unfolding destination_of route_of_two options_within
route_past_its_end = refl

pointer_below_addresses : destination_of (route_of_two 131 3) ≡ 10 ∷ 0 ∷ 0 ∷ 2 ∷ []
unfolding destination_of route_of_two options_within
pointer_below_addresses = refl

record_of_route : destination_of (route_of_two 7 4) ≡ 10 ∷ 0 ∷ 0 ∷ 2 ∷ []
unfolding destination_of route_of_two options_within
record_of_route = refl

after_other_options : destination_of (1 ∷ 148 ∷ 4 ∷ 0 ∷ 0 ∷ route_of_two 137 4) ≡ 10 ∷ 0 ∷ 0 ∷ 4 ∷ []
unfolding destination_of route_of_two options_within
after_other_options = refl

after_end_of_list : destination_of (0 ∷ route_of_two 137 4) ≡ 10 ∷ 0 ∷ 0 ∷ 2 ∷ []
unfolding destination_of route_of_two options_within
after_end_of_list = refl

after_length_below_two : destination_of (148 ∷ 1 ∷ route_of_two 137 4) ≡ 10 ∷ 0 ∷ 0 ∷ 2 ∷ []
unfolding destination_of route_of_two options_within
after_length_below_two = refl

route_beyond_header : destination_of (131 ∷ 7 ∷ 4 ∷ 10 ∷ 0 ∷ 0 ∷ []) ≡ 10 ∷ 0 ∷ 0 ∷ 2 ∷ []
unfolding destination_of options_within
route_beyond_header = refl

route_without_address : destination_of (131 ∷ 3 ∷ 4 ∷ 0 ∷ []) ≡ 10 ∷ 0 ∷ 0 ∷ 2 ∷ []
unfolding destination_of options_within
route_without_address = refl

route_of_part_of_an_address : destination_of (131 ∷ 8 ∷ 4 ∷ 10 ∷ 0 ∷ 0 ∷ 3 ∷ 10 ∷ []) ≡ 10 ∷ 0 ∷ 0 ∷ 2 ∷ []
unfolding destination_of options_within
route_of_part_of_an_address = refl

first_of_two_routes : destination_of (131 ∷ 7 ∷ 4 ∷ 10 ∷ 0 ∷ 0 ∷ 3 ∷ route_of_two 137 4) ≡ 10 ∷ 0 ∷ 0 ∷ 3 ∷ []
unfolding destination_of route_of_two options_within
first_of_two_routes = refl

routed_over_ipv4 : headers_of false (0x47 ∷ 0 ∷ 0 ∷ 36 ∷ 0 ∷ 0 ∷ 0 ∷ 0 ∷ 64 ∷ 17 ∷ 0xda ∷ 0xb5 ∷ 10 ∷ 0 ∷ 0 ∷ 1 ∷ 10 ∷ 0 ∷ 0 ∷ 2
    ∷ 131 ∷ 7 ∷ 4 ∷ 10 ∷ 0 ∷ 0 ∷ 3 ∷ 0 ∷ 0 ∷ 1 ∷ 0 ∷ 2 ∷ 0 ∷ 8 ∷ 0xeb ∷ 0xd7 ∷ [])
    ≡ Ok (record {
      addresses = Ipv4 (10 ∷ 0 ∷ 0 ∷ 1 ∷ []) (10 ∷ 0 ∷ 0 ∷ 3 ∷ []);
      protocol = record { 0 = 17 };
      len = 28;
      is_fragment = false;
      is_later_fragment = false;
      may_be_extended = false;
      payload_len = 0;
      is_jumbogram = false;
    })
unfolding headers_to_transport options_within
routed_over_ipv4 = refl

-- ---- authentication headers over IPv4

-- an IPv4 packet with this total length, these bytes 6 and 7, and protocol 51
authenticated : ℕ → ℕ → ℕ → List ℕ → List ℕ
authenticated total flags offset after =
    0x45 ∷ 0 ∷ 0 ∷ total ∷ 0 ∷ 0 ∷ flags ∷ offset ∷ 64 ∷ 51 ∷ 0 ∷ 0 ∷ 10 ∷ 0 ∷ 0 ∷ 1 ∷ 10 ∷ 0 ∷ 0 ∷ 2 ∷ after

-- an authentication header of six words that names this number
six_words_before : ℕ → List ℕ → List ℕ
six_words_before number after = number ∷ 4 ∷ replicate 22 5 ++ after

-- the headers of a packet with an authentication header over IPv4, as they are read
over_authenticated_ipv4 : ℕ → ℕ → Bool → Bool → Headers
over_authenticated_ipv4 protocol len is_fragment is_later_fragment = record {
  addresses = Ipv4 (10 ∷ 0 ∷ 0 ∷ 1 ∷ []) (10 ∷ 0 ∷ 0 ∷ 2 ∷ []);
  protocol = record { 0 = protocol };
  len = len;
  is_fragment = is_fragment;
  is_later_fragment = is_later_fragment;
  may_be_extended = false;
  payload_len = 0;
  is_jumbogram = false;
}

authentication_over_ipv4 : headers_of false (authenticated 46 0 0 (six_words_before 17 (7 ∷ 8 ∷ [])))
    ≡ Ok (over_authenticated_ipv4 17 44 false false)
unfolding authenticated six_words_before over_authenticated_ipv4 headers_to_transport options_within
authentication_over_ipv4 = refl

-- a second authentication header, or an extension header of IPv6, is the protocol
second_authentication : headers_of false (authenticated 68 0 0 (six_words_before 51 (six_words_before 17 [])))
    ≡ Ok (over_authenticated_ipv4 51 44 false false)
unfolding authenticated six_words_before over_authenticated_ipv4 headers_to_transport options_within
second_authentication = refl

options_after_authentication : headers_of false (authenticated 52 0 0 (six_words_before 60 (17 ∷ 0 ∷ replicate 6 0)))
    ≡ Ok (over_authenticated_ipv4 60 44 false false)
unfolding authenticated six_words_before over_authenticated_ipv4 headers_to_transport options_within
options_after_authentication = refl

-- a first fragment contains an authentication header, and a later fragment doesn't
first_fragment_has_authentication : headers_of false (authenticated 46 0x20 0 (six_words_before 17 (7 ∷ 8 ∷ [])))
    ≡ Ok (over_authenticated_ipv4 17 44 true false)
unfolding authenticated six_words_before over_authenticated_ipv4 headers_to_transport options_within
first_fragment_has_authentication = refl

later_fragment_has_no_authentication : headers_of false (authenticated 46 0 3 (six_words_before 17 (7 ∷ 8 ∷ [])))
    ≡ Ok (over_authenticated_ipv4 51 20 true true)
unfolding authenticated six_words_before over_authenticated_ipv4 headers_to_transport options_within
later_fragment_has_no_authentication = refl

authentication_cut_off : refusal (authenticated 43 0 0 (17 ∷ 4 ∷ replicate 21 5))
    ≡ Some (ExtensionHeaderCutOff (record { 0 = 51 }) 20 24 23)
unfolding authenticated headers_to_transport options_within
authentication_cut_off = refl

seven_bytes_of_authentication : lax_refusal (authenticated 44 0 0 (17 ∷ 4 ∷ replicate 5 5))
    ≡ Some (ExtensionHeaderCutOff (record { 0 = 51 }) 20 8 7)
unfolding authenticated headers_to_transport options_within
seven_bytes_of_authentication = refl

-- ---- IPv6

-- an IPv6 packet with this payload length and next header
ipv6_packet : ℕ → ℕ → List ℕ → List ℕ
ipv6_packet payload_length next_header after =
    0x60 ∷ 0 ∷ 0 ∷ 0 ∷ 0 ∷ payload_length ∷ next_header ∷ 64 ∷ (replicate 16 1 ++ (replicate 16 2 ++ after))

-- the headers of an IPv6 packet, as they are read
over_ipv6 : ℕ → ℕ → ℕ → Bool → Bool → Headers
over_ipv6 payload_length protocol len is_fragment may_be_extended = record {
  addresses = Ipv6 (replicate 16 1) (Some (replicate 16 2));
  protocol = record { 0 = protocol };
  len = len;
  is_fragment = is_fragment;
  is_later_fragment = not may_be_extended;
  may_be_extended = may_be_extended;
  payload_len = payload_length;
  is_jumbogram = false;
}

at_once : headers_of false (ipv6_packet 2 58 (7 ∷ 8 ∷ [])) ≡ Ok (over_ipv6 2 58 40 false true)
unfolding ipv6_packet over_ipv6 headers_to_transport
at_once = refl

after_two_options : headers_of false (ipv6_packet 26 0 (60 ∷ 0 ∷ replicate 6 0 ++ (17 ∷ 1 ∷ replicate 14 0 ++ (7 ∷ 8 ∷ []))))
    ≡ Ok (over_ipv6 26 17 64 false true)
unfolding ipv6_packet over_ipv6 headers_to_transport options_within
after_two_options = refl

first_fragment : headers_of false (ipv6_packet 18 44 (60 ∷ 0 ∷ 0 ∷ 1 ∷ replicate 4 9 ++ (17 ∷ 0 ∷ replicate 8 0)))
    ≡ Ok (over_ipv6 18 17 56 true true)
unfolding ipv6_packet over_ipv6 headers_to_transport options_within
first_fragment = refl

later_fragment : headers_of false (ipv6_packet 18 44 (60 ∷ 0 ∷ 0 ∷ 8 ∷ replicate 4 9 ++ (17 ∷ 0 ∷ replicate 8 0)))
    ≡ Ok (over_ipv6 18 60 48 true false)
unfolding ipv6_packet over_ipv6 headers_to_transport
later_fragment = refl

cut_off_options : refusal (ipv6_packet 15 60 (17 ∷ 1 ∷ replicate 14 0)) ≡ Some (ExtensionHeaderCutOff (record { 0 = 60 }) 40 16 15)
unfolding ipv6_packet headers_to_transport
cut_off_options = refl

seven_bytes_of_options : refusal (ipv6_packet 7 60 (17 ∷ 1 ∷ replicate 5 0)) ≡ Some (ExtensionHeaderCutOff (record { 0 = 60 }) 40 8 7)
unfolding ipv6_packet headers_to_transport
seven_bytes_of_options = refl

words_of_four : extension_len 51 (17 ∷ 4 ∷ []) ≡ 24
words_of_four = refl

words_of_eight : extension_len 43 (17 ∷ 4 ∷ []) ≡ 40
words_of_eight = refl

authentication_of_24_bytes : headers_of false (ipv6_packet 26 51 (17 ∷ 4 ∷ replicate 22 5 ++ (7 ∷ 8 ∷ [])))
    ≡ Ok (over_ipv6 26 17 64 false true)
unfolding ipv6_packet over_ipv6 headers_to_transport
authentication_of_24_bytes = refl

mobility_of_16_bytes : headers_of false (ipv6_packet 16 135 (59 ∷ 1 ∷ replicate 14 5)) ≡ Ok (over_ipv6 16 59 56 false true)
unfolding ipv6_packet over_ipv6 headers_to_transport
mobility_of_16_bytes = refl

host_identity_of_16_bytes : headers_of false (ipv6_packet 18 139 (17 ∷ 1 ∷ replicate 14 5 ++ (7 ∷ 8 ∷ [])))
    ≡ Ok (over_ipv6 18 17 56 false true)
unfolding ipv6_packet over_ipv6 headers_to_transport
host_identity_of_16_bytes = refl

shim6_of_8_bytes : headers_of false (ipv6_packet 10 140 (6 ∷ 0 ∷ replicate 6 5 ++ (7 ∷ 8 ∷ []))) ≡ Ok (over_ipv6 10 6 48 false true)
unfolding ipv6_packet over_ipv6 headers_to_transport
shim6_of_8_bytes = refl

experiment : headers_of false (ipv6_packet 10 253 (6 ∷ 0 ∷ replicate 6 5 ++ (7 ∷ 8 ∷ []))) ≡ Ok (over_ipv6 10 253 40 false true)
unfolding ipv6_packet over_ipv6 headers_to_transport
experiment = refl

other_experiment : headers_of false (ipv6_packet 10 254 (6 ∷ 0 ∷ replicate 6 5 ++ (7 ∷ 8 ∷ []))) ≡ Ok (over_ipv6 10 254 40 false true)
unfolding ipv6_packet over_ipv6 headers_to_transport
other_experiment = refl

-- a packet with a fragment header with offset 0 and no more fragments is whole
only_fragment : headers_of false (ipv6_packet 10 44 (17 ∷ 0 ∷ 0 ∷ 0 ∷ replicate 4 9 ++ (7 ∷ 8 ∷ []))) ≡ Ok (over_ipv6 10 17 48 false true)
unfolding ipv6_packet over_ipv6 headers_to_transport
only_fragment = refl

-- ---- jumbograms

-- an IPv6 packet whose payload begins with hop-by-hop options of 8 bytes that end in these six bytes
options_packet : ℕ → ℕ → List ℕ → List ℕ → List ℕ
options_packet payload_length next_header six after = ipv6_packet payload_length 0 (next_header ∷ 0 ∷ six ++ after)

-- a jumbo payload option of this length: its bytes from the second on
jumbo : ℕ → ℕ → ℕ → List ℕ
jumbo second third fourth = 0xC2 ∷ 4 ∷ 0 ∷ second ∷ third ∷ fourth ∷ []

smallest_jumbo_len : jumbo_len (options_packet 0 17 (jumbo 1 0 0) []) ≡ Some 65536
unfolding options_packet ipv6_packet jumbo options_within
smallest_jumbo_len = refl

jumbo_counts : counted_len false (options_packet 0 17 (jumbo 1 0 1) []) ≡ 65577
unfolding options_packet ipv6_packet jumbo options_within
jumbo_counts = refl

-- the captured bytes of a jumbogram are the beginning of its payload
lax_jumbogram : headers_of (lacks_len (options_packet 0 17 (jumbo 1 0 0) (7 ∷ []))) (options_packet 0 17 (jumbo 1 0 0) (7 ∷ []))
    ≡ Ok (record (over_ipv6 0 17 48 false true) { is_jumbogram = true })
unfolding options_packet ipv6_packet jumbo over_ipv6 headers_to_transport options_within
lax_jumbogram = refl

jumbogram_cut_off : refusal (options_packet 0 17 (jumbo 1 0 0) (7 ∷ [])) ≡ Some (PacketCutOff 65576 49)
unfolding options_packet ipv6_packet jumbo headers_to_transport options_within
jumbogram_cut_off = refl

-- 65,535 is not a valid jumbo payload length
jumbo_len_of_16_bits : refusal (options_packet 0 17 (jumbo 0 255 255) (7 ∷ [])) ≡ Some (JumboPayloadLength 65535)
unfolding options_packet ipv6_packet jumbo headers_to_transport options_within
jumbo_len_of_16_bits = refl

lax_jumbo_len_of_16_bits : lax_refusal (options_packet 0 17 (jumbo 0 255 255) (7 ∷ [])) ≡ Some (JumboPayloadLength 65535)
unfolding options_packet ipv6_packet jumbo headers_to_transport options_within
lax_jumbo_len_of_16_bits = refl

-- the first of two jumbo payload options counts
first_of_two_options : jumbo_len (ipv6_packet 0 0 (17 ∷ 1 ∷ jumbo 1 0 0 ++ (jumbo 2 0 0 ++ (0 ∷ 0 ∷ [])))) ≡ Some 65536
unfolding ipv6_packet jumbo options_within
first_of_two_options = refl

option_of_three_bytes : jumbo_len (options_packet 0 17 (0xC2 ∷ 3 ∷ 1 ∷ 0 ∷ 0 ∷ 0 ∷ []) []) ≡ None
unfolding options_packet ipv6_packet options_within
option_of_three_bytes = refl

-- hop-by-hop options that are cut off are refused
options_cut_off : refusal (ipv6_packet 0 0 (17 ∷ 1 ∷ jumbo 1 0 0)) ≡ Some (HeaderCutOff 56 48)
unfolding ipv6_packet jumbo headers_to_transport
options_cut_off = refl

no_options : refusal (ipv6_packet 0 0 []) ≡ Some (HeaderCutOff 48 40)
unfolding ipv6_packet headers_to_transport
no_options = refl

-- a jumbo payload option with a payload length other than 0 is refused
with_payload_length : refusal (options_packet 10 17 (jumbo 1 0 0) (7 ∷ 8 ∷ [])) ≡ Some (JumboPayloadUnexpected 10)
unfolding options_packet ipv6_packet jumbo headers_to_transport options_within
with_payload_length = refl

-- a jumbo payload option in destination options is not read
in_destination_options : refusal (ipv6_packet 10 60 (17 ∷ 0 ∷ jumbo 1 0 0 ++ (7 ∷ 8 ∷ []))) ≡ None
unfolding ipv6_packet jumbo headers_to_transport options_within
in_destination_options = refl

in_second_options : refusal (ipv6_packet 18 60 (0 ∷ 0 ∷ replicate 6 0 ++ (17 ∷ 0 ∷ jumbo 1 0 0 ++ (7 ∷ 8 ∷ [])))) ≡ None
unfolding ipv6_packet jumbo headers_to_transport options_within
in_second_options = refl

fragment_of_jumbogram : lax_refusal (options_packet 0 44 (jumbo 1 0 0) (17 ∷ 0 ∷ 0 ∷ 1 ∷ replicate 4 9)) ≡ Some (JumboPayloadFragment 48)
unfolding options_packet ipv6_packet jumbo headers_to_transport options_within
fragment_of_jumbogram = refl

-- ---- no length

no_total_length : refusal (ipv4_packet 0 0 0 (7 ∷ 8 ∷ [])) ≡ Some (TotalLength 0 20)
unfolding ipv4_packet headers_to_transport options_within
no_total_length = refl

lax_no_total_length : lax_refusal (ipv4_packet 0 0 0 (7 ∷ 8 ∷ [])) ≡ None
unfolding ipv4_packet headers_to_transport options_within
lax_no_total_length = refl

lax_total_length_of_1 : lax_refusal (ipv4_packet 1 0 0 (7 ∷ 8 ∷ [])) ≡ Some (TotalLength 1 20)
unfolding ipv4_packet headers_to_transport
lax_total_length_of_1 = refl

-- all bytes are counted if the length is missing, otherwise no byte after the header
all_counted : counted (lacks_len (ipv6_packet 0 17 (7 ∷ 8 ∷ []))) (ipv6_packet 0 17 (7 ∷ 8 ∷ [])) ≡ ipv6_packet 0 17 (7 ∷ 8 ∷ [])
unfolding ipv6_packet
all_counted = refl

header_counted : padding false (ipv6_packet 0 17 (7 ∷ 8 ∷ [])) ≡ 7 ∷ 8 ∷ []
unfolding ipv6_packet
header_counted = refl

not_cut_off : is_cut_off (lacks_len (ipv6_packet 0 17 (7 ∷ 8 ∷ []))) (ipv6_packet 0 17 (7 ∷ 8 ∷ [])) ≡ false
unfolding ipv6_packet
not_cut_off = refl

-- a packet with no next header is complete with its header
complete_with_header : counted (lacks_len (ipv6_packet 0 59 (7 ∷ 8 ∷ []))) (ipv6_packet 0 59 (7 ∷ 8 ∷ [])) ≡ ipv6_packet 0 59 []
unfolding ipv6_packet
complete_with_header = refl

states_its_length : lacks_len (ipv6_packet 0 59 (7 ∷ 8 ∷ [])) ≡ false
unfolding ipv6_packet
states_its_length = refl

no_jumbo_option : refusal (options_packet 0 17 (replicate 6 0) (7 ∷ 8 ∷ [])) ≡ Some JumboPayloadMissing
unfolding options_packet ipv6_packet headers_to_transport options_within
no_jumbo_option = refl

lax_no_jumbo_option : headers_of (lacks_len (options_packet 0 17 (replicate 6 0) (7 ∷ 8 ∷ [])))
    (options_packet 0 17 (replicate 6 0) (7 ∷ 8 ∷ []))
    ≡ Ok (over_ipv6 0 17 48 false true)
unfolding options_packet ipv6_packet over_ipv6 headers_to_transport options_within
lax_no_jumbo_option = refl

-- ---- readings of packets

-- an extension header
extension : ℕ → List ℕ → ExtensionHeader
extension number bytes = record { number = number; bytes = bytes }

-- a packet without extension headers, and with a byte of padding
reads_at_once : Reads false (ipv6_packet 1 58 (7 ∷ 8 ∷ [])) [] 58 (7 ∷ [])
unfolding ipv6_packet
reads_at_once = record { whole = refl; chain = (refl, refl) }

reads_ipv4 : Reads false (ipv4_packet 21 0 0 (7 ∷ 8 ∷ [])) [] 17 (7 ∷ [])
unfolding ipv4_packet
reads_ipv4 = record { whole = refl; chain = (refl, refl) }

reads_authentication : Reads false (ipv6_packet 25 51 (17 ∷ 4 ∷ replicate 22 5 ++ (7 ∷ 8 ∷ [])))
    (extension 51 (17 ∷ 4 ∷ replicate 22 5) ∷ []) 17 (7 ∷ [])
unfolding ipv6_packet extension
reads_authentication = record {
  whole =
      refl;
  chain = (refl, refl, record { known = refl; shortest = omega arith; len = refl }, (refl, refl));
}

reads_authentication_over_ipv4 : Reads false (authenticated 45 0 0 (six_words_before 17 (7 ∷ 8 ∷ [])))
    (extension 51 (six_words_before 17 []) ∷ []) 17 (7 ∷ [])
unfolding authenticated six_words_before extension
reads_authentication_over_ipv4 =
    record { whole = refl; chain = (refl, refl, record { known = refl; shortest = omega arith; len = refl }, (refl, refl)) }

reads_mobility : Reads false (ipv6_packet 16 135 (59 ∷ 1 ∷ replicate 14 5)) (extension 135 (59 ∷ 1 ∷ replicate 14 5) ∷ []) 59 []
unfolding ipv6_packet extension
reads_mobility = record { whole = refl; chain = (refl, refl, record { known = refl; shortest = omega arith; len = refl }, (refl, refl)) }

-- nothing is read after the header of a later fragment
reads_later_fragment : Reads false (ipv6_packet 18 44 (60 ∷ 0 ∷ 0 ∷ 8 ∷ replicate 4 9 ++ (17 ∷ 0 ∷ replicate 8 0)))
    (extension 44 (60 ∷ 0 ∷ 0 ∷ 8 ∷ replicate 4 9) ∷ []) 60 (17 ∷ 0 ∷ replicate 8 0)
unfolding ipv6_packet extension
reads_later_fragment = record {
  whole =
      refl;
  chain = (refl, refl, record { known = refl; shortest = omega arith; len = refl }, (refl, refl));
}

-- ---- refusals after the IP header

-- the hop-by-hop options are whole, and the destination options after them are cut off
refused_second_header : IsRefusedAfterHeaders false (ipv6_packet 15 0 (60 ∷ 0 ∷ replicate 6 0 ++ (17 ∷ 1 ∷ replicate 5 0)))
    (ExtensionHeaderCutOff (record { 0 = 60 }) 48 8 7)
unfolding ipv6_packet extension options_within
refused_second_header = record {
  extensions = extension 0 (60 ∷ 0 ∷ replicate 6 0) ∷ [];
  number = 60;
  rest = 17 ∷ 1 ∷ replicate 5 0;
  whole = refl;
  chain = (refl, refl, record { known = refl; shortest = omega arith; len = refl }, (refl, refl, refl));
  no_jumbo_payload = λ some. refl;
  no_fragment = λ is. refl;
  refuses = (refl, refl, refl, inl (omega arith, refl));
}

refused_authentication : IsRefusedAfterHeaders false (authenticated 43 0 0 (17 ∷ 4 ∷ replicate 21 5))
    (ExtensionHeaderCutOff (record { 0 = 51 }) 20 24 23)
unfolding authenticated
refused_authentication = record {
  extensions = [];
  number = 51;
  rest = 17 ∷ 4 ∷ replicate 21 5;
  whole = refl;
  chain = (refl, refl, refl);
  no_jumbo_payload = λ some. refl;
  no_fragment = λ is. refl;
  refuses = (refl, refl, refl, inr (omega arith, omega arith, refl));
}

refused_options : IsRefusedAfterHeaders false (options_packet 10 17 (jumbo 1 0 0) (7 ∷ 8 ∷ [])) (JumboPayloadUnexpected 10)
unfolding options_packet ipv6_packet jumbo options_within
refused_options = record {
  extensions = [];
  number = 0;
  rest = 17 ∷ 0 ∷ jumbo 1 0 0 ++ (7 ∷ 8 ∷ []);
  whole = refl;
  chain = (refl, refl, refl);
  no_jumbo_payload = λ some. refl;
  no_fragment = λ is. refl;
  refuses = (refl, omega arith, refl, record { known = refl; shortest = omega arith; len = refl }, refl);
}

refused_fragment : IsRefusedAfterHeaders false (options_packet 0 44 (jumbo 1 0 0) (17 ∷ 0 ∷ 0 ∷ 1 ∷ replicate 4 9))
    (JumboPayloadFragment 48)
unfolding options_packet ipv6_packet jumbo extension options_within
refused_fragment = record {
  extensions = extension 0 (44 ∷ 0 ∷ jumbo 1 0 0) ∷ [];
  number = 44;
  rest = 17 ∷ 0 ∷ 0 ∷ 1 ∷ replicate 4 9;
  whole = refl;
  chain = (refl, refl, record { known = refl; shortest = omega arith; len = refl }, (refl, refl, refl));
  no_jumbo_payload = λ some. absurd (some refl);
  no_fragment = λ is. refl;
  refuses = (refl, refl, refl, record { known = refl; shortest = omega arith; len = refl });
}

-- ---- fragments

-- a fragment header with these bytes 2 and 3
fragment_header : ℕ → ℕ → ExtensionHeader
fragment_header high low = record { number = 44; bytes = 17 ∷ 0 ∷ high ∷ low ∷ replicate 4 9 }

only_one : is_fragment_by (fragment_header 0 0 ∷ []) ≡ false
unfolding fragment_header
only_one = refl

reserved_bits : is_fragment_by (fragment_header 0 6 ∷ []) ≡ false
unfolding fragment_header
reserved_bits = refl

first_of_several : is_fragment_by (fragment_header 0 1 ∷ []) ≡ true
unfolding fragment_header
first_of_several = refl

last_of_several : is_fragment_by (fragment_header 1 0 ∷ []) ≡ true
unfolding fragment_header
last_of_several = refl

-- ---- final destinations

-- a routing header of type 0 with one address and this number of segments left
route : ℕ → ℕ → ExtensionHeader
route segments_left address = record { number = 43; bytes = 17 ∷ 2 ∷ 0 ∷ segments_left ∷ replicate 4 0 ++ replicate 16 address }

no_segment_left : destination_by (Some (replicate 16 2)) (route 0 3 ∷ []) ≡ Some (replicate 16 2)
unfolding route
no_segment_left = refl

one_segment_left : destination_by (Some (replicate 16 2)) (route 1 3 ∷ []) ≡ Some (replicate 16 3)
unfolding route
one_segment_left = refl

two_routing_headers : destination_by (Some (replicate 16 2)) (route 1 3 ∷ route 1 4 ∷ []) ≡ Some (replicate 16 4)
unfolding route
two_routing_headers = refl

second_is_used_up : destination_by (Some (replicate 16 2)) (route 1 3 ∷ route 0 4 ∷ []) ≡ Some (replicate 16 3)
unfolding route
second_is_used_up = refl

-- a header of another type does not name an address, even with the bytes of a routing header
no_routing_header : destination_by (Some (replicate 16 2)) (extension 60 (17 ∷ 2 ∷ 0 ∷ 1 ∷ replicate 4 0 ++ replicate 16 3) ∷ [])
    ≡ Some (replicate 16 2)
unfolding extension
no_routing_header = refl

routed : headers_of false (ipv6_packet 26 43 (17 ∷ 2 ∷ 0 ∷ 1 ∷ replicate 4 0 ++ (replicate 16 3 ++ (7 ∷ 8 ∷ []))))
    ≡ Ok (record {
      addresses = Ipv6 (replicate 16 1) (Some (replicate 16 3));
      protocol = record { 0 = 17 };
      len = 64;
      is_fragment = false;
      is_later_fragment = false;
      may_be_extended = true;
      payload_len = 26;
      is_jumbogram = false;
    })
unfolding ipv6_packet headers_to_transport
routed = refl

-- ---- home addresses

-- the source with an extension header of this number, if the source in the IPv6 header is 16 bytes 1
source_with : ℕ → List ℕ → List ℕ
source_with number bytes = source_by (replicate 16 1) (extension number bytes ∷ [])

-- the home address option follows two bytes of padding
after_padding : source_with 60 (17 ∷ 2 ∷ 1 ∷ 2 ∷ 0 ∷ 0 ∷ 0xC9 ∷ 16 ∷ replicate 16 7) ≡ replicate 16 7
unfolding source_with extension options_within
after_padding = refl

after_single_bytes_of_padding : source_with 60 (17 ∷ 2 ∷ 0 ∷ 0 ∷ 0 ∷ 0 ∷ 0xC9 ∷ 16 ∷ replicate 16 7) ≡ replicate 16 7
unfolding source_with extension options_within
after_single_bytes_of_padding = refl

-- the last of two home addresses counts, even if another option follows it
last_of_two_home_addresses : source_with 60
    (17 ∷ 5 ∷ 1 ∷ 2 ∷ 0 ∷ 0 ∷ 0xC9 ∷ 16 ∷ replicate 16 7 ++ (1 ∷ 2 ∷ 0 ∷ 0 ∷ 0xC9 ∷ 16 ∷ replicate 16 8 ++ (1 ∷ 0 ∷ [])))
    ≡ replicate 16 8
unfolding source_with extension options_within
last_of_two_home_addresses = refl

last_of_two_headers : source_by (replicate 16 1) (extension 60 (60 ∷ 2 ∷ 1 ∷ 2 ∷ 0 ∷ 0 ∷ 0xC9 ∷ 16 ∷ replicate 16 7)
    ∷ extension 60 (17 ∷ 2 ∷ 1 ∷ 2 ∷ 0 ∷ 0 ∷ 0xC9 ∷ 16 ∷ replicate 16 8) ∷ []) ≡ replicate 16 8
unfolding extension options_within
last_of_two_headers = refl

of_fifteen_bytes : source_with 60 (17 ∷ 2 ∷ 1 ∷ 3 ∷ 0 ∷ 0 ∷ 0 ∷ 0xC9 ∷ 15 ∷ replicate 15 7) ≡ replicate 16 1
unfolding source_with extension options_within
of_fifteen_bytes = refl

beyond_header : source_with 60 (17 ∷ 2 ∷ 1 ∷ 3 ∷ 0 ∷ 0 ∷ 0 ∷ 0xC9 ∷ 16 ∷ replicate 15 7) ≡ replicate 16 1
unfolding source_with extension options_within
beyond_header = refl

after_option_beyond_header : source_with 60 (17 ∷ 2 ∷ 1 ∷ 21 ∷ 0 ∷ 0 ∷ 0xC9 ∷ 16 ∷ replicate 16 7) ≡ replicate 16 1
unfolding source_with extension options_within
after_option_beyond_header = refl

only_in_destination_options : source_with 0 (17 ∷ 2 ∷ 1 ∷ 2 ∷ 0 ∷ 0 ∷ 0xC9 ∷ 16 ∷ replicate 16 7) ≡ replicate 16 1
unfolding source_with extension options_within
only_in_destination_options = refl

from_home : headers_of false (ipv6_packet 24 60 (17 ∷ 2 ∷ 1 ∷ 2 ∷ 0 ∷ 0 ∷ 0xC9 ∷ 16 ∷ replicate 16 7))
    ≡ Ok (record {
      addresses = Ipv6 (replicate 16 7) (Some (replicate 16 2));
      protocol = record { 0 = 17 };
      len = 64;
      is_fragment = false;
      is_later_fragment = false;
      may_be_extended = true;
      payload_len = 24;
      is_jumbogram = false;
    })
unfolding ipv6_packet headers_to_transport options_within
from_home = refl

-- ---- routing headers

last_of_two_addresses : final_destination (17 ∷ 4 ∷ 0 ∷ 1 ∷ replicate 4 0 ++ (replicate 16 3 ++ replicate 16 4)) ≡ Some (replicate 16 4)
last_of_two_addresses = refl

home_address : final_destination (17 ∷ 2 ∷ 2 ∷ 1 ∷ replicate 4 0 ++ replicate 16 3) ≡ Some (replicate 16 3)
home_address = refl

first_entry : final_destination (17 ∷ 4 ∷ 4 ∷ 1 ∷ replicate 4 0 ++ (replicate 16 3 ++ replicate 16 4)) ≡ Some (replicate 16 3)
first_entry = refl

another_type : final_destination (17 ∷ 2 ∷ 3 ∷ 1 ∷ replicate 20 0) ≡ None
another_type = refl

no_address : final_destination (17 ∷ 1 ∷ 0 ∷ 1 ∷ replicate 12 0) ≡ None
no_address = refl
