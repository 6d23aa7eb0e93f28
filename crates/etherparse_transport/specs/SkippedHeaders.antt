-- The extension headers of IPv6 that an address translator skips, since they contain no other address of the packet.
use Rattle.std.specs.Prelude.{ℕ, zero, suc, ◌+◌, ◌==◌, ◌&&◌, ◌||◌, Bool, false, not, nat_le, if◌then◌else◌, is_some, List, drop, length, slice_index, take}
use Rattle.std.specs.List.{find}
use Rattle.ip_part.specs.ExtensionHeaders.{destination_options, extension_len, fragment, has_segments_left, hop_by_hop_options, is_later_fragment, next_number, routing}
use Rattle.ip_part.specs.Options.{ipv6_option, options_of}
use Rattle.etherparse_transport.specs.declared.ip.skipped_headers.SkippedHeaders.{SkippedHeaders}

-- ---- one extension header

-- the numbers of the extension headers that may be skipped
abbrev pub may_be_skipped : ℕ → Bool
may_be_skipped number =
    number == hop_by_hop_options || (number == routing || (number == fragment || number == destination_options))

-- the option is a home address option, even if its length is wrong (RFC 6275, section 6.3)
abbrev pub is_home_address : List ℕ → Bool
is_home_address option = slice_index option 0 == 0xC9

-- an extension header contains a home address option; the options follow its first two bytes (RFC 8200, section 4.6)
abbrev pub contain_home_address : List ℕ → Bool
contain_home_address header = is_some (find is_home_address (options_of ipv6_option (drop 2 header)))

-- an extension header contains another address of the packet: it is a routing header with segments left, or destination options with a home
-- address
abbrev pub adds_address : ℕ → List ℕ → Bool
adds_address number header = has_segments_left number header || (number == destination_options && contain_home_address header)

-- the extension header of this number at the front of these bytes; the header may be cut off
abbrev pub header_at : ℕ → List ℕ → List ℕ
header_at number rest = take (extension_len number rest) rest

-- the extension header of this number at the front of these bytes is whole and adds no address
abbrev pub adds_none : ℕ → List ℕ → Bool
adds_none number rest =
    nat_le 8 (length rest) && (nat_le (extension_len number rest) (length rest) && not (adds_address number (header_at number rest)))

-- ---- all of them

-- The next header, at the front of these bytes, is skipped too. No header follows in a later fragment, whose bytes are from the middle of a
-- packet.
abbrev pub is_skipped : SkippedHeaders → List ℕ → Bool
is_skipped skipped rest =
    not skipped.is_later_fragment && (may_be_skipped skipped.protocol.0 && adds_none skipped.protocol.0 rest)

-- the skipped headers with one more header
abbrev pub with_next : SkippedHeaders → List ℕ → SkippedHeaders
with_next skipped header = record {
  protocol = record { 0 = next_number header };
  len = skipped.len + length header;
  is_later_fragment = is_later_fragment skipped.protocol.0 header;
}

-- these skipped headers, and the headers after them that are skipped too, but at most this number of headers
unfoldable pub skip : ℕ → SkippedHeaders → List ℕ → SkippedHeaders
skip zero skipped packet = skipped
skip (suc more) skipped packet =
    if is_skipped skipped (drop skipped.len packet)
    then skip more (with_next skipped (header_at skipped.protocol.0 (drop skipped.len packet))) packet
    else skipped

-- only the IPv6 header; the header or protocol after it has this number (RFC 8200, section 3)
abbrev pub only_ipv6_header : ℕ → SkippedHeaders
only_ipv6_header number = record { protocol = record { 0 = number }; len = 40; is_later_fragment = false }

-- The IPv6 header of a packet, and all extension headers after it that are skipped. Each header is at least one byte long, so the limit on
-- their number is never reached.
abbrev pub skipped_headers : List ℕ → SkippedHeaders
skipped_headers packet = skip (suc (length packet)) (only_ipv6_header (slice_index packet 6)) packet
