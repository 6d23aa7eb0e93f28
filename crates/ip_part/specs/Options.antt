-- Options of IP headers (RFC 791, section 3.1; RFC 8200, section 4.2), the source routes of IPv4, and the home address and the jumbo
-- payload length of IPv6.
use Rattle.std.specs.Prelude.{◌≡◌, ℕ, zero, suc, ◌-◌, ◌%◌, ◌==◌, Bool, not, ◌+◌, ◌&&◌, ◌||◌, nat_lt, if◌then◌else◌, List, [], ◌∷◌, ◌++◌, length, take, drop, slice_index, slice_range, Option, Some, None}
use Rattle.std.specs.List.{find, fold}
use Rattle.std.specs.Option.{option_map}
use Rattle.net_base.specs.Bytes.{be_number}

-- ---- sequences of options

-- The option at the front of the options of an IPv4 header. Kind 0 ends the list, and an option of kind 1 has one byte. In any other option
-- the second byte is the length of the option (RFC 791, section 3.1). `None` at the end of the list, or if the option states a length below
-- 2 or goes beyond the bytes.
abbrev pub ipv4_option : List ℕ → Option (List ℕ)
ipv4_option bytes =
    if length bytes == 0 || slice_index bytes 0 == 0 then None
    else if slice_index bytes 0 == 1 then Some (take 1 bytes)
    else if nat_lt (length bytes) 2 || (nat_lt (slice_index bytes 1) 2 || nat_lt (length bytes) (slice_index bytes 1)) then None
    else Some (take (slice_index bytes 1) bytes)

-- The option at the front of the options of an extension header. An option of type 0 has one byte. In any other option the second byte is
-- the length of its data (RFC 8200, section 4.2). `None` at the end of the options, or if the data would go beyond the end.
abbrev pub ipv6_option : List ℕ → Option (List ℕ)
ipv6_option bytes =
    if length bytes == 0 then None
    else if slice_index bytes 0 == 0 then Some (take 1 bytes)
    else if nat_lt (length bytes) 2 || nat_lt (length bytes) (2 + slice_index bytes 1) then None
    else Some (take (2 + slice_index bytes 1) bytes)

-- These are the options in the bytes: the option at the front, and then the options in the rest. The options end before bytes that have no
-- option at the front.
abbrev pub AreOptions : (List ℕ → Option (List ℕ)) → List ℕ → List (List ℕ) → Type 0
AreOptions front bytes [] = front bytes ≡ None
AreOptions front bytes (option ∷ options) =
    (rest : List ℕ) × (bytes ≡ option ++ rest) × (front bytes ≡ Some option) × AreOptions front rest options

-- the first option and then the options of the rest; empty if there is no first option
abbrev pub with_first : Option (List ℕ) → (List ℕ → List (List ℕ)) → List (List ℕ)
with_first None others = []
with_first (Some option) others = option ∷ others option

-- the options in the bytes, but at most this number of options
unfoldable pub options_within : (List ℕ → Option (List ℕ)) → ℕ → List ℕ → List (List ℕ)
options_within front zero bytes = []
options_within front (suc more) bytes = with_first (front bytes) (λ option. options_within front more (drop (length option) bytes))

-- the options in the bytes; each option has at least one byte, so the number of bytes limits the number of options
abbrev pub options_of : (List ℕ → Option (List ℕ)) → List ℕ → List (List ℕ)
options_of front bytes = options_within front (suc (length bytes)) bytes

-- ---- source routes

-- the option is a loose source route, 131, or a strict source route, 137 (RFC 791, section 3.1)
abbrev pub is_source_route : List ℕ → Bool
is_source_route option = slice_index option 0 == 131 || slice_index option 0 == 137

-- The option is a source route that is not at its end. A route is at its end if its pointer, the third byte, is greater than its length (RFC
-- 791, section 3.1). A route of two bytes has no pointer, and `slice_index` is 0 there.
abbrev pub is_unexpired_route : List ℕ → Bool
is_unexpired_route option = is_source_route option && not (nat_lt (length option) (slice_index option 2))

-- The route contains an address that the packet has not reached yet. The route consists of kind, length, pointer, and at least one address
-- of four bytes. The pointer is the place of the first byte of the next address, where the first byte of the route has the place 1. So the
-- pointer is a multiple of 4, at least 4, and not past the end (RFC 791, section 3.1).
abbrev pub is_route_left : List ℕ → Bool
is_route_left route =
    not (nat_lt (length route) 7)
    && (length route % 4 == 3
    && (not (nat_lt (slice_index route 2) 4)
    && (slice_index route 2 % 4 == 0
    && not (nat_lt (length route) (slice_index route 2)))))

-- The final destination of a packet with this source route, or without a source route. If the route has an address left, this is the last
-- address of the route (RFC 1122, section 3.2.1.8). Otherwise it is the destination in the header.
abbrev pub routed : List ℕ → Option (List ℕ) → List ℕ
routed destination None = destination
routed destination (Some route) = if is_route_left route then slice_range route (length route - 4) (length route) else destination

-- the final destination of a packet with these options; the first source route counts
abbrev pub ipv4_destination_by : List ℕ → List (List ℕ) → List ℕ
ipv4_destination_by destination options = routed destination (find is_source_route options)

-- ---- the home address

-- the option has this type and this number of bytes of data
abbrev pub is_ipv6_option : ℕ → ℕ → List ℕ → Bool
is_ipv6_option kind len option = slice_index option 0 == kind && length option == 2 + len

-- the first option with this type and this number of bytes of data in an extension header; the options follow the first two bytes (RFC
-- 8200, sections 4.3 and 4.6)
abbrev pub ipv6_option_of : ℕ → ℕ → List ℕ → Option (List ℕ)
ipv6_option_of kind len header = find (is_ipv6_option kind len) (options_of ipv6_option (drop 2 header))

-- The source after this option. A home address option, 0xC9 with 16 bytes of data, replaces the source by the home address of a mobile node
-- (RFC 6275, section 6.3). Any other option changes nothing.
abbrev pub home_address_or : List ℕ → List ℕ → List ℕ
home_address_or source option = if is_ipv6_option 0xC9 16 option then slice_range option 2 18 else source

-- The source after the options of an extension header. If there are several home addresses, the last one counts. RFC 6275, section 6.3,
-- allows only one.
abbrev pub home_address_after : List ℕ → List ℕ → List ℕ
home_address_after source header = fold home_address_or source (options_of ipv6_option (drop 2 header))

-- ---- the jumbo payload length

-- the jumbo payload length that hop-by-hop options contain: the data of their first option 0xC2 with 4 bytes of data (RFC 2675, section 2)
abbrev pub jumbo_payload_len : List ℕ → Option ℕ
jumbo_payload_len header = option_map (λ option. be_number option 2 4) (ipv6_option_of 0xC2 4 header)
