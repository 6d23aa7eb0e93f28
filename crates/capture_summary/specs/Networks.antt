-- Networks: the addresses that begin with the same bits.
use Rattle.std.specs.Prelude.{◌≡◌, ◌⊎◌, ◌<◌, ◌-◌, ◌/◌, ◌%◌, ◌^◌, ◌==◌, ℕ, Bool, true, codes, if◌then◌else◌, List, length, nat_lt, Result, Ok, Err}
use Rattle.std.specs.Int.{from_be_bytes, w32, w128}
use Rattle.std.specs.List.{after_first, before_first, position_or_len}
use Rattle.std.specs.Net.Addr.{IsV4And, IsV6And, ipv4_bits, ipv6_bits}
use Rattle.std.specs.Net.Grammar.{IsIpText}
use Rattle.std.specs.Str.Parse.{IsNumeral, digits_value, without_leading_plus}
use Rattle.std.specs.declared.net.ip_addr.IpAddr.{IpAddr}
use Rattle.std.specs.declared.net.ip_addr.IpAddr.TheVariants.{V4, V6}
use Rattle.capture_summary.specs.declared.network.Network.{Network}
use Rattle.capture_summary.specs.declared.network.NetworkError.{NetworkError}
use Rattle.capture_summary.specs.declared.network.NetworkError.TheVariants as errors

-- ---- the addresses of a network

-- whether two numbers differ only in their last `host_bits` bits
abbrev pub have_same_start : ℕ → ℕ → ℕ → Bool
have_same_start host_bits first second = first / 2 ^ host_bits == second / 2 ^ host_bits

-- the IPv4 address with these octets is in the network
abbrev pub IsIpv4In : List ℕ → Network → Type 0
IsIpv4In octets network = IsV4And network.address (λ ip. have_same_start network.host_bits (ipv4_bits ip) (from_be_bytes w32 octets) ≡ true)

-- the IPv6 address with these octets is in the network
abbrev pub IsIpv6In : List ℕ → Network → Type 0
IsIpv6In octets network = IsV6And network.address
    (λ ip. have_same_start network.host_bits (ipv6_bits ip) (from_be_bytes w128 octets) ≡ true)

-- ---- a network by its prefix

-- the number of bits of an address
abbrev pub bits_of : IpAddr → ℕ
bits_of (V4 ip) = 32
bits_of (V6 ip) = 128

-- the address as a number
abbrev pub number_of : IpAddr → ℕ
number_of (V4 ip) = ipv4_bits ip
number_of (V6 ip) = ipv6_bits ip

-- the network of one address
abbrev pub single_address : IpAddr → Network
single_address address = record { address = address; host_bits = 0 }

-- The network of an address with `host_bits` bits after its prefix. It is an error if one of these bits of the address is 1.
abbrev pub network_after : IpAddr → ℕ → Result Network NetworkError
network_after address host_bits =
    if number_of address % 2 ^ host_bits == 0 then Ok (record { address = address; host_bits = host_bits }) else Err errors.HostBits

-- the network of an address and the length of its prefix
abbrev pub network_of : IpAddr → ℕ → Result Network NetworkError
network_of address prefix_len =
    if nat_lt (bits_of address) prefix_len then Err errors.PrefixLength else network_after address (bits_of address - prefix_len)

-- ---- the text of a network

-- the text is not an address
abbrev pub IsNoAddress : List ℕ → Type 0
IsNoAddress text = (address : IpAddr) → ¬ (IsIpText text address)

-- the text of an error
abbrev pub network_error_text : NetworkError → List ℕ
network_error_text errors.Address = codes "not an IPv4 or IPv6 address"
network_error_text errors.PrefixLength = codes "the prefix length is not a number from 0 to 32 for IPv4, or to 128 for IPv6"
network_error_text errors.HostBits = codes "the address has bits other than 0 after its prefix"

-- the text is a number of 32 bits
abbrev pub IsNumberText : List ℕ → Type 0
IsNumberText text = IsNumeral 10 (without_leading_plus text) × (digits_value 10 (without_leading_plus text) < 2 ^ 32)

-- the network of an address and of the text of a prefix length, or the error
pub record ReadsLength (address : IpAddr) (text : List ℕ) (result : Result Network NetworkError) : Type 0 where
  pub number : IsNumberText text → result ≡ network_of address (digits_value 10 (without_leading_plus text))
  pub other : ¬ (IsNumberText text) → result ≡ Err errors.PrefixLength

-- the network that is read from the texts before and after its slash, or the error
abbrev pub ReadsPrefixed : List ℕ → List ℕ → Result Network NetworkError → Type 0
ReadsPrefixed text prefix_len result =
    (IsNoAddress text × (result ≡ Err errors.Address))
    ⊎ ((address : IpAddr) × IsIpText text address × ReadsLength address prefix_len result)

-- the network of one address that is read from a text without a slash, or the error
abbrev pub ReadsSingle : List ℕ → Result Network NetworkError → Type 0
ReadsSingle text result =
    (IsNoAddress text × (result ≡ Err errors.Address))
    ⊎ ((address : IpAddr) × IsIpText text address × (result ≡ Ok (single_address address)))

-- whether a byte is a slash, 47
abbrev pub is_slash : ℕ → Bool
is_slash byte = byte == 47

-- The network that is read from a text, or the error. The text is an address, or an address, a slash and the length of the prefix. The
-- first slash ends the address.
pub record ReadsNetwork (text : List ℕ) (result : Result Network NetworkError) : Type 0 where
  pub single : position_or_len is_slash text ≡ length text → ReadsSingle text result
  pub prefixed : position_or_len is_slash text < length text → ReadsPrefixed (before_first is_slash text) (after_first is_slash text) result
