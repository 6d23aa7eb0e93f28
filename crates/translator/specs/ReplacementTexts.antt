-- Replacements as texts: two networks or two ports, separated by `=`.
use Rattle.std.specs.Prelude.{◌≡◌, ◌≢◌, ◌⊎◌, ◌<◌, ◌≤◌, ◌-◌, ◌^◌, ◌==◌, ℕ, Bool, true, false, if◌then◌else◌, bit_and, nat_lt, not, List, length, Result, Ok, Err}
use Rattle.std.specs.List.{after_first, before_first, position_or_len}
use Rattle.std.specs.Net.Addr.{ipv4_bits, ipv6_bits}
use Rattle.std.specs.Net.Grammar.{IsIpText}
use Rattle.std.specs.Str.Parse.{IsNumeral, digits_value, without_leading_plus}
use Rattle.std.specs.declared.net.ip_addr.IpAddr.{IpAddr}
use Rattle.std.specs.declared.net.ip_addr.IpAddr.TheVariants.{V4, V6}
use Rattle.translator.specs.Replacements.{HasHostBits, host_mask}
use Rattle.translator.specs.declared.replacement_error.ReplacementError.{ReplacementError}
use Rattle.translator.specs.declared.replacement_error.ReplacementError.TheVariants as errors
use Rattle.translator.specs.declared.replacement_text.NetworkText.{NetworkText}
use Rattle.translator.specs.declared.replacements.NetworkReplacement.{NetworkReplacement}
use Rattle.translator.specs.declared.replacements.PortReplacement.{PortReplacement}

-- whether a byte is `=`, 61
abbrev pub is_equals : ℕ → Bool
is_equals byte = byte == 61

-- ---- ports

-- the text is a port: a decimal number of 16 bits, with or without a plus sign before it
abbrev pub IsPortText : List ℕ → ℕ → Type 0
IsPortText text port =
    IsNumeral 10 (without_leading_plus text) × (digits_value 10 (without_leading_plus text) ≡ port) × (port < 2 ^ 16)

-- the text is not a port
abbrev pub IsNoPort : List ℕ → Type 0
IsNoPort text = (port : ℕ) → ¬ (IsPortText text port)

-- the result of reading a port from this text
abbrev pub ReadsPort : List ℕ → Result ℕ ReplacementError → Type 0
ReadsPort text (Ok port) = IsPortText text port
ReadsPort text (Err error) = IsNoPort text × (error ≡ errors.Port)

-- the result of reading a replacement of a port from the texts of the old and the new port
abbrev pub ReadsPorts : List ℕ → List ℕ → Result PortReplacement ReplacementError → Type 0
ReadsPorts old new (Ok replacement) = IsPortText old replacement.old × IsPortText new replacement.new
ReadsPorts old new (Err error) = (IsNoPort old ⊎ IsNoPort new) × (error ≡ errors.Port)

-- the result of reading a replacement of a port from a text; the first `=` separates the two ports
pub record ReadsPortReplacement (text : List ℕ) (result : Result PortReplacement ReplacementError) : Type 0 where
  pub alone : position_or_len is_equals text ≡ length text → result ≡ Err errors.Form
  pub pair : position_or_len is_equals text < length text → ReadsPorts (before_first is_equals text) (after_first is_equals text) result

-- ---- networks

-- the number of bits of an address
abbrev pub bits_of : IpAddr → ℕ
bits_of (V4 ip) = 32
bits_of (V6 ip) = 128

-- the address as a number
abbrev pub number_of : IpAddr → ℕ
number_of (V4 ip) = ipv4_bits ip
number_of (V6 ip) = ipv6_bits ip

-- whether the address is an IPv6 address
abbrev pub is_ipv6 : IpAddr → Bool
is_ipv6 (V4 ip) = false
is_ipv6 (V6 ip) = true

-- the text is not an address
abbrev pub IsNoAddress : List ℕ → Type 0
IsNoAddress text = (address : IpAddr) → ¬ (IsIpText text address)

-- the text is a number of 32 bits, with or without a plus sign before it
abbrev pub IsNumberText : List ℕ → Type 0
IsNumberText text = IsNumeral 10 (without_leading_plus text) × (digits_value 10 (without_leading_plus text) < 2 ^ 32)

-- the network that begins at this address and has this number of host bits, or the error if a host bit of the address is 1
abbrev pub ReadsHostBits : IpAddr → ℕ → Result NetworkText ReplacementError → Type 0
ReadsHostBits address host_bits (Ok found) =
    HasHostBits (number_of address) host_bits found.network × (found.is_ipv6 ≡ is_ipv6 address) × (found.host_bits ≡ host_bits)
ReadsHostBits address host_bits (Err error) = (bit_and (number_of address) (host_mask host_bits) ≢ 0) × (error ≡ errors.HostBits)

-- the network that is read from this address and the text of a prefix length, or the error
pub record ReadsLength (address : IpAddr) (text : List ℕ) (result : Result NetworkText ReplacementError) : Type 0 where
  pub other : ¬ (IsNumberText text) → result ≡ Err errors.PrefixLength
  pub above : IsNumberText text → bits_of address < digits_value 10 (without_leading_plus text) → result ≡ Err errors.PrefixLength
  pub within : IsNumberText text → digits_value 10 (without_leading_plus text) ≤ bits_of address
      → ReadsHostBits address (bits_of address - digits_value 10 (without_leading_plus text)) result

-- the network that is read from the texts before and after its slash, or the error
abbrev pub ReadsPrefixed : List ℕ → List ℕ → Result NetworkText ReplacementError → Type 0
ReadsPrefixed text prefix_len result =
    (IsNoAddress text × (result ≡ Err errors.Address))
    ⊎ ((address : IpAddr) × IsIpText text address × ReadsLength address prefix_len result)

-- the network of one address that is read from a text without a slash, or the error
abbrev pub ReadsSingle : List ℕ → Result NetworkText ReplacementError → Type 0
ReadsSingle text result =
    (IsNoAddress text × (result ≡ Err errors.Address)) ⊎ ((address : IpAddr) × IsIpText text address × ReadsHostBits address 0 result)

-- whether a byte is a slash, 47
abbrev pub is_slash : ℕ → Bool
is_slash byte = byte == 47

-- the network that is read from a text, or the error; the text is an address, or an address and a prefix length after the first slash
pub record ReadsNetwork (text : List ℕ) (result : Result NetworkText ReplacementError) : Type 0 where
  pub single : position_or_len is_slash text ≡ length text → ReadsSingle text result
  pub prefixed : position_or_len is_slash text < length text → ReadsPrefixed (before_first is_slash text) (after_first is_slash text) result

-- whether two networks have the same IP version; each argument states whether a network is an IPv6 network
abbrev pub is_same_version : Bool → Bool → Bool
is_same_version true other = other
is_same_version false other = not other

-- The replacement of one network by another, and whether it is for IPv6. It is an error if their IP versions differ, or if the new prefix
-- is shorter.
abbrev pub replacement_of : NetworkText → NetworkText → Result (NetworkReplacement × Bool) ReplacementError
replacement_of old new =
    if is_same_version old.is_ipv6 new.is_ipv6
    then (if nat_lt old.host_bits new.host_bits then Err errors.ShorterPrefix
    else Ok (record { old = old.network; new = new.network }, old.is_ipv6))
    else Err errors.Versions

-- The result of reading a replacement from the texts of the old and the new network. If both texts are wrong, the error is about the old
-- one.
abbrev pub ReadsNetworks : List ℕ → List ℕ → Result (NetworkReplacement × Bool) ReplacementError → Type 0
ReadsNetworks old new result =
    ((error : ReplacementError) × ReadsNetwork old (Err error) × (result ≡ Err error))
    ⊎ ((first : NetworkText) × ReadsNetwork old (Ok first)
    × (((error : ReplacementError) × ReadsNetwork new (Err error) × (result ≡ Err error))
    ⊎ ((second : NetworkText) × ReadsNetwork new (Ok second) × (result ≡ replacement_of first second))))

-- the result of reading a replacement of a network from a text; the first `=` separates the two networks
pub record ReadsNetworkReplacement (text : List ℕ) (result : Result (NetworkReplacement × Bool) ReplacementError) : Type 0 where
  pub alone : position_or_len is_equals text ≡ length text → result ≡ Err errors.Form
  pub pair : position_or_len is_equals text < length text → ReadsNetworks (before_first is_equals text) (after_first is_equals text) result
