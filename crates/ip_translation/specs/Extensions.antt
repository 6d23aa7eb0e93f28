-- ICMP errors with an extension (RFC 4884), as RFC 7915, sections 4.2 and 5.2, translates them.
--
-- An error consists of these parts:
--
--   bytes 0 to 7   type, code, checksum, and a word that contains the length attribute
--   quoted packet  the first bytes of the packet, with zeros after them; the length attribute counts both
--   extension      the rest of the message
--
-- The length attribute counts units of 4 bytes in ICMP, and of 8 bytes in ICMPv6 (RFC 4884, section 4).
use Rattle.std.specs.Prelude.{ℕ, ◌+◌, ◌-◌, ◌*◌, ◌/◌, ◌==◌, Bool, ◌&&◌, ◌||◌, not, max, nat_lt, if◌then◌else◌, List, ◌++◌, drop, length, replicate, take}
use Rattle.ip_translation.specs.QuotedPackets.{joined, max_error_len}

-- the greatest length that a length attribute can state, in bytes: 255 units of ICMPv6 (RFC 4884, section 4)
abbrev pub greatest_stated_len : ℕ
greatest_stated_len = 255 * 8

-- ---- reading

-- The error states a wrong length of its quoted packet, in bytes: below 128 bytes (RFC 4884, section 3), or above the rest of the message.
-- The length 0 means that there is no extension.
abbrev pub is_wrong_len : ℕ → List ℕ → Bool
is_wrong_len len message = not (len == 0) && (nat_lt len 128 || nat_lt (length message) (8 + len))

-- the place after the quoted packet, if the error states this length of the quoted packet in bytes
abbrev pub end_of_quote : ℕ → List ℕ → ℕ
end_of_quote len message = if len == 0 then length message else 8 + len

-- the error without its extension
abbrev pub without_extension : ℕ → List ℕ → List ℕ
without_extension len message = take (end_of_quote len message) message

-- the extension, which is empty if there is none
abbrev pub extension_of : ℕ → List ℕ → List ℕ
extension_of len message = drop (end_of_quote len message) message

-- ---- writing

-- this length with zeros after it: a multiple of the unit, and at least 128 (RFC 4884, section 3)
abbrev pub padded_len : ℕ → ℕ → ℕ
padded_len unit len = max 128 ((len + (unit - 1)) / unit * unit)

-- An error with an extension, and with 0 instead of its checksum: type and code, the word that contains the length attribute, the quoted
-- packet with zeros up to the length `len`, and the extension. An extension that is too long is cut (RFC 7915, section 4.2).
abbrev pub extended : ℕ × ℕ → List ℕ → ℕ → List ℕ → List ℕ → List ℕ
extended new_kind word len quote extension =
    joined new_kind word ((quote ++ replicate (len - length quote) 0) ++ take (max_error_len - (8 + len)) extension)
