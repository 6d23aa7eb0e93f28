-- The packet that an ICMP error quotes, as far as the error contains it.
use Rattle.std.specs.Prelude.{ℕ, ◌*◌, ◌==◌, ◌||◌, Bool, if◌then◌else◌, nat_lt, List, drop, slice_index, take, None, Option, Some}

-- the least number of bytes that an extended error quotes (RFC 4884, section 3)
abbrev pub min_extended_len : ℕ
min_extended_len = 128

-- The first `len` bytes, where `len` is the number of bytes that a length field counts. If `len` is below the least length, the error is
-- not extended, and the result is all bytes. A sender that does not use the length field writes 0 (RFC 4884, section 5.4).
abbrev pub counted : ℕ → List ℕ → List ℕ
counted len bytes = if nat_lt len min_extended_len then bytes else take len bytes

-- the bytes after a header of eight bytes
abbrev pub after_header : List ℕ → List ℕ
after_header message = drop 8 message

-- The packet that an ICMPv4 error quotes. In a destination unreachable (3), time exceeded (11) or parameter problem (12) message, byte 5 is
-- a length in units of four bytes (RFC 4884, sections 4.1 to 4.3). A source quench (4) or redirect (5) message has no length field (RFC
-- 792). `None` if the message is not an error.
abbrev pub quoted_by_icmpv4 : List ℕ → Option (List ℕ)
quoted_by_icmpv4 message =
    let type = slice_index message 0 in
    if type == 3 || (type == 11 || type == 12) then Some (counted (slice_index message 5 * 4) (after_header message))
    else (if type == 4 || type == 5 then Some (after_header message) else None)

-- messages of this type are errors (RFC 4443, section 2.1)
abbrev pub is_icmpv6_error : ℕ → Bool
is_icmpv6_error type = nat_lt type 128

-- The packet that an ICMPv6 error quotes. In a destination unreachable (1) or time exceeded (3) message, byte 4 is a length in units of
-- eight bytes (RFC 4884, sections 4.4 and 4.5). Any other error has no length field (RFC 4443, section 2.4). `None` if the message is not
-- an error.
abbrev pub quoted_by_icmpv6 : List ℕ → Option (List ℕ)
quoted_by_icmpv6 message =
    let type = slice_index message 0 in
    if type == 1 || type == 3 then Some (counted (slice_index message 4 * 8) (after_header message))
    else (if is_icmpv6_error type then Some (after_header message) else None)
