-- A quoted packet is found again by its place and its length.
use Rattle.std.proofs.Common.{◌≡◌, ℕ, zero, suc, Bool, true, false, List, [], ◌∷◌, length, take, drop, Option, Some, None, refl, sym, ap, ◌∙◌, subst, arith}
use Rattle.std.proofs.lemmas.List.{take_all}
use Rattle.std.specs.Prelude.{⊤, ◌*◌, ◌==◌, ◌||◌, if◌then◌else◌, nat_lt, slice_index}
use Rattle.icmp_part.specs.QuotedPackets.{quoted_by_icmpv4, quoted_by_icmpv6}

-- the quoted packet, if there is one, is the front of these bytes
abbrev IsFront : List ℕ → Option (List ℕ) → Type 0
IsFront bytes None = ⊤
IsFront bytes (Some packet) = take (length packet) bytes ≡ packet

take_again : (len : ℕ) (bytes : List ℕ) → take (length (take len bytes)) bytes ≡ take len bytes
take_again zero bytes = refl
take_again (suc len) [] = refl
take_again (suc len) (byte ∷ bytes) = ap (λ rest. byte ∷ rest) (take_again len bytes)

whole : (bytes : List ℕ) → take (length bytes) bytes ≡ bytes
whole bytes = take_all (length bytes) bytes (omega arith)

-- The quoted packet is the front of the bytes, whether or not the message has a length field. A message that is not an error quotes no
-- packet.
front : (len : ℕ) (bytes : List ℕ) (has_field is_error is_unused : Bool)
    → IsFront bytes (if has_field then Some (if is_unused then bytes else take len bytes) else (if is_error then Some bytes else None))
front len bytes true is_error true = whole bytes
front len bytes true is_error false = take_again len bytes
front len bytes false true is_unused = whole bytes
front len bytes false false is_unused = tt

again : (bytes packet : List ℕ) (quoted : Option (List ℕ)) → IsFront bytes quoted → quoted ≡ Some packet
    → quoted ≡ Some (take (length packet) bytes)
again bytes packet quoted is_front is = is ∙ ap Some (sym (subst (IsFront bytes) is is_front))

pub found_in_icmpv4 : (message packet : List ℕ) → quoted_by_icmpv4 message ≡ Some packet
    → quoted_by_icmpv4 message ≡ Some (take (length packet) (drop 8 message))
found_in_icmpv4 message packet =
    let type = slice_index message 0 in
    let len = slice_index message 5 * 4 in
    again (drop 8 message) packet (quoted_by_icmpv4 message)
    (front len (drop 8 message) (type == 3 || (type == 11 || type == 12)) (type == 4 || type == 5) (nat_lt len 128))

pub found_in_icmpv6 : (message packet : List ℕ) → quoted_by_icmpv6 message ≡ Some packet
    → quoted_by_icmpv6 message ≡ Some (take (length packet) (drop 8 message))
found_in_icmpv6 message packet =
    let type = slice_index message 0 in
    let len = slice_index message 4 * 8 in
    again (drop 8 message) packet (quoted_by_icmpv6 message)
    (front len (drop 8 message) (type == 1 || type == 3) (nat_lt type 128) (nat_lt len 128))
