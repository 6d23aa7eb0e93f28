-- An echo message that is translated and translated back is the same message.
use Rattle.std.proofs.Common.{◌≡◌, ◌≢◌, ◌⊎◌, inl, inr, ℕ, ◌+◌, ◌-◌, ◌*◌, ◌/◌, ◌%◌, ◌==◌, ◌<◌, ◌≤◌, Bool, true, false, if◌then◌else◌, List, [], ◌∷◌, ◌++◌, length, slice_index, Some, None, refl, sym, subst, ap, ap₂, ◌∙◌, length-append, true≢false, arith}
use Rattle.std.specs.Prelude.{is_none}
use Rattle.std.specs.Int.{to_be_bytes, w32}
use Rattle.std.specs.Option.{unwrap_or}
use Rattle.std.proofs.Math.Logic.{⊎_elim}
use Rattle.net_base.specs.Bytes.{IsBytes}
use Rattle.net_base.specs.PseudoHeader.{ipv6_pseudo_header}
use Rattle.word_sum.specs.Checksum.{all_ones, complement, folded, total, udp_checksum_of, zero_as_all_ones}
use Rattle.word_sum.specs.UpdatedChecksum.{updated_checksum_of}
use Rattle.word_sum.proofs.ChecksumLemmas.{folded-lt, folded-some}
use Rattle.word_sum.proofs.ChecksumChangeLemmas.{folded-remainder, udp_checksum_of-remainder}
use Rattle.ip_translation.specs.EchoMessages.{first_word, icmp_checksum, new_checksum, translated_echo, type_over_ipv4, type_over_ipv6}
use Rattle.ip_translation.proofs.PacketBackLemmas.{equal, unequal}

-- ---- numbers

-- a checksum that is not 0, updated there and back; on the way back a 0 is replaced
restored_over_ipv4 : (checksum removed added : ℕ) → checksum < 65536 → removed < 65536 → added < 65536 → checksum ≢ 0
    → zero_as_all_ones (updated_checksum_of (updated_checksum_of checksum removed added) added removed) ≡ checksum
restored_over_ipv4 checksum removed added small small_too small_three some =
    let sum : ℕ = complement checksum + complement removed + added in
    let between : ℕ = updated_checksum_of checksum removed added in
    let last : ℕ = complement between + complement added + removed in
    let alike : folded sum % 65535 ≡ sum % 65535 = folded-remainder sum in
    let fits : folded sum < 65536 = folded-lt sum in
    udp_checksum_of-remainder last ∙ omega arith

-- a checksum that is not all ones, updated there and back; on the way there a 0 is replaced
restored_over_ipv6 : (checksum removed added : ℕ) → checksum < 65536 → removed < 65536 → added < 65536 → checksum ≢ 65535 → 0 < removed
    → updated_checksum_of (zero_as_all_ones (updated_checksum_of checksum removed added)) added removed ≡ checksum
restored_over_ipv6 checksum removed added small small_too small_three other some =
    let sum : ℕ = complement checksum + complement removed + added in
    let between : ℕ = udp_checksum_of sum in
    let between_is : between ≡ 65535 - sum % 65535 = udp_checksum_of-remainder sum in
    let last : ℕ = complement between + complement added + removed in
    let positive : 0 < last = omega arith in
    let is : folded last ≡ 1 + (last - 1) % 65535 = folded-some last positive in
    omega arith

-- ---- messages

-- the length of the new pseudo header decides if a 0 is replaced
kept : (type : ℕ) (old new message : List ℕ) → (length new == 0) ≡ false
    → new_checksum type old new message ≡ updated_checksum_of (icmp_checksum message)
    (folded (first_word (slice_index message 0) (slice_index message 1) + total old))
    (folded (first_word type (slice_index message 1) + total new))
kept type old new message some = ap (λ test. if test
    then zero_as_all_ones (updated_checksum_of (icmp_checksum message)
    (folded (first_word (slice_index message 0) (slice_index message 1) + total old))
    (folded (first_word type (slice_index message 1) + total new)))
    else updated_checksum_of (icmp_checksum message)
    (folded (first_word (slice_index message 0) (slice_index message 1) + total old))
    (folded (first_word type (slice_index message 1) + total new))) some

-- an echo message over IPv4; `new` is the pseudo header over IPv6
pub echo_over_ipv4 : (message : List ℕ) (type : ℕ) (new : List ℕ) → IsBytes message → 4 ≤ length message → (length new == 0) ≡ false
    → icmp_checksum message ≢ 0
    → translated_echo (slice_index message 0) new [] (translated_echo type [] new message) ≡ message
echo_over_ipv4 (a ∷ (b ∷ (c ∷ (d ∷ rest)))) type new fits there pseudo some =
    let message : List ℕ = a ∷ (b ∷ (c ∷ (d ∷ rest))) in
    let checksum : ℕ = icmp_checksum message in
    let removed : ℕ = folded (first_word a b + total []) in
    let added : ℕ = folded (first_word type b + total new) in
    let between : ℕ = updated_checksum_of checksum removed added in
    let between_small : between < 65536 = omega (arith, folded-lt (complement checksum + complement removed + added)) in
    let translated : List ℕ = type ∷ (b ∷ (between / 256 % 256 ∷ (between % 256 ∷ rest))) in
    let stored : icmp_checksum translated ≡ between = omega (arith, between_small) in
    let c_small : c < 256 = fits 2 in
    let d_small : d < 256 = fits 3 in
    let checksum_is : checksum ≡ c * 256 + d = omega arith in
    let again : zero_as_all_ones (updated_checksum_of (icmp_checksum translated) added removed) ≡ checksum =
    ap (λ checksum. zero_as_all_ones (updated_checksum_of checksum added removed)) stored
    ∙ restored_over_ipv4 checksum removed added (omega (arith, checksum_is, c_small, d_small)) (folded-lt (first_word a b + total []))
    (folded-lt (first_word type b + total new)) some in
    let high : checksum / 256 % 256 ≡ c = omega (arith, checksum_is, c_small, d_small) in
    let low : checksum % 256 ≡ d = omega (arith, checksum_is, c_small, d_small) in
    ap (λ between. translated_echo a new [] (type ∷ (b ∷ (between / 256 % 256 ∷ (between % 256 ∷ rest))))) (kept type [] new message pseudo)
    ∙ ap (λ checksum. a ∷ (b ∷ (checksum / 256 % 256 ∷ (checksum % 256 ∷ rest)))) again
    ∙ ap₂ (λ high low. a ∷ (b ∷ (high ∷ (low ∷ rest)))) high low
echo_over_ipv4 [] type new fits there pseudo some = absurd (omega (arith, there))
echo_over_ipv4 (a ∷ []) type new fits there pseudo some = absurd (omega (arith, there))
echo_over_ipv4 (a ∷ (b ∷ [])) type new fits there pseudo some = absurd (omega (arith, there))
echo_over_ipv4 (a ∷ (b ∷ (c ∷ []))) type new fits there pseudo some = absurd (omega (arith, there))

-- an ICMPv6 echo message; `old` is the pseudo header
pub echo_over_ipv6 : (message : List ℕ) (type : ℕ) (old : List ℕ) → IsBytes message → 4 ≤ length message → (length old == 0) ≡ false
    → 0 < slice_index message 0 → icmp_checksum message ≢ all_ones
    → translated_echo (slice_index message 0) [] old (translated_echo type old [] message) ≡ message
echo_over_ipv6 (a ∷ (b ∷ (c ∷ (d ∷ rest)))) type old fits there pseudo positive some =
    let message : List ℕ = a ∷ (b ∷ (c ∷ (d ∷ rest))) in
    let checksum : ℕ = icmp_checksum message in
    let removed : ℕ = folded (first_word a b + total old) in
    let added : ℕ = folded (first_word type b + total []) in
    let between : ℕ = zero_as_all_ones (updated_checksum_of checksum removed added) in
    let between_is : between ≡ 65535 - (complement checksum + complement removed + added) % 65535 =
    udp_checksum_of-remainder (complement checksum + complement removed + added) in
    let between_small : between < 65536 = omega (arith, between_is) in
    let translated : List ℕ = type ∷ (b ∷ (between / 256 % 256 ∷ (between % 256 ∷ rest))) in
    let stored : icmp_checksum translated ≡ between = omega (arith, between_small) in
    let c_small : c < 256 = fits 2 in
    let d_small : d < 256 = fits 3 in
    let checksum_is : checksum ≡ c * 256 + d = omega arith in
    let first_some : 0 < first_word a b + total old = omega (arith, positive) in
    let removed_some : 0 < removed = omega (arith, folded-some (first_word a b + total old) first_some) in
    let again : new_checksum a [] old translated ≡ checksum =
    kept a [] old translated pseudo
    ∙ ap (λ checksum. updated_checksum_of checksum added removed) stored
    ∙ restored_over_ipv6 checksum removed added (omega (arith, checksum_is, c_small, d_small)) (folded-lt (first_word a b + total old))
    (folded-lt (first_word type b + total [])) some removed_some in
    let high : checksum / 256 % 256 ≡ c = omega (arith, checksum_is, c_small, d_small) in
    let low : checksum % 256 ≡ d = omega (arith, checksum_is, c_small, d_small) in
    ap (λ checksum. a ∷ (b ∷ (checksum / 256 % 256 ∷ (checksum % 256 ∷ rest)))) again
    ∙ ap₂ (λ high low. a ∷ (b ∷ (high ∷ (low ∷ rest)))) high low
echo_over_ipv6 [] type old fits there pseudo positive some = absurd (omega (arith, there))
echo_over_ipv6 (a ∷ []) type old fits there pseudo positive some = absurd (omega (arith, there))
echo_over_ipv6 (a ∷ (b ∷ [])) type old fits there pseudo positive some = absurd (omega (arith, there))
echo_over_ipv6 (a ∷ (b ∷ (c ∷ []))) type old fits there pseudo positive some = absurd (omega (arith, there))

-- ---- types

some_type : (request reply : Bool) (first second : ℕ)
    → is_none (if request then Some first else if reply then Some second else None) ≡ false → (request ≡ true) ⊎ (reply ≡ true)
some_type true reply first second some = inl refl
some_type false true first second some = inr refl
some_type false false first second some = absurd (true≢false some)

pub type_over_ipv4_back : (type : ℕ) → is_none (type_over_ipv6 type) ≡ false
    → type_over_ipv4 (unwrap_or (type_over_ipv6 type) type) ≡ Some type
type_over_ipv4_back type some = ⊎_elim
    (λ (request : (type == 8) ≡ true). subst (λ type. type_over_ipv4 (unwrap_or (type_over_ipv6 type) type) ≡ Some type)
    (sym (equal type 8 request)) refl)
    (λ (reply : (type == 0) ≡ true). subst (λ type. type_over_ipv4 (unwrap_or (type_over_ipv6 type) type) ≡ Some type)
    (sym (equal type 0 reply)) refl)
    (some_type (type == 8) (type == 0) 128 129 some)

pub type_over_ipv6_back : (type : ℕ) → is_none (type_over_ipv4 type) ≡ false
    → (type_over_ipv6 (unwrap_or (type_over_ipv4 type) type) ≡ Some type) × (0 < type)
type_over_ipv6_back type some = ⊎_elim
    (λ (request : (type == 128) ≡ true). subst
    (λ type. (type_over_ipv6 (unwrap_or (type_over_ipv4 type) type) ≡ Some type) × (0 < type))
    (sym (equal type 128 request)) (refl, omega arith))
    (λ (reply : (type == 129) ≡ true). subst
    (λ type. (type_over_ipv6 (unwrap_or (type_over_ipv4 type) type) ≡ Some type) × (0 < type))
    (sym (equal type 129 reply)) (refl, omega arith))
    (some_type (type == 128) (type == 129) 8 0 some)

-- ---- the translated message

pub echo_type : (type : ℕ) (old new message : List ℕ) → 4 ≤ length message → slice_index (translated_echo type old new message) 0 ≡ type
echo_type type old new (a ∷ (b ∷ (c ∷ (d ∷ rest)))) there = refl
echo_type type old new [] there = absurd (omega (arith, there))
echo_type type old new (a ∷ []) there = absurd (omega (arith, there))
echo_type type old new (a ∷ (b ∷ [])) there = absurd (omega (arith, there))
echo_type type old new (a ∷ (b ∷ (c ∷ []))) there = absurd (omega (arith, there))

pub echo_len : (type : ℕ) (old new message : List ℕ) → 4 ≤ length message → length (translated_echo type old new message) ≡ length message
echo_len type old new (a ∷ (b ∷ (c ∷ (d ∷ rest)))) there = refl
echo_len type old new [] there = absurd (omega (arith, there))
echo_len type old new (a ∷ []) there = absurd (omega (arith, there))
echo_len type old new (a ∷ (b ∷ [])) there = absurd (omega (arith, there))
echo_len type old new (a ∷ (b ∷ (c ∷ []))) there = absurd (omega (arith, there))

-- a pseudo header has bytes
pub some_pseudo_header : (source destination : List ℕ) (protocol len : ℕ) → length source ≡ 16
    → (length (ipv6_pseudo_header source destination protocol len) == 0) ≡ false
some_pseudo_header source destination protocol len sixteen =
    unequal (length (ipv6_pseudo_header source destination protocol len)) 0
    (λ none. omega (
      arith,
      none,
      sixteen,
      length-append source (destination ++ (to_be_bytes w32 len ++ (0 ∷ 0 ∷ 0 ∷ protocol ∷ []))),
    ))
