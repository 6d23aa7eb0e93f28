-- The bytes of an ICMP error.
use Rattle.std.proofs.Common.{◌≡◌, ◌≢◌, ◌<◌, ◌-◌, ◌==◌, if◌then◌else◌, ℕ, zero, suc, Bool, true, false, ◌&&◌, nat_le, List, length, drop, take, slice_index, length-drop, sym, ap, ◌∙◌, arith, true≢false}
use Rattle.std.specs.Prelude.{is_none}
use Rattle.std.proofs.lemmas.Bool.Decides.{nat_tests}
use Rattle.std.proofs.lemmas.List.{take_all}
use Rattle.ip_translation.specs.EchoMessages.{type_over_ipv6}
use Rattle.ip_translation.specs.PacketsToIpv6.{is_icmp_error}

-- a slice to the end
pub rest_from : (n : ℕ) (bytes : List ℕ) → take (length bytes - n) (drop n bytes) ≡ drop n bytes
rest_from n bytes = take_all (length bytes - n) (drop n bytes) (omega (arith, length-drop n bytes))

and_right : (a b : Bool) → (a && b) ≡ true → b ≡ true
and_right true b both = both
and_right false b both = absurd (true≢false (sym both))

no_reply : (type : ℕ) → is_none (type_over_ipv6 type) ≡ true → 0 < type
no_reply zero none = absurd (true≢false (sym none))
no_reply (suc n) none = omega arith

-- the type of an ICMP error is not 0, since an echo reply is no error
pub error_type : (protocol : ℕ) (message : List ℕ) → is_icmp_error protocol message ≡ true → 0 < slice_index message 0
error_type protocol message is_error =
    no_reply (slice_index message 0)
    (and_right (nat_le 8 (length message)) (is_none (type_over_ipv6 (slice_index message 0)))
    (and_right (protocol == 1) (nat_le 8 (length message) && is_none (type_over_ipv6 (slice_index message 0))) is_error))

-- a protocol that is neither ICMP nor UDP nor TCP; the version of ICMP has the number `icmp_number`
pub no_protocol : (icmp_number protocol : ℕ) (icmp udp tcp other : List ℕ) → protocol ≢ icmp_number → protocol ≢ 17 → protocol ≢ 6
    → (if protocol == icmp_number then icmp else if protocol == 17 then udp else if protocol == 6 then tcp else other) ≡ other
no_protocol icmp_number protocol icmp udp tcp other no_icmp no_udp no_tcp =
    let first : (protocol == icmp_number) ≡ false = grind (arith, nat_tests, no_icmp) in
    let second : (protocol == 17) ≡ false = grind (arith, nat_tests, no_udp) in
    let third : (protocol == 6) ≡ false = grind (arith, nat_tests, no_tcp) in
    ap (λ test. if test then icmp else if protocol == 17 then udp else if protocol == 6 then tcp else other) first
    ∙ ap (λ test. if test then udp else if protocol == 6 then tcp else other) second
    ∙ ap (λ test. if test then tcp else other) third
