-- Laws of the test whether a checksum is partial.
use Rattle.std.proofs.Common.{◌≡◌, ◌⊎◌, ℕ, Bool, true, false, List, None, inl, inr, refl, sym, ap, ◌∙◌}
use Rattle.std.specs.Int.{from_bool}
use Rattle.std.specs.Option.{option_map}
use Rattle.std.specs.Prelude.{◌↔◌, IsTrue}
use Rattle.transport_part.specs.Transports as transports
use Rattle.ip_part.specs.Ip.{Carries, headers_of}
use Rattle.ip_part.specs.declared.transport.TransportInIp.{TransportInIp}
use Rattle.etherparse_transport_c.specs.PacketVerdict.{of_transport, transport_refusal}
use Rattle.etherparse_transport_c.proofs.PacketVerdictLemmas.{refusal_by_headers}

-- the call in C reports true as 1, and false as 0
pub as_number : (holds : Bool) (Holds : Type 0) (told : ℕ) → told ≡ from_bool holds → (IsTrue holds ↔ Holds)
    → ((told ≡ 1) × Holds) ⊎ ((told ≡ 0) × (Holds → ⊥))
as_number true Holds told is whether = inl (is, whether.0 refl)
as_number false Holds told is whether = inr (is, λ held. let clash : false ≡ true = whether.1 held in cc)

-- an accepted transport is not refused in the packet that contains it
pub accepted_in : (packet : List ℕ) (carried : TransportInIp) → Carries packet carried → carried.is_length_missing ≡ false
    → transports.refusal carried ≡ None → transport_refusal false packet (headers_of false packet) ≡ None
accepted_in packet carried carries stated accepted =
    sym (ap (λ missing. transport_refusal missing packet (headers_of missing packet)) stated)
    ∙ refusal_by_headers packet carried carries
    ∙ ap (option_map (of_transport carries.headers.len)) accepted
