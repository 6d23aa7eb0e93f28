-- What the calls between IPv4 and IPv6 return and write.
use Rattle.std.proofs.Common.{◌≡◌, ℕ, List, ◌++◌, drop, Option, Some, None, refl, sym, subst}
use Rattle.std.specs.Option.{option_map}
use Rattle.ip_translation.specs.declared.packet_translation_error.PacketTranslationError.{PacketTranslationError}
use Rattle.etherparse_transport_c.specs.Numbers as numbers
use Rattle.etherparse_transport_c.specs.Siit.{IsAnswer, of_siit}
use Rattle.etherparse_transport_c.specs.declared.answer.Answer.{Answer}
use Rattle.etherparse_transport_c.specs.declared.error.EtherparseError.{EtherparseError}

-- the answer for a translated packet
pub translated_answer : (refusal : Option PacketTranslationError) (translated : List ℕ) (len : ℕ) (before : EtherparseError)
    (answer : Answer) (written_before written : ℕ) (buffer_before buffer : List ℕ) → refusal ≡ None → answer.status ≡ numbers.status_ok
    → answer.error ≡ before → written ≡ len → buffer ≡ translated ++ drop written buffer_before
    → IsAnswer (option_map of_siit refusal) translated len before answer written_before written buffer_before buffer
translated_answer refusal translated len before answer written_before written buffer_before buffer none status error is bytes =
    subst (λ refusal. IsAnswer (option_map of_siit refusal) translated len before answer written_before written buffer_before buffer)
    (sym none)
    (record {
      status = status;
      error = error;
      len_is = is;
      bytes = subst (λ n. buffer ≡ translated ++ drop n buffer_before) is bytes;
    })

-- the answer for a refused packet
pub refused_answer : (refusal : Option PacketTranslationError) (why : PacketTranslationError) (translated : List ℕ) (len : ℕ)
    (before : EtherparseError) (answer : Answer) (written : ℕ) (buffer_before buffer : List ℕ) → refusal ≡ Some why
    → answer.status ≡ (of_siit why).status
    → answer.error ≡ of_siit why → buffer ≡ buffer_before
    → IsAnswer (option_map of_siit refusal) translated len before answer written written buffer_before buffer
refused_answer refusal why translated len before answer written buffer_before buffer refused status error bytes =
    subst (λ refusal. IsAnswer (option_map of_siit refusal) translated len before answer written written buffer_before buffer) (sym refused)
    (record { status = status; error = error; len_is = refl; bytes = bytes })
