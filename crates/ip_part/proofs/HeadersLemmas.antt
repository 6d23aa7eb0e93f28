-- Laws of the chain of extension headers.
use Rattle.std.proofs.Common.{◌≡◌, ℕ, zero, suc, ◌+◌, ◌<◌, ◌≤◌, true, false, List, length, drop, length-drop, Some, None, Ok, Err, refl, sym, ◌∙◌, ap, subst, arith}
use Rattle.ip_part.specs.Ip.{extension_header, extension_refusal, headers_after, headers_to_transport, is_extended, unless_refused}
use Rattle.ip_part.specs.Headers.{Headers}
use Rattle.ip_part.specs.declared.ip_error.IpError.{IpError}

-- the headers after another extension header is read
extended : (more : ℕ) (headers : Headers) (bytes : List ℕ) → is_extended headers ≡ true
    → headers_to_transport (suc more) headers bytes
    ≡ unless_refused (extension_refusal headers (drop headers.len bytes))
    (headers_to_transport more (headers_after headers (extension_header headers (drop headers.len bytes))) bytes)
unfolding headers_to_transport
extended more headers bytes is = rw is refl

-- without another extension header, the headers are complete
pub ended : (more : ℕ) (headers : Headers) (bytes : List ℕ) → is_extended headers ≡ false
    → headers_to_transport (suc more) headers bytes ≡ Ok headers
unfolding headers_to_transport
ended more headers bytes is = rw is refl

-- reading from these headers gives the same result as reading from the first headers; each byte left is enough for another header
pub record IsReached (first headers : Headers) (bytes : List ℕ) : Type 0 where
  pub more : ℕ
  pub within : headers.len ≤ length bytes
  pub room : length bytes < headers.len + more
  pub same : headers_to_transport (suc (length bytes)) first bytes ≡ headers_to_transport more headers bytes

pub reached_first : (first : Headers) (bytes : List ℕ) → first.len ≤ length bytes → IsReached first first bytes
reached_first first bytes within = record { more = suc (length bytes); within = within; room = omega arith; same = refl }

reached_next_in : (more : ℕ) (first headers : Headers) (bytes header : List ℕ)
    → headers.len ≤ length bytes → length bytes < headers.len + more
    → headers_to_transport (suc (length bytes)) first bytes ≡ headers_to_transport more headers bytes
    → is_extended headers ≡ true → extension_refusal headers (drop headers.len bytes) ≡ None
    → header ≡ extension_header headers (drop headers.len bytes)
    → 8 ≤ length header → length header ≤ length (drop headers.len bytes)
    → IsReached first (headers_after headers header) bytes
reached_next_in zero first headers bytes header within room same is none kept shortest there = absurd (omega (arith, within, room))
reached_next_in (suc more) first headers bytes header within room same is none kept shortest there =
    record {
      more = more;
      within = omega (arith, within, there, length-drop headers.len bytes);
      room = omega (arith, room, shortest);
      same = same ∙ extended more headers bytes is
          ∙ ap (λ refusal. unless_refused refusal
          (headers_to_transport more (headers_after headers (extension_header headers (drop headers.len bytes))) bytes)) none
          ∙ ap (λ header. headers_to_transport more (headers_after headers header) bytes) (sym kept);
    }

pub reached_next : (first headers : Headers) (bytes rest header : List ℕ) → rest ≡ drop headers.len bytes → IsReached first headers bytes
    → is_extended headers ≡ true → extension_refusal headers rest ≡ None → header ≡ extension_header headers rest
    → 8 ≤ length header → length header ≤ length rest
    → IsReached first (headers_after headers header) bytes
reached_next first headers bytes rest header left reached is none kept shortest there =
    let P : List ℕ → Type 0 = λ rest. extension_refusal headers rest ≡ None → header ≡ extension_header headers rest
    → length header ≤ length rest → IsReached first (headers_after headers header) bytes in
    subst P (sym left)
    (λ none kept there. reached_next_in reached.more first headers bytes header reached.within reached.room reached.same is none kept
    shortest there)
    none kept there

refused_in : (more : ℕ) (first headers : Headers) (bytes : List ℕ) (error : IpError)
    → headers.len ≤ length bytes → length bytes < headers.len + more
    → headers_to_transport (suc (length bytes)) first bytes ≡ headers_to_transport more headers bytes
    → is_extended headers ≡ true → extension_refusal headers (drop headers.len bytes) ≡ Some error
    → headers_to_transport (suc (length bytes)) first bytes ≡ Err error
refused_in zero first headers bytes error within room same is refuses = absurd (omega (arith, within, room))
refused_in (suc more) first headers bytes error within room same is refuses =
    same ∙ extended more headers bytes is
    ∙ ap (λ refusal. unless_refused refusal
    (headers_to_transport more (headers_after headers (extension_header headers (drop headers.len bytes))) bytes)) refuses

pub refused_at : (first headers : Headers) (bytes rest : List ℕ) (error : IpError) → rest ≡ drop headers.len bytes
    → IsReached first headers bytes → is_extended headers ≡ true → extension_refusal headers rest ≡ Some error
    → headers_to_transport (suc (length bytes)) first bytes ≡ Err error
refused_at first headers bytes rest error left reached is refuses =
    refused_in reached.more first headers bytes error reached.within reached.room reached.same is
    (ap (extension_refusal headers) (sym left) ∙ refuses)

ended_in : (more : ℕ) (first headers : Headers) (bytes : List ℕ)
    → headers.len ≤ length bytes → length bytes < headers.len + more
    → headers_to_transport (suc (length bytes)) first bytes ≡ headers_to_transport more headers bytes
    → is_extended headers ≡ false
    → headers_to_transport (suc (length bytes)) first bytes ≡ Ok headers
ended_in zero first headers bytes within room same is = absurd (omega (arith, within, room))
ended_in (suc more) first headers bytes within room same is = same ∙ ended more headers bytes is

pub ended_at : (first headers : Headers) (bytes : List ℕ) → IsReached first headers bytes
    → is_extended headers ≡ false
    → headers_to_transport (suc (length bytes)) first bytes ≡ Ok headers
ended_at first headers bytes reached = ended_in reached.more first headers bytes reached.within reached.room reached.same
