-- Laws of the extension headers that are skipped.
use Rattle.std.proofs.Common.{◌≡◌, ℕ, zero, suc, ◌+◌, ◌<◌, ◌≤◌, true, false, List, length, drop, length-drop, Some, None, Ok, Err, refl, sym, ◌∙◌, ap, subst, arith}
use Rattle.ip_part.specs.Ip.{unless_refused}
use Rattle.ip_translation.specs.SkippedHeaders.{is_skipped, skipped_after, skipped_from, skipped_header, skipped_refusal}
use Rattle.ip_translation.specs.declared.packet_translation_error.PacketTranslationError.{PacketTranslationError}
use Rattle.ip_translation.specs.declared.skipped_headers.SkippedHeaders.{SkippedHeaders}

-- the headers after another header is skipped
extended : (more : ℕ) (skipped : SkippedHeaders) (payload : List ℕ) → is_skipped skipped.number ≡ true
    → skipped_from (suc more) skipped payload
    ≡ unless_refused (skipped_refusal skipped (drop skipped.len payload))
    (skipped_from more (skipped_after skipped (skipped_header (drop skipped.len payload))) payload)
unfolding skipped_from
extended more skipped payload is = rw is refl

-- without another header, the headers are complete
ended : (more : ℕ) (skipped : SkippedHeaders) (payload : List ℕ) → is_skipped skipped.number ≡ false
    → skipped_from (suc more) skipped payload ≡ Ok skipped
unfolding skipped_from
ended more skipped payload is = rw is refl

-- skipping from these headers gives the same result as skipping from the first headers; each byte left is enough for another header
pub record IsReached (first skipped : SkippedHeaders) (payload : List ℕ) : Type 0 where
  pub more : ℕ
  pub within : skipped.len ≤ length payload
  pub room : length payload < skipped.len + more
  pub same : skipped_from (suc (length payload)) first payload ≡ skipped_from more skipped payload

pub reached_first : (first : SkippedHeaders) (payload : List ℕ) → first.len ≤ length payload → IsReached first first payload
reached_first first payload within = record { more = suc (length payload); within = within; room = omega arith; same = refl }

reached_next_in : (more : ℕ) (first skipped : SkippedHeaders) (payload header : List ℕ)
    → skipped.len ≤ length payload → length payload < skipped.len + more
    → skipped_from (suc (length payload)) first payload ≡ skipped_from more skipped payload
    → is_skipped skipped.number ≡ true → skipped_refusal skipped (drop skipped.len payload) ≡ None
    → header ≡ skipped_header (drop skipped.len payload)
    → 8 ≤ length header → length header ≤ length (drop skipped.len payload)
    → IsReached first (skipped_after skipped header) payload
reached_next_in zero first skipped payload header within room same is none kept shortest there = absurd (omega (arith, within, room))
reached_next_in (suc more) first skipped payload header within room same is none kept shortest there =
    record {
      more = more;
      within = omega (arith, within, there, length-drop skipped.len payload);
      room = omega (arith, room, shortest);
      same = same ∙ extended more skipped payload is
          ∙ ap (λ refusal. unless_refused refusal (skipped_from more (skipped_after skipped (skipped_header (drop skipped.len payload)))
          payload)) none
          ∙ ap (λ header. skipped_from more (skipped_after skipped header) payload) (sym kept);
    }

pub reached_next : (first skipped : SkippedHeaders) (payload rest header : List ℕ) → rest ≡ drop skipped.len payload
    → IsReached first skipped payload
    → is_skipped skipped.number ≡ true → skipped_refusal skipped rest ≡ None → header ≡ skipped_header rest
    → 8 ≤ length header → length header ≤ length rest
    → IsReached first (skipped_after skipped header) payload
reached_next first skipped payload rest header left reached is none kept shortest there =
    let P : List ℕ → Type 0 = λ rest. skipped_refusal skipped rest ≡ None → header ≡ skipped_header rest
    → length header ≤ length rest → IsReached first (skipped_after skipped header) payload in
    subst P (sym left)
    (λ none kept there. reached_next_in reached.more first skipped payload header reached.within reached.room reached.same is none kept
    shortest there)
    none kept there

refused_in : (more : ℕ) (first skipped : SkippedHeaders) (payload : List ℕ) (error : PacketTranslationError)
    → skipped.len ≤ length payload → length payload < skipped.len + more
    → skipped_from (suc (length payload)) first payload ≡ skipped_from more skipped payload
    → is_skipped skipped.number ≡ true → skipped_refusal skipped (drop skipped.len payload) ≡ Some error
    → skipped_from (suc (length payload)) first payload ≡ Err error
refused_in zero first skipped payload error within room same is refuses = absurd (omega (arith, within, room))
refused_in (suc more) first skipped payload error within room same is refuses =
    same ∙ extended more skipped payload is
    ∙ ap (λ refusal. unless_refused refusal (skipped_from more (skipped_after skipped (skipped_header (drop skipped.len payload))) payload))
    refuses

pub refused_at : (first skipped : SkippedHeaders) (payload rest : List ℕ) (error : PacketTranslationError) → rest ≡ drop skipped.len payload
    → IsReached first skipped payload → is_skipped skipped.number ≡ true → skipped_refusal skipped rest ≡ Some error
    → skipped_from (suc (length payload)) first payload ≡ Err error
refused_at first skipped payload rest error left reached is refuses =
    refused_in reached.more first skipped payload error reached.within reached.room reached.same is
    (ap (skipped_refusal skipped) (sym left) ∙ refuses)

ended_in : (more : ℕ) (first skipped : SkippedHeaders) (payload : List ℕ)
    → skipped.len ≤ length payload → length payload < skipped.len + more
    → skipped_from (suc (length payload)) first payload ≡ skipped_from more skipped payload
    → is_skipped skipped.number ≡ false
    → skipped_from (suc (length payload)) first payload ≡ Ok skipped
ended_in zero first skipped payload within room same is = absurd (omega (arith, within, room))
ended_in (suc more) first skipped payload within room same is = same ∙ ended more skipped payload is

pub ended_at : (first skipped : SkippedHeaders) (payload : List ℕ) → IsReached first skipped payload
    → is_skipped skipped.number ≡ false
    → skipped_from (suc (length payload)) first payload ≡ Ok skipped
ended_at first skipped payload reached = ended_in reached.more first skipped payload reached.within reached.room reached.same
