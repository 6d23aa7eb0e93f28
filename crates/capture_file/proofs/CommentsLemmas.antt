-- The comments of a packet, collected one after the other.
use Rattle.std.proofs.Common.{◌≡◌, ◌∙◌, ◌+◌, ◌-◌, ◌<◌, ◌≤◌, ℕ, zero, suc, Bool, true, false, cond, List, [], ◌∷◌, ◌++◌, Option, None, Some, ap, append-nil, append_assoc, arith, drop, length, length-append, length-drop, map, refl, subst, sym}
use Rattle.std.specs.Prelude.{◌^◌, filter, min}
use Rattle.ip_part.specs.Options.{options_of, options_within, with_first}
use Rattle.capture_file.specs.Texts.{comment_added, kept_comments, kept_text}
use Rattle.capture_file.specs.declared.packet_comments.PacketComments.{PacketComments}

-- ---- one more comment

-- four kept comments, and the number of the comments that follow them
abbrev four_kept : List ℕ → List ℕ → List ℕ → List ℕ → ℕ → PacketComments
four_kept a b c d more =
    record { texts = record { items = kept_text a ∷ kept_text b ∷ kept_text c ∷ kept_text d ∷ [] }; more = more }

-- one more comment that is only counted
one_counted : (so_far : List (List ℕ)) (comment : List ℕ) → 4 ≤ length so_far
    → min (min (length so_far - 4) (2 ^ 64 - 1) + 1) (2 ^ 64 - 1) ≡ min (length (so_far ++ comment ∷ []) - 4) (2 ^ 64 - 1)
one_counted so_far comment enough = omega (arith, enough, length-append so_far (comment ∷ []))

-- what is kept of comments and of another comment
added_kept : (comment : List ℕ) (so_far : List (List ℕ)) → comment_added comment (kept_comments so_far) ≡ kept_comments (so_far ++ comment ∷ [])
added_kept comment [] = refl
added_kept comment (a ∷ []) = refl
added_kept comment (a ∷ (b ∷ [])) = refl
added_kept comment (a ∷ (b ∷ (c ∷ []))) = refl
added_kept comment (a ∷ (b ∷ (c ∷ (d ∷ others)))) =
    ap (four_kept a b c d) (one_counted (a ∷ (b ∷ (c ∷ (d ∷ others)))) comment (omega arith))

-- ---- the options of a block

-- the options with another option at their front, and without an option
option_more : (front : List ℕ → Option (List ℕ)) (more : ℕ) (bytes option : List ℕ) → front bytes ≡ Some option
    → options_within front (suc more) bytes ≡ option ∷ options_within front more (drop (length option) bytes)
unfolding options_within
option_more front more bytes option is =
    ap (λ first. with_first first (λ option. options_within front more (drop (length option) bytes))) is

option_none : (front : List ℕ → Option (List ℕ)) (more : ℕ) (bytes : List ℕ) → front bytes ≡ None
    → options_within front (suc more) bytes ≡ []
unfolding options_within
option_none front more bytes is = ap (λ first. with_first first (λ option. options_within front more (drop (length option) bytes))) is

-- The comments are those among the options before `rest`. An option is a comment if it passes the test. Each byte of `rest` is enough for
-- another option.
pub record AreCollected (test : List ℕ → Bool) (value : List ℕ → List ℕ) (front : List ℕ → Option (List ℕ)) (options rest : List ℕ)
    (comments : PacketComments) : Type 0 where
  pub more : ℕ
  pub room : length rest < more
  pub so_far : List (List ℕ)
  pub are : comments ≡ kept_comments so_far
  pub same : map value (filter test (options_of front options)) ≡ so_far ++ map value (filter test (options_within front more rest))

pub none_collected : (test : List ℕ → Bool) (value : List ℕ → List ℕ) (front : List ℕ → Option (List ℕ)) (options : List ℕ)
    (comments : PacketComments) → comments ≡ kept_comments [] → AreCollected test value front options options comments
none_collected test value front options comments are =
    record { more = suc (length options); room = omega arith; so_far = []; are = are; same = refl }

module _ (test : List ℕ → Bool) (value : List ℕ → List ℕ) (front : List ℕ → Option (List ℕ)) (options rest option : List ℕ)
    (comments : PacketComments) where
  -- the option is a comment
  comment_in : (more : ℕ) (so_far : List (List ℕ)) (after : PacketComments) → length rest < more → comments ≡ kept_comments so_far
      → map value (filter test (options_of front options)) ≡ so_far ++ map value (filter test (options_within front more rest))
      → front rest ≡ Some option → test option ≡ true → 1 ≤ length option → length option ≤ length rest
      → after ≡ comment_added (value option) comments → AreCollected test value front options (drop (length option) rest) after
  comment_in zero so_far after room are same is passes shortest within added = absurd (omega (arith, room))
  comment_in (suc more) so_far after room are same is passes shortest within added =
      let others = filter test (options_within front more (drop (length option) rest)) in
      record {
        more = more;
        room = omega (arith, room, shortest, within, length-drop (length option) rest);
        so_far = so_far ++ value option ∷ [];
        are = added ∙ ap (comment_added (value option)) are ∙ added_kept (value option) so_far;
        same = same ∙ ap (λ all. so_far ++ map value (filter test all)) (option_more front more rest option is)
            ∙ ap (λ b. so_far ++ map value (cond b (option ∷ others) others)) passes
            ∙ sym (append_assoc so_far (value option ∷ []) (map value others));
      }

  -- the option is no comment
  other_in : (more : ℕ) (so_far : List (List ℕ)) → length rest < more → comments ≡ kept_comments so_far
      → map value (filter test (options_of front options)) ≡ so_far ++ map value (filter test (options_within front more rest))
      → front rest ≡ Some option → test option ≡ false → 1 ≤ length option → length option ≤ length rest
      → AreCollected test value front options (drop (length option) rest) comments
  other_in zero so_far room are same is fails shortest within = absurd (omega (arith, room))
  other_in (suc more) so_far room are same is fails shortest within =
      let others = filter test (options_within front more (drop (length option) rest)) in
      record {
        more = more;
        room = omega (arith, room, shortest, within, length-drop (length option) rest);
        so_far = so_far;
        are = are;
        same = same ∙ ap (λ all. so_far ++ map value (filter test all)) (option_more front more rest option is)
            ∙ ap (λ b. so_far ++ map value (cond b (option ∷ others) others)) fails;
      }

  pub comment_next : (next : List ℕ) (after : PacketComments) → AreCollected test value front options rest comments
      → front rest ≡ Some option → test option ≡ true → 1 ≤ length option → length option ≤ length rest
      → next ≡ drop (length option) rest → after ≡ comment_added (value option) comments
      → AreCollected test value front options next after
  comment_next next after so is passes shortest within left added =
      subst (λ bytes. AreCollected test value front options bytes after) (sym left)
      (comment_in so.more so.so_far after so.room so.are so.same is passes shortest within added)

  pub other_next : (next : List ℕ) → AreCollected test value front options rest comments
      → front rest ≡ Some option → test option ≡ false → 1 ≤ length option → length option ≤ length rest
      → next ≡ drop (length option) rest → AreCollected test value front options next comments
  other_next next so is fails shortest within left =
      subst (λ bytes. AreCollected test value front options bytes comments) (sym left)
      (other_in so.more so.so_far so.room so.are so.same is fails shortest within)

module _ (test : List ℕ → Bool) (value : List ℕ → List ℕ) (front : List ℕ → Option (List ℕ)) (options rest : List ℕ)
    (comments : PacketComments) where
  -- no option is left
  none_in : (more : ℕ) (so_far : List (List ℕ)) → length rest < more → comments ≡ kept_comments so_far
      → map value (filter test (options_of front options)) ≡ so_far ++ map value (filter test (options_within front more rest))
      → front rest ≡ None → comments ≡ kept_comments (map value (filter test (options_of front options)))
  none_in zero so_far room are same is = absurd (omega (arith, room))
  none_in (suc more) so_far room are same is =
      let all = same ∙ ap (λ all. so_far ++ map value (filter test all)) (option_none front more rest is) ∙ append-nil so_far in
      are ∙ ap kept_comments (sym all)

  pub all_collected : AreCollected test value front options rest comments → front rest ≡ None
      → comments ≡ kept_comments (map value (filter test (options_of front options)))
  all_collected so is = none_in so.more so.so_far so.room so.are so.same is
