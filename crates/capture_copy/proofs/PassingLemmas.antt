-- What was read and written, part by part.
use Rattle.std.proofs.Common.{◌≡◌, ◌≤◌, ◌+◌, ◌++◌, ◌∙◌, ◌⊎◌, ℕ, List, Bool, Option, Result, true, false, Ok, Err, [], ◌∷◌, ap, arith, fold, inl, inr, length, length-append, append-nil, refl, subst, sym}
use Rattle.std.proofs.KnownBytes.{Appends-nil, Appends-trans, Consumes-nil, Consumes-trans}
use Rattle.std.proofs.lemmas.Grind.{flat_map-append, fold-append}
use Rattle.std.specs.Io.KnownBytes.{Appends, Consumes}
use Rattle.std.specs.Option.{option_to_list}
use Rattle.capture_copy.specs.Passing.{AreParts, EndsBy, Format, Part, Passes, PassesAny, PassesGiven, PassesNext, PassesOne, PassesTo, StopsBy, StopsByNumber, counted_if, counts_after, outcomes_of, read_of, written_of}

-- ---- parts

pub passes_nothing : (format : Format) (state : format.State) (left held : Option (List ℕ)) (counts : format.Counts)
    → Passes format state state left left held held counts counts
passes_nothing format state left held counts = record {
  parts = [];
  each = refl;
  consumed = Consumes-nil left;
  appended = Appends-nil held;
  counted = refl;
}

-- one passed part is a list of passed parts, with these values
pub passes_part : (format : Format) (before after : format.State) (left still_left held now_held : Option (List ℕ))
    (counts now_counts : format.Counts)
    (part : Part format.Outcome)
    → format.IsPart before part after → Consumes left still_left part.read → Appends held now_held part.written
    → now_counts ≡ counted_if format counts part.outcome → PassesOne format before after left still_left held now_held counts now_counts
passes_part format before after left still_left held now_held counts now_counts part is consumed appended counts_are = record {
  part = part;
  is_part = is;
  consumed = consumed;
  appended = appended;
  counted = counts_are;
}

-- one passed part is a list of passed parts
pub passes_one : (format : Format) (before after : format.State) (left still_left held now_held : Option (List ℕ))
    (counts now_counts : format.Counts)
    → PassesOne format before after left still_left held now_held counts now_counts
    → (passes : Passes format before after left still_left held now_held counts now_counts) × (length passes.parts ≡ 1)
passes_one format before after left still_left held now_held counts now_counts one =
    let part = one.part in (
      record {
        parts = part ∷ [];
        each = (after, one.is_part, refl);
        consumed = subst (Consumes left still_left) (sym (append-nil part.read)) one.consumed;
        appended = subst (Appends held now_held) (sym (append-nil part.written)) one.appended;
        counted = one.counted ∙ ap (fold format.counted counts) (sym (append-nil (option_to_list part.outcome)));
      },
      refl,
    )

-- one passed part, or none, is a list of passed parts
pub passes_any : (format : Format) (is_any : Bool) (before after : format.State) (left still_left held now_held : Option (List ℕ))
    (counts now_counts : format.Counts)
    → PassesAny format (Ok is_any) before after left still_left held now_held counts now_counts
    → Passes format before after left still_left held now_held counts now_counts
passes_any format true before after left still_left held now_held counts now_counts one =
    (passes_one format before after left still_left held now_held counts now_counts one).0
passes_any format false before after left still_left held now_held counts now_counts (same_state, consumed, same_held, same_counts) =
    record {
      parts = [];
      each = same_state;
      consumed = consumed;
      appended = subst (λ given. Appends held given []) (sym same_held) (Appends-nil held);
      counted = same_counts;
    }

are_parts_append : (format : Format) (before between after : format.State) (parts others : List (Part format.Outcome))
    → AreParts format before parts between → AreParts format between others after → AreParts format before (parts ++ others) after
are_parts_append format before between after [] others first second =
    subst (λ state. AreParts format state others after) first second
are_parts_append format before between after (part ∷ parts) others first second =
    (first.0, first.1, are_parts_append format first.0 between after parts others first.2 second)

-- passed parts and then other passed parts are a list of passed parts, whose number is the sum
passes_both : (format : Format) (before between after : format.State) (left middle still_left held now_held then_held : Option (List ℕ))
    (counts now_counts then_counts : format.Counts)
    → (first : Passes format before between left middle held now_held counts now_counts)
    → (second : Passes format between after middle still_left now_held then_held now_counts then_counts)
    → (passes : Passes format before after left still_left held then_held counts then_counts)
    × (length passes.parts ≡ length first.parts + length second.parts)
passes_both format before between after left middle still_left held now_held then_held counts now_counts then_counts first second = (
  record {
    parts = first.parts ++ second.parts;
    each = are_parts_append format before between after first.parts second.parts first.each second.each;
    consumed = subst (Consumes left still_left) (sym (flat_map-append (λ part. part.read) first.parts second.parts))
        (Consumes-trans left middle still_left (read_of first.parts) (read_of second.parts) first.consumed second.consumed);
    appended = subst (Appends held then_held) (sym (flat_map-append (λ part. part.written) first.parts second.parts))
        (Appends-trans held now_held then_held (written_of first.parts) (written_of second.parts) first.appended second.appended);
    counted = second.counted
        ∙ ap (λ before. fold format.counted before (outcomes_of second.parts)) first.counted
        ∙ sym (fold-append format.counted counts (outcomes_of first.parts) (outcomes_of second.parts))
        ∙ ap (fold format.counted counts) (sym (flat_map-append (λ part. option_to_list part.outcome) first.parts second.parts));
  },
  length-append first.parts second.parts,
)

-- passed parts and then other passed parts are a list of passed parts
pub passes_on : (format : Format) (before between after : format.State) (left middle still_left held now_held then_held : Option (List ℕ))
    (counts now_counts then_counts : format.Counts)
    → Passes format before between left middle held now_held counts now_counts
    → Passes format between after middle still_left now_held then_held now_counts then_counts
    → Passes format before after left still_left held then_held counts then_counts
passes_on format before between after left middle still_left held now_held then_held counts now_counts then_counts first second =
    (passes_both format before between after left middle still_left held now_held then_held counts now_counts then_counts first second).0

-- parts and another part are a list of parts
pub passes_more : (format : Format) (is_any : Bool) (before between after : format.State)
    (left middle still_left held now_held then_held : Option (List ℕ))
    (counts now_counts then_counts : format.Counts)
    → (first : Passes format before between left middle held now_held counts now_counts)
    → PassesAny format (Ok is_any) between after middle still_left now_held then_held now_counts then_counts → is_any ≡ true
    → (passes : Passes format before after left still_left held then_held counts then_counts)
    × (length passes.parts ≡ length first.parts + 1)
passes_more format false before between after left middle still_left held now_held then_held counts now_counts then_counts first none is =
    absurd (cc is)
passes_more format true before between after left middle still_left held now_held then_held counts now_counts then_counts first one is =
    let single = passes_one format between after middle still_left now_held then_held now_counts then_counts one in
    let both = passes_both format before between after left middle still_left held now_held then_held counts now_counts then_counts first
    single.0 in
    (both.0, omega (arith, both.1, single.1))

-- ---- results

-- if the number of parts reached the maximum, so did the number of more parts
more_parts : (format : Format) (error : format.Error) (parts others : List (Part format.Outcome))
    (left still_left held now_held : Option (List ℕ)) (counts now_counts : format.Counts)
    → length parts ≤ length others → StopsByNumber format error parts left still_left held now_held counts now_counts
    → StopsByNumber format error others left still_left held now_held counts now_counts
more_parts format error parts others left still_left held now_held counts now_counts more stops = record {
  is = stops.is;
  many = omega (arith, more, stops.many);
  unread = stops.unread;
  unwritten = stops.unwritten;
  uncounted = stops.uncounted;
}

-- an end after parts is also an end after other parts before them
stops_on : (format : Format) (error : format.Error) (state : format.State) (left still_left held now_held : Option (List ℕ))
    (counts now_counts : format.Counts)
    (parts others : List (Part format.Outcome))
    → length parts ≤ length others
    → (StopsBy format error state left still_left held now_held counts now_counts
    ⊎ StopsByNumber format error parts left still_left held now_held counts now_counts)
    → StopsBy format error state left still_left held now_held counts now_counts
    ⊎ StopsByNumber format error others left still_left held now_held counts now_counts
stops_on format error state left still_left held now_held counts now_counts parts others more (inl stops) = inl stops
stops_on format error state left still_left held now_held counts now_counts parts others more (inr stops) =
    inr (more_parts format error parts others left still_left held now_held counts now_counts more stops)

-- passed parts and then what was passed to a result are what was passed to the result
pub passes_to_on : {A : Type 0} → (format : Format) (result : Result A format.Error) (before between after : format.State)
    (left middle still_left held now_held then_held : Option (List ℕ)) (counts now_counts then_counts : format.Counts)
    → Passes format before between left middle held now_held counts now_counts
    → PassesTo format result between after middle still_left now_held then_held now_counts then_counts
    → PassesTo format result before after left still_left held then_held counts then_counts
passes_to_on format (Ok given) before between after left middle still_left held now_held then_held counts now_counts then_counts first
    second =
    passes_on _ _ _ _ _ _ _ _ _ _ _ _ _ first second
passes_to_on format (Err error) before between after left middle still_left held now_held then_held counts now_counts then_counts first
    (inl failed) =
    inl failed
passes_to_on format (Err error) before between after left middle still_left held now_held then_held counts now_counts then_counts first
    (inr ends) =
    let both = passes_both _ _ _ _ _ _ _ _ _ _ _ _ _ first ends.passes in
    inr (record {
      after = ends.after;
      middle = ends.middle;
      then_held = ends.then_held;
      then_counts = ends.then_counts;
      passes = both.0;
      stops = stops_on format error ends.after ends.middle still_left ends.then_held then_held ends.then_counts then_counts
          ends.passes.parts both.0.parts
          (omega (arith, both.1)) ends.stops;
    })

-- the result if the number of passed parts reached the maximum
pub ends_by_number : (format : Format) (before after : format.State) (left still_left held now_held : Option (List ℕ))
    (counts now_counts : format.Counts)
    → (passes : Passes format before after left still_left held now_held counts now_counts) → format.max_parts ≤ length passes.parts
    → EndsBy format format.too_many before left still_left held now_held counts now_counts
ends_by_number format before after left still_left held now_held counts now_counts passes many = record {
  after = after;
  middle = still_left;
  then_held = now_held;
  then_counts = now_counts;
  passes = passes;
  stops = inr (record { is = refl; many = many; unread = refl; unwritten = refl; uncounted = refl });
}

-- a result with the error that ended the next part
pub next_to_end : {A : Type 0} → (format : Format) (result : Result A format.Error) (error : format.Error) (before after : format.State)
    (left still_left held now_held : Option (List ℕ)) (counts now_counts : format.Counts)
    → (format.IsWriteError error ⊎ StopsBy format error before left still_left held now_held counts now_counts) → result ≡ Err error
    → PassesNext format result before after left still_left held now_held counts now_counts
next_to_end format result error before after left still_left held now_held counts now_counts ends fails =
    subst (λ given. PassesNext format given before after left still_left held now_held counts now_counts) (sym fails) ends

-- what was passed up to an error by a call that returns whether there is a next part
pub any_to_end : (format : Format) (result : Result Bool format.Error) (error : format.Error) (before after : format.State)
    (left still_left held now_held : Option (List ℕ)) (counts now_counts : format.Counts)
    → (format.IsWriteError error ⊎ StopsBy format error before left still_left held now_held counts now_counts) → result ≡ Err error
    → PassesAny format result before after left still_left held now_held counts now_counts
any_to_end format result error before after left still_left held now_held counts now_counts ends fails =
    subst (λ given. PassesAny format given before after left still_left held now_held counts now_counts) (sym fails) ends

-- parts were passed, and then an error came within the next part
pub passes_on_to_error : {A : Type 0} → (format : Format) (result : Result A format.Error) (error : format.Error)
    (before between after : format.State)
    (left middle still_left held now_held then_held : Option (List ℕ)) (counts now_counts then_counts : format.Counts)
    → Passes format before between left middle held now_held counts now_counts
    → (format.IsWriteError error ⊎ StopsBy format error between middle still_left now_held then_held now_counts then_counts)
    → result ≡ Err error
    → PassesTo format result before after left still_left held then_held counts then_counts
passes_on_to_error format result error before between after left middle still_left held now_held then_held counts now_counts then_counts
    first (inl failed) fails =
    subst (λ given. PassesTo format given before after left still_left held then_held counts then_counts) (sym fails) (inl failed)
passes_on_to_error format result error before between after left middle still_left held now_held then_held counts now_counts then_counts
    first (inr stops) fails =
    subst (λ given. PassesTo format given before after left still_left held then_held counts then_counts) (sym fails)
    (inr (record { after = between; middle = middle; then_held = now_held; then_counts = now_counts; passes = first; stops = inl stops }))

-- no part was passed if the error is within the first part
pub passes_to_first_error : {A : Type 0} → (format : Format) (result : Result A format.Error) (error : format.Error)
    (before after : format.State)
    (left still_left held then_held : Option (List ℕ)) (counts then_counts : format.Counts)
    → (format.IsWriteError error ⊎ StopsBy format error before left still_left held then_held counts then_counts) → result ≡ Err error
    → PassesTo format result before after left still_left held then_held counts then_counts
passes_to_first_error format result error before after left still_left held then_held counts then_counts ends fails =
    passes_on_to_error format result error before before after left left still_left held held then_held counts counts then_counts
    (passes_nothing format before left held counts) ends fails

-- the result if writing failed
pub next_to_write_error : {A : Type 0} → (format : Format) (result : Result A format.Error) (error : format.Error)
    (before after : format.State)
    (left still_left held now_held : Option (List ℕ)) (counts now_counts : format.Counts)
    → format.IsWriteError error → result ≡ Err error → PassesNext format result before after left still_left held now_held counts now_counts
next_to_write_error format result error before after left still_left held now_held counts now_counts failed fails =
    next_to_end format result error before after left still_left held now_held counts now_counts (inl failed) fails

-- the result if an error came after these bytes of a part
pub next_to_error : {A : Type 0} → (format : Format) (result : Result A format.Error) (error : format.Error) (before after : format.State)
    (left then_left still_left held now_held : Option (List ℕ)) (counts now_counts : format.Counts) (front : Part format.Outcome)
    → format.IsEnd before front error → Consumes left then_left front.read → Appends held now_held front.written
    → now_counts ≡ counted_if format counts front.outcome → format.LeavesAt error then_left still_left → result ≡ Err error
    → PassesNext format result before after left still_left held now_held counts now_counts
next_to_error format result error before after left then_left still_left held now_held counts now_counts front end consumed appended
    counts_are leaves fails =
    next_to_end format result error before after left still_left held now_held counts now_counts (inr (record {
      then_left = then_left;
      front = front;
      is_end = end;
      consumed = consumed;
      appended = appended;
      counted = counts_are;
      leaves = leaves;
    })) fails

-- ---- calls that return the outcome of a part

-- an error, after which nothing was counted
pub given_error : (format : Format) (result : Result (Option format.Outcome) format.Error) (error : format.Error)
    (before after : format.State)
    (left still_left held now_held : Option (List ℕ)) (counts : format.Counts)
    → PassesNext format result before after left still_left held now_held counts counts → result ≡ Err error
    → PassesNext format result before after left still_left held now_held counts (counts_after format counts result)
given_error format result error before after left still_left held now_held counts passes fails =
    subst (λ now_counts. PassesNext format result before after left still_left held now_held counts now_counts)
    (sym (ap (counts_after format counts) fails)) passes

-- the outcome was counted
pub one_given : (format : Format) (outcome : Option format.Outcome) (before after : format.State)
    (left still_left held now_held : Option (List ℕ))
    (counts now_counts : format.Counts)
    → PassesGiven format (Ok outcome) before after left still_left held now_held → now_counts ≡ counted_if format counts outcome
    → PassesOne format before after left still_left held now_held counts now_counts
one_given format outcome before after left still_left held now_held counts now_counts given is =
    subst (λ now_counts. PassesOne format before after left still_left held now_held counts now_counts) (sym is) (given counts)
