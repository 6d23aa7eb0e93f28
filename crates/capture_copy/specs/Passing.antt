-- What a copier reads and writes, part by part. A part is a record of a classic capture or a block of a pcapng file. A part is passed if
-- the copier reads it and writes what belongs in the output.
use Rattle.std.specs.Prelude.{◌≡◌, ◌+◌, ◌-◌, ◌^◌, ◌≤◌, ◌⊎◌, ℕ, Bool, true, false, List, [], ◌∷◌, flat_map, fold, length, min, Option, Result, Ok, Err}
use Rattle.std.specs.Io.KnownBytes.{Appends, Consumes}
use Rattle.std.specs.Option.{option_to_list}

-- ---- parts

-- the bytes of a part, what was written for them, and the outcome of the packet in it, if it contains a packet
pub record Part (Outcome : Type 0) : Type 0 where
  pub read : List ℕ
  pub written : List ℕ
  pub outcome : Option Outcome

-- the bytes of the part were written as they were read, and the part has this outcome
abbrev pub IsUnchanged : {Outcome : Type 0} → Part Outcome → Option Outcome → Type 0
IsUnchanged part outcome = (part.written ≡ part.read) × (part.outcome ≡ outcome)

-- the bytes that were read for these parts
abbrev pub read_of : {Outcome : Type 0} → List (Part Outcome) → List ℕ
read_of parts = flat_map (λ part. part.read) parts

-- the bytes that were written for these parts
abbrev pub written_of : {Outcome : Type 0} → List (Part Outcome) → List ℕ
written_of parts = flat_map (λ part. part.written) parts

-- the outcomes of all packets in these parts
abbrev pub outcomes_of : {Outcome : Type 0} → List (Part Outcome) → List Outcome
outcomes_of parts = flat_map (λ part. option_to_list part.outcome) parts

-- the count after one more part or packet; at 2^64 - 1 it stays unchanged
abbrev pub one_more : ℕ → ℕ
one_more count = min (count + 1) (2 ^ 64 - 1)

-- ---- formats

-- A format of captures, and what a copier does with its parts. A part can change the state. In a pcapng file, for example, a block begins a
-- section or describes an interface.
pub record Format : Type 1 where
  -- what has to be known about the previous parts to read the next part
  pub State : Type 0
  -- what became of a packet
  pub Outcome : Type 0
  -- the numbers of packets by outcome
  pub Counts : Type 0
  -- why a capture is not copied to its end
  pub Error : Type 0
  -- the counts after a packet with this outcome
  pub counted : Counts → Outcome → Counts
  -- the part is a whole record or block; its written bytes, its outcome and the state after it are right
  pub IsPart : State → Part Outcome → State → Type 0
  -- this error stopped the copier after it passed only the first bytes of a part; the state is the state before this part
  pub IsEnd : State → Part Outcome → Error → Type 0
  -- what is known, after this error, about two rests of the input: the rest after the passed bytes, and the rest that is still left
  pub LeavesAt : Error → Option (List ℕ) → Option (List ℕ) → Type 0
  -- this is an error of writing
  pub IsWriteError : Error → Type 0
  -- the error if the number of parts reached the maximum
  pub too_many : Error
  -- the maximum number of parts
  pub max_parts : ℕ

-- the counts after a part with this outcome; they are unchanged if the part has no outcome
abbrev pub counted_if : (format : Format) → format.Counts → Option format.Outcome → format.Counts
counted_if format counts outcome = fold format.counted counts (option_to_list outcome)

-- these are parts, one after the other, which lead from one state to another
abbrev pub AreParts : (format : Format) → format.State → List (Part format.Outcome) → format.State → Type 0
AreParts format before [] after = after ≡ before
AreParts format before (part ∷ parts) after =
    (between : format.State) × format.IsPart before part between × AreParts format between parts after

-- Parts were passed. Exactly the bytes of these parts were read, in their order. Exactly the written bytes of these parts were appended to
-- the output. Each outcome was counted.
pub record Passes (format : Format) (before after : format.State) (left still_left held now_held : Option (List ℕ))
    (counts now_counts : format.Counts) : Type 0 where
  pub parts : List (Part format.Outcome)
  pub each : AreParts format before parts after
  pub consumed : Consumes left still_left (read_of parts)
  pub appended : Appends held now_held (written_of parts)
  pub counted : now_counts ≡ fold format.counted counts (outcomes_of parts)

-- exactly one part was passed, and its outcome was counted
pub record PassesOne (format : Format) (before after : format.State) (left still_left held now_held : Option (List ℕ))
    (counts now_counts : format.Counts) : Type 0 where
  pub part : Part format.Outcome
  pub is_part : format.IsPart before part after
  pub consumed : Consumes left still_left part.read
  pub appended : Appends held now_held part.written
  pub counted : now_counts ≡ counted_if format counts part.outcome

-- ---- errors

-- The first bytes of a part were passed, and then the copier stopped with this error. If the part has an outcome, it was counted.
pub record StopsBy (format : Format) (error : format.Error) (state : format.State) (left still_left held now_held : Option (List ℕ))
    (counts now_counts : format.Counts) : Type 0 where
  pub then_left : Option (List ℕ)
  pub front : Part format.Outcome
  pub is_end : format.IsEnd state front error
  pub consumed : Consumes left then_left front.read
  pub appended : Appends held now_held front.written
  pub counted : now_counts ≡ counted_if format counts front.outcome
  pub leaves : format.LeavesAt error then_left still_left

-- The copier stopped because the number of these parts reached the maximum. It read, wrote and counted nothing more.
pub record StopsByNumber (format : Format) (error : format.Error) (parts : List (Part format.Outcome))
    (left still_left held now_held : Option (List ℕ)) (counts now_counts : format.Counts) : Type 0 where
  pub is : error ≡ format.too_many
  pub many : format.max_parts ≤ length parts
  pub unread : still_left ≡ left
  pub unwritten : now_held ≡ held
  pub uncounted : now_counts ≡ counts

-- parts were passed, and then the copier stopped with this error: within another part, or because the number of parts reached the maximum
pub record EndsBy (format : Format) (error : format.Error) (before : format.State) (left still_left held now_held : Option (List ℕ))
    (counts now_counts : format.Counts) : Type 0 where
  pub after : format.State
  pub middle : Option (List ℕ)
  pub then_held : Option (List ℕ)
  pub then_counts : format.Counts
  pub passes : Passes format before after left middle held then_held counts then_counts
  pub stops : StopsBy format error after middle still_left then_held now_held then_counts now_counts
      ⊎ StopsByNumber format error passes.parts middle still_left then_held now_held then_counts now_counts

-- ---- results

-- What a call with this result passed: parts, and before an error possibly the first bytes of the next part. If a write failed, nothing is
-- stated.
abbrev pub PassesTo : {A : Type 0} → (format : Format) → Result A format.Error → format.State → format.State → Option (List ℕ)
    → Option (List ℕ)
    → Option (List ℕ) → Option (List ℕ) → format.Counts → format.Counts → Type 0
PassesTo format (Ok given) before after left still_left held now_held counts now_counts =
    Passes format before after left still_left held now_held counts now_counts
PassesTo format (Err error) before after left still_left held now_held counts now_counts =
    format.IsWriteError error ⊎ EndsBy format error before left still_left held now_held counts now_counts

-- What a call for one part passed. After an error, it passed at most the first bytes of the part. If a write failed, nothing is stated.
abbrev pub PassesNext : {A : Type 0} → (format : Format) → Result A format.Error → format.State → format.State → Option (List ℕ)
    → Option (List ℕ)
    → Option (List ℕ) → Option (List ℕ) → format.Counts → format.Counts → Type 0
PassesNext format (Ok given) before after left still_left held now_held counts now_counts =
    PassesOne format before after left still_left held now_held counts now_counts
PassesNext format (Err error) before after left still_left held now_held counts now_counts =
    format.IsWriteError error ⊎ StopsBy format error before left still_left held now_held counts now_counts

-- the counts after a call that returns the outcome of a part, or no outcome; after an error they are unchanged
abbrev pub counts_after : (format : Format) → format.Counts → Result (Option format.Outcome) format.Error → format.Counts
counts_after format counts (Ok outcome) = counted_if format counts outcome
counts_after format counts (Err error) = counts

-- What a call for one part passed, if the call returns the outcome and leaves it to its caller to count the outcome.
abbrev pub PassesGiven : (format : Format) → Result (Option format.Outcome) format.Error → format.State → format.State → Option (List ℕ)
    → Option (List ℕ) → Option (List ℕ) → Option (List ℕ) → Type 0
PassesGiven format result before after left still_left held now_held =
    (counts : format.Counts)
    → PassesNext format result before after left still_left held now_held counts (counts_after format counts result)

-- What a call for the next part passed. It returns `true` if it passed one part. It returns `false` if no part is left, and then nothing
-- was read, written or counted.
abbrev pub PassesAny : (format : Format) → Result Bool format.Error → format.State → format.State → Option (List ℕ) → Option (List ℕ)
    → Option (List ℕ) → Option (List ℕ) → format.Counts → format.Counts → Type 0
PassesAny format (Ok true) before after left still_left held now_held counts now_counts =
    PassesOne format before after left still_left held now_held counts now_counts
PassesAny format (Ok false) before after left still_left held now_held counts now_counts =
    (after ≡ before) × Consumes left still_left [] × (now_held ≡ held) × (now_counts ≡ counts)
PassesAny format (Err error) before after left still_left held now_held counts now_counts =
    format.IsWriteError error ⊎ StopsBy format error before left still_left held now_held counts now_counts
