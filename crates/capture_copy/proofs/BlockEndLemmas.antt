-- The ends of a copy within a block of a pcapng file.
use Rattle.std.proofs.Common.{◌≡◌, ◌≢◌, ◌≤◌, ◌++◌, ◌∙◌, ◌⊎◌, ℕ, List, Bool, false, IfErr, Option, Result, Some, None, Ok, Err, [], ap, append-nil, arith, inl, inr, length, length-append, refl, subst, sym, take}
use Rattle.std.proofs.KnownBytes.{Consumes-trans}
use Rattle.std.proofs.lemmas.List.{take_all}
use Rattle.std.specs.Io.KnownBytes.{Appends, Consumes}
use Rattle.streams.specs.Streams.{FillsAfter}
use Rattle.capture_file.proofs.PcapngReadingLemmas.{cut_off_short, last_by, refused_first, whole_block}
use Rattle.capture_file.specs.Pcapng.{IsBlock, block_header_refusal, block_refusal}
use Rattle.capture_file.specs.PcapngReading.{AreFirst, BeginsBlock, IsLastBlock}
use Rattle.capture_file.specs.Sections.{TakesBody, TakesUnless}
use Rattle.capture_numbers.specs.declared.byte_order.ByteOrder.{ByteOrder}
use Rattle.capture_file.specs.declared.pcapng.block.BlockHeader.{BlockHeader}
use Rattle.capture_file.specs.declared.pcapng.block_body.BlockBody.{BlockBody}
use Rattle.capture_file.specs.declared.pcapng.block_body.BlockBody.TheVariants as bodies
use Rattle.capture_file.specs.declared.pcapng.errors.BlockError.{BlockError}
use Rattle.capture_file.specs.declared.pcapng.errors.BlockError.TheVariants as block_errors
use Rattle.capture_file.specs.declared.pcapng.errors.BodyError.{BodyError}
use Rattle.capture_file.specs.declared.pcapng.read.NextBlock.TheVariants as next_blocks
use Rattle.capture_file.specs.declared.reader.captured_packet.CapturedPacket.{CapturedPacket}
use Rattle.capture_file.specs.declared.reader.packet_error.PacketError.{PacketError}
use Rattle.capture_file.specs.declared.reader.packet_error.PacketError.TheVariants as errors
use Rattle.capture_file.specs.declared.reader.pcapng_reader.Section.{Section}
use Rattle.capture_copy.proofs.BlockLemmas.{next_of}
use Rattle.capture_copy.proofs.PartLemmas.{front_if_all, leaves_at_read}
use Rattle.capture_copy.proofs.PassingLemmas.{next_to_error}
use Rattle.capture_copy.proofs.VisitLemmas.{ended, error_below}
use Rattle.capture_copy.specs.Blocks.{EndsBlock, IsBlockEnd, IsBlockFront, IsBlockPart, IsLongBlock, IsRefusedBy, RefusesBlock, TakesFrom, VisitsTaken, blocks_of, refused_by, writes_front}
use Rattle.capture_copy.specs.Parts.{IsReadError, IsWriteError, LeavesAt, WritesFront}
use Rattle.capture_copy.specs.Passing.{Part, PassesNext, StopsBy}
use Rattle.capture_copy.specs.Visits.{EndsWithEnough, Visits, is_written_with, written_if}
use Rattle.capture_copy.specs.declared.blocks.Blocks.{Blocks}
use Rattle.capture_copy.specs.declared.copier.TheConstants.{BUFFER_LEN}
use Rattle.capture_copy.specs.declared.extent.Extent.{Extent}
use Rattle.capture_copy.specs.declared.part_error.PartError.{PartError}
use Rattle.capture_copy.specs.declared.part_error.PartError.TheVariants.{CutOff, Read, Refused, TooManyParts, Write}
use Rattle.capture_copy.specs.declared.place.Place.{Place}

-- ---- bytes that are no block

-- the end by bytes that are no block
refused_end : {Outcome Counts : Type 0} (visits : Visits Outcome Counts) (blocks : Blocks) (error : BlockError) (part : Part Outcome)
    → EndsBlock visits blocks part → (part.read ≢ []) → block_refusal blocks.section.byte_order part.read ≡ Some error
    → IsBlockEnd visits blocks part (refused_by blocks.place (errors.Block error))
refused_end visits blocks (block_errors.CutOff required len) part ends some refused = (refl, ends, (some, refused))
refused_end visits blocks (block_errors.Magic magic) part ends some refused =
    (refl, ends, inl (block_errors.Magic magic, (some, refused), refl))
refused_end visits blocks (block_errors.TotalLength total_len) part ends some refused =
    (refl, ends, inl (block_errors.TotalLength total_len, (some, refused), refl))
refused_end visits blocks (block_errors.SectionLength total_len) part ends some refused =
    (refl, ends, inl (block_errors.SectionLength total_len, (some, refused), refl))
refused_end visits blocks (block_errors.LastLength total_len last_len) part ends some refused =
    (refl, ends, inl (block_errors.LastLength total_len last_len, (some, refused), refl))

-- the input that is left after bytes that are no block
refused_leaves : (place : Place) (error : BlockError) (still_left : Option (List ℕ)) → IsLastBlock (next_blocks.Refused error) still_left
    → LeavesAt (refused_by place (errors.Block error)) still_left still_left
refused_leaves place (block_errors.CutOff required len) still_left last = (refl, last)
refused_leaves place (block_errors.Magic magic) still_left last = refl
refused_leaves place (block_errors.TotalLength total_len) still_left last = refl
refused_leaves place (block_errors.SectionLength total_len) still_left last = refl
refused_leaves place (block_errors.LastLength total_len last_len) still_left last = refl

-- the copy ends at bytes that are no block
pub ends_refused : {Outcome Counts : Type 0} (visits : Visits Outcome Counts) (result : PartError) (blocks : Blocks) (error : BlockError)
    (left still_left held now_held : Option (List ℕ)) (counts : Counts) (bytes written : List ℕ)
    → result ≡ refused_by blocks.place (errors.Block error) → Consumes left still_left bytes → Appends held now_held written
    → WritesFront (writes_front visits blocks.place) (IsLongBlock blocks.section.byte_order bytes) bytes written → (bytes ≢ [])
    → block_refusal blocks.section.byte_order bytes ≡ Some error → IsLastBlock (next_blocks.Refused error) still_left
    → IsWriteError result ⊎ StopsBy (blocks_of visits) result blocks left still_left held now_held counts counts
ends_refused visits result blocks error left still_left held now_held counts bytes written is consumed appended front some refused last =
    subst (λ given. IsWriteError given ⊎ StopsBy (blocks_of visits) given blocks left still_left held now_held counts counts) (sym is)
    (inr (record {
      then_left = still_left;
      front = ended bytes written;
      is_end = refused_end visits blocks error (ended bytes written) (refl, front) some refused;
      consumed = consumed;
      appended = appended;
      counted = refl;
      leaves = refused_leaves blocks.place error still_left last;
    }))

-- ---- refused blocks

-- a section does not say that its blocks are malformed
no_block_in_body : (before after : Section) (header : BlockHeader) (body : BlockBody) (error : BlockError)
    → TakesBody before header body after (Err (errors.Block error)) → ⊥
no_block_in_body before after header (bodies.SectionHeader said) error takes = cc takes.0
no_block_in_body before after header (bodies.InterfaceDescription interface) error takes = cc takes.2
no_block_in_body before after header (bodies.Packet packet) error takes = cc takes.2
no_block_in_body before after header bodies.Other error takes = cc takes.0

no_block_unless : (refusal : Option BodyError) (before after : Section) (header : BlockHeader) (body : List ℕ) (error : BlockError)
    → TakesUnless refusal before header body after (Err (errors.Block error)) → ⊥
no_block_unless (Some refused) before after header body error takes = cc takes.0
no_block_unless None before after header body error takes = no_block_in_body before after header takes.0 error takes.2

no_malformed : (section : Section) (block : List ℕ) (error : BlockError) → RefusesBlock section block (errors.Block error) → ⊥
no_malformed section block error (is_block, (inl (fits, after, takes))) = no_block_unless _ section after _ _ error takes
no_malformed section block error (is_block, (inr (long, (description, is)))) = cc is

-- the end by a block that is refused
rejected_end : {Outcome Counts : Type 0} (visits : Visits Outcome Counts) (blocks : Blocks) (error : PacketError) (part : Part Outcome)
    → EndsBlock visits blocks part → RefusesBlock blocks.section part.read error
    → IsBlockEnd visits blocks part (refused_by blocks.place error)
rejected_end visits blocks (errors.Block error) part ends refuses = absurd (no_malformed blocks.section part.read error refuses)
rejected_end visits blocks (errors.Body error) part ends refuses = (refl, ends, inr refuses)
rejected_end visits blocks (errors.TooLong block_type total_len) part ends refuses = (refl, ends, inr refuses)
rejected_end visits blocks (errors.Interfaces max) part ends refuses = (refl, ends, inr refuses)

rejected_leaves : (section : Section) (block : List ℕ) (place : Place) (error : PacketError) (still_left : Option (List ℕ))
    → RefusesBlock section block error → LeavesAt (refused_by place error) still_left still_left
rejected_leaves section block place (errors.Block error) still_left refuses = absurd (no_malformed section block error refuses)
rejected_leaves section block place (errors.Body error) still_left refuses = refl
rejected_leaves section block place (errors.TooLong block_type total_len) still_left refuses = refl
rejected_leaves section block place (errors.Interfaces max) still_left refuses = refl

-- the copy ends at a block that is refused
pub ends_rejected : {Outcome Counts : Type 0} (visits : Visits Outcome Counts) (result : PartError) (blocks : Blocks) (error : PacketError)
    (left still_left held now_held : Option (List ℕ)) (counts : Counts) (bytes written : List ℕ)
    → result ≡ refused_by blocks.place error → Consumes left still_left bytes → Appends held now_held written
    → WritesFront (writes_front visits blocks.place) (IsLongBlock blocks.section.byte_order bytes) bytes written
    → RefusesBlock blocks.section bytes error
    → IsWriteError result ⊎ StopsBy (blocks_of visits) result blocks left still_left held now_held counts counts
ends_rejected visits result blocks error left still_left held now_held counts bytes written is consumed appended front refuses =
    subst (λ given. IsWriteError given ⊎ StopsBy (blocks_of visits) given blocks left still_left held now_held counts counts) (sym is)
    (inr (record {
      then_left = still_left;
      front = ended bytes written;
      is_end = rejected_end visits blocks error (ended bytes written) (refl, front) refuses;
      consumed = consumed;
      appended = appended;
      counted = refl;
      leaves = rejected_leaves blocks.section bytes blocks.place error still_left refuses;
    }))

-- the header of a block is refused
pub ends_first : {Outcome Counts : Type 0} (visits : Visits Outcome Counts) (result : PartError) (blocks : Blocks) (error : BlockError)
    (left still_left held now_held : Option (List ℕ)) (counts : Counts) (first : List ℕ) (is_written : Bool)
    → result ≡ refused_by blocks.place (errors.Block error) → Consumes left still_left first → AreFirst first still_left → 1 ≤ length first
    → block_header_refusal blocks.section.byte_order first ≡ Some error → is_written ≡ writes_front visits blocks.place
    → Appends held now_held (written_if is_written (first ++ []))
    → IsWriteError result ⊎ StopsBy (blocks_of visits) result blocks left still_left held now_held counts counts
ends_first visits result blocks error left still_left held now_held counts first is_written is consumed are some refused written appended =
    let section = blocks.section.byte_order in
    let next = next_of section first [] [] (next_blocks.Refused error)
    (refused_first section first (Some []) [] error (are.0, λ short. refl) some refused) in
    ends_refused visits result blocks error left still_left held now_held counts (first ++ []) (written_if is_written (first ++ [])) is
    (subst (Consumes left still_left) (sym (append-nil first)) consumed) appended
    (front_if_all (writes_front visits blocks.place) is_written (IsLongBlock section (first ++ [])) (first ++ []) written) next.0 next.1
    (refused_first section first still_left [] error are some refused).is_last

-- ---- blocks that fit in the buffer

-- the bytes in the buffer are a whole block
pub kept_block : (section : ByteOrder) (first buffer : List ℕ) (between still_left : Option (List ℕ)) (header : BlockHeader) (len : ℕ)
    → BeginsBlock section first header → length buffer ≡ header.total_len → (fills : FillsAfter first between still_left buffer len)
    → block_refusal section (take len buffer) ≡ None
    → IsBlock section buffer × (buffer ≡ first ++ fills.bytes) × (take len buffer ≡ buffer)
kept_block section first buffer between still_left header len begins room fills accepted =
    let total = ap (λ given. given.total_len) begins.is_header in
    let whole = whole_block section first fills.bytes (omega (arith, begins.has_len))
    (omega (arith, total, room, fills.within, fills.has_len, length-append first fills.bytes))
    (sym (ap (block_refusal section) fills.whole) ∙ accepted) in
    let all : take len buffer ≡ buffer =
    take_all len buffer (omega (arith, total, room, fills.has_len, length-append first fills.bytes, whole.1)) in
    let same : buffer ≡ first ++ fills.bytes = sym all ∙ fills.whole in
    (subst (IsBlock section) (sym same) whole.0, same, all)

-- the bytes in the buffer are refused
pub ends_kept : {Outcome Counts : Type 0} (visits : Visits Outcome Counts) (result : PartError) (blocks : Blocks) (error : PacketError)
    (left between still_left held now_held : Option (List ℕ)) (counts : Counts) (first buffer : List ℕ) (header : BlockHeader) (len : ℕ)
    (is_written : Bool)
    → result ≡ refused_by blocks.place error → BeginsBlock blocks.section.byte_order first header → header.total_len ≤ BUFFER_LEN
    → length buffer ≡ header.total_len → Consumes left between first → FillsAfter first between still_left buffer len
    → IsRefusedBy blocks.section (take len buffer) error → is_written ≡ writes_front visits blocks.place
    → Appends held now_held (written_if is_written (take len buffer ++ []))
    → IsWriteError result ⊎ StopsBy (blocks_of visits) result blocks left still_left held now_held counts counts
ends_kept visits result blocks error left between still_left held now_held counts first buffer header len is_written is begins fits room
    consumed fills (inl (reason, refused, is_reason)) written appended =
    let section = blocks.section.byte_order in
    let bytes : List ℕ = first ++ fills.bytes in
    let refuses : block_refusal section bytes ≡ Some reason = sym (ap (block_refusal section) fills.whole) ∙ refused in
    let total = ap (λ given. given.total_len) begins.is_header in
    ends_refused visits result blocks reason left still_left held now_held counts bytes (written_if is_written bytes)
    (is ∙ ap (refused_by blocks.place) is_reason)
    (Consumes-trans left between still_left first fills.bytes consumed fills.consumed)
    (subst (λ given. Appends held now_held (written_if is_written given)) (append-nil (take len buffer) ∙ fills.whole) appended)
    (front_if_all (writes_front visits blocks.place) is_written (IsLongBlock section bytes) bytes written)
    (λ none. omega (arith, ap length none, begins.has_len, length-append first fills.bytes)) refuses
    (last_by still_left reason (λ required its_len cut.
    let short = cut_off_short section first fills.bytes required its_len (omega (arith, begins.has_len)) begins.accepted
    (refuses ∙ ap Some cut) in
    fills.end (omega (arith, room, total, fills.has_len, length-append first fills.bytes, short))))
ends_kept visits result blocks error left between still_left held now_held counts first buffer header len is_written is begins fits room
    consumed fills (inr (accepted, after, takes)) written appended =
    let section = blocks.section.byte_order in
    let kept = kept_block section first buffer between still_left header len begins room fills accepted in
    ends_rejected visits result blocks error left still_left held now_held counts buffer (written_if is_written buffer) is
    (subst (Consumes left still_left) (sym kept.1)
    (Consumes-trans left between still_left first fills.bytes consumed fills.consumed))
    (subst (λ given. Appends held now_held (written_if is_written given)) (append-nil (take len buffer) ∙ kept.2) appended)
    (front_if_all (writes_front visits blocks.place) is_written (IsLongBlock section buffer) buffer written)
    (kept.0, inl (omega (arith, room, fits), after, subst (λ given. TakesFrom blocks.section given after (Err error)) kept.2 takes))

-- the packet in the block was visited
pub kept_part : {Outcome Counts : Type 0} (visits : Visits Outcome Counts) (before after : Section) (buffer copy : List ℕ)
    (taken : Option CapturedPacket) (outcome : Option Outcome)
    → IsBlock before.byte_order buffer → length buffer ≤ BUFFER_LEN → TakesFrom before buffer after (Ok taken)
    → VisitsTaken visits taken buffer copy outcome
    → IsBlockPart visits before (record {
      read = buffer;
      written = written_if (is_written_with visits outcome) copy;
      outcome = outcome;
    }) after
kept_part visits before after buffer copy taken outcome is_block fits takes visited = record {
  is_block = is_block;
  visited = inl (fits, record { taken = taken; takes = takes; copy = copy; visited = visited; is_written = refl });
}

-- ---- errors of reading

read_end : {Outcome Counts : Type 0} (visits : Visits Outcome Counts) (blocks : Blocks) (part : Part Outcome) (error : PartError)
    → IsReadError blocks.place error → EndsBlock visits blocks part → IsBlockFront blocks.section.byte_order part.read
    → IsBlockEnd visits blocks part error
read_end visits blocks part (CutOff at required len) is ends front = absurd is
read_end visits blocks part (Refused error) is ends front = absurd is
read_end visits blocks part (Read at error) is ends front = (is, ends, front)
read_end visits blocks part TooManyParts is ends front = absurd is
read_end visits blocks part (Write error) is ends front = absurd is

-- the result if reading failed after these bytes of a block
pub next_to_read_error : {A Outcome Counts : Type 0} (visits : Visits Outcome Counts) (result : Result A PartError) (error : PartError)
    (blocks after : Blocks) (left then_left still_left held now_held : Option (List ℕ)) (counts : Counts) (bytes written : List ℕ)
    → IsReadError blocks.place error → Consumes left then_left bytes → Appends held now_held written
    → WritesFront (writes_front visits blocks.place) (IsLongBlock blocks.section.byte_order bytes) bytes written
    → IsBlockFront blocks.section.byte_order bytes → result ≡ Err error
    → PassesNext (blocks_of visits) result blocks after left still_left held now_held counts counts
next_to_read_error visits result error blocks after left then_left still_left held now_held counts bytes written is consumed appended
    front begins fails =
    next_to_error (blocks_of visits) result error blocks after left then_left still_left held now_held counts counts (ended bytes written)
    (read_end visits blocks (ended bytes written) error is (refl, front) begins) consumed appended refl
    (leaves_at_read blocks.place error then_left still_left is) fails

-- ---- enough packets

-- no packet is counted for the first bytes of a block
uncounted : {Outcome Counts : Type 0} (visits : Visits Outcome Counts) (blocks : Blocks) (error : PartError) (part : Part Outcome)
    → IsBlockEnd visits blocks part error → part.outcome ≡ None
uncounted visits blocks (CutOff place required len) part is = is.1.0
uncounted visits blocks (Refused error) part is = is.1.0
uncounted visits blocks (Read place error) part is = is.1.0
uncounted visits blocks TooManyParts part is = absurd is
uncounted visits blocks (Write error) part is = absurd is

-- an error ended the copy before enough packets were read
pub ends_below : {Outcome Counts : Type 0} (visits : Visits Outcome Counts) (is_enough : Counts → Bool) (result : Result Extent PartError)
    (error : PartError) (blocks : Blocks) (left still_left held now_held : Option (List ℕ)) (counts now_counts : Counts)
    → is_enough counts ≡ false
    → (IsWriteError error ⊎ StopsBy (blocks_of visits) error blocks left still_left held now_held counts now_counts)
    → result ≡ Err error → EndsWithEnough (is_enough now_counts) result
ends_below visits is_enough result error blocks left still_left held now_held counts now_counts below ends fails =
    subst (EndsWithEnough (is_enough now_counts)) (sym fails)
    (error_below visits Blocks (blocks_of visits).IsPart (blocks_of visits).IsEnd is_enough error blocks left still_left held now_held
    counts now_counts (uncounted visits blocks error) below ends)

-- the section refuses a whole block
pub taken_refused : (before after : Section) (block : List ℕ) (taken : Result (Option CapturedPacket) PacketError)
    → block_refusal before.byte_order block ≡ None → TakesFrom before block after taken → IfErr taken (IsRefusedBy before block)
taken_refused before after block (Ok packet) accepted takes = tt
taken_refused before after block (Err error) accepted takes = inr (accepted, after, takes)
