-- The blocks of a pcapng file that do not fit in the buffer.
use Rattle.std.proofs.Common.{◌≡◌, ◌<◌, ◌+◌, ◌-◌, ◌++◌, ◌∙◌, ◌⊎◌, ℕ, List, Bool, true, false, Option, OnErr, Result, Some, None, Ok, Err, [], ap, append-nil, append_assoc, arith, inl, inr, length, length-append, refl, subst, sym}
use Rattle.std.proofs.KnownBytes.{Appends-trans, Consumes-trans}
use Rattle.std.specs.Io.KnownBytes.{Appends, Consumes, IsAtEnd}
use Rattle.capture_file.proofs.PcapngLemmas.{block_header_front}
use Rattle.capture_file.proofs.PcapngReadingLemmas.{cut_off_after, differs_after, passed_over}
use Rattle.capture_file.specs.Pcapng.{IsBlock, block_header, block_header_refusal}
use Rattle.capture_file.specs.PcapngReading.{BeginsBlock}
use Rattle.capture_file.specs.PcapngSteps.{is_description}
use Rattle.capture_file.specs.declared.pcapng.block.BlockHeader.{BlockHeader}
use Rattle.capture_file.specs.declared.pcapng.errors.BlockError.TheVariants as block_errors
use Rattle.capture_file.specs.declared.pcapng.read.NextBlock.TheVariants as next_blocks
use Rattle.capture_file.specs.declared.reader.packet_error.PacketError.{PacketError}
use Rattle.capture_file.specs.declared.reader.packet_error.PacketError.TheVariants as errors
use Rattle.capture_numbers.specs.Numbers.{number_at}
use Rattle.capture_numbers.specs.declared.byte_order.ByteOrder.{ByteOrder}
use Rattle.capture_copy.proofs.BlockEndLemmas.{ends_refused, next_to_read_error}
use Rattle.capture_copy.proofs.BlockLemmas.{alone, next_of}
use Rattle.capture_copy.proofs.PassingLemmas.{given_error, next_to_end, next_to_write_error}
use Rattle.capture_copy.specs.Blocks.{EndsWithLast, HasLongOutcome, IsBlockFront, IsBlockPart, IsLongBlock, RefusesBlock, blocks_of, refused_by, writes_front}
use Rattle.capture_copy.specs.Parts.{IsWriteError, PassesLong, WritesFront}
use Rattle.capture_copy.specs.Passing.{PassesNext, StopsBy, counts_after}
use Rattle.capture_copy.specs.Visits.{Visits, is_written_with, written_if}
use Rattle.capture_copy.specs.declared.blocks.Blocks.{Blocks}
use Rattle.capture_copy.specs.declared.copier.TheConstants.{BUFFER_LEN}
use Rattle.capture_copy.specs.declared.part_error.PartError.{PartError}

-- These are the first bytes of a block that does not fit in the buffer. If the copy ends within it, `writes_front` states whether its bytes
-- are written. Otherwise `is_written` states it.
pub record BeginsLong (section : ByteOrder) (first : List ℕ) (header : BlockHeader) (writes_front is_written : Bool) : Type 0 where
  pub has_len : length first ≡ 12
  pub accepted : block_header_refusal section first ≡ None
  pub is_header : header ≡ block_header section first
  pub beyond : BUFFER_LEN < header.total_len
  pub each : writes_front ≡ true → is_written ≡ true
  pub other : is_written ≡ true → writes_front ≡ false → is_description header.block_type ≡ false

-- if a refused block is not written, a block that is written is not refused
other_if_written : {Outcome Counts : Type 0} (visits : Visits Outcome Counts) (header : BlockHeader)
    (visited : Result (Option Outcome) PacketError) (writes_front is_written : Bool)
    → HasLongOutcome visits header visited → OnErr visited (is_written ≡ writes_front)
    → is_written ≡ true → writes_front ≡ false → is_description header.block_type ≡ false
other_if_written visits header (Ok None) writes_front is_written has refused written none = has.0
other_if_written visits header (Ok (Some outcome)) writes_front is_written has refused written none = has.0
other_if_written visits header (Err error) writes_front is_written has refused written none =
    absurd (cc (sym written ∙ refused ∙ none))

pub begins_long : {Outcome Counts : Type 0} (visits : Visits Outcome Counts) (section : ByteOrder) (first : List ℕ) (header : BlockHeader)
    (visited : Result (Option Outcome) PacketError) (given front is_written : Bool)
    → given ≡ front → BeginsBlock section first header → BUFFER_LEN < header.total_len → HasLongOutcome visits header visited
    → OnErr visited (is_written ≡ given) → (given ≡ true → is_written ≡ true) → BeginsLong section first header front is_written
begins_long visits section first header visited given front is_written same begins beyond has refused each = record {
  has_len = begins.has_len;
  accepted = begins.accepted;
  is_header = begins.is_header;
  beyond = beyond;
  each = λ all. each (same ∙ all);
  other = λ written none. other_if_written visits header visited given is_written has refused written (same ∙ none);
}

-- the header of the block is in its first bytes
header_of : (section : ByteOrder) (first more : List ℕ) (header : BlockHeader) → length first ≡ 12 → header ≡ block_header section first
    → header ≡ block_header section (first ++ more)
header_of section first more header has_len is = is ∙ sym (block_header_front section first more (omega (arith, has_len)))

long_front : (section : ByteOrder) (first more : List ℕ) (header : BlockHeader) → length first ≡ 12 → header ≡ block_header section first
    → BUFFER_LEN < header.total_len → is_description header.block_type ≡ false → IsLongBlock section (first ++ more)
long_front section first more header has_len is beyond other =
    let same = header_of section first more header has_len is in (
      subst (λ given. BUFFER_LEN < given.total_len) same beyond,
      subst (λ given. is_description given.block_type ≡ false) same other,
    )

-- ---- what is written for the first bytes

front_within : (writes_front is_written : Bool) (Long : Type 0) (bytes : List ℕ) → (writes_front ≡ true → is_written ≡ true)
    → (is_written ≡ true → writes_front ≡ false → Long) → WritesFront writes_front Long bytes (written_if is_written bytes)
front_within true true Long bytes each long = refl
front_within true false Long bytes each long = absurd (cc (each refl))
front_within false true Long bytes each long = inr (long refl refl, ([], sym (append-nil bytes)))
front_within false false Long bytes each long = inl refl

front_with_last : (writes_front is_written : Bool) (Long : Type 0) (first last : List ℕ) → (writes_front ≡ true → is_written ≡ true)
    → (is_written ≡ true → writes_front ≡ false → Long)
    → WritesFront writes_front Long (first ++ last) (written_if is_written first ++ written_if writes_front last)
front_with_last true true Long first last each long = refl
front_with_last true false Long first last each long = absurd (cc (each refl))
front_with_last false true Long first last each long =
    inr (long refl refl, (last, ap (λ bytes. bytes ++ last) (sym (append-nil first))))
front_with_last false false Long first last each long = inl refl

-- the first bytes of the block were read and written
pub begins_front : (section : ByteOrder) (first more : List ℕ) (header : BlockHeader) (writes_front is_written : Bool)
    → BeginsLong section first header writes_front is_written
    → WritesFront writes_front (IsLongBlock section (first ++ more)) (first ++ more) (written_if is_written (first ++ more))
begins_front section first more header writes_front is_written begins =
    front_within writes_front is_written (IsLongBlock section (first ++ more)) (first ++ more) begins.each
    (λ written none. long_front section first more header begins.has_len begins.is_header begins.beyond (begins.other written none))

-- the last bytes of the block were read too, and written only if the copy ends there
pub begins_front_last : (section : ByteOrder) (first middle last : List ℕ) (header : BlockHeader) (writes_front is_written : Bool)
    → BeginsLong section first header writes_front is_written
    → WritesFront writes_front (IsLongBlock section (first ++ (middle ++ last))) (first ++ (middle ++ last))
    (written_if is_written (first ++ middle) ++ written_if writes_front last)
begins_front_last section first middle last header writes_front is_written begins =
    subst (λ bytes. WritesFront writes_front (IsLongBlock section (first ++ (middle ++ last))) bytes
    (written_if is_written (first ++ middle) ++ written_if writes_front last)) (append_assoc first middle last)
    (front_with_last writes_front is_written (IsLongBlock section (first ++ (middle ++ last))) (first ++ middle) last begins.each
    (λ written none. long_front section first (middle ++ last) header begins.has_len begins.is_header begins.beyond
    (begins.other written none)))

-- what is written for two pieces of a block
pub written_append : (is_written : Bool) (first middle last : List ℕ)
    → written_if is_written (first ++ (middle ++ last)) ≡ written_if is_written (first ++ middle) ++ written_if is_written last
written_append true first middle last = sym (append_assoc first middle last)
written_append false first middle last = refl

-- the bytes before the last field and then the last field were written, unless the packet is left out
pub appends_last : (is_written : Bool) (held then_held same_held now_held : Option (List ℕ)) (first middle last : List ℕ)
    → Appends held then_held (written_if is_written (first ++ middle)) → same_held ≡ then_held
    → Appends same_held now_held (written_if is_written (last ++ []))
    → Appends held now_held (written_if is_written (first ++ (middle ++ last)))
appends_last is_written held then_held same_held now_held first middle last appended same appended_last =
    subst (Appends held now_held) (sym (written_append is_written first middle last))
    (Appends-trans held then_held now_held (written_if is_written (first ++ middle)) (written_if is_written last) appended
    (subst (λ given. Appends given now_held (written_if is_written last)) same
    (subst (λ bytes. Appends same_held now_held (written_if is_written bytes)) (append-nil last) appended_last)))

-- ---- errors

-- fewer bytes than the block has are its first bytes
block_front : (section : ByteOrder) (first more : List ℕ) (header : BlockHeader) → length first ≡ 12 → header ≡ block_header section first
    → BUFFER_LEN < header.total_len → length (first ++ more) < header.total_len → IsBlockFront section (first ++ more)
block_front section first more header has_len is beyond short =
    let same = header_of section first more header has_len is in
    inr (
      subst (λ given. BUFFER_LEN < given.total_len) same beyond,
      subst (λ given. length (first ++ more) < given.total_len) same short,
    )

-- the result if reading failed before the last field of the block
pub next_middle_to_error : {Outcome Counts : Type 0} (visits : Visits Outcome Counts) (result : Result (Option Outcome) PartError)
    (error : PartError) (blocks after : Blocks) (left between still_left held now_held : Option (List ℕ)) (counts : Counts)
    (first : List ℕ) (header : BlockHeader) (count : ℕ) (is_written : Bool)
    → BeginsLong blocks.section.byte_order first header (writes_front visits blocks.place) is_written → count + 16 ≡ header.total_len
    → Consumes left between first → PassesLong blocks.place count is_written (Err error) first between still_left held now_held
    → result ≡ Err error
    → PassesNext (blocks_of visits) result blocks after left still_left held now_held counts
    (counts_after (blocks_of visits) counts result)
next_middle_to_error visits result error blocks after left between still_left held now_held counts first header count is_written begins
    counted consumed (inl failed) fails =
    given_error (blocks_of visits) result error blocks after left still_left held now_held counts
    (next_to_write_error (blocks_of visits) result error blocks after left still_left held now_held counts counts failed fails) fails
next_middle_to_error visits result error blocks after left between still_left held now_held counts first header count is_written begins
    counted consumed (inr (is, len, within, then_left, rest)) fails =
    let section = blocks.section.byte_order in
    given_error (blocks_of visits) result error blocks after left still_left held now_held counts
    (next_to_read_error visits result error blocks after left then_left still_left held now_held counts (first ++ rest.bytes)
    (written_if is_written (first ++ rest.bytes)) is
    (Consumes-trans left between then_left first rest.bytes consumed rest.consumed) rest.appended
    (begins_front section first rest.bytes header (writes_front visits blocks.place) is_written begins)
    (block_front section first rest.bytes header begins.has_len begins.is_header begins.beyond
    (omega (arith, counted, within, rest.has_len, begins.has_len, length-append first rest.bytes))) fails) fails

-- the copy ends because the file ends within the block
pub ends_cut : {Outcome Counts : Type 0} (visits : Visits Outcome Counts) (result : PartError) (blocks : Blocks)
    (left still_left held now_held : Option (List ℕ)) (counts : Counts) (first more written : List ℕ) (header : BlockHeader) (len : ℕ)
    (is_written : Bool)
    → BeginsLong blocks.section.byte_order first header (writes_front visits blocks.place) is_written
    → result ≡ refused_by blocks.place (errors.Block (block_errors.CutOff header.total_len len))
    → Consumes left still_left (first ++ more) → Appends held now_held written
    → WritesFront (writes_front visits blocks.place) (IsLongBlock blocks.section.byte_order (first ++ more)) (first ++ more) written
    → len ≡ length (first ++ more) → len < header.total_len → IsAtEnd still_left
    → IsWriteError result ⊎ StopsBy (blocks_of visits) result blocks left still_left held now_held counts counts
ends_cut visits result blocks left still_left held now_held counts first more written header len is_written begins is consumed appended
    front has_len short at_end =
    let section = blocks.section.byte_order in
    let next = next_of section first more [] (next_blocks.Refused (block_errors.CutOff header.total_len len))
    (cut_off_after section first more (Some more) (Some []) [] header len (omega (arith, begins.has_len)) begins.accepted begins.is_header
    (alone more) has_len short refl) in
    ends_refused visits result blocks (block_errors.CutOff header.total_len len) left still_left held now_held counts (first ++ more)
    written is consumed appended front next.0 next.1 at_end

-- the result if the last field of the block is not read, or differs from the total length of the block
pub next_last_to_error : {Outcome Counts : Type 0} (visits : Visits Outcome Counts) (result : Result (Option Outcome) PartError)
    (error : PartError) (blocks after : Blocks) (left between still_left held then_held now_held : Option (List ℕ)) (counts : Counts)
    (first middle : List ℕ) (header : BlockHeader) (is_written : Bool)
    → BeginsLong blocks.section.byte_order first header (writes_front visits blocks.place) is_written
    → length middle + 16 ≡ header.total_len → Consumes left between (first ++ middle)
    → Appends held then_held (written_if is_written (first ++ middle))
    → EndsWithLast header blocks.place (writes_front visits blocks.place) (Err error) between still_left then_held now_held
    → result ≡ Err error
    → PassesNext (blocks_of visits) result blocks after left still_left held now_held counts
    (counts_after (blocks_of visits) counts result)
next_last_to_error visits result error blocks after left between still_left held then_held now_held counts first middle header is_written
    begins counted consumed appended (inl failed) fails =
    given_error (blocks_of visits) result error blocks after left still_left held now_held counts
    (next_to_write_error (blocks_of visits) result error blocks after left still_left held now_held counts counts failed fails) fails
next_last_to_error visits result error blocks after left between still_left held then_held now_held counts first middle header is_written
    begins counted consumed appended (inr (inl (is, same))) fails =
    let section = blocks.section.byte_order in
    given_error (blocks_of visits) result error blocks after left still_left held now_held counts
    (next_to_read_error visits result error blocks after left between still_left held now_held counts (first ++ middle)
    (written_if is_written (first ++ middle)) is consumed
    (subst (λ given. Appends held given (written_if is_written (first ++ middle))) (sym same) appended)
    (begins_front section first middle header (writes_front visits blocks.place) is_written begins)
    (block_front section first middle header begins.has_len begins.is_header begins.beyond
    (omega (arith, counted, begins.has_len, length-append first middle))) fails) fails
next_last_to_error visits result error blocks after left between still_left held then_held now_held counts first middle header is_written
    begins counted consumed appended (inr (inr (inl cut))) fails =
    let section = blocks.section.byte_order in
    let bytes : List ℕ = middle ++ cut.bytes in
    let has_len : header.total_len - 4 + length cut.bytes ≡ length (first ++ bytes) =
    omega (arith, counted, begins.has_len, length-append first bytes, length-append middle cut.bytes) in
    given_error (blocks_of visits) result error blocks after left still_left held now_held counts
    (next_to_end (blocks_of visits) result error blocks after left still_left held now_held counts counts
    (ends_cut visits error blocks left still_left held now_held counts first bytes
    (written_if is_written (first ++ middle) ++ written_if (writes_front visits blocks.place) cut.bytes) header _ is_written begins
    cut.is_error
    (subst (Consumes left still_left) (append_assoc first middle cut.bytes)
    (Consumes-trans left between still_left (first ++ middle) cut.bytes consumed cut.reads.consumed))
    (Appends-trans held then_held now_held (written_if is_written (first ++ middle))
    (written_if (writes_front visits blocks.place) cut.bytes) appended cut.reads.appended)
    (begins_front_last section first middle cut.bytes header (writes_front visits blocks.place) is_written begins)
    has_len (omega (arith, has_len, cut.short, counted)) cut.at_end) fails) fails
next_last_to_error visits result error blocks after left between still_left held then_held now_held counts first middle header is_written
    begins counted consumed appended (inr (inr (inr differs))) fails =
    let section = blocks.section.byte_order in
    let last = differs.last in
    let number = number_at header.byte_order last 0 in
    let next = next_of section first (middle ++ last) [] (next_blocks.Refused (block_errors.LastLength header.total_len number))
    (differs_after section first middle last (Some (middle ++ last)) (Some []) [] header number (omega (arith, begins.has_len))
    begins.accepted begins.is_header (alone (middle ++ last)) differs.four
    (omega (arith, counted, begins.has_len, length-append first middle)) refl differs.differs) in
    given_error (blocks_of visits) result error blocks after left still_left held now_held counts
    (next_to_end (blocks_of visits) result error blocks after left still_left held now_held counts counts
    (ends_refused visits error blocks (block_errors.LastLength header.total_len number) left still_left held now_held counts
    (first ++ (middle ++ last))
    (written_if is_written (first ++ middle) ++ written_if (writes_front visits blocks.place) last)
    differs.is_error
    (subst (Consumes left still_left) (append_assoc first middle last)
    (Consumes-trans left between still_left (first ++ middle) last consumed differs.reads.consumed))
    (Appends-trans held then_held now_held (written_if is_written (first ++ middle))
    (written_if (writes_front visits blocks.place) last) appended differs.reads.appended)
    (begins_front_last section first middle last header (writes_front visits blocks.place) is_written begins)
    next.0 next.1 tt) fails) fails

-- ---- whole blocks

-- the block was read to its end
pub whole_long : (section : ByteOrder) (first middle last : List ℕ) (header : BlockHeader) → length first ≡ 12
    → block_header_refusal section first ≡ None → header ≡ block_header section first → BUFFER_LEN < header.total_len
    → length middle + 16 ≡ header.total_len → length last ≡ 4 → number_at header.byte_order last 0 ≡ header.total_len
    → IsBlock section (first ++ (middle ++ last)) × (BUFFER_LEN < length (first ++ (middle ++ last)))
whole_long section first middle last header has_len accepted is beyond counted four same =
    let next = next_of section first (middle ++ last) [] (next_blocks.TooLong header)
    (passed_over section first middle last (Some (middle ++ last)) (Some []) [] header _ (omega (arith, has_len)) accepted is
    (alone (middle ++ last)) four (omega (arith, counted, has_len, length-append first middle)) refl same
    (omega (arith, beyond))) in (
      next.0,
      omega (arith, beyond, counted, has_len, four, length-append first (middle ++ last), length-append middle last),
    )

-- the block was written, unless its packet is left out
pub long_part : {Outcome Counts : Type 0} (visits : Visits Outcome Counts) (blocks : Blocks) (first more : List ℕ) (header : BlockHeader)
    (outcome : Option Outcome) → length first ≡ 12 → header ≡ block_header blocks.section.byte_order first
    → IsBlock blocks.section.byte_order (first ++ more) → BUFFER_LEN < length (first ++ more)
    → HasLongOutcome visits header (Ok outcome)
    → IsBlockPart visits blocks.section (record {
      read = first ++ more;
      written = written_if (is_written_with visits outcome) (first ++ more);
      outcome = outcome;
    }) blocks.section
long_part visits blocks first more header outcome has_len is is_block beyond has = record {
  is_block = is_block;
  visited = inr (
    beyond,
    record {
      has_outcome = subst (λ given. HasLongOutcome visits given (Ok outcome))
          (header_of blocks.section.byte_order first more header has_len is) has;
      same = refl;
      is_written = refl;
    },
  );
}

-- the block is refused
pub long_refused : {Outcome Counts : Type 0} (visits : Visits Outcome Counts) (blocks : Blocks) (first more : List ℕ)
    (header : BlockHeader) (error : PacketError) → length first ≡ 12 → header ≡ block_header blocks.section.byte_order first
    → IsBlock blocks.section.byte_order (first ++ more) → BUFFER_LEN < length (first ++ more)
    → HasLongOutcome visits header (Err error) → RefusesBlock blocks.section (first ++ more) error
long_refused visits blocks first more header error has_len is is_block beyond has = (
  is_block,
  inr (beyond, subst (λ given. HasLongOutcome visits given (Err error)) (header_of blocks.section.byte_order first more header has_len is) has),
)
