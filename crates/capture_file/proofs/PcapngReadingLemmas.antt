-- Laws of reads of a block: its first 12 bytes, and then the bytes after them.
use Rattle.std.proofs.lemmas.Bool.Decides.{nat_tests}
use Rattle.std.specs.Prelude.{◌==◌, nat_lt, not}
use Rattle.std.proofs.Common.{◌≡◌, ℕ, zero, suc, ◌+◌, ◌≤◌, ◌<◌, List, [], ◌∷◌, ◌++◌, Option, Some, None, arith, length, take, refl, sym, ap, ◌∙◌, append_assoc, append-nil, length-append}
use Rattle.std.proofs.lemmas.List.{get_or-append_right, take-append-le, take_all}
use Rattle.std.proofs.KnownBytes.{Consumes-nil, Consumes-trans}
use Rattle.std.specs.Io.KnownBytes.{Consumes, IsAtEnd}
use Rattle.net_base.specs.Bytes.{be_number}
use Rattle.net_base.specs.Refusals.{first_of, refused_if}
use Rattle.capture_file.proofs.PcapngLemmas.{begins_with, block_header_front, block_len_front, is_short_section_front, lacks_magic_front, last_len_front, order_of_front}
use Rattle.capture_file.proofs.RecordLemmas.{be_number_front}
use Rattle.capture_numbers.specs.Numbers.{le_number, number_at}
use Rattle.capture_file.specs.Pcapng.{IsBlock, block_header, block_header_refusal, block_len, block_refusal, last_len}
use Rattle.capture_file.specs.PcapngReading.{AreFirst, FailsAfter, FailsInBlock, IsLastBlock, ReadsAfter, ReadsNextBlock}
use Rattle.streams.specs.Streams.{FillsAfter, ReadsFewer}
use Rattle.capture_numbers.specs.declared.byte_order.ByteOrder.{ByteOrder}
use Rattle.capture_file.specs.declared.pcapng.errors.BlockError.{BlockError}
use Rattle.capture_file.specs.declared.pcapng.errors.BlockError.TheVariants.{CutOff, LastLength}
use Rattle.capture_file.specs.declared.pcapng.block.BlockHeader.{BlockHeader}
use Rattle.capture_file.specs.declared.pcapng.read.NextBlock.{NextBlock}
use Rattle.capture_file.specs.declared.pcapng.read.NextBlock.TheVariants.{Refused, TooLong, Whole}

-- ---- the error of the first bytes is the error of all bytes

block_header_refusal_front : (section : ByteOrder) (first more : List ℕ) → 12 ≤ length first
    → block_header_refusal section (first ++ more) ≡ block_header_refusal section first
block_header_refusal_front section first more within =
    grind (
      arith,
      nat_tests,
      lacks_magic_front first more within,
      be_number_front 4 first more 8 (omega (arith, within)),
      block_len_front section first more within,
      is_short_section_front section first more within,
      length-append first more,
    )

-- the error of a block that is found after its header, given its length, the number of its bytes, and its last total length
abbrev refusal_after : ℕ → ℕ → ℕ → Option BlockError
refusal_after len its_len last = first_of (
    refused_if (nat_lt its_len len) (CutOff len its_len)
    ∷ refused_if (not (last == len)) (LastLength len last)
    ∷ [])

-- the error of a block whose first bytes are accepted is found after its header
refused_by : (section : ByteOrder) (first more : List ℕ) → 12 ≤ length first → block_header_refusal section first ≡ None
    → block_refusal section (first ++ more)
    ≡ refusal_after (block_len section first) (length (first ++ more)) (last_len section (first ++ more) (block_len section first))
refused_by section first more within accepted =
    let bytes = first ++ more in
    let len = block_len section bytes in
    ap
    (λ refusal. first_of (
    refusal
    ∷ refused_if (nat_lt (length bytes) len) (CutOff len (length bytes))
    ∷ refused_if (not (last_len section bytes len == len)) (LastLength len (last_len section bytes len))
    ∷ []))
    (block_header_refusal_front section first more within ∙ accepted)
    ∙ ap (λ first_len. refusal_after first_len (length bytes) (last_len section bytes first_len))
    (block_len_front section first more within)

short_by : (len its_len last required other : ℕ) → refusal_after len its_len last ≡ Some (CutOff required other) → its_len < len
short_by len its_len last required other refused = grind (arith, nat_tests)

cut_off_by : (len its_len last : ℕ) → its_len < len → refusal_after len its_len last ≡ Some (CutOff len its_len)
cut_off_by len its_len last short = grind (arith, nat_tests)

accepted_by : (len its_len last : ℕ) → len ≤ its_len → last ≡ len → refusal_after len its_len last ≡ None
accepted_by len its_len last whole same = grind (arith, nat_tests)

differs_by : (len its_len last : ℕ) → len ≤ its_len → (last ≡ len → ⊥) → refusal_after len its_len last ≡ Some (LastLength len last)
differs_by len its_len last whole differs = grind (arith, nat_tests)

pub cut_off_short : (section : ByteOrder) (first more : List ℕ) (required its_len : ℕ) → 12 ≤ length first
    → block_header_refusal section first ≡ None → block_refusal section (first ++ more) ≡ Some (CutOff required its_len)
    → length (first ++ more) < block_len section first
cut_off_short section first more required its_len within accepted refused =
    short_by (block_len section first) (length (first ++ more)) _ required its_len
    (sym (refused_by section first more within accepted) ∙ refused)

-- ---- an error other than a block that is cut off remains the error with more bytes after the block

abbrev IsComplete : BlockError → Type 0
IsComplete error = (required len : ℕ) → error ≡ CutOff required len → ⊥

pub refused_more : (section : ByteOrder) (first more : List ℕ) (error : BlockError) → IsComplete error
    → block_refusal section first ≡ Some error → block_refusal section (first ++ more) ≡ Some error
refused_more section first more error complete refused =
    let within : 12 ≤ length first = grind (arith, nat_tests) in
    grind (
      arith,
      nat_tests,
      block_header_refusal_front section first more within,
      block_len_front section first more within,
      last_len_front section first more (block_len section first) within,
      length-append first more,
      complete (block_len section first) (length first),
    )

-- ---- the next item

-- the reader is at its end if the error is a block that is cut off
pub last_by : (still_left : Option (List ℕ)) (error : BlockError) → ((required len : ℕ) → error ≡ CutOff required len → IsAtEnd still_left)
    → IsLastBlock (Refused error) still_left
last_by still_left error at_end = grind arith

-- the next item is the error of refused bytes
abbrev pub refused_after : (section : ByteOrder) (first bytes : List ℕ) (left still_left : Option (List ℕ)) (buffer : List ℕ)
    (error : BlockError)
    → Consumes left still_left bytes → 1 ≤ length (first ++ bytes) → block_refusal section (first ++ bytes) ≡ Some error
    → ((required len : ℕ) → error ≡ CutOff required len → IsAtEnd still_left)
    → ReadsAfter section first left still_left buffer (Refused error)
refused_after section first bytes left still_left buffer error consumed some refused at_end = record {
  bytes = bytes;
  consumed = consumed;
  is_next = ((λ none. omega (arith, ap length none, some)), refused);
  is_last = last_by still_left error at_end;
}

-- the next item is the error of refused first bytes
pub refused_first : (section : ByteOrder) (first : List ℕ) (left : Option (List ℕ)) (buffer : List ℕ) (error : BlockError)
    → AreFirst first left → 1 ≤ length first → block_header_refusal section first ≡ Some error
    → ReadsAfter section first left left buffer (Refused error)
refused_first section first left buffer error are some refused =
    refused_after section first [] left left buffer error (Consumes-nil left) (grind (arith, append-nil))
    (grind (arith, nat_tests, append-nil))
    (λ required len is. are.1 (grind (arith, nat_tests)))

-- a whole block is read from its first bytes and the bytes after them
pub whole_block : (section : ByteOrder) (first more : List ℕ) → 12 ≤ length first → length (first ++ more) ≤ block_len section first
    → block_refusal section (first ++ more) ≡ None → IsBlock section (first ++ more) × (length (first ++ more) ≡ block_len section first)
whole_block section first more within most accepted =
    grind (arith, nat_tests, begins_with, block_len_front, take_all)

-- ---- a block that is skipped

-- a number after other bytes is the number in the bytes themselves
be_number_back : (count : ℕ) (first more : List ℕ) (place from : ℕ) → place ≡ length first + from
    → be_number (first ++ more) place count ≡ be_number more from count
be_number_back zero first more place from is = refl
be_number_back (suc count) first more place from is =
    grind (arith, be_number_back count first more place from is, get_or-append_right first more (length first) (place + count) 0)

le_number_back : (count : ℕ) (first more : List ℕ) (place from : ℕ) → place ≡ length first + from
    → le_number (first ++ more) place count ≡ le_number more from count
le_number_back zero first more place from is = refl
le_number_back (suc count) first more place from is =
    grind (arith, le_number_back count first more place from is, get_or-append_right first more (length first) (place + count) 0)

number_at_back : (order : ByteOrder) (first more : List ℕ) (place : ℕ) → place ≡ length first
    → number_at order (first ++ more) place ≡ number_at order more 0
number_at_back order first more place is = grind (arith, be_number_back 4 first more place 0, le_number_back 4 first more place 0)

-- ---- the bytes that were read after the first bytes of a block

-- what was read after the first bytes of a block was read from the start of the block
abbrev pub with_first : (section : ByteOrder) (left middle still_left : Option (List ℕ)) (first buffer : List ℕ) (next : NextBlock)
    → Consumes left middle first → ReadsAfter section first middle still_left buffer next
    → ReadsNextBlock section left still_left buffer next
with_first section left middle still_left first buffer next consumed reads = record {
  bytes = first ++ reads.bytes;
  consumed = Consumes-trans left middle still_left first reads.bytes consumed reads.consumed;
  is_next = reads.is_next;
  is_last = reads.is_last;
}

-- the next item is a block at the front of the buffer
pub whole_after : (section : ByteOrder) (first : List ℕ) (left still_left : Option (List ℕ)) (part after : List ℕ) (header : BlockHeader)
    (len : ℕ)
    → 12 ≤ length first → header ≡ block_header section first → length part ≡ header.total_len → FillsAfter first left still_left part len
    → block_refusal section (take len (part ++ after)) ≡ None → ReadsAfter section first left still_left (part ++ after) (Whole header)
whole_after section first left still_left part after header len within is room fills accepted =
    let front : take len (part ++ after) ≡ first ++ fills.bytes = take-append-le len part after fills.within ∙ fills.whole in
    grind (arith, nat_tests, front, length-append, whole_block, block_header_front)

-- the next item is the error of the bytes at the front of the buffer
pub refused_fill : (section : ByteOrder) (first : List ℕ) (left still_left : Option (List ℕ)) (part after : List ℕ) (header : BlockHeader)
    (len : ℕ)
    (error : BlockError) → 12 ≤ length first → block_header_refusal section first ≡ None → header ≡ block_header section first
    → length part ≡ header.total_len → FillsAfter first left still_left part len
    → block_refusal section (take len (part ++ after)) ≡ Some error
    → ReadsAfter section first left still_left (part ++ after) (Refused error)
refused_fill section first left still_left part after header len error within accepted is room fills refused =
    let refuses : block_refusal section (first ++ fills.bytes) ≡ Some error =
    sym (ap (block_refusal section) (take-append-le len part after fills.within ∙ fills.whole)) ∙ refused in
    refused_after section first fills.bytes left still_left (part ++ after) error fills.consumed
    (omega (arith, length-append first fills.bytes, within)) refuses
    (λ required its_len cut.
    let short = cut_off_short section first fills.bytes required its_len within accepted (refuses ∙ ap Some cut) in
    fills.end (omega (arith, room, ap (λ h. h.total_len) is, fills.has_len, length-append first fills.bytes, short)))

-- the next item is a block without room in the buffer
pub too_long_after : (section : ByteOrder) (first bytes : List ℕ) (left still_left : Option (List ℕ)) (buffer : List ℕ)
    (header : BlockHeader)
    → 12 ≤ length first → header ≡ block_header section first → Consumes left still_left bytes → length (first ++ bytes) ≤ header.total_len
    → block_refusal section (first ++ bytes) ≡ None → length buffer < header.total_len
    → ReadsAfter section first left still_left buffer (TooLong header)
too_long_after section first bytes left still_left buffer header within is consumed most accepted room =
    grind (arith, nat_tests, whole_block, block_header_front)

-- the next item is a block that consists of its first 12 bytes, and does not fit in the buffer
pub short_too_long : (section : ByteOrder) (first : List ℕ) (left : Option (List ℕ)) (buffer : List ℕ) (header : BlockHeader)
    → length first ≡ 12 → header ≡ block_header section first → header.total_len ≡ 12 → block_refusal section first ≡ None
    → length buffer < header.total_len → ReadsAfter section first left left buffer (TooLong header)
short_too_long section first left buffer header has_len is short accepted room =
    grind (arith, nat_tests, too_long_after, Consumes-nil, append-nil)

pub short_refused : (section : ByteOrder) (first : List ℕ) (left : Option (List ℕ)) (buffer : List ℕ) (header : BlockHeader)
    (error : BlockError)
    → length first ≡ 12 → block_header_refusal section first ≡ None → header ≡ block_header section first → header.total_len ≡ 12
    → block_refusal section first ≡ Some error → ReadsAfter section first left left buffer (Refused error)
short_refused section first left buffer header error has_len accepted is short refused =
    refused_after section first [] left left buffer error (Consumes-nil left) (grind (arith, append-nil)) (grind (arith, append-nil))
    (λ required its_len cut. grind (arith, append-nil first, cut_off_short section first []))

-- the next item is the error of a block that is cut off after its header
cut_off_refusal : (section : ByteOrder) (first bytes : List ℕ) (header : BlockHeader) (len : ℕ) → 12 ≤ length first
    → block_header_refusal section first ≡ None → header ≡ block_header section first → len ≡ length (first ++ bytes)
    → len < header.total_len
    → block_refusal section (first ++ bytes) ≡ Some (CutOff header.total_len len)
cut_off_refusal section first bytes header len within accepted is has_len short =
    let total : block_len section first ≡ header.total_len = sym (ap (λ h. h.total_len) is) in
    refused_by section first bytes within accepted
    ∙ cut_off_by (block_len section first) (length (first ++ bytes)) _ (omega (arith, total, has_len, short))
    ∙ ap (λ first_len. Some (CutOff first_len (length (first ++ bytes)))) total
    ∙ ap (λ its_len. Some (CutOff header.total_len its_len)) (sym has_len)

pub cut_off_after : (section : ByteOrder) (first bytes : List ℕ) (left still_left : Option (List ℕ)) (buffer : List ℕ)
    (header : BlockHeader)
    (len : ℕ) → 12 ≤ length first → block_header_refusal section first ≡ None → header ≡ block_header section first
    → Consumes left still_left bytes → len ≡ length (first ++ bytes) → len < header.total_len → IsAtEnd still_left
    → ReadsAfter section first left still_left buffer (Refused (CutOff header.total_len len))
cut_off_after section first bytes left still_left buffer header len within accepted is consumed has_len short end =
    refused_after section first bytes left still_left buffer (CutOff header.total_len len) consumed
    (omega (arith, length-append first bytes, within)) (cut_off_refusal section first bytes header len within accepted is has_len short)
    (λ required its_len same. end)

-- ---- a read that fails within a block

-- reading failed within the first 12 bytes of a block, or before them
pub fails_at_first : (section : ByteOrder) (left still_left : Option (List ℕ)) → ReadsFewer left still_left 12
    → FailsInBlock section left still_left
fails_at_first section left still_left fails = record {
  bytes = fails.bytes;
  consumed = fails.consumed;
  required = 12;
  cut_off = grind (arith, nat_tests, fails.fewer);
}

-- no byte of a block was read
pub no_byte_read : (section : ByteOrder) (left : Option (List ℕ)) → FailsInBlock section left left
no_byte_read section left = record { bytes = []; consumed = Consumes-nil left; required = 12; cut_off = refl }

-- reading failed before the end of a block whose header is accepted
pub fails_within : (section : ByteOrder) (first : List ℕ) (left still_left : Option (List ℕ)) (header : BlockHeader) (count : ℕ)
    → 12 ≤ length first → block_header_refusal section first ≡ None → header ≡ block_header section first
    → length first + count ≤ header.total_len → ReadsFewer left still_left count → FailsAfter section first left still_left
fails_within section first left still_left header count within accepted is most fails = record {
  bytes = fails.bytes;
  consumed = fails.consumed;
  required = header.total_len;
  cut_off = cut_off_refusal section first fails.bytes header _ within accepted is refl
      (omega (arith, length-append first fails.bytes, fails.fewer, most));
}

-- a read that failed after the first bytes of a block failed within the block
abbrev pub fails_with_first : (section : ByteOrder) (left middle still_left : Option (List ℕ)) (first : List ℕ) → Consumes left middle first
    → FailsAfter section first middle still_left → FailsInBlock section left still_left
fails_with_first section left middle still_left first consumed fails = record {
  bytes = first ++ fails.bytes;
  consumed = Consumes-trans left middle still_left first fails.bytes consumed fails.consumed;
  required = fails.required;
  cut_off = fails.cut_off;
}

-- a read that failed after some bytes read fewer bytes than these and the requested bytes
pub fewer_after : (left middle still_left : Option (List ℕ)) (bytes : List ℕ) (count : ℕ) → Consumes left middle bytes
    → ReadsFewer middle still_left count → ReadsFewer left still_left (length bytes + count)
fewer_after left middle still_left bytes count consumed fails = record {
  bytes = bytes ++ fails.bytes;
  consumed = Consumes-trans left middle still_left bytes fails.bytes consumed fails.consumed;
  fewer = omega (arith, length-append bytes fails.bytes, fails.fewer);
}

-- the last total length of a block is the number in its last four bytes
last_of : (section : ByteOrder) (first middle last : List ℕ) (header : BlockHeader) (number : ℕ) → 12 ≤ length first
    → header ≡ block_header section first → length (first ++ middle) + 4 ≡ header.total_len → number ≡ number_at header.byte_order last 0
    → last_len section (first ++ (middle ++ last)) (block_len section first) ≡ number
last_of section first middle last header number within is counts ends =
    grind (arith, nat_tests, order_of_front, append_assoc, number_at_back, length-append)

-- the next item is a block without room in the buffer, given its last four bytes
pub passed_over : (section : ByteOrder) (first middle last : List ℕ) (left still_left : Option (List ℕ)) (buffer : List ℕ)
    (header : BlockHeader)
    (number : ℕ) → 12 ≤ length first → block_header_refusal section first ≡ None → header ≡ block_header section first
    → Consumes left still_left (middle ++ last) → length last ≡ 4 → length (first ++ middle) + 4 ≡ header.total_len
    → number ≡ number_at header.byte_order last 0 → number ≡ header.total_len → length buffer < header.total_len
    → ReadsAfter section first left still_left buffer (TooLong header)
passed_over section first middle last left still_left buffer header number within accepted is consumed four counts ends same room =
    let total : block_len section first ≡ header.total_len = sym (ap (λ h. h.total_len) is) in
    let whole : length (first ++ (middle ++ last)) ≡ header.total_len =
    omega (arith, counts, four, length-append first (middle ++ last), length-append middle last, length-append first middle) in
    too_long_after section first (middle ++ last) left still_left buffer header within is consumed (omega (arith, whole))
    (refused_by section first (middle ++ last) within accepted
    ∙ accepted_by (block_len section first) (length (first ++ (middle ++ last))) _ (omega (arith, total, whole))
    (last_of section first middle last header number within is counts ends ∙ same ∙ sym total)) room

pub differs_after : (section : ByteOrder) (first middle last : List ℕ) (left still_left : Option (List ℕ)) (buffer : List ℕ)
    (header : BlockHeader)
    (number : ℕ) → 12 ≤ length first → block_header_refusal section first ≡ None → header ≡ block_header section first
    → Consumes left still_left (middle ++ last) → length last ≡ 4 → length (first ++ middle) + 4 ≡ header.total_len
    → number ≡ number_at header.byte_order last 0 → (number ≡ header.total_len → ⊥)
    → ReadsAfter section first left still_left buffer (Refused (LastLength header.total_len number))
differs_after section first middle last left still_left buffer header number within accepted is consumed four counts ends differs =
    let total : block_len section first ≡ header.total_len = sym (ap (λ h. h.total_len) is) in
    let whole : length (first ++ (middle ++ last)) ≡ header.total_len =
    omega (arith, counts, four, length-append first (middle ++ last), length-append middle last, length-append first middle) in
    let is_last = last_of section first middle last header number within is counts ends in
    let refused = refused_by section first (middle ++ last) within accepted
    ∙ differs_by (block_len section first) (length (first ++ (middle ++ last))) _ (omega (arith, total, whole))
    (λ same. differs (sym is_last ∙ same ∙ total))
    ∙ ap (λ first_len. Some (LastLength first_len (last_len section (first ++ (middle ++ last)) (block_len section first)))) total
    ∙ ap (λ found. Some (LastLength header.total_len found)) is_last in
    refused_after section first (middle ++ last) left still_left buffer (LastLength header.total_len number) consumed
    (omega (arith, length-append first (middle ++ last), within)) refused (λ required its_len cut. absurd (cc cut))
