-- Laws of the packets of a pcapng file as a fold over its blocks: the bytes of a block, and the result of one block.
use Rattle.std.proofs.lemmas.Bool.Decides.{nat_tests}
use Rattle.std.proofs.Common.{◌≡◌, ◌≢◌, ℕ, suc, true, ◌+◌, ◌-◌, ◌^◌, ◌<◌, List, [], ◌∷◌, ◌++◌, Option, Some, None, Ok, Err, Result, arith, inl, inr, length, take, drop, refl, sym, ap, ◌∙◌, subst, append_assoc, take-append-drop, ⊎_elim}
use Rattle.std.proofs.lemmas.Bool.{cases_lt}
use Rattle.std.proofs.lemmas.List.{drop-drop, drop-take, drop_all, get_or_append_left, get_or_past, length-take, take_at}
use Rattle.std.specs.Prelude.{slice_get, slice_range}
use Rattle.net_base.specs.Bytes.{IsBytes, be_number}
use Rattle.capture_file.proofs.SectionLaws.{Given}
use Rattle.capture_file.specs.CapturePackets.{FilePacket, packet_in}
use Rattle.capture_numbers.specs.Numbers.{number_at, short_at}
use Rattle.capture_file.specs.Packets.{packet_of_block, packet_start}
use Rattle.capture_file.specs.PacketsOfBlocks.{interfaces_after, simple_packet, timed_packet, whole_result}
use Rattle.capture_file.specs.Pcapng.{is_section_header, order_of}
use Rattle.capture_file.specs.PcapngBodies.{interface_description, section_header_refusal}
use Rattle.capture_file.specs.PcapngBody.{IsBody, body_refusal}
use Rattle.capture_numbers.specs.Blocks.{interface_description_type, section_header_type}
use Rattle.capture_file.specs.PcapngPackets.{IsSimplePacketOf, IsTimedPacket, captured_len}
use Rattle.capture_file.specs.Sections.{Describes, TakesBlock, TakesBody, TakesUnless, max_interfaces}
use Rattle.capture_numbers.specs.declared.byte_order.ByteOrder.{ByteOrder}
use Rattle.capture_numbers.specs.declared.byte_order.ByteOrder.TheVariants.{BigEndian, LittleEndian}
use Rattle.capture_file.specs.declared.pcapng.block.BlockHeader.{BlockHeader}
use Rattle.capture_file.specs.declared.pcapng.block_body.BlockBody.{BlockBody}
use Rattle.capture_file.specs.declared.pcapng.block_body.BlockBody.TheVariants.{InterfaceDescription as Description, Other, Packet, SectionHeader}
use Rattle.capture_file.specs.declared.pcapng.block_body.PacketBlock.{PacketBlock}
use Rattle.capture_file.specs.declared.pcapng.errors.BodyError.{BodyError}
use Rattle.capture_file.specs.declared.pcapng.interface_description.InterfaceDescription.{InterfaceDescription}
use Rattle.capture_file.specs.declared.reader.captured_packet.CapturedPacket.{CapturedPacket}
use Rattle.capture_file.specs.declared.reader.next_packet.NextPacket.TheVariants as packets
use Rattle.capture_file.specs.declared.reader.packet_error.PacketError.{PacketError}
use Rattle.capture_file.specs.declared.reader.packet_error.PacketError.TheVariants.{Body, Interfaces}
use Rattle.capture_file.specs.declared.reader.pcapng_reader.Section.{Section}

-- ---- bytes

-- if bytes are bytes, so are their first bytes, and so are the bytes after them
pub bytes_front : (first more : List ℕ) → IsBytes (first ++ more) → IsBytes first
bytes_front first more fits = λ place.
    ⊎_elim
    (λ before. subst (λ byte. byte < 256) (get_or_append_left first more 0 place before) (fits place))
    (λ past. subst (λ byte. byte < 256) (sym (get_or_past first place 0 past)) (omega arith))
    (cases_lt place (length first))

pub bytes_after : (first more : List ℕ) → IsBytes (first ++ more) → IsBytes more
bytes_after [] more fits = fits
bytes_after (byte ∷ first) more fits = bytes_after first more (λ place. fits (suc place))

-- a number of four bytes is below 2^32
pub number_below : (order : ByteOrder) (bytes : List ℕ) → IsBytes bytes → number_at order bytes 4 < 2 ^ 32
number_below BigEndian bytes fits = omega (arith, fits 4, fits 5, fits 6, fits 7)
number_below LittleEndian bytes fits = omega (arith, fits 4, fits 5, fits 6, fits 7)

-- the type of a section header block is the same number in both byte orders
pub both_orders : (bytes : List ℕ) (order : ByteOrder) → IsBytes bytes → be_number bytes 0 4 ≡ 168627466
    → number_at order bytes 0 ≡ 168627466
both_orders bytes BigEndian fits is = is
both_orders bytes LittleEndian fits is = omega (arith, is, fits 0, fits 1, fits 2, fits 3)

-- a block of another type is in the byte order of its section
pub same_order : (section : ByteOrder) (block : List ℕ) → IsBytes block
    → (number_at (order_of section block) block 0 ≢ section_header_type) → order_of section block ≡ section
same_order section block fits other = grind (arith, nat_tests, both_orders block (order_of section block) fits)

-- ---- a part of a part of some bytes

-- the first bytes without those before `start`
drop_front : (start len : ℕ) (bytes : List ℕ) → drop start (take len bytes) ≡ take (len - start) (drop start bytes)
drop_front start len bytes =
    ⊎_elim
    (λ short.
    let none : drop start (take len bytes) ≡ [] = drop_all start (take len bytes) (omega (arith, short, length-take len bytes)) in
    let zero_left : len - start ≡ 0 = omega (arith, short) in
    none ∙ sym (ap (λ k. take k (drop start bytes)) zero_left))
    (λ long.
    let whole : len ≡ start + (len - start) = omega (arith, long) in
    ap (λ k. drop start (take k bytes)) whole ∙ drop-take start (len - start) bytes)
    (cases_lt len start)

-- a part of the body of a block is in front of the buffer at its place, if the body is
pub part_of_body : (buffer : List ℕ) (from to start len : ℕ)
    → slice_range buffer (from + start) (from + start + length (slice_range (slice_range buffer from to) start (start + len)))
    ≡ slice_range (slice_range buffer from to) start (start + len)
part_of_body buffer from to start len =
    let front : List ℕ = take (to - from - start) (drop (from + start) buffer) in
    let dropped : drop start (slice_range buffer from to) ≡ front =
    drop_front start (to - from) (drop from buffer) ∙ ap (take (to - from - start)) (drop-drop start from buffer) in
    let part : List ℕ = slice_range (slice_range buffer from to) start (start + len) in
    let is_len : start + len - start ≡ len = omega arith in
    let is_part : part ≡ take len front = ap (λ k. take k (drop start (slice_range buffer from to))) is_len ∙ ap (take len) dropped in
    let rest : List ℕ = drop len front ++ drop (to - from - start) (drop (from + start) buffer) in
    let whole : drop (from + start) buffer ≡ part ++ rest =
    sym (take-append-drop (to - from - start) (drop (from + start) buffer))
    ∙ ap (λ l. l ++ drop (to - from - start) (drop (from + start) buffer)) (sym (take-append-drop len front))
    ∙ append_assoc (take len front) (drop len front) (drop (to - from - start) (drop (from + start) buffer))
    ∙ sym (ap (λ l. l ++ rest) is_part) in
    let count : from + start + length part - (from + start) ≡ length part = omega arith in
    ap (λ k. take k (drop (from + start) buffer)) count ∙ ap (take (length part)) whole ∙ take_at part rest (length part) refl

-- ---- a section header block

-- the number in the first four bytes of a section header block
pub section_number : (block : List ℕ) → is_section_header block ≡ true → be_number block 0 4 ≡ 168627466
section_number block is = grind (arith, nat_tests)

pub section_accepted : (header : BlockHeader) (interfaces : List InterfaceDescription) (body : List ℕ)
    → header.block_type ≡ section_header_type → section_header_refusal header.byte_order body ≡ None
    → body_refusal header interfaces body ≡ None
section_accepted header interfaces body is none = grind (arith, nat_tests)

pub section_result : (header : BlockHeader) (interfaces : List InterfaceDescription) (body : List ℕ)
    → header.block_type ≡ section_header_type → body_refusal header interfaces body ≡ None → whole_result header interfaces body ≡ Ok None
section_result header interfaces body is none = grind (arith, nat_tests)

pub section_clears : (header : BlockHeader) (interfaces : List InterfaceDescription) (body : List ℕ)
    → header.block_type ≡ section_header_type → interfaces_after header interfaces body ≡ []
section_clears header interfaces body is = grind (arith, nat_tests)

-- ---- the result of a block for which the buffer has room

-- the section after a block is as the fold states it
abbrev pub IsAfter : BlockHeader → List InterfaceDescription → List ℕ → Section → Type 0
IsAfter header interfaces body after =
    (after.byte_order ≡ header.byte_order) × (after.interfaces.items ≡ interfaces_after header interfaces body)

-- the reader takes a block with this result of the fold
abbrev pub IsTaken : BlockHeader → List InterfaceDescription → List ℕ → List ℕ → Given → Section
    → Result (Option FilePacket) PacketError → Type 0
IsTaken header interfaces body buffer given after (Err error) = given ≡ Err error
IsTaken header interfaces body buffer given after (Ok None) = (given ≡ Ok None) × IsAfter header interfaces body after
IsTaken header interfaces body buffer given after (Ok (Some packet)) =
    (found : CapturedPacket) × (given ≡ Ok (Some found)) × (packet_in buffer (packets.Whole found) ≡ Some packet)
    × IsAfter header interfaces body after

module _ (before : Section) (header : BlockHeader) (body buffer : List ℕ)
    (same : header.block_type ≢ section_header_type → header.byte_order ≡ before.byte_order)
    (at : (start len : ℕ)
    → slice_range buffer (8 + start) (8 + start + length (slice_range body start (start + len)))
    ≡ slice_range body start (start + len)) where
  abbrev After : Section → Type 0
  After after = IsAfter header before.interfaces.items body after

  abbrev Taken : Given → Section → Result (Option FilePacket) PacketError → Type 0
  Taken given after result = IsTaken header before.interfaces.items body buffer given after result

  abbrev result : Result (Option FilePacket) PacketError
  result = whole_result header before.interfaces.items body

  taken_section : (after : Section) (given : Given) → header.block_type ≡ section_header_type
      → body_refusal header before.interfaces.items body ≡ None → given ≡ Ok None → after.byte_order ≡ header.byte_order
      → after.interfaces.items ≡ [] → Taken given after result
  taken_section after given is accepted none order items =
      subst (Taken given after) (sym (section_result header before.interfaces.items body is accepted))
      (none, (order, items ∙ sym (section_clears header before.interfaces.items body is)))

  taken_description : (after : Section) (given : Given) (interface : InterfaceDescription)
      → header.block_type ≡ interface_description_type → body_refusal header before.interfaces.items body ≡ None
      → interface ≡ interface_description header.byte_order body → Describes before interface after given → Taken given after result
  taken_description after (Ok found) interface is accepted described takes =
      let nothing : result ≡ Ok None = grind (arith, nat_tests) in
      subst (Taken (Ok found) after) (sym nothing) (ap Ok takes.0, (grind (arith, nat_tests), grind (arith, nat_tests)))
  taken_description after (Err error) interface is accepted described takes =
      let refused : result ≡ Err (Interfaces max_interfaces) = grind (arith, nat_tests) in
      subst (Taken (Err error) after) (sym refused) (ap Err takes.2)

  -- a packet block leaves the section unchanged
  after_packet : (after : Section) → header.block_type ≢ section_header_type → header.block_type ≢ interface_description_type
      → after ≡ before → After after
  after_packet after section description unchanged = grind (arith, nat_tests, same section)

  -- the reader takes an enhanced or obsolete packet block with the result of the fold; its packet has this interface
  taken_timed : (after : Section) (given : Given) (interface : InterfaceDescription) (packet : PacketBlock) (number : ℕ)
      → packet_start header.block_type ≡ 28 → IsTimedPacket header.byte_order number body packet
      → given ≡ Ok (Some (packet_of_block header interface packet)) → After after
      → Taken given after (Ok (Some (timed_packet header body number interface)))
  taken_timed after given interface packet number start is gives unchanged = (
    packet_of_block header interface packet,
    gives,
    grind (arith, start, is.of_interface, is.captured, is.timestamp, is.original_len, at 20 (number_at header.byte_order body 12)),
    unchanged,
  )

  taken_simple : (after : Section) (given : Given) (interface : InterfaceDescription) (packet : PacketBlock)
      → packet_start header.block_type ≡ 12 → IsSimplePacketOf header.byte_order interface.snap_len body packet
      → given ≡ Ok (Some (packet_of_block header interface packet)) → After after
      → Taken given after (Ok (Some (simple_packet header body interface)))
  taken_simple after given interface packet start is gives unchanged = (
    packet_of_block header interface packet,
    gives,
    let len = captured_len (number_at header.byte_order body 0) interface.snap_len in
        grind (arith, start, is.of_interface, is.captured, is.timestamp, is.original_len, at 4 len),
    unchanged,
  )

  -- the reader takes a packet block with the result of the fold; its packet has this interface
  taken_packet : (after : Section) (given : Given) (interface : InterfaceDescription) (packet : PacketBlock)
      → body_refusal header before.interfaces.items body ≡ None → IsBody header before.interfaces.items body (Packet packet)
      → slice_get before.interfaces.items packet.interface ≡ Some interface
      → given ≡ Ok (Some (packet_of_block header interface packet)) → after ≡ before → Taken given after result
  taken_packet after given interface packet accepted (inl is) found gives unchanged =
      let gives_packet : result ≡ Ok (Some (timed_packet header body (number_at header.byte_order body 0) interface)) =
      grind (arith, nat_tests, is.1.of_interface) in
      subst (Taken given after) (sym gives_packet)
      (taken_timed after given interface packet _ (ap packet_start is.0) is.1 gives
      (after_packet after (λ section. cc (is.0, section)) (λ description. cc (is.0, description)) unchanged))
  taken_packet after given interface packet accepted (inr (inl is)) found gives unchanged =
      let gives_packet : result ≡ Ok (Some (timed_packet header body (short_at header.byte_order body 0) interface)) =
      grind (arith, nat_tests, is.1.of_interface) in
      subst (Taken given after) (sym gives_packet)
      (taken_timed after given interface packet _ (ap packet_start is.0) is.1 gives
      (after_packet after (λ section. cc (is.0, section)) (λ description. cc (is.0, description)) unchanged))
  taken_packet after given interface packet accepted (inr (inr is)) found gives unchanged =
      let (snap_len, first, is_packet) = is.1 in
      let first_found : slice_get before.interfaces.items 0 ≡ Some interface =
      ap (slice_get before.interfaces.items) (sym is_packet.of_interface) ∙ found in
      let snap : snap_len ≡ interface.snap_len = grind (arith, first, first_found) in
      let gives_packet : result ≡ Ok (Some (simple_packet header body interface)) = grind (arith, nat_tests, first_found) in
      subst (Taken given after) (sym gives_packet)
      (taken_simple after given interface packet (ap packet_start is.0)
      (subst (λ len. IsSimplePacketOf header.byte_order len body packet) snap is_packet) gives
      (after_packet after (λ section. cc (is.0, section)) (λ description. cc (is.0, description)) unchanged))

  -- the reader takes a block with an accepted body with the result of the fold
  taken_accepted : (said : BlockBody) (after : Section) (given : Given) → body_refusal header before.interfaces.items body ≡ None
      → IsBody header before.interfaces.items body said → TakesBody before header said after given → Taken given after result
  taken_accepted (SectionHeader said) after given accepted is takes = taken_section after given is.0 accepted takes.0 takes.1 takes.2
  taken_accepted (Description interface) after given accepted is takes = taken_description after given interface is.0 accepted is.1 takes
  taken_accepted (Packet packet) after given accepted is takes =
      taken_packet after given takes.0 packet accepted is takes.1 takes.2 takes.3
  taken_accepted Other after given accepted is takes =
      let nothing : result ≡ Ok None = grind (arith, nat_tests) in
      subst (Taken given after) (sym nothing) (takes.0, after_packet after is.0 is.1 takes.1)

  -- the reader takes a block with any body with the result of the fold
  taken_unless : (refusal : Option BodyError) (after : Section) (given : Given) → body_refusal header before.interfaces.items body ≡ refusal
      → TakesUnless refusal before header body after given → Taken given after result
  taken_unless (Some error) after given refused takes =
      let refuses : result ≡ Err (Body error) = grind (arith, nat_tests) in
      subst (Taken given after) (sym refuses) takes.0
  taken_unless None after given accepted takes = taken_accepted takes.0 after given accepted takes.1 takes.2

  pub is_taken : (after : Section) (given : Given) → TakesBlock before header body after given
      → IsTaken header before.interfaces.items body buffer given after (whole_result header before.interfaces.items body)
  is_taken after given takes = taken_unless (body_refusal header before.interfaces.items body) after given refl takes
