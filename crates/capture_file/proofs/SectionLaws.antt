-- The laws of a section: a block determines the section after it, and its result: one packet, no packet, or one error.
use Rattle.std.proofs.lemmas.Bool.Decides.{nat_tests}
use Rattle.std.proofs.Common.{◌≡◌, ◌≢◌, ◌⊎◌, ℕ, ◌+◌, ◌*◌, ◌^◌, ◌-◌, ◌≤◌, ◌<◌, ◌==◌, if◌then◌else◌, List, [], ◌∷◌, ◌++◌, Option, Some, None, Ok, Err, Result, arith, inl, inr, length, sym, ap, ◌∙◌, refl, length-drop, ⊎_elim}
use Rattle.std.proofs.lemmas.Bool.{cases_lt}
use Rattle.std.proofs.lemmas.List.{length-take}
use Rattle.std.proofs.lemmas.Option.{slice_get-get_or}
use Rattle.std.specs.Prelude.{drop, get_or, slice_get, slice_range}
use Rattle.capture_numbers.specs.Numbers.{number_at, short_at}
use Rattle.capture_file.specs.Packets.{packet_of_block, packet_start}
use Rattle.capture_file.specs.PcapngBody.{IsBody, body_refusal}
use Rattle.capture_numbers.specs.Blocks.{enhanced_packet_type, interface_description_type, obsolete_packet_type, section_header_type, simple_packet_type}
use Rattle.capture_file.specs.PcapngBodies.{interface_description, section_header}
use Rattle.capture_file.specs.PcapngPackets.{IsSimplePacket, IsTimedPacket, simple_end, simple_refusal, timed_refusal}
use Rattle.capture_file.specs.Sections.{Describes, TakesBlock, TakesBody, TakesUnless, max_interfaces}
use Rattle.capture_numbers.specs.declared.byte_order.ByteOrder.{ByteOrder}
use Rattle.capture_file.specs.declared.pcapng.block_body.BlockBody.{BlockBody}
use Rattle.capture_file.specs.declared.pcapng.block_body.BlockBody.TheVariants.{InterfaceDescription as Description, Other, Packet, SectionHeader}
use Rattle.capture_file.specs.declared.pcapng.block.BlockHeader.{BlockHeader}
use Rattle.capture_file.specs.declared.pcapng.errors.BodyError.{BodyError}
use Rattle.capture_file.specs.declared.pcapng.interface_description.InterfaceDescription.{InterfaceDescription}
use Rattle.capture_file.specs.declared.pcapng.block_body.PacketBlock.{PacketBlock}
use Rattle.capture_file.specs.declared.reader.captured_packet.CapturedPacket.{CapturedPacket}
use Rattle.capture_file.specs.declared.reader.packet_error.PacketError.{PacketError}
use Rattle.capture_file.specs.declared.reader.packet_error.PacketError.TheVariants.{Body, Interfaces}
use Rattle.capture_file.specs.declared.reader.pcapng_reader.Section.{Section}

-- the result of a block: a packet, no packet, or an error
abbrev pub Given : Type 0
Given = Result (Option CapturedPacket) PacketError

-- ---- an interface

-- a section is its byte order and its interfaces
abbrev pub section_of : ByteOrder → List InterfaceDescription → Section
section_of order interfaces = record { byte_order = order; interfaces = record { items = interfaces } }

-- two sections with the same byte order and interfaces are the same
pub same_section : (a b : Section) → a.byte_order ≡ b.byte_order → a.interfaces.items ≡ b.interfaces.items → a ≡ b
same_section a b order items = ap (λ o. section_of o a.interfaces.items) order ∙ ap (section_of b.byte_order) items

-- two equal interfaces lead to the same section after the block, or to the same error
same_description : (before : Section) (interface other : InterfaceDescription) (a b : Section) (s t : Given) → interface ≡ other
    → Describes before interface a s → Describes before other b t → (a ≡ b) × (s ≡ t)
same_description before interface other a b (Ok found) t same p q = grind (arith, nat_tests, same_section)
same_description before interface other a b (Err error) t same p q = grind (arith, nat_tests)

-- ---- the content of a body, by the type of its block

-- a number for each kind of body
abbrev kind : BlockBody → ℕ
kind (SectionHeader said) = 0
kind (Description said) = 1
kind (Packet packet) = 2
kind Other = 3

-- the number of the kind of body that a block of this type has
abbrev kind_by : ℕ → ℕ
kind_by type =
    if type == section_header_type then 0
    else if type == interface_description_type then 1
    else if type == enhanced_packet_type then 2
    else if type == obsolete_packet_type then 2
    else if type == simple_packet_type then 2
    else 3

-- the content of a body is of the kind of its block
kind_is : (header : BlockHeader) (interfaces : List InterfaceDescription) (body : List ℕ) (said : BlockBody)
    → IsBody header interfaces body said → kind said ≡ kind_by header.block_type
kind_is header interfaces body said is = grind (arith, nat_tests)

-- ---- a packet

-- two packets of a block have the same fields and the same captured bytes, which may be stored in different places
record SamePacket (a b : PacketBlock) : Type 0 where
  interface : a.interface ≡ b.interface
  timestamp : a.timestamp ≡ b.timestamp
  original_len : a.original_len ≡ b.original_len
  captured : a.captured.now ≡ b.captured.now

-- two packets in one body have the same fields and bytes
same_packet : (header : BlockHeader) (interfaces : List InterfaceDescription) (body : List ℕ) (a b : PacketBlock)
    → IsBody header interfaces body (Packet a) → IsBody header interfaces body (Packet b) → SamePacket a b
same_packet header interfaces body a b is is_other = grind (arith, nat_tests)

-- two captured packets of one block are equal
same_captured : (header : BlockHeader) (interface other : InterfaceDescription) (a b : PacketBlock) → interface ≡ other → SamePacket a b
    → packet_of_block header interface a ≡ packet_of_block header other b
same_captured header interface other a b same is = cc (same, is.interface, is.timestamp, is.original_len, ap length is.captured)

-- ---- a block

-- an accepted body determines the section and the result
same_taken : (before : Section) (header : BlockHeader) (body : List ℕ) (said other : BlockBody) (a b : Section) (s t : Given)
    → IsBody header before.interfaces.items body said → IsBody header before.interfaces.items body other
    → TakesBody before header said a s → TakesBody before header other b t → (a ≡ b) × (s ≡ t)
same_taken before header body (SectionHeader said) (SectionHeader other) a b s t is is_other p q =
    (same_section a b (p.1 ∙ sym q.1) (p.2 ∙ sym q.2), p.0 ∙ sym q.0)
same_taken before header body (Description said) (Description other) a b s t is is_other p q =
    same_description before said other a b s t (is.1 ∙ sym is_other.1) p q
same_taken before header body (Packet packet) (Packet other) a b s t is is_other p q =
    let same : SamePacket packet other = same_packet header before.interfaces.items body packet other is is_other in
    let interface : p.0 ≡ q.0 = cc (p.1, q.1, ap (slice_get before.interfaces.items) same.interface) in
    (p.3 ∙ sym q.3, cc (p.2, q.2, same_captured header p.0 q.0 packet other interface same))
same_taken before header body Other Other a b s t is is_other p q = (p.1 ∙ sym q.1, p.0 ∙ sym q.0)
same_taken before header body said other a b s t is is_other p q =
    absurd (omega (arith, kind_is header before.interfaces.items body said is, kind_is header before.interfaces.items body other is_other))

-- any body determines the section and the result
same_unless : (refusal : Option BodyError) (before : Section) (header : BlockHeader) (body : List ℕ) (a b : Section) (s t : Given)
    → TakesUnless refusal before header body a s → TakesUnless refusal before header body b t → (a ≡ b) × (s ≡ t)
same_unless refusal before header body a b s t p q = grind (arith, same_taken)

-- a block with this header and body determines the section after it, and the result
pub one_taken : (before : Section) (header : BlockHeader) (body : List ℕ) (a b : Section) (s t : Given) → TakesBlock before header body a s
    → TakesBlock before header body b t → (a ≡ b) × (s ≡ t)
one_taken before header body a b s t p q = same_unless (body_refusal header before.interfaces.items body) before header body a b s t p q

-- ---- the captured bytes of a packet end within its block

-- a range has no more elements than the list has after the start of the range
range_len : (body : List ℕ) (from to : ℕ) → length (slice_range body from to) ≤ length body - from
range_len body from to = omega (arith, length-take (to - from) (drop from body), length-drop from body)

-- the captured bytes of an enhanced or obsolete packet block end within its body
within_timed : (header : BlockHeader) (interface : ℕ) (body : List ℕ) (packet : PacketBlock) → packet_start header.block_type ≡ 28
    → IsTimedPacket header.byte_order interface body packet
    → length packet.captured.now ≤ 8 + length body - packet_start header.block_type
within_timed header interface body packet start is =
    omega (arith, start, ap length is.captured, range_len body 20 (20 + number_at header.byte_order body 12))

-- the captured bytes of any packet block end within its body
within_body : (header : BlockHeader) (interfaces : List InterfaceDescription) (body : List ℕ) (packet : PacketBlock)
    → IsBody header interfaces body (Packet packet)
    → length packet.captured.now ≤ 8 + length body - packet_start header.block_type
within_body header interfaces body packet (inl is) = within_timed header _ body packet (ap packet_start is.0) is.1
within_body header interfaces body packet (inr (inl is)) = within_timed header _ body packet (ap packet_start is.0) is.1
within_body header interfaces body packet (inr (inr is)) =
    omega (arith, ap packet_start is.0, ap length is.1.2.captured, range_len body 4 (simple_end header.byte_order is.1.0 body))

-- the captured bytes of a packet in an accepted body end within the body
within_taken : (before : Section) (header : BlockHeader) (body : List ℕ) (said : BlockBody) (after : Section) (packet : CapturedPacket)
    → IsBody header before.interfaces.items body said → TakesBody before header said after (Ok (Some packet))
    → packet.captured_len ≤ 8 + length body - packet.start
within_taken before header body (SectionHeader said) after packet is takes = absurd (cc takes.0)
within_taken before header body (Description said) after packet is takes = absurd (cc takes.0)
within_taken before header body (Packet said) after packet is takes = grind (arith, within_body header before.interfaces.items body said is)
within_taken before header body Other after packet is takes = absurd (cc takes.0)

-- the captured bytes of a packet in any body end within the body
within_unless : (refusal : Option BodyError) (before : Section) (header : BlockHeader) (body : List ℕ) (after : Section)
    (packet : CapturedPacket) → TakesUnless refusal before header body after (Ok (Some packet))
    → packet.captured_len ≤ 8 + length body - packet.start
within_unless refusal before header body after packet takes = grind (arith, within_taken)

-- the captured bytes of a packet in a block end within its header and body
pub packet_within : (before : Section) (header : BlockHeader) (body : List ℕ) (after : Section) (packet : CapturedPacket)
    → TakesBlock before header body after (Ok (Some packet)) → packet.captured_len ≤ 8 + length body - packet.start
packet_within before header body after packet takes =
    within_unless (body_refusal header before.interfaces.items body) before header body after packet takes

-- ---- any block has a result for any section

-- a statement holds if it holds for equal numbers and for different numbers
by_type : {X : Type 0} (a b : ℕ) → (a ≡ b → X) → (a ≢ b → X) → X
by_type a b same other =
    ⊎_elim same other (let either : (a ≡ b) ⊎ (a ≢ b) = grind (arith, nat_tests) in either)

-- there is a section after the block, and a result
abbrev TakenUnless : Option BodyError → Section → BlockHeader → List ℕ → Type 0
TakenUnless refusal before header body = (after : Section) × (given : Given) × TakesUnless refusal before header body after given

-- an interface is added to the section, or the section has no room for it
described : (before : Section) (header : BlockHeader) (body : List ℕ) → header.block_type ≡ interface_description_type
    → TakenUnless None before header body
described before header body is =
    let interface : InterfaceDescription = interface_description header.byte_order body in
    let items : List InterfaceDescription = before.interfaces.items in
    ⊎_elim
    (λ room. (
      section_of before.byte_order (items ++ interface ∷ []),
      Ok None,
      (Description interface, (is, refl), (refl, room, refl, refl)),
    ))
    (λ full. (before, Err (Interfaces max_interfaces), (Description interface, (is, refl), (refl, full, refl))))
    (cases_lt (length items) max_interfaces)

-- a place within a list has an element
got : {X : Type 0} (items : List X) (place : ℕ) → place < length items → (item : X) × (slice_get items place ≡ Some item)
got [] place within = absurd (omega (arith, within))
got (item ∷ items) place within = (get_or (item ∷ items) place item, slice_get-get_or (item ∷ items) place item within)

-- a packet block has a result if the interface of its packet exists
packet_taken : (before : Section) (header : BlockHeader) (body : List ℕ) (packet : PacketBlock)
    → IsBody header before.interfaces.items body (Packet packet) → packet.interface < length before.interfaces.items
    → TakenUnless None before header body
packet_taken before header body packet is there =
    let (interface, is_interface) = got before.interfaces.items packet.interface there in
    (before, Ok (Some (packet_of_block header interface packet)), (Packet packet, is, (interface, is_interface, refl, refl)))

-- the packet of an enhanced or obsolete packet block
abbrev timed_packet : ByteOrder → ℕ → List ℕ → PacketBlock
timed_packet order interface body = record {
  interface = interface;
  timestamp = Some (number_at order body 4 * 2 ^ 32 + number_at order body 8);
  original_len = number_at order body 16;
  captured = record { ref_ptr = (0, 0); now = slice_range body 20 (20 + number_at order body 12) };
}

is_timed : (order : ByteOrder) (interface : ℕ) (body : List ℕ) → IsTimedPacket order interface body (timed_packet order interface body)
is_timed order interface body = record { of_interface = refl; timestamp = refl; original_len = refl; captured = refl }

-- the interface of an accepted packet exists
timed_there : (order : ByteOrder) (interface count : ℕ) (body : List ℕ) → timed_refusal order interface count body ≡ None
    → interface < count
timed_there order interface count body none = grind (arith, nat_tests)

-- an accepted simple packet block contains a packet
simple_taken : (interfaces : List InterfaceDescription) (order : ByteOrder) (body : List ℕ) → simple_refusal order interfaces body ≡ None
    → (packet : PacketBlock) × IsSimplePacket order interfaces body packet × (packet.interface < length interfaces)
simple_taken [] order body none = absurd (grind (arith, nat_tests))
simple_taken (interface ∷ interfaces) order body none = (
  record {
    interface = 0;
    timestamp = None;
    original_len = number_at order body 0;
    captured = record { ref_ptr = (0, 0); now = slice_range body 4 (simple_end order interface.snap_len body) };
  },
  (interface.snap_len, refl, record { of_interface = refl; timestamp = refl; original_len = refl; captured = refl }),
  omega arith,
)

-- a block of this type
abbrev of_type : BlockHeader → ℕ → BlockHeader
of_type header type = record { byte_order = header.byte_order; block_type = type; total_len = header.total_len }

-- an accepted body is also accepted in a block with the same type
refusal_of_type : (header : BlockHeader) (type : ℕ) (interfaces : List InterfaceDescription) (body : List ℕ) → header.block_type ≡ type
    → body_refusal header interfaces body ≡ None → body_refusal (of_type header type) interfaces body ≡ None
refusal_of_type header type interfaces body is none = cc

-- a block with an accepted body has a result and a section after it
accepted_taken : (before : Section) (header : BlockHeader) (body : List ℕ) → body_refusal header before.interfaces.items body ≡ None
    → TakenUnless None before header body
accepted_taken before header body none =
    let order = header.byte_order in
    let items = before.interfaces.items in
    by_type header.block_type section_header_type
    (λ section. (section_of order [], Ok None, (SectionHeader (section_header order body), (section, refl), (refl, refl, refl))))
    (λ no_section. by_type header.block_type interface_description_type (λ description. described before header body description)
    (λ no_description. by_type header.block_type enhanced_packet_type
    (λ enhanced.
    packet_taken before header body (timed_packet order (number_at order body 0) body)
    (inl (enhanced, is_timed order (number_at order body 0) body))
    (timed_there order (number_at order body 0) (length items) body (refusal_of_type header enhanced_packet_type items body enhanced none)))
    (λ no_enhanced. by_type header.block_type obsolete_packet_type
    (λ obsolete.
    packet_taken before header body (timed_packet order (short_at order body 0) body)
    (inr (inl (obsolete, is_timed order (short_at order body 0) body)))
    (timed_there order (short_at order body 0) (length items) body (refusal_of_type header obsolete_packet_type items body obsolete none)))
    (λ no_obsolete. by_type header.block_type simple_packet_type
    (λ simple.
    let (packet, is, there) = simple_taken items order body (refusal_of_type header simple_packet_type items body simple none) in
    packet_taken before header body packet (inr (inr (simple, is))) there)
    (λ no_simple. (before, Ok None, (Other, (no_section, no_description, no_enhanced, no_obsolete, no_simple), (refl, refl))))))))

-- a block with any body has a result and a section after it
taken_unless : (refusal : Option BodyError) (before : Section) (header : BlockHeader) (body : List ℕ)
    → body_refusal header before.interfaces.items body ≡ refusal → TakenUnless refusal before header body
taken_unless (Some error) before header body is = (before, Err (Body error), (refl, refl))
taken_unless None before header body is = accepted_taken before header body is

-- each section and each block have a result and a section after the block
pub there_is_taken : (before : Section) (header : BlockHeader) (body : List ℕ)
    → (after : Section) × (given : Given) × TakesBlock before header body after given
there_is_taken before header body = taken_unless (body_refusal header before.interfaces.items body) before header body refl
