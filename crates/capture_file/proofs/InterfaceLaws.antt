-- The texts of an interface are the texts of the block that describes the interface.
use Rattle.std.proofs.lemmas.Bool.Decides.{nat_tests}
use Rattle.std.proofs.Common.{◌≡◌, ◌≢◌, ◌≤◌, ◌<◌, ◌==◌, ◌||◌, ◌∙◌, ℕ, zero, suc, Bool, true, false, List, [], ◌∷◌, ◌++◌, Err, None, Ok, Option, Result, Some, ap, arith, drop, if◌then◌else◌, length, map, refl, subst, sym, take}
use Rattle.std.proofs.lemmas.List.{length-map, map-append}
use Rattle.std.specs.Prelude.{◌-◌, nat_lt, slice_get, slice_range}
use Rattle.net_base.specs.Bytes.{IsBytes}
use Rattle.capture_numbers.specs.Blocks.{enhanced_packet_type, interface_description_len, interface_description_type, obsolete_packet_type, section_header_len, section_header_type, simple_packet_type}
use Rattle.capture_numbers.specs.Numbers.{number_at}
use Rattle.capture_numbers.specs.declared.byte_order.ByteOrder.{ByteOrder}
use Rattle.capture_file.specs.Texts.{interface_added, interface_statistics, interface_statistics_len, interface_statistics_type, max_interfaces_with_texts, no_comments, no_texts, packet_added, packet_options, section_begun, statistics_added, texts_after, with_statistics}
use Rattle.capture_file.specs.declared.file_texts.FileTexts.{FileTexts}
use Rattle.capture_file.specs.declared.interface_statistics.InterfaceStatistics.{InterfaceStatistics}
use Rattle.capture_file.specs.declared.file_texts.InterfaceTexts.{InterfaceTexts}
use Rattle.capture_file.proofs.PacketsOfBlocksLaws.{FirstBlock, first_block}
use Rattle.capture_file.proofs.PacketsOfBlocksLemmas.{both_orders, bytes_front, section_number}
use Rattle.capture_numbers.specs.declared.byte_order.ByteOrder.TheVariants.{BigEndian}
use Rattle.capture_file.specs.BlockTexts.{noted, texts_with, unless_refused}
use Rattle.capture_file.specs.CapturePackets.{Begins, FilePacket, ReadsOne, ReadsPackets}
use Rattle.capture_file.specs.Interfaces.{Description, HasOwnTexts, KeepsOwnTexts, description_of, texts_of, without_statistics}
use Rattle.capture_file.specs.Pcapng.{block_header, order_of}
use Rattle.capture_file.specs.PcapngBodies.{interface_description}
use Rattle.capture_file.specs.PacketsOfBlocks.{body_of}
use Rattle.capture_file.specs.PcapngBody.{IsBody, body_refusal}
use Rattle.capture_file.specs.PcapngSteps.{IsStep, PassesBlocks, ReadsStep, next_by_taken}
use Rattle.capture_file.specs.Sections.{TakesBody, TakesUnless}
use Rattle.capture_file.specs.declared.pcapng.block.BlockHeader.{BlockHeader}
use Rattle.capture_file.specs.declared.pcapng.block_body.BlockBody.{BlockBody}
use Rattle.capture_file.specs.declared.pcapng.block_body.BlockBody.TheVariants as bodies
use Rattle.capture_file.specs.declared.pcapng.errors.BodyError.{BodyError}
use Rattle.capture_file.specs.declared.pcapng.interface_description.InterfaceDescription.{InterfaceDescription}
use Rattle.capture_file.specs.declared.pcapng.read.NextBlock.{NextBlock}
use Rattle.capture_file.specs.declared.pcapng.read.NextBlock.TheVariants.{End, Refused, TooLong, Whole}
use Rattle.capture_file.specs.declared.reader.capture_reader.CaptureReader.{CaptureReader}
use Rattle.capture_file.specs.declared.reader.capture_reader.CaptureReader.TheVariants.{Classic, Pcapng}
use Rattle.capture_file.specs.declared.reader.captured_packet.CapturedPacket.{CapturedPacket}
use Rattle.capture_file.specs.declared.reader.next_packet.NextPacket.{NextPacket}
use Rattle.capture_file.specs.declared.reader.packet_error.PacketError.{PacketError}
use Rattle.capture_file.specs.declared.reader.pcapng_reader.PcapngReader.{PcapngReader}

-- ---- the texts of one more interface

-- the texts of the first interfaces, at most 32
abbrev kept : List InterfaceTexts → List InterfaceTexts
kept texts = take max_interfaces_with_texts texts

-- if all texts are kept, the texts of one more interface follow them
more_below : (limit : ℕ) (texts : List InterfaceTexts) (one : InterfaceTexts) → length (take limit texts) < limit
    → take limit (texts ++ one ∷ []) ≡ take limit texts ++ one ∷ []
more_below zero texts one below = absurd (omega (arith, below))
more_below (suc zero) [] one below = refl
more_below (suc (suc limit)) [] one below = refl
more_below (suc limit) (first ∷ texts) one below = ap (λ t. first ∷ t) (more_below limit texts one (omega (arith, below)))

-- if the maximum number of texts is kept, the texts of one more interface are left out
more_above : (limit : ℕ) (texts : List InterfaceTexts) (one : InterfaceTexts) → limit ≤ length (take limit texts)
    → take limit (texts ++ one ∷ []) ≡ take limit texts
more_above zero texts one above = refl
more_above (suc limit) [] one above = absurd (omega (arith, above))
more_above (suc limit) (first ∷ texts) one above = ap (λ t. first ∷ t) (more_above limit texts one (omega (arith, above)))

-- the texts of one more interface are kept if there is room
more_kept : (texts : List InterfaceTexts) (one : InterfaceTexts)
    → kept (texts ++ one ∷ []) ≡ (if nat_lt (length (kept texts)) max_interfaces_with_texts then kept texts ++ one ∷ [] else kept texts)
more_kept texts one =
    grind (arith, nat_tests, more_below max_interfaces_with_texts texts one, more_above max_interfaces_with_texts texts one)

-- new statistics of an interface change no text
same_texts : (interfaces : List InterfaceTexts) (number : ℕ) (statistics : InterfaceStatistics)
    → map without_statistics (with_statistics interfaces number statistics (slice_get interfaces number)) ≡ map without_statistics interfaces
same_texts [] number statistics = refl
same_texts (texts ∷ interfaces) zero statistics = refl
same_texts (texts ∷ interfaces) (suc number) statistics =
    others (slice_get interfaces number) (same_texts interfaces number statistics)
  where
    others : (found : Option InterfaceTexts)
        → map without_statistics (with_statistics interfaces number statistics found) ≡ map without_statistics interfaces
        → map without_statistics (with_statistics (texts ∷ interfaces) (suc number) statistics found)
        ≡ map without_statistics (texts ∷ interfaces)
    others None same = refl
    others (Some found) same = ap (λ t. without_statistics texts ∷ t) same

statistics_same : (order : ByteOrder) (body : List ℕ) (before : FileTexts)
    → map without_statistics (statistics_added order body before).interfaces.items ≡ map without_statistics before.interfaces.items
statistics_same order body before = by_length (nat_lt (length body) interface_statistics_len)
  where
    number : ℕ
    number = number_at order body 0

    statistics : InterfaceStatistics
    statistics = interface_statistics order (drop interface_statistics_len body)

    changed : List InterfaceTexts
    changed = with_statistics before.interfaces.items number statistics (slice_get before.interfaces.items number)

    by_length : (short : Bool)
        → map without_statistics (if short then before else record before { interfaces = record { items = changed } }).interfaces.items
        ≡ map without_statistics before.interfaces.items
    by_length true = refl
    by_length false = same_texts before.interfaces.items number statistics

-- the texts after a section header block are those of no interface
texts_begun : (order : ByteOrder) (type : ℕ) (body : List ℕ) (before : FileTexts) → type ≡ section_header_type
    → map without_statistics (texts_after order type body before).interfaces.items ≡ []
texts_begun order type body before is =
    subst (λ t. map without_statistics (texts_after order t body before).interfaces.items ≡ []) (sym is) refl

-- one of four texts
one_of_four : (a b c : Bool) (w x y z : FileTexts) (items : List InterfaceTexts) → map without_statistics w.interfaces.items ≡ items
    → map without_statistics x.interfaces.items ≡ items → map without_statistics y.interfaces.items ≡ items
    → map without_statistics z.interfaces.items ≡ items
    → map without_statistics (if a then w else (if b then x else (if c then y else z))).interfaces.items ≡ items
one_of_four true b c w x y z items is-w is-x is-y is-z = is-w
one_of_four false true c w x y z items is-w is-x is-y is-z = is-x
one_of_four false false true w x y z items is-w is-x is-y is-z = is-y
one_of_four false false false w x y z items is-w is-x is-y is-z = is-z

-- a block of another type changes no text of an interface
others_same : (order : ByteOrder) (type : ℕ) (body : List ℕ) (before : FileTexts) → type ≢ section_header_type
    → type ≢ interface_description_type
    → map without_statistics (texts_after order type body before).interfaces.items ≡ map without_statistics before.interfaces.items
others_same order type body before section description =
    let begun = section_begun order (drop section_header_len body) before in
    let added = interface_added order (drop interface_description_len body) before in
    let others : FileTexts = if type == interface_statistics_type then statistics_added order body before
    else if type == enhanced_packet_type || type == obsolete_packet_type then packet_added order (packet_options order body) before
    else if type == simple_packet_type then record before { packet_comments = no_comments }
    else before in
    let no_section : (type == section_header_type) ≡ false = grind (arith, nat_tests, section) in
    let no_description : (type == interface_description_type) ≡ false = grind (arith, nat_tests, description) in
    ap (λ b. map without_statistics
    (if b then begun else (if type == interface_description_type then added else others)).interfaces.items) no_section
    ∙ ap (λ b. map without_statistics (if b then added else others).interfaces.items) no_description
    ∙ one_of_four (type == interface_statistics_type) (type == enhanced_packet_type || type == obsolete_packet_type)
    (type == simple_packet_type) (statistics_added order body before) (packet_added order (packet_options order body) before)
    (record before { packet_comments = no_comments }) before (map without_statistics before.interfaces.items)
    (statistics_same order body before) refl refl refl

-- the texts of interfaces and of another interface without their statistics
without_more : (items : List InterfaceTexts) (one : InterfaceTexts) → without_statistics one ≡ one
    → map without_statistics (if nat_lt (length items) max_interfaces_with_texts then items ++ one ∷ [] else items)
    ≡ (if nat_lt (length (map without_statistics items)) max_interfaces_with_texts
    then map without_statistics items ++ one ∷ [] else map without_statistics items)
without_more items one is =
    by_room (nat_lt (length items) max_interfaces_with_texts)
    ∙ ap (λ n. if nat_lt n max_interfaces_with_texts then map without_statistics items ++ one ∷ [] else map without_statistics items)
    (sym (length-map items without_statistics))
  where
    by_room : (room : Bool) → map without_statistics (if room then items ++ one ∷ [] else items)
        ≡ (if room then map without_statistics items ++ one ∷ [] else map without_statistics items)
    by_room true = map-append without_statistics items (one ∷ []) ∙ ap (λ o. map without_statistics items ++ o ∷ []) is
    by_room false = refl

-- ---- a block

abbrev Given : Type 0
Given = Result (Option CapturedPacket) PacketError

abbrev Own : PcapngReader → Type 0
Own reader = HasOwnTexts (Pcapng reader)

-- the section and the texts did not change
unchanged : (before after : PcapngReader) → after.section ≡ before.section → after.texts ≡ before.texts → Own before → Own after
unchanged before after section texts own = (
  own.0,
  record {
    interfaces = ap (λ s. s.interfaces.items) section ∙ own.1.interfaces;
    texts = ap (λ t. map without_statistics t.interfaces.items) texts ∙ own.1.texts;
  },
)

-- the interfaces did not change, except for their statistics
same_interfaces : (before after : PcapngReader) → after.section ≡ before.section
    → map without_statistics after.texts.interfaces.items ≡ map without_statistics before.texts.interfaces.items → Own before → Own after
same_interfaces before after section texts own = (
  own.0,
  record { interfaces = ap (λ s. s.interfaces.items) section ∙ own.1.interfaces; texts = texts ∙ own.1.texts },
)

module _ (before after : PcapngReader) (header : BlockHeader) (body : List ℕ) (own : Own before) where
  -- a section header block
  begun : header.block_type ≡ section_header_type → after.section.interfaces.items ≡ []
      → after.texts ≡ texts_with header body before.texts → Own after
  begun type section texts = (
    [],
    record {
      interfaces = section;
      texts = ap (λ t. map without_statistics t.interfaces.items) texts ∙ texts_begun header.byte_order header.block_type body before.texts type;
    },
  )

  -- an interface description block
  described : (interface : InterfaceDescription) → header.block_type ≡ interface_description_type
      → interface ≡ interface_description header.byte_order body
      → after.section.interfaces.items ≡ before.section.interfaces.items ++ interface ∷ []
      → after.texts ≡ texts_with header body before.texts → Own after
  described interface type is section texts =
      let (blocks, are) = own in
      let one : Description = (header.byte_order, body) in
      let texts_now : after.texts.interfaces.items
      ≡ (if nat_lt (length before.texts.interfaces.items) max_interfaces_with_texts
      then before.texts.interfaces.items ++ texts_of one ∷ [] else before.texts.interfaces.items) =
      ap (λ t. t.interfaces.items) texts ∙ grind (arith, nat_tests, type) in (
        blocks ++ one ∷ [],
        record {
          interfaces = section ∙ ap (λ items. items ++ interface ∷ []) are.interfaces
              ∙ ap (λ i. map description_of blocks ++ i ∷ []) is ∙ sym (map-append description_of blocks (one ∷ []));
          texts = ap (map without_statistics) texts_now ∙ without_more before.texts.interfaces.items (texts_of one) refl
              ∙ ap (λ t. if nat_lt (length t) max_interfaces_with_texts then t ++ texts_of one ∷ [] else t) are.texts
              ∙ sym (more_kept (map texts_of blocks) (texts_of one))
              ∙ sym (ap kept (map-append texts_of blocks (one ∷ [])));
        },
      )

  -- a block of another type
  others : header.block_type ≢ section_header_type → header.block_type ≢ interface_description_type → after.section ≡ before.section
      → after.texts ≡ texts_with header body before.texts → Own after
  others section description same texts =
      same_interfaces before after same (ap (λ t. map without_statistics t.interfaces.items) texts
      ∙ others_same header.byte_order header.block_type body before.texts section description) own

  -- a block with an accepted body
  accepted : (said : BlockBody) (given : Given) (next : Option NextPacket) → IsBody header before.section.interfaces.items body said
      → TakesBody before.section header said after.section given → next ≡ next_by_taken before.offset given
      → after.texts ≡ unless_refused next before.texts (texts_with header body before.texts) → Own after
  accepted (bodies.SectionHeader said) given next is takes is_next texts =
      begun is.0 takes.2 (grind (arith, texts, is_next, takes.0))
  accepted (bodies.InterfaceDescription interface) (Ok found) next is takes is_next texts =
      described interface is.0 is.1 takes.3 (grind (arith, texts, is_next, takes.0))
  accepted (bodies.InterfaceDescription interface) (Err error) next is takes is_next texts =
      unchanged before after takes.0 (grind (arith, texts, is_next)) own
  accepted (bodies.Packet packet) given next is takes is_next texts =
      others (grind (arith, is)) (grind (arith, is)) takes.3 (grind (arith, texts, is_next, takes.2))
  accepted bodies.Other given next is takes is_next texts = others is.0 is.1 takes.1 (grind (arith, texts, is_next, takes.0))

  -- a block with any body
  taken : (refusal : Option BodyError) (given : Given) (next : Option NextPacket)
      → TakesUnless refusal before.section header body after.section given → next ≡ next_by_taken before.offset given
      → after.texts ≡ unless_refused next before.texts (texts_with header body before.texts) → Own after
  taken (Some error) given next takes is_next texts = unchanged before after takes.1 (grind (arith, texts, is_next, takes.0)) own
  taken None given next takes is_next texts = accepted takes.0 given next takes.1 takes.2 is_next texts

block_read : (before after : PcapngReader) (buffer : List ℕ) (block : NextBlock) (next : Option NextPacket)
    → IsStep before buffer block after next → after.texts ≡ noted block buffer next before.texts → Own before → Own after
block_read before after buffer (Whole header) next step texts own =
    let body = slice_range buffer 8 (header.total_len - 4) in
    let (given, takes, is_next) = step.1 in
    taken before after header body own (body_refusal header before.section.interfaces.items body) given next takes is_next texts
block_read before after buffer (TooLong header) next step texts own = unchanged before after step.1 texts own
block_read before after buffer End next step texts own = subst Own (sym step.0) own
block_read before after buffer (Refused error) next step texts own = subst Own (sym step.0) own

step_read : (before after : PcapngReader) (left still_left : Option (List ℕ)) (buffer : List ℕ) (next : Option NextPacket)
    → ReadsStep before left still_left after buffer next → Own before → Own after
step_read before after left still_left buffer next step own = block_read before after buffer step.block next step.is_step step.texts own

blocks_read : (room count : ℕ) (before after : PcapngReader) (left still_left : Option (List ℕ))
    → PassesBlocks room count before left still_left after → Own before → Own after
blocks_read room zero before after left still_left passes own = subst Own (sym passes.0) own
blocks_read room (suc count) before after left still_left passes own =
    let (reader, middle, buffer, has_room, others, step) = passes in
    step_read reader after middle still_left buffer None step (blocks_read room count before reader left middle others own)

-- ---- a capture

packet_read : (room : ℕ) (before after : CaptureReader) (left still_left : Option (List ℕ)) (packet : FilePacket)
    → ReadsOne room before left still_left after packet → HasOwnTexts before → HasOwnTexts after
packet_read room (Classic before) after left still_left packet one own =
    let (reader, is, by_record) = one.reads in subst HasOwnTexts (sym is) tt
packet_read room (Pcapng before) after left still_left packet one own =
    let (reader, is, blocks) = one.reads in
    subst HasOwnTexts (sym is)
    (step_read blocks.reader reader blocks.middle still_left one.buffer (Some one.next) blocks.step
    (blocks_read (length one.buffer) blocks.count before blocks.reader left blocks.middle blocks.passed own))

packets_read : (room : ℕ) (reader after : CaptureReader) (left still_left : Option (List ℕ)) (packets : List FilePacket)
    → HasOwnTexts reader → ReadsPackets room reader left still_left after packets → HasOwnTexts after
packets_read room reader after left still_left [] own read = subst HasOwnTexts (sym read.0) own
packets_read room reader after left still_left (packet ∷ packets) own read =
    let (next, middle, one, others) = read in
    packets_read room next after middle still_left packets (packet_read room reader next left middle packet one own) others

begins_own : (room : ℕ) (reader : CaptureReader) (file rest : List ℕ) → IsBytes file → Begins room reader file rest → HasOwnTexts reader
begins_own room (Classic reader) file rest fits begins = tt
begins_own room (Pcapng reader) file rest fits begins =
    let (buffer, has_room, opens) = begins in
    let first : FirstBlock room reader file rest =
    first_block room reader file rest buffer opens.block has_room opens.reads opens.begins opens.is_first in
    let block_fits : IsBytes first.block = bytes_front first.block rest (subst IsBytes first.whole fits) in
    let type : (block_header BigEndian first.block).block_type ≡ section_header_type =
    both_orders first.block (order_of BigEndian first.block) block_fits (section_number first.block first.is_section) in (
      [],
      record {
        interfaces = first.begins.interfaces;
        texts = ap (λ t. map without_statistics t.interfaces.items) first.begins.texts
            ∙ texts_begun (block_header BigEndian first.block).byte_order (block_header BigEndian first.block).block_type (body_of first.block) no_texts type;
      },
    )

pub keeps_own_texts : (room : ℕ) → KeepsOwnTexts room
keeps_own_texts room = record { begins = begins_own room; packets = packets_read room }
