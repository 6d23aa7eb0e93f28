-- Laws of a lowered maximum segment size: what is found in the options, and a receiver's check, whose result is the same.
use Rattle.std.proofs.Common.{◌≡◌, ◌≢◌, inl, inr, ℕ, suc, ◌+◌, ◌-◌, ◌*◌, ◌/◌, ◌%◌, ◌<◌, ◌≤◌, ◌==◌, bit_and, nat_le, not, Bool, true, false, if◌then◌else◌, List, [], ◌∷◌, ◌++◌, take, drop, slice_index, slice_range, length, length-append, append_assoc, Option, Some, None, Result, Ok, Err, refl, sym, ap, ◌∙◌, subst, arith}
use Rattle.std.specs.Int.{to_be_bytes, to_le_bytes, w16}
use Rattle.std.specs.Prelude.{IfOk}
use Rattle.std.proofs.lemmas.Bool.Decides.{nat_tests}
use Rattle.std.proofs.lemmas.List.{drop-append-le, get_or-drop, get_or-take, get_or_append_left, length-drop, length-take, take-append-le}
use Rattle.std.specs.Option.{option_map}
use borrow.Rule.Slice.PartMut.{put_mid}
use lib.Seq.{drop-cons}
use Rattle.ip_part.specs.Ip as ip
use Rattle.ip_part.specs.Ip.{Carries}
use Rattle.ip_part.specs.declared.transport.TransportInIp.{TransportInIp}
use Rattle.net_base.specs.Bytes.{IsBytes, be_number}
use Rattle.net_base.specs.Refusals.{first_of, refused_if}
use Rattle.net_base.specs.StoredChecksum.{with_checksum}
use Rattle.net_base.specs.declared.err.tcp.header_slice_error.HeaderSliceError.{HeaderSliceError}
use Rattle.net_base.specs.declared.ip_number.IpNumber.{IpNumber}
use Rattle.word_sum.specs.Checksum.{Verifies, total}
use Rattle.tcp_part.specs.TcpFormat as tcp
use Rattle.tcp_part.specs.TcpFormat.{flag_of, options_of, syn_flag}
use Rattle.tcp_part.proofs.TcpRawOptionsLemmas.{one_raw_reading}
use Rattle.tcp_part.specs.TcpRawOptions.{BeginsWithRaw, RawItem, RawOption, ReadsRaw, raw_spelling}
use Rattle.etherparse_transport.specs.SegmentSizes.{Finds, FindsBehind, FindsIn, FindsUnless, IsLowered, IsRefusedFor, IsSegmentAccepted, IsSizeAt, header_refusal, lowered_segment, place_in, segment_in, size_in, word_bytes}
use Rattle.etherparse_transport.specs.Translations.{counted_after, number, with_bytes}
use Rattle.etherparse_transport.specs.declared.err.packet.lower_maximum_segment_size_error.LowerMaximumSegmentSizeError.{LowerMaximumSegmentSizeError}
use Rattle.etherparse_transport.specs.declared.err.packet.lower_maximum_segment_size_error.LowerMaximumSegmentSizeError.TheVariants.{Header, Ip, LaterFragment, NoSyn, Protocol}
use Rattle.etherparse_transport.proofs.ReplacedBytes.{bytes_drop, bytes_take}
use Rattle.etherparse_transport.proofs.TranslationLemmas.{message_range, put_is, read_once}
use Rattle.etherparse_transport.proofs.TranslationReading.{drop_here, index_after, index_before, length_kept, range_before}
use Rattle.etherparse_transport.proofs.TranslationSums.{both_accepted, first_counts, front_total, range_in_front, stored_number_total, two_bytes, word_total}

-- ---- the options

-- The options were read up to `rest`, and no maximum segment size was found. The next option begins at `start`.
abbrev pub IsSearched : List ℕ → ℕ → List ℕ → Type 0
IsSearched options start rest = (items : List RawItem) → ReadsRaw rest items
    → (all : List RawItem) × ReadsRaw options all × (place_in 20 all ≡ place_in start items)

-- what is found in the rest is what is found in the options
pub found_in_rest : (options : List ℕ) (start : ℕ) (rest : List ℕ) (items : List RawItem) (outcome : Result ℕ LowerMaximumSegmentSizeError)
    → IsSearched options start rest → ReadsRaw rest items → place_in start items ≡ outcome → Finds options outcome
found_in_rest options start rest items outcome searched reads is =
    let (all, reads_all, same) = searched items reads in
    record { items = all; reads = reads_all; is = same ∙ is }

-- the first option of its kind counts
pub size_here : (start : ℕ) (option : RawOption) (items : List RawItem) → (option.kind == 2) ≡ true
    → place_in start (Ok option ∷ items) ≡ size_in start (length (raw_spelling option))
size_here start option items is =
    let len : ℕ = length (raw_spelling option) in
    ap (λ is_size. if is_size then size_in start len else place_in (start + len) items) is

-- the size is within the options
pub size_within : (start len after options : ℕ) (result : Result ℕ LowerMaximumSegmentSizeError)
    → IfOk result (λ place. (place ≡ start + 2) × (len ≡ 4))
    → 20 ≤ start → start + (len + after) ≡ 20 + options → IfOk result (λ place. (20 ≤ place) × (place + 2 ≤ 20 + options))
size_within start len after options (Ok place) is late whole = (omega (arith, is.0, late), omega (arith, is.0, is.1, whole))
size_within start len after options (Err error) is late whole = tt

-- the search goes on after an option of another kind
pub searched_more : (options : List ℕ) (start : ℕ) (rest : List ℕ) (option : RawOption) (after : List ℕ) → BeginsWithRaw rest option after
    → (option.kind == 2) ≡ false → IsSearched options start rest → IsSearched options (start + length (raw_spelling option)) after
searched_more options start rest option after begins other searched = λ items reads.
    let (all, reads_all, same) = searched (Ok option ∷ items) (after, begins, reads) in
    let len : ℕ = length (raw_spelling option) in
    (all, reads_all, same ∙ ap (λ is_size. if is_size then size_in start len else place_in (start + len) items) other)

-- options are searched in only one way
one_finding : (options : List ℕ) (outcome other : Result ℕ LowerMaximumSegmentSizeError) → Finds options outcome → Finds options other
    → outcome ≡ other
one_finding options outcome other finds again =
    sym finds.is ∙ ap (place_in 20) (one_raw_reading options finds.items again.items finds.reads again.reads) ∙ again.is

-- ---- the header

-- a SYN of TCP is not refused
pub none_refused : (protocol : IpNumber) (is_later_fragment : Bool) (segment : List ℕ) → (protocol.0 == 6) ≡ true
    → is_later_fragment ≡ false
    → tcp.refusal segment ≡ None → flag_of segment syn_flag ≡ true → header_refusal protocol is_later_fragment segment ≡ None
none_refused protocol is_later_fragment segment is_tcp first accepted is_syn =
    let by : Bool → Bool → Option HeaderSliceError → Bool → Option LowerMaximumSegmentSizeError = λ is_tcp later refusal is_syn.
    first_of (refused_if (not is_tcp) (Protocol protocol) ∷ refused_if later LaterFragment ∷ option_map Header refusal
    ∷ refused_if (not is_syn) NoSyn ∷ []) in
    ap (λ is_tcp. by is_tcp is_later_fragment (tcp.refusal segment) (flag_of segment syn_flag)) is_tcp
    ∙ ap (λ later. by true later (tcp.refusal segment) (flag_of segment syn_flag)) first
    ∙ ap (λ refusal. by true false refusal (flag_of segment syn_flag)) accepted
    ∙ ap (by true false None) is_syn

module _ (segment : List ℕ) (header : 80 ≤ slice_index segment 12) where
  abbrev len : ℕ
  len = slice_index segment 12 / 16 * 4

  -- the header alone has the flags of the segment
  pub same_syn : flag_of (take len segment) syn_flag ≡ flag_of segment syn_flag
  same_syn = ap (λ byte. not (bit_and byte 2 == 0)) (get_or-take len segment 13 0 (omega (arith, header)))

  -- the header alone has the options of the segment
  pub same_options : options_of (take len segment) ≡ options_of segment
  same_options =
      ap (λ byte. slice_range (take len segment) 20 (byte / 16 * 4)) (get_or-take len segment 12 0 (omega (arith, header)))
      ∙ range_in_front 20 (len - 20) len segment (omega (arith, header))

-- what is found in the options of the header is found in the segment
pub finds_behind : (protocol : IpNumber) (is_later_fragment : Bool) (segment options : List ℕ)
    (outcome : Result ℕ LowerMaximumSegmentSizeError)
    → header_refusal protocol is_later_fragment segment ≡ None → options ≡ options_of segment → Finds options outcome
    → FindsBehind protocol is_later_fragment segment outcome
finds_behind protocol is_later_fragment segment options outcome none same finds =
    subst (λ refusal. FindsUnless refusal segment outcome) (sym none) (subst (λ options. Finds options outcome) same finds)

-- ---- the packet

-- what is found in the transport is found in the packet
pub finds_in : (packet : List ℕ) (found : TransportInIp) (outcome : Result ℕ LowerMaximumSegmentSizeError) → ip.lax_refusal packet ≡ None
    → Carries packet found → found.is_length_missing ≡ ip.lacks_len packet
    → FindsBehind found.protocol found.is_later_fragment found.payload.now outcome → FindsIn packet outcome
finds_in packet found outcome accepted carries stated finds =
    let payload : found.payload.now ≡ segment_in carries.headers packet =
    carries.payload ∙ ap (λ missing. drop carries.headers.len (ip.counted missing packet)) stated in
    record {
      accepted = accepted;
      headers = carries.headers;
      read = ap (λ missing. ip.headers_of missing packet) (sym stated) ∙ carries.read;
      finds = subst (λ protocol. FindsBehind protocol carries.headers.is_later_fragment (segment_in carries.headers packet) outcome)
          carries.protocol
          (subst (λ later. FindsBehind found.protocol later (segment_in carries.headers packet) outcome) carries.is_later_fragment
          (subst (λ segment. FindsBehind found.protocol found.is_later_fragment segment outcome) payload finds));
    }

one_by : (refusal : Option LowerMaximumSegmentSizeError) (segment : List ℕ) (outcome other : Result ℕ LowerMaximumSegmentSizeError)
    → FindsUnless refusal segment outcome → FindsUnless refusal segment other → outcome ≡ other
one_by (Some error) segment outcome other finds again = finds ∙ sym again
one_by None segment outcome other finds again = one_finding (options_of segment) outcome other finds again

-- a packet in which a size is found is not refused
pub not_refused_for : (packet : List ℕ) (place : ℕ) → FindsIn packet (Ok place) → (error : LowerMaximumSegmentSizeError)
    → IsRefusedFor packet error → ⊥
not_refused_for packet place finds error (inl refused) =
    let none : option_map Ip (ip.lax_refusal packet) ≡ None = ap (option_map Ip) finds.accepted in
    absurd (cc (sym none ∙ refused))
not_refused_for packet place finds error (inr refused) =
    let same : refused.headers ≡ finds.headers =
    read_once (ip.headers_of (ip.lacks_len packet) packet) refused.headers finds.headers refused.read finds.read in
    let again = subst (λ headers. FindsBehind headers.protocol headers.is_later_fragment (segment_in headers packet) (Err error)) same
    refused.finds in
    let both : Ok place ≡ Err error =
    one_by (header_refusal finds.headers.protocol finds.headers.is_later_fragment (segment_in finds.headers packet))
    (segment_in finds.headers packet) _ _ finds.finds again in
    absurd (cc both)

-- the place in the packet
pub size_at : (packet : List ℕ) (found : TransportInIp) (place : ℕ) → (carries : Carries packet found)
    → found.is_length_missing ≡ ip.lacks_len packet
    → FindsIn packet (Ok place) → 20 ≤ place → place + 2 ≤ length found.payload.now → 80 ≤ slice_index found.payload.now 12 → IsBytes packet
    → IsSizeAt packet found.payload_offset (found.payload_offset + length found.payload.now) place
size_at packet found place carries stated finds after room header fits =
    let same : finds.headers ≡ carries.headers =
    read_once (ip.headers_of (ip.lacks_len packet) packet) finds.headers carries.headers finds.read
    (ap (λ missing. ip.headers_of missing packet) (sym stated) ∙ carries.read) in
    let offset : carries.headers.len ≡ found.payload_offset = sym carries.payload_offset in
    let counted : List ℕ = ip.counted found.is_length_missing packet in
    let n : ℕ = ip.counted_len found.is_length_missing packet in
    let range : slice_range packet found.payload_offset (found.payload_offset + length found.payload.now)
    ≡ counted_after false found.payload_offset packet =
    message_range found.payload_offset packet found carries offset stated in
    let payload : found.payload.now ≡ counted_after false found.payload_offset packet =
    carries.payload ∙ ap (λ len. drop len counted) offset ∙ ap (λ missing. drop found.payload_offset (ip.counted missing packet)) stated in
    record {
      found = finds;
      start_is = carries.payload_offset ∙ ap (λ headers. headers.len) (sym same);
      segment = range ∙ ap (λ len. counted_after false len packet) (carries.payload_offset ∙ ap (λ headers. headers.len) (sym same));
      ordered = omega arith;
      there = omega (
        arith,
        offset,
        carries.within,
        ap length carries.payload,
        length-drop carries.headers.len counted,
        length-take n packet,
      );
      after = after;
      room = omega (arith, room);
      five_words = subst (λ bytes. 80 ≤ slice_index bytes 12) (payload ∙ sym range) header;
      bytes = bytes_take (found.payload_offset + length found.payload.now - found.payload_offset) (drop found.payload_offset packet)
          (bytes_drop found.payload_offset packet fits);
    }

-- the packet with the lowered segment
pub is_lowered : (most size : ℕ) (packet new after : List ℕ) (start end place : ℕ) → IsSizeAt packet start end place
    → size ≡ number place (slice_range packet start end) → new ≡ lowered_segment most place (slice_range packet start end)
    → IsSegmentAccepted (slice_range packet start end) new → length new ≡ end - start → after ≡ put_mid start (end - start) packet new
    → IsLowered most packet size after
is_lowered most size packet new after start end place at size_is new_is accepted len is = record {
  place = place;
  found = at.found;
  size_is = size_is ∙ ap (number place) at.segment;
  changed = is ∙ put_is start end packet new len ∙ ap (λ start. with_bytes start new packet) at.start_is
      ∙ ap (λ segment. with_bytes at.found.headers.len segment packet) (new_is ∙ ap (lowered_segment most place) at.segment);
  accepted = subst (λ segment. IsSegmentAccepted segment (lowered_segment most place segment)) at.segment
      (subst (IsSegmentAccepted (slice_range packet start end)) new_is accepted);
}

-- ---- a number at an odd place

head_total : (first other : ℕ) (rest : List ℕ) → total (first ∷ rest) + other * 256 ≡ total (other ∷ rest) + first * 256
head_total first other [] = omega arith
head_total first other (next ∷ rest) = omega arith

odd_total : (before value : ℕ) (bytes : List ℕ) → before % 2 ≡ 0 → suc before + 2 ≤ length bytes → value < 65536
    → total (with_checksum (suc before) bytes value) + (slice_index bytes (suc before + 1) * 256 + slice_index bytes (suc before))
    ≡ total bytes + (value % 256 * 256 + value / 256)
odd_total before value bytes even there small =
    let new : List ℕ = with_bytes (suc before) (to_be_bytes w16 value) bytes in
    let back : List ℕ = drop (suc before + 2) bytes in
    let len : length new ≡ length bytes = length_kept (suc before) (to_be_bytes w16 value) bytes there in
    let front : take before new ≡ take before bytes =
    range_before (suc before) (to_be_bytes w16 value) bytes there 0 before (omega arith) in
    let first : slice_index new before ≡ slice_index bytes before =
    index_before (suc before) (to_be_bytes w16 value) bytes there before (omega arith) in
    let old : drop before bytes ≡ slice_index bytes before ∷ slice_index bytes (suc before) ∷ slice_index bytes (suc before + 1) ∷ back =
    drop-cons bytes before 0 (omega (arith, there)) ∙ ap (λ rest. slice_index bytes before ∷ rest) (two_bytes (suc before) bytes there) in
    let is : drop before new ≡ slice_index new before ∷ (to_be_bytes w16 value ++ back) =
    drop-cons new before 0 (omega (arith, there, len))
    ∙ ap (λ rest. slice_index new before ∷ rest) (drop_here (suc before) (to_be_bytes w16 value) bytes there) in
    omega (
      arith,
      small,
      front_total before bytes even (omega (arith, there)),
      front_total before new even (omega (arith, there, len)),
      ap total front,
      ap total old,
      ap total is,
      first,
      head_total (slice_index bytes (suc before + 1)) (value % 256) back,
    )

-- ---- a number at any place

pub number_there : (place : ℕ) (bytes : List ℕ) → place + 2 ≤ length bytes
    → number place bytes ≡ slice_index bytes place * 256 + slice_index bytes (place + 1)
number_there place bytes there =
    let test : nat_le (place + 2) (length bytes) ≡ true = grind (arith, nat_tests) in
    let first : slice_index bytes (place + 0) ≡ slice_index bytes place = ap (slice_index bytes) (omega arith) in
    ap (λ there. if there then be_number bytes place 2 else 0) test ∙ omega (arith, first)

size_total_by : (even : Bool) (place value size : ℕ) (bytes : List ℕ) → (place % 2 == 0) ≡ even → place + 2 ≤ length bytes → value < 65536
    → slice_index bytes place < 256 → slice_index bytes (place + 1) < 256
    → size ≡ slice_index bytes place * 256 + slice_index bytes (place + 1)
    → total (with_checksum place bytes value) + total (if even then to_be_bytes w16 size else to_le_bytes w16 size)
    ≡ total bytes + total (if even then to_be_bytes w16 value else to_le_bytes w16 value)
size_total_by true place value size bytes test there small high low is =
    let even : place % 2 ≡ 0 = grind (arith, nat_tests) in
    let number_is : number place bytes ≡ size = number_there place bytes there ∙ sym is in
    omega (
      arith,
      stored_number_total place value bytes even small there,
      number_is,
      word_total size (omega (arith, is, high, low)),
      word_total value small,
    )
size_total_by false place value size bytes test there small high low is =
    let odd : place % 2 ≢ 0 = grind (arith, nat_tests) in
    let before : ℕ = place - 1 in
    let next : suc before ≡ place = omega (arith, odd) in
    let even : before % 2 ≡ 0 = omega (arith, odd) in
    let all = subst (λ place. place + 2 ≤ length bytes → total (with_checksum place bytes value)
    + (slice_index bytes (place + 1) * 256 + slice_index bytes place) ≡ total bytes + (value % 256 * 256 + value / 256))
    next (λ there. odd_total before value bytes even there small) in
    omega (arith, all there, is, high, low, small)

-- ---- a longer segment

-- replaced bytes with more bytes after them
replaced_in_front : (place : ℕ) (new bytes more : List ℕ) → place + length new ≤ length bytes
    → with_bytes place new bytes ++ more ≡ with_bytes place new (bytes ++ more)
replaced_in_front place new bytes more there =
    append_assoc (take place bytes) (new ++ drop (place + length new) bytes) more
    ∙ ap (λ rest. take place bytes ++ rest) (append_assoc new (drop (place + length new) bytes) more)
    ∙ ap (λ rest. take place bytes ++ (new ++ rest)) (sym (drop-append-le (place + length new) bytes more there))
    ∙ ap (λ front. front ++ (new ++ drop (place + length new) (bytes ++ more)))
    (sym (take-append-le place bytes more (omega (arith, there))))

-- a header contains its length in byte 12, so its sum is not 0
some_total : (bytes : List ℕ) → 20 ≤ length bytes → 80 ≤ slice_index bytes 12 → total bytes ≢ 0
some_total bytes there header none =
    let first : slice_index (drop 12 bytes) 0 ≡ slice_index bytes 12 = get_or-drop 12 bytes 0 0 in
    first_counts (drop 12 bytes) (λ zero. absurd (omega (arith, zero, first, header)))
    (omega (arith, none, front_total 12 bytes refl (omega (arith, there))))

module _ (segment : List ℕ) (place most size checksum : ℕ) (after : 20 ≤ place) (there : place + 2 ≤ length segment) (header : 80 ≤ slice_index segment 12) where
  abbrev stored : List ℕ → List ℕ
  stored bytes = with_checksum 16 bytes checksum

  abbrev lowered : List ℕ → List ℕ
  lowered bytes = with_bytes place (to_be_bytes w16 most) (stored bytes)

  pub size_accepted : ((k : ℕ) → slice_index segment k < 256) → most < 65536 → checksum < 65536 → size ≡ number place segment
      → ((before after : ℕ) → after + total (word_bytes place size) ≡ before + total (word_bytes place most)
      → (after + checksum) % 65535 ≡ (before + number 16 segment) % 65535)
      → IsSegmentAccepted segment (lowered segment)
  size_accepted fits most_small small is remainder = λ pseudo_header missing.
      let whole : List ℕ = segment ++ missing in
      let len : length whole ≡ length segment + length missing = length-append segment missing in
      let room : 16 + 2 ≤ length whole = omega (arith, after, there, len) in
      let room_too : place + 2 ≤ length whole = omega (arith, there, len) in
      let between : List ℕ = stored whole in
      let new : List ℕ = lowered whole in
      let between_len : length between ≡ length whole = length_kept 16 (to_be_bytes w16 checksum) whole room in
      let byte : (k : ℕ) → k < length segment → slice_index whole k ≡ slice_index segment k = λ k within.
      get_or_append_left segment missing 0 k within in
      let kept : (k : ℕ) → 18 ≤ k → k < length segment → slice_index between k ≡ slice_index segment k = λ k behind within.
      index_after 16 (to_be_bytes w16 checksum) whole room k behind ∙ byte k within in
      let same : lowered segment ++ missing ≡ new =
      replaced_in_front place (to_be_bytes w16 most) (stored segment) missing
      (omega (arith, there, length_kept 16 (to_be_bytes w16 checksum) segment (omega (arith, after, there))))
      ∙ ap (with_bytes place (to_be_bytes w16 most))
      (replaced_in_front 16 (to_be_bytes w16 checksum) segment missing (omega (arith, after, there))) in
      let first = kept place (omega (arith, after)) (omega (arith, there)) in
      let second = kept (place + 1) (omega (arith, after)) (omega (arith, there)) in
      let size_is : size ≡ slice_index between place * 256 + slice_index between (place + 1) =
      omega (arith, is, number_there place segment there, first, second) in
      let size_replaced = size_total_by (place % 2 == 0) place most size between refl (omega (arith, room_too, between_len)) most_small
      (omega (arith, first, fits place)) (omega (arith, second, fits (place + 1))) size_is in
      let checksum_is : number 16 whole ≡ number 16 segment =
      number_there 16 whole room ∙ omega (
        arith,
        byte 16 (omega (arith, after, there)),
        byte 17 (omega (arith, after, there)),
        number_there 16 segment (omega (arith, after, there)),
      ) in
      let checksum_replaced = stored_number_total 16 checksum whole refl small room in
      let pseudo : ℕ = total pseudo_header in
      let updated = remainder (pseudo + total new + total (word_bytes place size)) (pseudo + total new + total (word_bytes place most))
      (omega arith) in
      let twelve : slice_index whole 12 ≡ slice_index segment 12 = byte 12 (omega (arith, after, there)) in
      let twelve_too : slice_index new 12 ≡ slice_index whole 12 =
      index_before place (to_be_bytes w16 most) between (omega (arith, room_too, between_len)) 12 (omega (arith, after))
      ∙ index_before 16 (to_be_bytes w16 checksum) whole room 12 (omega arith) in
      let new_len : length new ≡ length whole =
      length_kept place (to_be_bytes w16 most) between (omega (arith, room_too, between_len)) ∙ between_len in
      let some : total whole ≢ 0 = some_total whole (omega (arith, after, room_too)) (omega (arith, twelve, header)) in
      let some_too : total new ≢ 0 = some_total new (omega (arith, after, room_too, new_len)) (omega (arith, twelve, twelve_too, header)) in
      subst (λ bytes. (Verifies pseudo_header bytes → Verifies pseudo_header whole)
      × (Verifies pseudo_header whole → Verifies pseudo_header bytes)) (sym same)
      (both_accepted (pseudo + total whole) (pseudo + total new)
      (omega (arith, updated, size_replaced, checksum_replaced, checksum_is))
      (λ none. some (omega (arith, none))) (λ none. some_too (omega (arith, none))))
