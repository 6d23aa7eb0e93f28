-- Laws of fragments that are cut from one IPv4 packet: in any order, and repeatedly, they are accepted, and give the packet back.
use Rattle.std.proofs.Common.{◌≡◌, ℕ, ◌+◌, ◌-◌, ◌*◌, ◌%◌, ◌<◌, ◌≤◌, inl, inr, nat_le, ◌==◌, Bool, true, false, not, ◌||◌, if◌then◌else◌, List, [], ◌∷◌, ◌++◌, length, length-append, take, drop, bit_and, slice_index, slice_set, Some, is_some, unwrap_or, refl, sym, ◌∙◌, ap, subst, arith}
use Rattle.std.proofs.lemmas.Bool.Decides.{nat_tests}
use Rattle.std.proofs.lemmas.List.{ext_get_or, take_all}
use Rattle.std.specs.Int.{to_be_bytes, w16}
use Rattle.net_base.specs.IpHeaders.{ipv4_header_len, version}
use Rattle.ip_part.specs.Ip.{ipv4_header}
use Rattle.word_sum.specs.Checksum.{checksum_of, total}
use Rattle.reassembly.proofs.CutLemmas.{accepted, arrived, given_back, is_number, parts_of_and, placed}
use Rattle.reassembly.proofs.FragmentLemmas.{equal_four}
use Rattle.reassembly.proofs.PartLemmas.{any_append}
use Rattle.reassembly.specs.Cuts.{AreAccepted, AreFrom, IsCut, IsOneOf, after}
use Rattle.reassembly.specs.Fragments.{FragmentValue, fragment_header_in}
use Rattle.reassembly.specs.PacketCuts.{AreAdded, IsFirstHeader, IsFirstIpv6Header, IsIpv4Cut, IsIpv6Cut, after_arrivals}
use Rattle.reassembly.specs.Packets.{HasPacket, IsPacket, PacketState, empty, header_room, with_fragment}
use Rattle.reassembly.specs.Pieces.{Piece, is_among, is_same}
use Rattle.reassembly.specs.Reassembly as payloads
use Rattle.reassembly.specs.Reassembly.{IsComplete, IsPayload, State, piece_of}
use Rattle.reassembly.specs.WholeHeaders.{HasWholeHeader, ipv4_front, ipv6_header_by, whole_header, whole_ipv4_header, whole_ipv6_header}
use Rattle.reassembly.specs.declared.fragment_header.FragmentPlace.{FragmentPlace}
use Rattle.reassembly.specs.declared.fragment_key.FragmentKey.{FragmentKey}
use Rattle.reassembly.specs.declared.fragment_key.FragmentKey.TheVariants.{Ipv4, Ipv6}

-- ---- the payload of the state

pub payload_after : (arrivals : List FragmentValue) (state : PacketState)
    → (after_arrivals state arrivals).payload ≡ after state.payload arrivals
payload_after [] state = refl
payload_after (first ∷ others) state = payload_after others (with_fragment state first)

pub added_by : (arrivals : List FragmentValue) (state : PacketState) → AreAccepted state.payload arrivals → AreAdded state arrivals
added_by [] state accepted = tt
added_by (first ∷ others) state accepted = (accepted.0, added_by others (with_fragment state first) accepted.1)

-- ---- the headers of the state

-- if the first fragment arrived, the headers are its headers
abbrev KeepsHeader : FragmentValue → PacketState → Type 0
KeepsHeader first state = is_among state.payload.pieces (piece_of first) ≡ true → state.header ≡ first.header

at_most : (a b : ℕ) → a ≤ b → nat_le a b ≡ true
at_most a b is = grind (arith, nat_tests)

not_number : (a b : ℕ) → (a == b) ≡ false → a ≡ b → ⊥
not_number a b is same = grind (arith, nat_tests, is, same)

or_false : (b : Bool) → (b || false) ≡ b
or_false true = refl
or_false false = refl

-- a fragment that is not the first is at another place
other_place : (first other : FragmentValue) (pieces : List Piece) → first.offset ≡ 0 → (other.offset == 0) ≡ false
    → is_among (pieces ++ piece_of other ∷ []) (piece_of first) ≡ true → is_among pieces (piece_of first) ≡ true
other_place first other pieces start behind among =
    by_same (is_same (piece_of first) (piece_of other)) refl
    (sym (any_append (is_same (piece_of first)) pieces (piece_of other ∷ [])) ∙ among)
  where
    by_same : (same : Bool) → is_same (piece_of first) (piece_of other) ≡ same
        → (is_among pieces (piece_of first) || (is_same (piece_of first) (piece_of other) || false)) ≡ true
        → is_among pieces (piece_of first) ≡ true
    by_same true same among =
        let places = parts_of_and (first.offset == other.offset) _ same in
        absurd (not_number other.offset 0 behind (sym (is_number first.offset other.offset places.0) ∙ start))
    by_same false same among =
        sym (or_false (is_among pieces (piece_of first)) ∙ refl)
        ∙ ap (λ b. is_among pieces (piece_of first) || (b || false)) (sym same) ∙ among

keeps_with : (first other : FragmentValue) (state : PacketState) → first.offset ≡ 0 → (other.offset ≡ 0 → other ≡ first)
    → length first.header ≤ header_room state.payload.key → KeepsHeader first state → KeepsHeader first (with_fragment state other)
keeps_with first other state start only fits keeps =
    by (is_among state.payload.pieces (piece_of other)) (other.offset == 0) refl refl
  where
    with_header : Bool → Bool → List ℕ
    with_header among is_first =
        if among then state.header
        else if not is_first then state.header
        else if nat_le (length other.header) (header_room state.payload.key) then other.header
        else []

    with_pieces : Bool → List Piece
    with_pieces among = if among then state.payload.pieces else state.payload.pieces ++ piece_of other ∷ []

    by : (among is_first : Bool) → is_among state.payload.pieces (piece_of other) ≡ among → (other.offset == 0) ≡ is_first
        → is_among (with_pieces (is_among state.payload.pieces (piece_of other))) (piece_of first) ≡ true
        → with_header (is_among state.payload.pieces (piece_of other)) (other.offset == 0) ≡ first.header
    by true is_first among is there =
        ap (λ b. with_header b (other.offset == 0)) among ∙ keeps (sym (ap (λ b. is_among (with_pieces b) (piece_of first)) among) ∙ there)
    by false true among is there =
        let same : other ≡ first = only (is_number other.offset 0 is) in
        let short : nat_le (length other.header) (header_room state.payload.key) ≡ true =
        at_most (length other.header) (header_room state.payload.key) (omega (arith, fits, ap (λ f. length f.header) same)) in
        ap (λ b. with_header b (other.offset == 0)) among ∙ ap (λ b. with_header false b) is
        ∙ ap (λ b. if b then other.header else []) short ∙ ap (λ f. f.header) same
    by false false among is there =
        ap (λ b. with_header b (other.offset == 0)) among ∙ ap (λ b. with_header false b) is
        ∙ keeps (other_place first other state.payload.pieces start is
        (sym (ap (λ b. is_among (with_pieces b) (piece_of first)) among) ∙ there))

keeps_after : (first : FragmentValue) (fragments arrivals : List FragmentValue) (state : PacketState) → first.offset ≡ 0
    → ((other : FragmentValue) → IsOneOf fragments other → other.offset ≡ 0 → other ≡ first) → AreFrom fragments arrivals
    → length first.header ≤ header_room state.payload.key → KeepsHeader first state → KeepsHeader first (after_arrivals state arrivals)
keeps_after first fragments [] state start only from fits keeps = keeps
keeps_after first fragments (arrival ∷ others) state start only from fits keeps =
    keeps_after first fragments others (with_fragment state arrival) start only from.1 fits
    (keeps_with first arrival state start (only arrival from.0) fits keeps)

-- only the first fragment of a cut is at the place 0
only_first : (key : FragmentKey) (payload : List ℕ) (first : FragmentValue) (others : List FragmentValue)
    → IsCut key payload (first ∷ others)
    → (other : FragmentValue) → IsOneOf (first ∷ others) other → other.offset ≡ 0 → other ≡ first
only_first key payload first others cut other (inl is) start = is
only_first key payload first [] cut other (inr is) start = absurd is
only_first key payload first (next ∷ others) cut other (inr is) start =
    let later = placed key (0 + length first.bytes) cut.2.0 (next ∷ others) other cut.2.2 is in
    absurd (none (length first.bytes) other.offset cut.0.some later.start start)
  where
    none : (len offset : ℕ) → 0 < len → 0 + len ≤ offset → offset ≡ 0 → ⊥
    none len offset some after is = omega (arith, some, after, is)

first_start : (key : FragmentKey) (payload : List ℕ) (first : FragmentValue) (others : List FragmentValue)
    → IsCut key payload (first ∷ others)
    → first.offset ≡ 0
first_start key payload first [] cut = cut.0.offset_is
first_start key payload first (next ∷ others) cut = cut.0.offset_is

room_for_ipv4 : (key : FragmentKey) → 60 ≤ header_room key
room_for_ipv4 (Ipv4 source destination protocol identification) = omega arith
room_for_ipv4 (Ipv6 source destination identification) = omega arith

-- the first fragment's header is the kept header, once it has arrived
pub header_after : (key : FragmentKey) (len : ℕ) (payload : List ℕ) (first : FragmentValue) (others arrivals : List FragmentValue)
    → IsCut key payload (first ∷ others) → length first.header ≤ header_room key → AreFrom (first ∷ others) arrivals
    → AreFrom arrivals (first ∷ others)
    → (after_arrivals (empty key len) arrivals).header ≡ first.header
header_after key len payload first others arrivals cut short from all =
    let state : State = payloads.empty key (len - header_room key) in
    let there : is_among (after state arrivals).pieces (piece_of first) ≡ true = arrived first arrivals state all.0 in
    let kept : is_among (after_arrivals (empty key len) arrivals).payload.pieces (piece_of first) ≡ true =
    ap (λ s. is_among s.pieces (piece_of first)) (payload_after arrivals (empty key len)) ∙ there in
    keeps_after first (first ∷ others) arrivals (empty key len) (first_start key payload first others cut)
    (only_first key payload first others cut) from short (λ none. absurd (cc none)) kept

-- ---- the header of the packet

-- the header of the whole packet, by the header of its first fragment
pub same_whole : (header fragment_header : List ℕ) (len : ℕ) → IsFirstHeader header fragment_header
    → whole_ipv4_header fragment_header len ≡ whole_ipv4_header header len
same_whole header fragment_header len is =
    let front : ipv4_front fragment_header len ≡ ipv4_front header len =
    ap (λ n. n ∷ slice_index fragment_header 1 ∷ (to_be_bytes w16 len ++ (slice_index fragment_header 4 ∷ slice_index fragment_header 5
    ∷ bit_and (slice_index fragment_header 6) 0xC0 ∷ 0 ∷ slice_index fragment_header 8 ∷ slice_index fragment_header 9 ∷ [])))
    is.version_and_len
    ∙ ap (λ n. slice_index header 0 ∷ n ∷ (to_be_bytes w16 len ++ (slice_index fragment_header 4 ∷ slice_index fragment_header 5
    ∷ bit_and (slice_index fragment_header 6) 0xC0 ∷ 0 ∷ slice_index fragment_header 8 ∷ slice_index fragment_header 9 ∷ [])))
    is.type_of_service
    ∙ ap (λ n. slice_index header 0 ∷ slice_index header 1 ∷ (to_be_bytes w16 len ++ (n ∷ slice_index fragment_header 5
    ∷ bit_and (slice_index fragment_header 6) 0xC0 ∷ 0 ∷ slice_index fragment_header 8 ∷ slice_index fragment_header 9 ∷ [])))
    is.identification
    ∙ ap (λ n. slice_index header 0 ∷ slice_index header 1 ∷ (to_be_bytes w16 len ++ (slice_index header 4 ∷ n
    ∷ bit_and (slice_index fragment_header 6) 0xC0 ∷ 0 ∷ slice_index fragment_header 8 ∷ slice_index fragment_header 9 ∷ [])))
    is.identification_low
    ∙ ap (λ n. slice_index header 0 ∷ slice_index header 1 ∷ (to_be_bytes w16 len ++ (slice_index header 4 ∷ slice_index header 5
    ∷ n ∷ 0 ∷ slice_index fragment_header 8 ∷ slice_index fragment_header 9 ∷ []))) is.flags
    ∙ ap (λ n. slice_index header 0 ∷ slice_index header 1 ∷ (to_be_bytes w16 len ++ (slice_index header 4 ∷ slice_index header 5
    ∷ bit_and (slice_index header 6) 0xC0 ∷ 0 ∷ n ∷ slice_index fragment_header 9 ∷ []))) is.time_to_live
    ∙ ap (λ n. slice_index header 0 ∷ slice_index header 1 ∷ (to_be_bytes w16 len ++ (slice_index header 4 ∷ slice_index header 5
    ∷ bit_and (slice_index header 6) 0xC0 ∷ 0 ∷ slice_index header 8 ∷ n ∷ []))) is.protocol in
    let summed : List ℕ → List ℕ → ℕ = λ (front rest : List ℕ). checksum_of (total (front ++ (to_be_bytes w16 0 ++ rest))) in
    let written : List ℕ → List ℕ → List ℕ = λ (front rest : List ℕ). front ++ (to_be_bytes w16 (summed front rest) ++ rest) in
    ap (λ (front : List ℕ). written front (drop 12 fragment_header)) front
    ∙ ap (λ (rest : List ℕ). written (ipv4_front header len) rest) is.addresses_and_options

-- ---- the packet is given back

same_len : (a b : ℕ) → Some a ≡ Some b → a ≡ b
same_len a b is = cc is

-- there is only one payload
pub one_payload : (state : State) (a b : List ℕ) → IsPayload state a → IsPayload state b → a ≡ b
one_payload state a b is_a is_b =
    let len : length a ≡ length b = same_len (length a) (length b) (sym is_a.0 ∙ is_b.0) in
    ext_get_or 0 a b len (λ place below.
    same_len (slice_index a place) (slice_index b place) (sym (is_a.1 place below) ∙ is_b.1 place (omega (arith, below, len))))

complete_payload : (state : State) (payload : List ℕ) → IsPayload state payload → IsComplete state
complete_payload state payload is = (length payload, is.0, λ place below. ap is_some (is.1 place below))

-- all fragments of a cut arrived, and the headers of the packet follow from those of the first fragment
pub given_back_by : (key : FragmentKey) (len : ℕ) (header payload packet : List ℕ) (first : FragmentValue)
    (others arrivals : List FragmentValue)
    → packet ≡ header ++ payload → IsCut key payload (first ∷ others) → length first.header ≤ header_room key
    → header_room key + length payload ≤ len
    → HasWholeHeader first.header (length payload) → whole_header first.header (length payload) ≡ header
    → AreFrom (first ∷ others) arrivals → AreFrom arrivals (first ∷ others)
    → HasPacket (after_arrivals (empty key len) arrivals)
    × ((result : List ℕ) → IsPacket (after_arrivals (empty key len) arrivals) result → result ≡ packet)
given_back_by key len header payload packet first others arrivals packet_is cut short fits has header_is from all =
    let state : PacketState = after_arrivals (empty key len) arrivals in
    let back : IsPayload state.payload payload =
    subst (λ s. IsPayload s payload) (sym (payload_after arrivals (empty key len)))
    (given_back key (len - header_room key) payload (first ∷ others) arrivals cut (omega (arith, fits)) from all) in
    let kept : state.header ≡ first.header = header_after key len payload first others arrivals cut short from all in
    let whole : whole_header state.header (length payload) ≡ header =
    ap (λ header. whole_header header (length payload)) kept ∙ header_is in
    let end_is : unwrap_or state.payload.end 0 ≡ length payload = ap (λ end. unwrap_or end 0) back.0 in (
      (
        complete_payload state.payload payload back,
        subst (λ n. HasWholeHeader state.header n) (sym end_is) (subst (λ header. HasWholeHeader header (length payload)) (sym kept) has),
      ),
      λ result is. is.2 ∙ ap (λ bytes. whole_header state.header (length bytes) ++ bytes) (one_payload state.payload is.0 payload is.1 back)
          ∙ ap (λ header. header ++ payload) whole ∙ sym packet_is,
    )

-- ---- an IPv4 packet is given back

pub packet_given_back : (key : FragmentKey) (len : ℕ) (packet : List ℕ) (fragments arrivals : List FragmentValue)
    → IsIpv4Cut key packet fragments
    → header_room key + length packet ≤ len → AreFrom fragments arrivals → AreFrom arrivals fragments
    → HasPacket (after_arrivals (empty key len) arrivals)
    × ((result : List ℕ) → IsPacket (after_arrivals (empty key len) arrivals) result → result ≡ packet)
packet_given_back key len packet [] arrivals cut fits from all = absurd cut.first
packet_given_back key len packet (first ∷ others) arrivals cut fits from all =
    let payload : List ℕ = cut.payload in
    let is : IsFirstHeader cut.header first.header = cut.first in
    let header_len : ipv4_header_len first.header ≡ length cut.header = ap (λ byte. byte % 16 * 4) is.version_and_len ∙ sym cut.is_all in
    let lens : length packet ≡ length cut.header + length payload = ap length cut.packet_is ∙ length-append cut.header payload in
    let total_len : ipv4_header_len first.header + length payload ≡ length packet = omega (arith, header_len, lens) in
    let room : 60 ≤ header_room key = room_for_ipv4 key in
    let header_is : whole_header first.header (length payload) ≡ cut.header =
    ap (λ b. if b then whole_ipv4_header (ipv4_header first.header) (ipv4_header_len first.header + length payload)
    else ipv6_header_by first.header (fragment_header_in first.header) (length payload)) (equal_four first.header is.begins.is_version_4)
    ∙ ap (λ header. whole_ipv4_header header (ipv4_header_len first.header + length payload))
    (take_all (ipv4_header_len first.header) first.header (omega (arith, is.is_all)))
    ∙ same_whole cut.header first.header (ipv4_header_len first.header + length payload) is
    ∙ ap (whole_ipv4_header cut.header) total_len ∙ sym cut.is_whole in
    given_back_by key len cut.header payload packet first others arrivals cut.packet_is cut.cut (omega (arith, is.is_all, room))
    (omega (arith, fits, lens))
    (inl (record { begins = is.begins; fits = omega (arith, total_len, cut.short) })) header_is from all

pub packet_accepted : (key : FragmentKey) (len : ℕ) (packet : List ℕ) (fragments arrivals : List FragmentValue)
    → IsIpv4Cut key packet fragments
    → header_room key + length packet ≤ len → length fragments ≤ 128 → AreFrom fragments arrivals → AreAdded (empty key len) arrivals
packet_accepted key len packet fragments arrivals cut fits few from =
    let lens : length packet ≡ length cut.header + length cut.payload = ap length cut.packet_is ∙ length-append cut.header cut.payload in
    added_by arrivals (empty key len)
    (accepted key (len - header_room key) cut.payload fragments arrivals cut.cut (omega (arith, lens, cut.short))
    (omega (arith, lens, fits)) few from)

-- ---- an IPv6 packet is given back

other_than_four : (header : List ℕ) → version header ≡ 6 → (version header == 4) ≡ false
other_than_four header is = grind (arith, nat_tests, is)

pub ipv6_given_back : (key : FragmentKey) (len : ℕ) (packet : List ℕ) (fragments arrivals : List FragmentValue)
    → IsIpv6Cut key packet fragments
    → header_room key + length packet ≤ len → AreFrom fragments arrivals → AreFrom arrivals fragments
    → HasPacket (after_arrivals (empty key len) arrivals)
    × ((result : List ℕ) → IsPacket (after_arrivals (empty key len) arrivals) result → result ≡ packet)
ipv6_given_back key len packet [] arrivals cut fits from all = absurd cut.first
ipv6_given_back key len packet (first ∷ others) arrivals cut fits from all =
    let payload : List ℕ = cut.payload in
    let is : IsFirstIpv6Header cut.header first.header = cut.first in
    let found : FragmentPlace = is.found in
    let lens : length packet ≡ length cut.header + length payload = ap length cut.packet_is ∙ length-append cut.header payload in
    let payload_len : found.place - 40 + length payload ≡ length packet - 40 = omega (arith, is.same_len, cut.whole, lens) in
    let written : ℕ → ℕ → ℕ → List ℕ =
    λ (high low number : ℕ). slice_set (slice_set (slice_set (take found.place first.header) 4 high) 5 low) found.number_at number in
    let header_is : whole_header first.header (length payload) ≡ cut.header =
    ap (λ b. if b then whole_ipv4_header (ipv4_header first.header) (ipv4_header_len first.header + length payload)
    else ipv6_header_by first.header (fragment_header_in first.header) (length payload))
    (other_than_four first.header is.begins.is_version_6)
    ∙ ap (λ place. ipv6_header_by first.header place (length payload)) is.is_found
    ∙ ap (whole_ipv6_header first.header found) payload_len
    ∙ ap (λ high. written high ((length packet - 40) % 256) (slice_index first.header found.place)) (sym cut.len_high)
    ∙ ap (λ low. written (slice_index cut.header 4) low (slice_index first.header found.place)) (sym cut.len_low)
    ∙ ap (written (slice_index cut.header 4) (slice_index cut.header 5)) is.number ∙ is.same in
    given_back_by key len cut.header payload packet first others arrivals cut.packet_is cut.cut
    (omega (arith, is.is_all, is.same_len, cut.headers_short, cut.room)) (omega (arith, fits, lens))
    (inr (record {
      begins = is.begins;
      found = found;
      is_found = is.is_found;
      short = omega (arith, is.same_len, cut.headers_short);
      fits = omega (arith, payload_len, cut.short);
    })) header_is from all

pub ipv6_accepted : (key : FragmentKey) (len : ℕ) (packet : List ℕ) (fragments arrivals : List FragmentValue)
    → IsIpv6Cut key packet fragments
    → header_room key + length packet ≤ len → length fragments ≤ 128 → AreFrom fragments arrivals → AreAdded (empty key len) arrivals
ipv6_accepted key len packet fragments arrivals cut fits few from =
    let lens : length packet ≡ length cut.header + length cut.payload = ap length cut.packet_is ∙ length-append cut.header cut.payload in
    added_by arrivals (empty key len)
    (accepted key (len - header_room key) cut.payload fragments arrivals cut.cut (omega (arith, lens, cut.whole, cut.short))
    (omega (arith, lens, fits)) few from)
