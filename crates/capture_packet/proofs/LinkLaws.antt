-- A frame has at most one link header.
use Rattle.std.proofs.Common.{◌≡◌, ℕ, List, sym, ap, ◌∙◌, inl, inr, Option, Result, Ok, Err, arith}
use Rattle.std.proofs.lemmas.Bool.{true≢false}
use Rattle.capture_packet.specs.Link.{EndsInTag, HasEtherHeader, HasTags, HasWhole, NeedsEtherHeader, NeedsWhole}
use Rattle.capture_packet.specs.declared.link.LinkHeaderCutOff.{LinkHeaderCutOff}
use Rattle.capture_packet.specs.declared.link.header.EtherHeader.{EtherHeader}
use Rattle.capture_packet.specs.declared.link.header.FirstHeader.{FirstHeader}
use Rattle.capture_packet.specs.declared.link.header.FirstHeader.TheVariants.{EtherType, Whole}
use Rattle.capture_packet.specs.declared.link.header.LinkHeader.{LinkHeader}
use Rattle.capture_packet.specs.declared.network_protocol.NetworkProtocol.{NetworkProtocol}

-- ---- tags

one_count : (header : EtherHeader) (frame : List ℕ) (tags other : ℕ) → HasTags header frame tags → HasTags header frame other
    → tags ≡ other
one_count header frame tags other has its_has = grind (arith, has.last, its_has.last, has.tagged, its_has.tagged, true≢false)

-- if all tags of a frame are present, the frame does not end within a tag
not_both : (header : EtherHeader) (frame : List ℕ) (tags other : ℕ) → HasTags header frame tags → EndsInTag header frame other → ⊥
not_both header frame tags other has in_tag = grind (arith, has.last, has.there, in_tag.tagged, in_tag.ends, true≢false)

-- ---- headers with an ether type

-- equal results contain equal headers
same_header : {one other : LinkHeader} (said : Result LinkHeader LinkHeaderCutOff) → said ≡ Ok one → said ≡ Ok other
    → (one.len ≡ other.len) × (one.next ≡ other.next) × (one.end ≡ other.end)
same_header {one} {other} said is other_is =
    let same : one ≡ other = cc (is, other_is) in
    (ap (λ header. header.len) same, ap (λ header. header.next) same, ap (λ header. header.end) same)

one_ether_header : (header : EtherHeader) (frame : List ℕ) (len other_len : ℕ) (next other_next : Option NetworkProtocol)
    (end other_end : Option ℕ) → HasEtherHeader header frame len next end → HasEtherHeader header frame other_len other_next other_end
    → (len ≡ other_len) × (next ≡ other_next) × (end ≡ other_end)
one_ether_header header frame len other_len next other_next end other_end has its_has =
    same_header _ has.says
    (rw (one_count header frame its_has.tags has.tags its_has.has has.has) at its_has.says)

whole_ether_header : (header : EtherHeader) (frame : List ℕ) (len required_len : ℕ) (next : Option NetworkProtocol) (end : Option ℕ)
    → HasEtherHeader header frame len next end → NeedsEtherHeader header frame required_len → ⊥
whole_ether_header header frame len required_len next end has (inl needs) = omega (arith, has.has.there, needs.0)
whole_ether_header header frame len required_len next end has (inr (inl needs)) =
    not_both header frame has.tags needs.tags has.has needs.in_tag
whole_ether_header header frame len required_len next end has (inr (inr needs)) =
    cc (one_count header frame has.tags needs.tags has.has needs.has, has.says, needs.says)

needs_one_ether_length : (header : EtherHeader) (frame : List ℕ) (required_len other_len : ℕ) → NeedsEtherHeader header frame required_len
    → NeedsEtherHeader header frame other_len → required_len ≡ other_len
needs_one_ether_length header frame required_len other_len (inl needs) its_needs = grind (arith, needs, its_needs)
needs_one_ether_length header frame required_len other_len (inr needs) (inl its_needs) = grind (arith, needs, its_needs)
needs_one_ether_length header frame required_len other_len (inr (inl needs)) (inr (inl its_needs)) = grind (arith, needs, its_needs)
needs_one_ether_length header frame required_len other_len (inr (inl needs)) (inr (inr its_needs)) =
    absurd (not_both header frame its_needs.tags needs.tags its_needs.has needs.in_tag)
needs_one_ether_length header frame required_len other_len (inr (inr needs)) (inr (inl its_needs)) =
    absurd (not_both header frame needs.tags its_needs.tags needs.has its_needs.in_tag)
needs_one_ether_length header frame required_len other_len (inr (inr needs)) (inr (inr its_needs)) =
    let same = one_count header frame needs.tags its_needs.tags needs.has its_needs.has in
    cc (same, needs.says, its_needs.says, needs.is_required_len, its_needs.is_required_len)

-- ---- all link types

pub one_header : (frame : List ℕ) (len other_len : ℕ) (next other_next : Option NetworkProtocol) (end other_end : Option ℕ)
    (first : Result FirstHeader LinkHeaderCutOff) → HasWhole frame len next end first → HasWhole frame other_len other_next other_end first
    → (len ≡ other_len) × (next ≡ other_next) × (end ≡ other_end)
one_header frame len other_len next other_next end other_end (Ok (Whole header)) has its_has =
    (has.0 ∙ sym its_has.0, has.1 ∙ sym its_has.1, has.2 ∙ sym its_has.2)
one_header frame len other_len next other_next end other_end (Ok (EtherType header)) has its_has =
    one_ether_header header frame len other_len next other_next end other_end has its_has
one_header frame len other_len next other_next end other_end (Err error) has its_has = absurd has

pub whole_header : (frame : List ℕ) (len required_len : ℕ) (next : Option NetworkProtocol) (end : Option ℕ)
    (first : Result FirstHeader LinkHeaderCutOff) → HasWhole frame len next end first → ¬ NeedsWhole frame required_len first
whole_header frame len required_len next end (Ok (Whole header)) has needs = needs
whole_header frame len required_len next end (Ok (EtherType header)) has needs =
    whole_ether_header header frame len required_len next end has needs
whole_header frame len required_len next end (Err error) has needs = has

pub needs_one_length : (frame : List ℕ) (required_len other_len : ℕ) (first : Result FirstHeader LinkHeaderCutOff)
    → NeedsWhole frame required_len first → NeedsWhole frame other_len first → required_len ≡ other_len
needs_one_length frame required_len other_len (Ok (Whole header)) needs its_needs = absurd needs
needs_one_length frame required_len other_len (Ok (EtherType header)) needs its_needs =
    needs_one_ether_length header frame required_len other_len needs its_needs
needs_one_length frame required_len other_len (Err error) needs its_needs = needs ∙ sym its_needs
