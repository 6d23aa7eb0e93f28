-- Laws of link headers.
use Rattle.std.proofs.Common.{◌≡◌, ℕ, suc, ◌+◌, ◌≤◌, true, false, List, length, refl, sym, ap, ◌∙◌, inr, Result, Ok, Err, arith}
use Rattle.std.specs.Prelude.{IfErr, IfOk}
use Rattle.net_base.specs.Bytes.{be_number}
use Rattle.capture_packet.specs.Link.{HasEtherHeader, HasTags, IsTagged, NeedsEtherHeader, after_tags, ether_type_after, is_vlan_tag, tagged_len}
use Rattle.capture_packet.specs.declared.link.LinkHeaderCutOff.{LinkHeaderCutOff}
use Rattle.capture_packet.specs.declared.link.header.EtherHeader.{EtherHeader}
use Rattle.capture_packet.specs.declared.link.header.LinkHeader.{LinkHeader}

-- the tags after another tag
pub tagged_next : (header : EtherHeader) (frame : List ℕ) (tags : ℕ) → IsTagged header frame tags
    → is_vlan_tag (ether_type_after header frame tags) ≡ true → IsTagged header frame (suc tags)
tagged_next header frame tags tagged is = λ tag less. grind (arith, tagged, is, less)

-- the part of the frame that was read: a header and some whole tags, and the ether type after them
pub record IsRead (header : EtherHeader) (frame : List ℕ) (len ether_type : ℕ) : Type 0 where
  pub tags : ℕ
  pub tagged : IsTagged header frame tags
  pub is_len : len ≡ tagged_len header tags
  pub is_ether_type : ether_type ≡ ether_type_after header frame tags
  pub there : len ≤ length frame

pub read_first : (header : EtherHeader) (frame : List ℕ) (ether_type : ℕ) → header.len ≤ length frame
    → ether_type ≡ be_number frame header.ether_type_at 2 → IsRead header frame header.len ether_type
read_first header frame ether_type there is =
    record { tags = 0; tagged = λ tag less. absurd (omega (arith, less)); is_len = omega arith; is_ether_type = is; there = there }

pub read_next : (header : EtherHeader) (frame : List ℕ) (len ether_type next_len place next : ℕ) → IsRead header frame len ether_type
    → is_vlan_tag ether_type ≡ true → next_len ≡ len + 4 → place ≡ len + 2 → next_len ≤ length frame → next ≡ be_number frame place 2
    → IsRead header frame next_len next
read_next header frame len ether_type next_len place next read is next_is place_is there is_next =
    record {
      tags = suc read.tags;
      tagged = tagged_next header frame read.tags read.tagged (ap is_vlan_tag (sym read.is_ether_type) ∙ is);
      is_len = omega (arith, next_is, read.is_len);
      is_ether_type = is_next ∙ ap (λ place. be_number frame place 2) (place_is ∙ ap (λ len. len + 2) read.is_len);
      there = there;
    }

-- if no tag comes next, the last ether type determines the end of the header
has_tags : (header : EtherHeader) (frame : List ℕ) (len ether_type : ℕ) (read : IsRead header frame len ether_type)
    → is_vlan_tag ether_type ≡ false → HasTags header frame read.tags
has_tags header frame len ether_type read is = record {
  tagged = read.tagged;
  last = ap is_vlan_tag (sym read.is_ether_type) ∙ is;
  there = omega (arith, read.is_len, read.there);
}

pub has_header : (header : EtherHeader) (frame : List ℕ) (len ether_type : ℕ) (result : Result LinkHeader LinkHeaderCutOff)
    → IsRead header frame len ether_type → is_vlan_tag ether_type ≡ false → result ≡ after_tags header frame len ether_type
    → IfOk result (λ found. HasEtherHeader header frame found.len found.next found.end)
has_header header frame len ether_type (Ok found) read is says = record {
  tags = read.tags;
  has = has_tags header frame len ether_type read is;
  says = cc (read.is_len, read.is_ether_type, says);
}
has_header header frame len ether_type (Err error) read is says = tt

pub needs_after_tags : (header : EtherHeader) (frame : List ℕ) (len ether_type : ℕ) (result : Result LinkHeader LinkHeaderCutOff)
    → IsRead header frame len ether_type → is_vlan_tag ether_type ≡ false → result ≡ after_tags header frame len ether_type
    → IfErr result (λ error. NeedsEtherHeader header frame error.required_len)
needs_after_tags header frame len ether_type (Ok found) read is says = tt
needs_after_tags header frame len ether_type (Err error) read is says =
    inr (inr (record {
      tags = read.tags;
      has = has_tags header frame len ether_type read is;
      error = error;
      says = cc (read.is_len, read.is_ether_type, says);
      is_required_len = refl;
    }))
