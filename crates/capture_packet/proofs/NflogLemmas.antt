-- The attributes of a LINKTYPE_NFLOG frame, read one after another.
use Rattle.std.proofs.Common.{◌≡◌, ℕ, zero, suc, ◌+◌, ◌-◌, ◌≤◌, ◌<◌, List, length, Ok, Err, refl, ◌∙◌, arith}
use Rattle.std.proofs.lemmas.Bool.{le-ltb, lt-ltb}
use Rattle.capture_packet.specs.Nflog.{after_attribute, attribute_at, attributes, attributes_within, unread_log}
use Rattle.capture_numbers.specs.declared.byte_order.ByteOrder.{ByteOrder}
use Rattle.capture_packet.specs.declared.link.LinkHeaderCutOff.{LinkHeaderCutOff}
use Rattle.capture_packet.specs.declared.link.header.FirstHeader.{FirstHeader}
use Rattle.capture_packet.specs.declared.link.nflog.Attribute.TheVariants.{Last, Other}

-- the attributes from this place on determine the same header as all attributes
pub record IsLeft (order : ByteOrder) (frame : List ℕ) (place : ℕ) : Type 0 where
  pub more : ℕ
  pub room : length frame ≤ place + more
  pub there : place ≤ length frame
  pub same : attributes order frame ≡ attributes_within more order frame place

-- a whole attribute determines the header after it
first_attribute : (more : ℕ) (order : ByteOrder) (frame : List ℕ) (place : ℕ) → length frame ≤ place + more → place < length frame
    → attributes_within more order frame place
    ≡ after_attribute (λ next. attributes_within (more - 1) order frame next) (attribute_at order frame place)
first_attribute zero order frame place room within = absurd (omega (arith, room, within))
first_attribute (suc more) order frame place room within =
    let is_more : suc more - 1 ≡ more = omega arith in
    rw (lt-ltb place (length frame) within, is_more) refl

-- after an attribute without the packet, all attributes determine the same header as those from the next attribute on
pub attribute_other : (order : ByteOrder) (frame : List ℕ) (place end : ℕ) → IsLeft order frame place → place < length frame
    → attribute_at order frame place ≡ Ok (Other end) → place + 4 ≤ end → end ≤ length frame → IsLeft order frame end
attribute_other order frame place end left within is after there = record {
  more = left.more - 1;
  room = omega (arith, left.room, within, after);
  there = there;
  same = left.same ∙ first_attribute left.more order frame place left.room within ∙ rw is refl;
}

-- the last attribute determines the header
pub attribute_last : (order : ByteOrder) (frame : List ℕ) (place : ℕ) (header : FirstHeader) → IsLeft order frame place
    → place < length frame → attribute_at order frame place ≡ Ok (Last header) → attributes order frame ≡ Ok header
attribute_last order frame place header left within is =
    left.same ∙ first_attribute left.more order frame place left.room within ∙ rw is refl

-- an attribute that is cut off determines the error
pub attribute_cut : (order : ByteOrder) (frame : List ℕ) (place : ℕ) (error : LinkHeaderCutOff) → IsLeft order frame place
    → place < length frame → attribute_at order frame place ≡ Err error → attributes order frame ≡ Err error
attribute_cut order frame place error left within is =
    left.same ∙ first_attribute left.more order frame place left.room within ∙ rw is refl

-- without another attribute, the packet is not in the log
none_left : (more : ℕ) (order : ByteOrder) (frame : List ℕ) (place : ℕ) → length frame ≤ place
    → attributes_within more order frame place ≡ Ok (unread_log place)
none_left zero order frame place ends = refl
none_left (suc more) order frame place ends = rw (le-ltb place (length frame) ends) refl

pub attributes_end : (order : ByteOrder) (frame : List ℕ) (place : ℕ) → IsLeft order frame place → length frame ≤ place
    → attributes order frame ≡ Ok (unread_log place)
attributes_end order frame place left ends = left.same ∙ none_left left.more order frame place ends
