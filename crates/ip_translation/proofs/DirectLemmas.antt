-- Laws of the packet without its extension headers.
use Rattle.std.proofs.Common.{◌≡◌, List, ℕ, drop, Option, Some, None, Ok, refl, sym, ◌∙◌, ap, subst}
use Rattle.std.specs.Option.{unwrap_or}
use Rattle.ip_part.specs.Ip.{error_of}
use Rattle.ip_translation.specs.Fragments.{whole}
use Rattle.ip_translation.specs.Ipv6Packets.{direct_in, fields_in, flags_by, flags_in, header_before, message_in, skipped_in}
use Rattle.ip_translation.specs.SkippedHeaders.{unless_err}
use Rattle.ip_translation.specs.declared.fragment_fields.FragmentFields.{FragmentFields}
use Rattle.ip_translation.specs.declared.skipped_headers.SkippedHeaders.{SkippedHeaders}

-- the flags do not depend on the identification of a packet without a fragment header
pub flags_of : (fragment : Option FragmentFields) (identification : ℕ)
    → (unwrap_or fragment (whole identification)).flags_and_offset ≡ flags_by fragment
flags_of None identification = refl
flags_of (Some fields) identification = refl

-- No extension header is refused. The packet without its extension headers consists of this header and this message, and these are the
-- fields
-- of a fragment.
pub record IsDirect (identification : ℕ) (header payload direct message : List ℕ) (fields : FragmentFields) : Type 0 where
  pub accepted : error_of (skipped_in header payload) ≡ None
  pub header_is : direct_in header payload ≡ direct
  pub message_is : message_in header payload ≡ message
  pub fields_are : fields_in identification header payload ≡ fields
  pub flags_are : flags_in header payload ≡ fields.flags_and_offset

pub is_direct : (identification : ℕ) (header payload direct message : List ℕ) (fields : FragmentFields) (skipped : SkippedHeaders)
    → skipped_in header payload ≡ Ok skipped
    → message ≡ drop skipped.len payload → direct ≡ header_before header skipped.number message
    → fields ≡ unwrap_or skipped.fragment (whole identification)
    → IsDirect identification header payload direct message fields
is_direct identification header payload direct message fields skipped is left made same = record {
  accepted = ap error_of is;
  header_is = ap (λ skipped. header_before header (unless_err skipped).number (drop (unless_err skipped).len payload)) is
      ∙ ap (header_before header skipped.number) (sym left) ∙ sym made;
  message_is = ap (λ skipped. drop (unless_err skipped).len payload) is ∙ sym left;
  fields_are = ap (λ skipped. unwrap_or (unless_err skipped).fragment (whole identification)) is ∙ sym same;
  flags_are = ap (λ skipped. flags_by (unless_err skipped).fragment) is ∙ sym (flags_of skipped.fragment identification)
      ∙ ap (λ fields. fields.flags_and_offset) (sym same);
}

-- what holds of this header, this message and these fields
pub moved : (P : List ℕ → FragmentFields → List ℕ → Type 0) (identification : ℕ) (header payload direct message : List ℕ)
    (fields : FragmentFields)
    → IsDirect identification header payload direct message fields
    → P direct fields message → P (direct_in header payload) (fields_in identification header payload) (message_in header payload)
moved P identification header payload direct message fields is holds =
    subst (λ message. P (direct_in header payload) (fields_in identification header payload) message) (sym is.message_is)
    (subst (λ fields. P (direct_in header payload) fields message) (sym is.fields_are)
    (subst (λ header. P header fields message) (sym is.header_is) holds))
