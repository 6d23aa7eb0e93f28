-- Laws of the loop over the labels of a stack.
use Rattle.std.proofs.Common.{◌≡◌, ℕ, zero, suc, ◌+◌, ◌-◌, ◌*◌, ◌<◌, ◌≤◌, true, false, if◌then◌else◌, List, length, Err, refl, ◌∙◌, arith}
use Rattle.std.proofs.lemmas.Bool.{le-ltb, lt-ltb}
use Rattle.net_base.specs.Bytes.{flag}
use Rattle.capture_packet.specs.LinkHeaders.{cut_off}
use Rattle.capture_packet.specs.Mpls.{after_stack, stack_at, stack_within}
use Rattle.capture_packet.specs.declared.network_protocol.NetworkProtocol.{NetworkProtocol}

-- the labels from this label on determine the same header as the whole stack
pub record IsLeft (frame : List ℕ) (other : NetworkProtocol) (place label : ℕ) : Type 0 where
  pub more : ℕ
  pub room : length frame ≤ label + 4 * more
  pub same : stack_at frame other place ≡ stack_within more frame other label

-- a whole label determines the header after it
whole_label : (more : ℕ) (frame : List ℕ) (other : NetworkProtocol) (label : ℕ) → length frame ≤ label + 4 * more → label + 4 ≤ length frame
    → stack_within more frame other label
    ≡ (if flag frame (label + 2) 1 then after_stack frame other (label + 4) else stack_within (more - 1) frame other (label + 4))
whole_label zero frame other label room there = absurd (omega (arith, room, there))
whole_label (suc more) frame other label room there =
    let is_more : suc more - 1 ≡ more = omega arith in
    rw (le-ltb (length frame) (label + 4) there, is_more) refl

-- after a label that is not the last, the stack determines the same header as the next label
pub label_next : (frame : List ℕ) (other : NetworkProtocol) (place label : ℕ) → IsLeft frame other place label → label + 4 ≤ length frame
    → flag frame (label + 2) 1 ≡ false → IsLeft frame other place (label + 4)
label_next frame other place label left there not_last = record {
  more = left.more - 1;
  room = omega (arith, left.room, there);
  same = left.same ∙ whole_label left.more frame other label left.room there ∙ rw not_last refl;
}

-- after the last label, the stack determines the next protocol
pub label_last : (frame : List ℕ) (other : NetworkProtocol) (place label : ℕ) → IsLeft frame other place label → label + 4 ≤ length frame
    → flag frame (label + 2) 1 ≡ true → stack_at frame other place ≡ after_stack frame other (label + 4)
label_last frame other place label left there last =
    left.same ∙ whole_label left.more frame other label left.room there ∙ rw last refl

-- an incomplete label determines the error
label_cut : (more : ℕ) (frame : List ℕ) (other : NetworkProtocol) (label : ℕ) → length frame < label + 4
    → stack_within more frame other label ≡ Err (cut_off frame (label + 4))
label_cut zero frame other label ends = refl
label_cut (suc more) frame other label ends = rw (lt-ltb (length frame) (label + 4) ends) refl

pub left_cut : (frame : List ℕ) (other : NetworkProtocol) (place label : ℕ) → IsLeft frame other place label → length frame < label + 4
    → stack_at frame other place ≡ Err (cut_off frame (label + 4))
left_cut frame other place label left ends = left.same ∙ label_cut left.more frame other label ends
