-- The copy of a block, in which the length of a section is not specified.
use Rattle.std.proofs.Common.{◌≡◌, ◌≤◌, ◌++◌, ◌∙◌, Bool, true, false, if◌then◌else◌, List, ap, arith, drop, drop-drop, length, replicate, sym, take, ℕ}
use Rattle.std.proofs.lemmas.Bool.Decides.{nat_tests}
use Rattle.capture_numbers.specs.declared.byte_order.ByteOrder.{ByteOrder}
use Rattle.capture_file.specs.Pcapng.{IsBlock, is_section_header}
use Rattle.capture_copy.specs.Blocks.{copy_of}

abbrev copy_if : Bool → List ℕ → List ℕ
copy_if is_section block = if is_section then take 16 block ++ (replicate 8 255 ++ drop 24 block) else block

-- the copy of a section header block, which states no section length
pub section_copy : (block written : List ℕ) → is_section_header block ≡ true → written ≡ replicate 8 255
    → take 16 block ++ (written ++ drop 8 (drop 16 block)) ≡ copy_of false block
section_copy block written is same =
    ap (λ bytes. take 16 block ++ (bytes ++ drop 8 (drop 16 block))) same
    ∙ ap (λ bytes. take 16 block ++ (replicate 8 255 ++ bytes)) (drop-drop 8 16 block)
    ∙ sym (ap (λ given. copy_if given block) is)

-- a section header block contains the length of its section
pub section_len : (section : ByteOrder) (bytes block : List ℕ) → IsBlock section bytes → block ≡ bytes → is_section_header block ≡ true
    → 24 ≤ length block
section_len section bytes block is same begins =
    let begins_all : is_section_header bytes ≡ true = ap is_section_header (sym same) ∙ begins in
    let fields = is.has_fields in
    let total = is.begins in
    let len : length block ≡ length bytes = ap length same in
    grind (arith, nat_tests, begins_all, fields, total, len)
