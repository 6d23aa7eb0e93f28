-- The blocks of a pcapng file, from their first bytes and the bytes after them.
use Rattle.std.proofs.Common.{◌≡◌, ◌++◌, ◌∙◌, ℕ, List, Some, [], append-nil, subst, sym}
use Rattle.std.specs.Io.KnownBytes.{Consumes}
use Rattle.capture_file.specs.PcapngReading.{IsNextBlock, ReadsAfter}
use Rattle.capture_numbers.specs.declared.byte_order.ByteOrder.{ByteOrder}
use Rattle.capture_file.specs.declared.pcapng.read.NextBlock.{NextBlock}

-- reading all the bytes that are left ends at the end of input
pub alone : (rest : List ℕ) → Consumes (Some rest) (Some []) rest
alone rest = sym (append-nil rest)

-- the next item, given the first bytes and all bytes after them
pub next_of : (section : ByteOrder) (first rest buffer : List ℕ) (next : NextBlock)
    → ReadsAfter section first (Some rest) (Some []) buffer next
    → IsNextBlock section (first ++ rest) buffer next
next_of section first rest buffer next reads =
    let same : reads.bytes ≡ rest = sym (reads.consumed ∙ append-nil reads.bytes) in
    subst (λ bytes. IsNextBlock section (first ++ bytes) buffer next) same reads.is_next
