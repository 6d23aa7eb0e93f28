-- Laws of the opening of a capture: its first 12 bytes, and then the bytes after them.
use Rattle.std.proofs.lemmas.Bool.Decides.{nat_tests}
use Rattle.std.proofs.Common.{◌≡◌, ℕ, ◌≤◌, ◌<◌, true, false, List, [], ◌∷◌, ◌++◌, Option, Some, None, IfSome, Result, Ok, Err, arith, length, take, sym, ap, ◌∙◌, append-nil, ⊎_elim}
use Rattle.std.proofs.lemmas.Bool.{cases_lt}
use Rattle.std.proofs.lemmas.List.{take_all, take_at}
use Rattle.std.proofs.KnownBytes.{Consumes-trans}
use Rattle.std.specs.Io.KnownBytes.{Consumes, IsAtEnd}
use Rattle.capture_file.proofs.PcapngLemmas.{is_section_header_front}
use Rattle.capture_file.proofs.PcapngReadingLemmas.{with_first}
use Rattle.capture_file.specs.Opening.{ReadsBeginning, ReadsFirstBlock, ReadsRestOfBlock, ReadsRestOfHeader}
use Rattle.capture_file.specs.Reading.{ReadsHeader}
use Rattle.capture_file.specs.Pcapng.{is_section_header}
use Rattle.capture_numbers.specs.declared.byte_order.ByteOrder.TheVariants.{BigEndian}
use Rattle.capture_file.specs.declared.classic.capture_header.CaptureHeader.{CaptureHeader}
use Rattle.capture_file.specs.declared.classic.capture_header_error.CaptureHeaderError.{CaptureHeaderError}
use Rattle.capture_file.specs.declared.reader.open_error.OpenError.TheVariants as refusals
use Rattle.capture_file.specs.declared.reader.packet_error.PacketError.{PacketError}
use Rattle.capture_file.specs.declared.reader.pcapng_reader.PcapngReader.{PcapngReader}

-- ---- the header of a classic capture

-- the bytes that were read are the first 24 bytes: they are 24 bytes, or all bytes of the input
first_bytes : (left still_left : Option (List ℕ)) (bytes : List ℕ) → Consumes left still_left bytes → length bytes ≤ 24
    → (length bytes < 24 → IsAtEnd still_left) → IfSome left (λ all. bytes ≡ take 24 all)
first_bytes None still_left bytes consumed within end = tt
first_bytes (Some all) None bytes consumed within end = absurd consumed
first_bytes (Some all) (Some more) bytes consumed within end =
    ⊎_elim
    (λ fewer. sym (ap (take 24) (consumed ∙ ap (λ l. bytes ++ l) (end fewer) ∙ append-nil bytes) ∙ take_all 24 bytes within))
    (λ all_there. sym (ap (take 24) consumed ∙ take_at bytes more 24 (omega (arith, within, all_there))))
    (cases_lt (length bytes) 24)

-- the header is read from its first bytes and the bytes after them
pub header_read : (left middle still_left : Option (List ℕ)) (first : List ℕ) (result : Result CaptureHeader CaptureHeaderError)
    → Consumes left middle first → ReadsRestOfHeader first middle still_left result → ReadsHeader left still_left result
header_read left middle still_left first (Ok header) consumed reads = grind (arith, nat_tests, Consumes-trans)
header_read left middle still_left first (Err error) consumed reads =
    let all = Consumes-trans left middle still_left first reads.bytes consumed reads.consumed in
    record {
      bytes = first ++ reads.bytes;
      first = first_bytes left still_left (first ++ reads.bytes) all reads.within reads.end;
      consumed = all;
      refused = reads.says;
    }

-- bytes that are not the type of a section header block are refused with an error of a classic capture
pub refused_classic : (left middle still_left : Option (List ℕ)) (first buffer : List ℕ) (error : CaptureHeaderError)
    → is_section_header first ≡ false → Consumes left middle first → ReadsRestOfHeader first middle still_left (Err error)
    → ReadsBeginning left still_left buffer (Err (refusals.Classic error))
refused_classic left middle still_left first buffer error not_one consumed reads =
    let begins : is_section_header (first ++ reads.bytes) ≡ is_section_header first =
    ⊎_elim
    (λ short. ap is_section_header (ap (λ l. first ++ l) (reads.none_after short) ∙ append-nil first))
    (λ long. is_section_header_front first reads.bytes (omega (arith, long)))
    (cases_lt (length first) 12) in (
      header_read left middle still_left first (Err error) consumed reads,
      λ same. grind
          (arith, nat_tests, begins, not_one, reads.says, same),
    )

-- ---- a pcapng file

-- the type of a section header block has four bytes
type_len : (bytes : List ℕ) → is_section_header bytes ≡ true → 4 ≤ length bytes
type_len [] is = absurd (cc is)
type_len (a ∷ []) is = grind (arith, nat_tests)
type_len (a ∷ (b ∷ [])) is = grind (arith, nat_tests)
type_len (a ∷ (b ∷ (c ∷ []))) is = grind (arith, nat_tests)
type_len (a ∷ (b ∷ (c ∷ (d ∷ bytes)))) is = omega arith

-- the beginning of a pcapng file is read from its first bytes and the bytes after them
pub pcapng_beginning : (left middle still_left : Option (List ℕ)) (first buffer : List ℕ) (result : Result PcapngReader PacketError)
    → is_section_header first ≡ true → Consumes left middle first
    → ReadsRestOfBlock first middle still_left buffer result → ReadsFirstBlock left still_left buffer result
pcapng_beginning left middle still_left first buffer result begins consumed rest = record {
  block = rest.block;
  reads = with_first BigEndian left middle still_left first buffer rest.block consumed rest.reads;
  begins = is_section_header_front first rest.reads.bytes (type_len first begins) ∙ begins;
  is_first = rest.is_first;
}
