-- The beginning of a capture.
use Rattle.std.proofs.Common.{◌≡◌, ◌≤◌, ◌<◌, ◌++◌, ◌∙◌, Bool, IfOk, IfSome, ℕ, List, Option, Result, Some, None, Ok, Err, ap, append-nil, arith, length, length-take, length-take-le, subst, sym, take, ⊎_elim}
use Rattle.std.proofs.lemmas.List.{take_all, take_at}
use Rattle.std.proofs.lemmas.Bool.{cases_lt}
use Rattle.std.proofs.KnownBytes.{Consumes-trans}
use Rattle.std.specs.Io.KnownBytes.{Consumes, IsAtEnd}
use Rattle.streams.specs.Streams.{FillsAfter}
use Rattle.capture_file.specs.Classic.{header_refusal}
use Rattle.capture_file.specs.Opening.{SaysHeader}
use Rattle.capture_file.specs.Pcapng.{is_section_header}
use Rattle.capture_file.specs.Reading.{ReadsHeader, RefusesHeader}
use Rattle.capture_file.specs.declared.classic.capture_header.CaptureHeader.{CaptureHeader}
use Rattle.capture_file.specs.declared.classic.capture_header_error.CaptureHeaderError.{CaptureHeaderError}

-- what a read of the header states about bytes in memory: it reads their first 24 bytes
says_header : (bytes : List ℕ) (left : Option (List ℕ)) (read : Result CaptureHeader CaptureHeaderError)
    → ReadsHeader (Some bytes) left read
    → SaysHeader (take 24 bytes) read
says_header bytes None (Ok header) reads = absurd reads.consumed
says_header bytes (Some rest) (Ok header) reads =
    let same : take 24 bytes ≡ reads.bytes = ap (take 24) reads.consumed ∙ take_at reads.bytes rest 24 (omega (arith, reads.has_len)) in
    subst (λ given. SaysHeader given (Ok header)) (sym same) (reads.has_len, reads.accepted, reads.is_header)
says_header bytes left (Err error) reads = ap header_refusal (sym reads.first) ∙ reads.refused

-- what a read of the header states if the read may fail
pub says_unless_failed : {E : Type 0} → (bytes : List ℕ) (left : Option (List ℕ)) (result : Result
    (Result CaptureHeader CaptureHeaderError) E)
    → IfOk result (ReadsHeader (Some bytes) left) → IfOk result (SaysHeader (take 24 bytes))
says_unless_failed bytes left (Ok read) reads = says_header bytes left read reads
says_unless_failed bytes left (Err error) reads = tt

-- what a read of the header states about the bytes with which a buffer was filled
pub says_of_filled : (buffer : List ℕ) (len : ℕ) (read : Result CaptureHeader CaptureHeaderError) → length buffer ≡ 24
    → SaysHeader (take 24 (take len buffer)) read → SaysHeader (take len buffer) read
says_of_filled buffer len read room says =
    subst (λ given. SaysHeader given read) (take_all 24 (take len buffer) (omega (arith, length-take len buffer, room))) says

-- whether the first bytes of an input are the type of a section header block
pub begins_pcapng : (left : Option (List ℕ)) (bytes : List ℕ) (is_pcapng : Bool) → IfSome left (λ all. bytes ≡ take 12 all)
    → is_section_header bytes ≡ is_pcapng → IfSome left (λ all. is_section_header (take 12 all) ≡ is_pcapng)
begins_pcapng None bytes is_pcapng same is = tt
begins_pcapng (Some all) bytes is_pcapng same is = subst (λ given. is_section_header given ≡ is_pcapng) same is

-- the bytes that were read are the first 24 bytes: they are 24 bytes, or all bytes of the input
first_bytes : (left still_left : Option (List ℕ)) (bytes : List ℕ) → Consumes left still_left bytes → length bytes ≤ 24
    → (length bytes < 24 → IsAtEnd still_left) → IfSome left (λ all. bytes ≡ take 24 all)
first_bytes None still_left bytes consumed within end = tt
first_bytes (Some all) None bytes consumed within end = absurd consumed
first_bytes (Some all) (Some more) bytes consumed within end =
    ⊎_elim
    (λ fewer. sym (ap (take 24) (consumed ∙ ap (λ l. bytes ++ l) (end fewer) ∙ append-nil bytes) ∙ take_all 24 bytes within))
    (λ all_there. sym (ap (take 24) consumed ∙ take_at bytes more 24 (omega (arith, within, all_there))))
    (cases_lt (length bytes) 24)

-- the bytes that were read are the first bytes and the bytes in the buffer
pub all_consumed : (left middle still_left : Option (List ℕ)) (begin buffer : List ℕ) (len : ℕ) → Consumes left middle begin
    → FillsAfter begin middle still_left buffer len → Consumes left still_left (take len buffer)
all_consumed left middle still_left begin buffer len consumed fills =
    subst (Consumes left still_left) (sym fills.whole) (Consumes-trans left middle still_left begin fills.bytes consumed fills.consumed)

-- the header of a classic capture is refused
pub refuses_header : (error : CaptureHeaderError) (left middle still_left : Option (List ℕ)) (begin buffer : List ℕ) (len : ℕ)
    → length buffer ≡ 24 → Consumes left middle begin → FillsAfter begin middle still_left buffer len
    → SaysHeader (take len buffer) (Err error)
    → RefusesHeader left still_left error
refuses_header error left middle still_left begin buffer len room consumed fills refused =
    let all = all_consumed left middle still_left begin buffer len consumed fills in
    let taken = length-take-le len buffer fills.within in record {
      bytes = take len buffer;
      first = first_bytes left still_left (take len buffer) all (omega (arith, taken, fills.within, room))
          (λ fewer. fills.end (omega (arith, taken, room, fewer)));
      consumed = all;
      refused = refused;
    }
