use Rattle.std.proofs.Common.{◌≡◌, ◌+◌, ◌-◌, ◌++◌, ℕ, List, arith, length, length-append, length-take-le, take}
use Rattle.std.proofs.KnownBytes.{Consumes-trans}
use Rattle.capture_file.proofs.PcapngReadingLemmas.{cut_off_after, differs_after, fails_within, fewer_after, passed_over, short_refused, short_too_long}
use Rattle.capture_file.proofs.ReaderLemmas.{at_error, full}
use Rattle.capture_file.proofs.pcapng.read.pass_over.Goals as goal

pub returns-in-Ok-clause-reads : goal.returns-in-Ok-clause-reads
returns-in-Ok-clause-reads g c = λ buffer room.
    let has_len : length c.args.first.now ≡ 12 = c.requires.has_len in
    short_too_long c.args.section c.args.first.now _ buffer c.args.header has_len c.requires.is_header
    (omega arith) c.in-Ok.ensures.refused room

pub returns-in-Err-clause-reads : goal.returns-in-Err-clause-reads
returns-in-Err-clause-reads g c = λ buffer room.
    let has_len : length c.args.first.now ≡ 12 = c.requires.has_len in
    short_refused c.args.section c.args.first.now _ buffer c.args.header c.in-Err.error has_len c.requires.accepted c.requires.is_header
    (omega arith)
    c.in-Err.ensures.refused

pub returns-then-skipped-middle_len-clause-reads : goal.returns-then-skipped-middle_len-clause-reads
returns-then-skipped-middle_len-clause-reads g c = λ buffer room.
    let has_len : length c.args.first.now ≡ 12 = c.requires.has_len in
    let skips = c.in_ok-skipped.ensures.skips in
    let counts : 12 + c.in_ok-skipped.skipped ≡ length (c.args.first.now ++ skips.bytes) =
    omega (arith, has_len, skips.has_len, length-append c.args.first.now skips.bytes) in
    cut_off_after c.args.section c.args.first.now skips.bytes _ _ buffer c.args.header (12 + c.in_ok-skipped.skipped)
    (omega (arith, has_len))
    c.requires.accepted c.requires.is_header skips.consumed counts (omega arith) (skips.end (omega arith))

pub returns-then-len-lt-LAST_LEN-clause-reads : goal.returns-then-len-lt-LAST_LEN-clause-reads
returns-then-len-lt-LAST_LEN-clause-reads g c = λ buffer room.
    let remaining = g.R.Read.remaining in
    let first : List ℕ = c.args.first.now in
    let has_len : length first ≡ 12 = c.requires.has_len in
    let skips = c.in_ok-skipped.ensures.skips in
    let count : ℕ = c.in_ok-len.len in
    let last : List ℕ = take count c.fill.new.buffer in
    let last_len : length last ≡ count = length-take-le count c.fill.new.buffer c.in_ok-len.ensures.len in
    let four : length c.fill.new.buffer ≡ 4 = omega (arith, c.fill.auto.buffer) in
    let counts : 12 + (c.args.header.total_len - 12 - 4) + count ≡ length (first ++ (skips.bytes ++ last)) =
    omega (
      arith,
      has_len,
      skips.has_len,
      skips.within,
      last_len,
      length-append first (skips.bytes ++ last),
      length-append skips.bytes last,
      c.requires.len.0,
      c.requires.len.1,
    ) in
    cut_off_after c.args.section first (skips.bytes ++ last) _ _ buffer c.args.header (12 + (c.args.header.total_len - 12 - 4) + count)
    (omega (arith, has_len)) c.requires.accepted c.requires.is_header
    (Consumes-trans (remaining c.args.input.now) (remaining c.skip.new.input)
    (remaining c.fill.new.input) skips.bytes last skips.consumed c.in_ok-len.ensures.consumed)
    counts (omega (arith, c.requires.len.0, c.requires.len.1)) (c.in_ok-len.ensures.end (omega (arith, four)))

pub returns-then-last_len-header-clause-reads : goal.returns-then-last_len-header-clause-reads
returns-then-last_len-header-clause-reads g c = λ buffer room.
    let remaining = g.R.Read.remaining in
    let first : List ℕ = c.args.first.now in
    let has_len : length first ≡ 12 = c.requires.has_len in
    let skips = c.in_ok-skipped.ensures.skips in
    let last : List ℕ = c.fill.new.buffer in
    let four : length last ≡ 4 = omega (arith, c.fill.auto.buffer) in
    let consumed = full _ _ last c.in_ok-len.len (omega (arith, four)) c.in_ok-len.ensures.consumed in
    differs_after c.args.section first skips.bytes last _ _ buffer c.args.header c.number-last_len.result (omega (arith, has_len))
    c.requires.accepted c.requires.is_header
    (Consumes-trans (remaining c.args.input.now) (remaining c.skip.new.input)
    (remaining c.fill.new.input) skips.bytes last skips.consumed consumed)
    four (omega (arith, has_len, skips.has_len, skips.within, length-append first skips.bytes, c.requires.len.0, c.requires.len.1))
    c.number-last_len.ensures
    (λ same. omega (arith, same))

pub returns-clause-reads : goal.returns-clause-reads
returns-clause-reads g c = λ buffer room.
    let remaining = g.R.Read.remaining in
    let first : List ℕ = c.args.first.now in
    let has_len : length first ≡ 12 = c.requires.has_len in
    let skips = c.in_ok-skipped.ensures.skips in
    let last : List ℕ = c.fill.new.buffer in
    let four : length last ≡ 4 = omega (arith, c.fill.auto.buffer) in
    let consumed = full _ _ last c.in_ok-len.len (omega (arith, four)) c.in_ok-len.ensures.consumed in
    passed_over c.args.section first skips.bytes last _ _ buffer c.args.header c.number-last_len.result (omega (arith, has_len))
    c.requires.accepted c.requires.is_header
    (Consumes-trans (remaining c.args.input.now) (remaining c.skip.new.input)
    (remaining c.fill.new.input) skips.bytes last skips.consumed consumed)
    four (omega (arith, has_len, skips.has_len, skips.within, length-append first skips.bytes, c.requires.len.0, c.requires.len.1))
    c.number-last_len.ensures (omega arith) room

-- ---- a read that fails

pub returns-in_err-skipped-clause-fails : goal.returns-in_err-skipped-clause-fails
returns-in_err-skipped-clause-fails g c =
    let has_len : length c.args.first.now ≡ 12 = c.requires.has_len in
    at_error c.from_residual.result
    (fails_within c.args.section c.args.first.now _ _ c.args.header _ (omega (arith, has_len)) c.requires.accepted c.requires.is_header
    (omega (arith, has_len, c.requires.len.0)) c.in_err-skipped.ensures.fails)

pub returns-in_err-len-clause-fails : goal.returns-in_err-len-clause-fails
returns-in_err-len-clause-fails g c =
    let has_len : length c.args.first.now ≡ 12 = c.requires.has_len in
    let skips = c.in_ok-skipped.ensures.skips in
    at_error c.from_residual-in_err-len.result
    (fails_within c.args.section c.args.first.now _ _ c.args.header (length skips.bytes + 4) (omega (arith, has_len)) c.requires.accepted
    c.requires.is_header (omega (arith, has_len, skips.has_len, skips.within, c.requires.len.0, c.requires.len.1))
    (fewer_after _ _ _ skips.bytes 4 skips.consumed c.in_err-len.ensures.fails))
