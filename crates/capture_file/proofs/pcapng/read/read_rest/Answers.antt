use Rattle.std.proofs.Common.{◌≡◌, ◌≤◌, ℕ, List, arith, length, length-take, rules, take}
use Rattle.capture_file.proofs.PcapngReadingLemmas.{fails_within, refused_fill, refused_first, whole_after}
use Rattle.capture_file.proofs.ReaderLemmas.{at_error, fills_whole}
use Rattle.capture_file.proofs.pcapng.read.read_rest.Goals as goal

pub returns-in-Err-clause-reads : goal.returns-in-Err-clause-reads
returns-in-Err-clause-reads g c =
    let some : 1 ≤ length c.args.first.now = search rules in
    refused_first c.args.section c.args.first.now _ c.args.buffer.now c.in-Err.error c.requires some c.in-Err.ensures.refused

pub returns-in-Ok-from_slice-clause-reads : goal.returns-in-Ok-from_slice-clause-reads
returns-in-Ok-from_slice-clause-reads g c =
    let room : length c.fill_after.new.buffer ≡ c.in-Ok.header.total_len = omega (arith, c.fill_after.auto.buffer, length-take {A = ℕ}) in
    let buffer : List ℕ = take c.in-Ok.header.total_len c.args.buffer.now in
    let least : 12 ≤ c.in-Ok.header.total_len = c.in-Ok.ensures.len.0 in
    let fits : length c.args.first.now ≤ length buffer = omega (arith, least, c.requires.0, room, c.fill_after.auto.buffer) in
    let fills = fills_whole (length buffer) c.args.first.now _ _ c.fill_after.new.buffer c.in_ok-len.len fits c.in_ok-len.ensures.fills in
    whole_after c.args.section c.args.first.now _ _ c.fill_after.new.buffer _ c.in-Ok.header c.in_ok-len.len c.in-Ok.ensures.within
    c.in-Ok.ensures.read room fills c.in-Ok-from_slice.ensures.refused

pub returns-in-Err-from_slice-clause-reads : goal.returns-in-Err-from_slice-clause-reads
returns-in-Err-from_slice-clause-reads g c =
    let room : length c.fill_after.new.buffer ≡ c.in-Ok.header.total_len = omega (arith, c.fill_after.auto.buffer, length-take {A = ℕ}) in
    let buffer : List ℕ = take c.in-Ok.header.total_len c.args.buffer.now in
    let least : 12 ≤ c.in-Ok.header.total_len = c.in-Ok.ensures.len.0 in
    let fits : length c.args.first.now ≤ length buffer = omega (arith, least, c.requires.0, room, c.fill_after.auto.buffer) in
    let fills = fills_whole (length buffer) c.args.first.now _ _ c.fill_after.new.buffer c.in_ok-len.len fits c.in_ok-len.ensures.fills in
    refused_fill c.args.section c.args.first.now _ _ c.fill_after.new.buffer _ c.in-Ok.header c.in_ok-len.len c.in-Err-from_slice.error
    c.in-Ok.ensures.within c.in-Ok.ensures.refused c.in-Ok.ensures.read room fills c.in-Err-from_slice.ensures.refused

-- the result if reading failed after the header
pub returns-in_err-len-clause-fails : goal.returns-in_err-len-clause-fails
returns-in_err-len-clause-fails g c =
    let room : length (take c.in-Ok.header.total_len c.args.buffer.now) ≡ c.in-Ok.header.total_len = omega (arith, length-take {A = ℕ}) in
    at_error c.from_residual.result
    (fails_within c.args.section c.args.first.now _ _ c.in-Ok.header _ c.in-Ok.ensures.within c.in-Ok.ensures.refused c.in-Ok.ensures.read
    (omega (arith, c.requires.0, c.in-Ok.ensures.len.0, room)) c.in_err-len.ensures.fails)
