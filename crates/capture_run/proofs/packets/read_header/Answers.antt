use Rattle.std.proofs.Common.{Err, IfSome, None, Option, Some, arith, List, ℕ, length, ◌≡◌, subst}
use Rattle.capture_file.proofs.CapturePacketsLemmas.{begins_input}
use Rattle.capture_file.specs.Opening.{ReadsBeginning}
use Rattle.capture_file.specs.declared.reader.open_error.OpenError.{OpenError}
use Rattle.capture_request.specs.Endings.{IsRefusedCapture}
use Rattle.capture_packet.specs.Frames.{max_packet_len}
use Rattle.capture_run.proofs.packets.read_header.Goals as goal

-- the packets are read from the bytes that are left
pub returns-in-Ok-Ok-clause-begins : goal.returns-in-Ok-Ok-clause-begins
returns-in-Ok-Ok-clause-begins g c =
    let buffer = c.read_header.new.buffer in
    begins_input max_packet_len c.in-Ok-Ok.reader _ _ buffer (omega arith)
    (subst (ReadsBeginning (g.R.Read.remaining c.args.input.now) (g.R.Read.remaining c.read_header.new.input) buffer) c.in-Ok-Ok.field-0-is
    c.in-Ok-Ok.ensures)

refused : (left still_left : Option (List ℕ)) (buffer : List ℕ) (error : OpenError) → length buffer ≡ max_packet_len
    → ReadsBeginning left still_left buffer (Err error) → IfSome left (IsRefusedCapture error)
refused None still_left buffer error room begins = tt
refused (Some bytes) still_left buffer error room begins = (still_left, buffer, room, begins)

-- the beginning is refused
pub returns-in-Ok-Err-clause-rejects : goal.returns-in-Ok-Err-clause-rejects
returns-in-Ok-Err-clause-rejects g c =
    let buffer = c.read_header.new.buffer in
    refused (g.R.Read.remaining c.args.input.now) (g.R.Read.remaining c.read_header.new.input) buffer c.in-Ok-Err.error (omega arith)
    (subst (ReadsBeginning (g.R.Read.remaining c.args.input.now) (g.R.Read.remaining c.read_header.new.input) buffer) c.in-Ok-Err.field-0-is
    c.in-Ok-Err.ensures)
