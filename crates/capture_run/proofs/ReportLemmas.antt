-- Laws of the loop over the packets of a capture: one more packet is counted.
use Rattle.std.proofs.Common.{◌≡◌, ◌+◌, ◌≤◌, ℕ, List, [], ◌∷◌, ◌++◌, None, Some, Option, Result, IfSome, ap, append-nil, arith, length, refl, subst, sym, take}
use Rattle.std.specs.Io.KnownBytes.{Appends}
use Rattle.capture_file.proofs.CapturePacketsLaws.{packets_before_cut}
use Rattle.capture_file.specs.CapturePackets.{ArePacketsBeforeCut, HasPackets, FilePacket}
use Rattle.capture_file.specs.declared.reader.capture_reader.CaptureReader.{CaptureReader}
use Rattle.capture_file.specs.declared.reader.next_packet.NextPacket.{NextPacket}
use Rattle.capture_packet.specs.Frames.{max_packet_len}
use Rattle.capture_request.specs.Report.{CountsCaptured, CountsEach, EndsAfter}
use Rattle.capture_summary.specs.SummaryTables.{SummaryTables}
use Rattle.capture_summary.specs.declared.choice.Choice.{Choice}
use Rattle.capture_request.specs.declared.capture_error.CaptureError.{CaptureError}
use Rattle.capture_request.specs.declared.reached.Reached.{Reached}

-- if nothing was written, the empty text was appended
pub appends_nothing : (held : Option (List ℕ)) → Appends held held []
appends_nothing None = tt
appends_nothing (Some held) = sym (append-nil held)

-- counting some packets, and then one more packet, counts all these packets
pub counts-push : (choice : Choice) (before between after : SummaryTables) (packets : List FilePacket) (packet : FilePacket)
    → CountsEach choice before packets between → CountsCaptured choice packet between after
    → CountsEach choice before (packets ++ packet ∷ []) after
counts-push choice before between after [] packet counted one =
    (after, subst (λ tables. CountsCaptured choice packet tables after) counted one, refl)
counts-push choice before between after (p ∷ ps) packet counted one =
    (counted.0, counted.1, counts-push choice counted.0 between after ps packet counted.2 one)

-- the number of counted packets is at most the number of packets
pub counts_at_most : (choice : Choice) (before : SummaryTables) (packets : List FilePacket) (after : SummaryTables)
    → CountsEach choice before packets after → after.packets ≤ before.packets + length packets
counts_at_most choice before [] after counted = omega (arith, ap (λ tables. tables.packets) counted)
counts_at_most choice before (packet ∷ packets) after counted =
    grind (arith, counted.1.counts, counts_at_most choice counted.0 packets after counted.2)

-- in a truncated capture, the packets that end at or before the cut are counted
pub counts-cut : (choice : Choice) (reader : CaptureReader) (left : Option (List ℕ)) (packets : List FilePacket)
    (ended : Result Reached CaptureError)
    (before after : SummaryTables) → IfSome left (EndsAfter reader packets ended) → CountsEach choice before packets after
    → (whole : List ℕ) (all : List FilePacket) (next : NextPacket) (cut : ℕ) → left ≡ Some (take cut whole)
    → HasPackets max_packet_len reader whole all next
    → (before_cut : List FilePacket) × ArePacketsBeforeCut max_packet_len reader whole cut all before_cut
    × CountsEach choice before before_cut after
counts-cut choice reader left packets ended before after are_all counted whole all next cut is_cut has =
    let (cut_next, cut_has, answered) = rw is_cut at are_all in
    (packets, packets_before_cut max_packet_len reader whole all next cut packets cut_next has cut_has, counted)
