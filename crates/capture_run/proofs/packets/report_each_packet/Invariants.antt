use Rattle.std.proofs.Common.{◌≡◌, ◌+◌, ◌≤◌, List, length}
use Rattle.capture_file.specs.CapturePackets.{FilePacket, ReadsPackets}
use Rattle.capture_packet.specs.Frames.{max_packet_len}
use Rattle.capture_request.specs.Limits.{EndsWithRequested, IsWithin, limited}
use Rattle.capture_run.specs.PacketsText.{ReadsTexts, first_time}
use Rattle.capture_request.specs.Report.{CountsEach}
use Rattle.capture_words.specs.Written.{AppendsOne}
use Rattle.capture_request.specs.declared.parts.Lines.TheVariants as lines
use Rattle.capture_run.proofs.packets.report_each_packet.Given as goal

-- the packets read are counted, their text is written, and the next number is one more than their number
abbrev pub invariant-loop-number : goal.invariant-loop-number
invariant-loop-number g l =
    (packets : List FilePacket)
    × ReadsPackets max_packet_len l.initial.reader (g.R.Read.remaining l.initial.input) (g.R.Read.remaining l.input) l.reader packets
    × CountsEach l.initial.packets.parts.choice l.initial.packets.summary packets l.packets.summary
    × (l.number ≡ length packets + 1)
    × (l.packets.summary.packets ≤ l.initial.packets.summary.packets + length packets)
    × (length l.buffer ≡ length l.initial.buffer)
    × (l.packets.parts ≡ l.initial.packets.parts)
    × (l.initial.packets.parts.lines ≡ lines.None → l.output ≡ l.initial.output)
    × (IsWithin l.initial.packets.parts.limit (limited l.initial.packets.parts.lines l.initial.packets.summary)
    → IsWithin l.initial.packets.parts.limit (limited l.initial.packets.parts.lines l.packets.summary))
    × (l.packets.first ≡ first_time l.initial.packets.first packets)
    × EndsWithRequested l.initial.packets.parts l.initial.packets.summary packets
    × AppendsOne (g.W.Write.contents l.initial.output) (g.W.Write.contents l.output)
    (λ text. ReadsTexts l.initial.packets.parts 1 l.initial.packets.first l.initial.reader (g.R.Read.remaining l.initial.input)
    (g.R.Read.remaining l.input) l.reader packets text)
