-- The text of a report: the line of each packet that has a line, in the order of the packets, then an empty line, and then the summary.
use Rattle.std.specs.Prelude.{◌≡◌, ℕ, ◌+◌, ◌||◌, nat_lt, Bool, false, if◌then◌else◌, List, [], ◌∷◌, ◌++◌, codes, Option, Some, None, Result, Ok}
use Rattle.std.specs.Option.{option_or}
use Rattle.capture_file.specs.CapturePackets.{BeginsInput, FilePacket, ReadsOne, kept, too_long}
use Rattle.capture_file.specs.PacketTexts.{no_packet_texts, texts_of}
use Rattle.capture_file.specs.declared.reader.capture_reader.CaptureReader.{CaptureReader}
use Rattle.capture_file.specs.declared.packet_time.PacketTime.{PacketTime}
use Rattle.capture_file.specs.declared.reader.packet_texts.PacketTexts.{PacketTexts}
use Rattle.capture_words.specs.FactsText.{facts_text}
use Rattle.capture_packet.specs.Frames.{max_packet_len}
use Rattle.capture_json.specs.JsonSummary.{json_summary}
use Rattle.capture_request.specs.Limits.{EndsWithRequested}
use Rattle.capture_request.specs.Report.{CountsEach, IsPacketOf, ReadsUntil, ReportsOne, info_of, packet_time}
use Rattle.capture_run.specs.ReportText.{IsTextOfOne}
use Rattle.capture_run.specs.Runs.{RejectsBeginning}
use Rattle.capture_summary.specs.Files.{Files}
use Rattle.capture_summary.specs.SummaryTables.{SummaryTables, file_started, has_fault}
use Rattle.capture_text.specs.FilesText.{files_table}
use Rattle.capture_text.specs.SummaryText.{summary_text}
use Rattle.capture_text.specs.TimelineText.{timeline_table}
use Rattle.capture_request.specs.declared.parts.Format.{Format}
use Rattle.capture_request.specs.declared.parts.Format.TheVariants as formats
use Rattle.capture_request.specs.declared.parts.Lines.{Lines}
use Rattle.capture_request.specs.declared.parts.Lines.TheVariants as lines
use Rattle.capture_request.specs.declared.parts.Parts.{Parts}
use Rattle.capture_request.specs.declared.capture_error.CaptureError.{CaptureError}
use Rattle.capture_request.specs.declared.reached.Reached.{Reached}
use Rattle.capture_request.specs.declared.reached.Reached.TheVariants.{Limit}

-- The texts of a packet, given the reader after this packet. The texts of a packet that is longer than the buffer are not known.
abbrev pub packet_texts : CaptureReader → FilePacket → PacketTexts
packet_texts reader (kept packet frame) = texts_of reader packet.interface
packet_texts reader (too_long packet) = no_packet_texts

-- The text of a packet of a capture: its line if it is chosen and has a line, otherwise nothing. `reader` is the reader after the packet.
abbrev pub IsPacketText : Parts → ℕ → CaptureReader → Option PacketTime → FilePacket → List ℕ → Type 0
IsPacketText parts number reader first packet text =
    IsTextOfOne (IsPacketOf parts.choice.udp_tunnels packet) parts number (packet_texts reader packet) first (info_of packet) text

-- The first known time of the packets so far, these packets included. `first` is the first known time of the packets before these packets.
abbrev pub first_time : Option PacketTime → List FilePacket → Option PacketTime
first_time first [] = first
first_time first (packet ∷ packets) = first_time (option_or first (packet_time packet)) packets

-- These packets were read in their order, and `text` consists of their texts, one after the other. The first packet has this number.
-- `before` is the reader before the packets, and `after` is the reader after them.
abbrev pub ReadsTexts : Parts → ℕ → Option PacketTime → CaptureReader → Option (List ℕ) → Option (List ℕ) → CaptureReader → List FilePacket
    → List ℕ → Type 0
ReadsTexts parts number first before left still_left after [] text = (after ≡ before) × (still_left ≡ left) × (text ≡ [])
ReadsTexts parts number first before left still_left after (packet ∷ packets) text =
    (reader : CaptureReader) × (middle : Option (List ℕ)) × (line : List ℕ) × (others : List ℕ)
    × ReadsOne max_packet_len before left middle reader packet × IsPacketText parts number reader first packet line
    × ReadsTexts parts (number + 1) (option_or first (packet_time packet)) reader middle still_left after packets others
    × (text ≡ line ++ others)

-- a packet was read, and it was counted if it is chosen; `text` is the text of this packet
pub record WritesPacket (parts : Parts) (number : ℕ) (first now_first : Option PacketTime) (reader : CaptureReader) (left still_left : Option (List ℕ)) (still_reader : CaptureReader) (before after : SummaryTables) (text : List ℕ) : Type 0 where
  pub reports : ReportsOne parts.choice reader left still_left still_reader before after
  pub is_first : now_first ≡ option_or first (packet_time reports.packet)
  pub is_text : IsPacketText parts number still_reader first reports.packet text

-- The report of the packets of a capture, after its beginning. `packets` are all packets that were read until the report ended. The chosen
-- packets were counted, and `text` consists of their texts. The first packet has number 1, whether it is chosen or not. If a number of
-- lines is requested, no packet is read after the last requested line. `reader` is the reader before the packets, and `last` is the reader
-- after them.
pub record WritesPackets (reader last : CaptureReader) (parts : Parts) (first : Option PacketTime) (left still_left : Option (List ℕ)) (ended : Result Reached CaptureError) (before after : SummaryTables) (text : List ℕ) : Type 0 where
  pub packets : List FilePacket
  pub read : ReadsUntil reader left still_left packets before.packets last ended
  pub requested : ended ≡ Ok Limit → EndsWithRequested parts before packets
  pub counted : CountsEach parts.choice before packets after
  pub is_text : ReadsTexts parts 1 first reader left read.middle read.before packets text

-- The report of a capture with an accepted beginning. Times are counted from the first packet of this capture that has a time. The member
-- `file` of the counts counts exactly the chosen packets of this capture: it is empty before the first of them.
pub record WritesCapture (parts : Parts) (left still_left : Option (List ℕ)) (ended : Result Reached CaptureError) (before after : SummaryTables) (last : CaptureReader) (text : List ℕ) : Type 0 where
  pub reader : CaptureReader
  pub after_beginning : Option (List ℕ)
  pub begins : BeginsInput max_packet_len reader left after_beginning
  pub writes : WritesPackets reader last parts None after_beginning still_left ended (file_started before) after text

-- The report of a capture: the counts after it, the reader after its packets, and its text. If the beginning of the capture is refused or
-- can't be read, nothing is counted, there is no reader, and the text is empty.
abbrev pub IsCaptureReport : Parts → Option (List ℕ) → Option (List ℕ) → Result Reached CaptureError → SummaryTables → SummaryTables
    → Option CaptureReader → List ℕ → Type 0
IsCaptureReport parts left still_left ended before after None text = RejectsBeginning left ended × (after ≡ before) × (text ≡ [])
IsCaptureReport parts left still_left ended before after (Some last) text = WritesCapture parts left still_left ended before after last text

-- At least one of the counted packets has a line. The option `lines` selects all counted packets, only packets with a wrong checksum and
-- refused packets, or no packets.
abbrev pub has_packet_line : Lines → SummaryTables → Bool
has_packet_line lines.All tables = nat_lt 0 tables.packets
has_packet_line lines.Wrong tables = has_fault tables
has_packet_line lines.None tables = false

-- captures have headings: lines of packets are requested, and several captures are named; `count` is the number of named captures
abbrev pub has_headings : Lines → ℕ → Bool
has_headings lines.All count = nat_lt 1 count
has_headings lines.Wrong count = nat_lt 1 count
has_headings lines.None count = false

-- the empty line before the summary; it is left out unless a packet has a line, or captures have headings
abbrev pub empty_line : Lines → ℕ → SummaryTables → List ℕ
empty_line lines count tables = if has_packet_line lines tables || has_headings lines count then codes "\n" else []

-- the table of the timeline; it is left out unless it is requested
abbrev pub timeline_part : Parts → SummaryTables → List ℕ
timeline_part parts tables = if parts.timeline then timeline_table tables.timeline else []

-- The summary as text: the empty line, the facts about the capture if only one was read, the tables, the table of the timeline, and the
-- table of files. `count` is the number of named captures.
abbrev pub text_of_summary : Parts → ℕ → Option CaptureReader → Files → SummaryTables → List ℕ
text_of_summary parts count capture files tables =
    empty_line parts.lines count tables ++ (facts_text capture ++ (summary_text parts.top tables ++ (timeline_part parts tables
    ++ files_table files)))

-- the summary in the requested format: as text, or as a JSON object
abbrev pub summary_in : Format → Parts → ℕ → Option CaptureReader → Files → SummaryTables → List ℕ
summary_in formats.Text parts count capture files tables = text_of_summary parts count capture files tables
summary_in formats.Json parts count capture files tables = json_summary capture files parts.top tables

-- the end of a report: the summary in the requested format; the text is empty if no summary is requested
abbrev pub end_text : Parts → ℕ → Option CaptureReader → Files → SummaryTables → List ℕ
end_text parts count capture files tables =
    if parts.summary then summary_in parts.format parts count capture files tables else []
