-- Worked examples of whole runs. They show that the statements about a run can be met. So a wrong definition fails before its code is
-- written.
use Rattle.std.proofs.Common.{◌≡◌, ◌≤◌, ◌∙◌, ◌+◌, ◌-◌, ℕ, true, false, List, [], ◌∷◌, ◌++◌, Err, Ok, None, Some, Option, arith, codes, inl, length, length-append, refl, replicate}
use Rattle.std.proofs.lemmas.List.{length-replicate}
use Rattle.std.specs.Fmt.{char_count, digits, padded_integral}
use Rattle.std.specs.Prelude.{pos}
use Rattle.capture_file.specs.CapturePackets.{BeginsInput, EndsWith, FilePacket, ReadsOne, kept}
use Rattle.capture_file.specs.Classic.{IsReading, record_header}
use Rattle.capture_file.specs.Pcapng.{IsBlock, block_header}
use Rattle.capture_file.specs.PcapngSteps.{PassesBlocks, ReadsStep}
use Rattle.capture_file.specs.declared.classic.capture_header.CaptureHeader.{CaptureHeader}
use Rattle.capture_file.specs.declared.classic.read.NextRecord.TheVariants as records
use Rattle.capture_file.specs.declared.classic.record_header.Resolution.TheVariants.{Microseconds}
use Rattle.capture_file.specs.PacketTimes.{nanoseconds_of}
use Rattle.capture_file.specs.declared.packet_time.PacketTime.{PacketTime}
use Rattle.capture_file.specs.declared.pcapng.block_body.BlockBody.TheVariants as bodies
use Rattle.capture_file.specs.declared.pcapng.interface_description.InterfaceDescription.{InterfaceDescription}
use Rattle.capture_file.specs.declared.pcapng.read.NextBlock.TheVariants as blocks
use Rattle.capture_file.specs.declared.pcapng.time_resolution.TimeResolution.TheVariants.{PowerOfTen}
use Rattle.capture_file.specs.declared.reader.capture_reader.CaptureReader.TheVariants.{Classic, Pcapng}
use Rattle.capture_file.specs.declared.reader.capture_reader.ClassicReader.{ClassicReader}
use Rattle.capture_file.specs.declared.reader.captured_packet.CapturedPacket.{CapturedPacket}
use Rattle.capture_file.specs.declared.reader.next_packet.NextPacket.TheVariants as packets
use Rattle.capture_file.specs.declared.reader.pcapng_reader.PcapngReader.{PcapngReader}
use Rattle.capture_packet.specs.declared.network_protocol.NetworkProtocol.TheVariants.{LinkType}
use Rattle.capture_packet.specs.Frames.{max_packet_len}
use Rattle.capture_packet.specs.Packets.{in_no_tunnel}
use Rattle.capture_packet.specs.Verdicts.{untested}
use Rattle.capture_packet.specs.declared.content.Content.TheVariants.{NotIp}
use Rattle.capture_packet.specs.declared.packet.Packet.{Packet}
use Rattle.capture_summary.specs.Protocols.{content_protocol, protocol_place}
use Rattle.capture_request.specs.Report.{CountsEach, IsPacketOf, info_of}
use Rattle.capture_request.specs.declared.exit_status.ExitStatus.TheVariants.{Success}
use Rattle.capture_request.specs.declared.parts.Format.TheVariants as formats
use Rattle.capture_request.specs.declared.parts.Lines.TheVariants as lines
use Rattle.capture_request.specs.declared.parts.Parts.{Parts}
use Rattle.capture_request.specs.declared.reached.Reached.TheVariants.{End}
use Rattle.capture_run.proofs.TimelineLemmas.{timeline_from_start}
use Rattle.capture_run.specs.Captures.{Given, IsRun, Progress, ReportsEach, ReportsOpened, at_start, files_after}
use Rattle.capture_run.specs.PacketsText.{IsPacketText, WritesCapture}
use Rattle.capture_summary.proofs.SummaryExamples.{counts_first, first_in_timeline}
use Rattle.capture_summary.specs.Choice.{IsChosen, every_packet}
use Rattle.capture_summary.specs.Events.{event_of}
use Rattle.capture_summary.specs.FlowTable.{table_counted}
use Rattle.capture_summary.specs.Kinds.{link_kind, link_place, verdict_kind, verdict_place}
use Rattle.capture_summary.specs.Files.{no_file_packets, no_files}
use Rattle.capture_text.specs.FilesText.{files_table}
use Rattle.capture_summary.specs.SummaryTables.{SummaryTables, empty_tables}
use Rattle.capture_summary.specs.Tables.{counted_at, packet_counted_at}
use Rattle.capture_file.specs.Texts.{interface_added, no_texts, section_begun}
use Rattle.capture_numbers.specs.declared.byte_order.ByteOrder.TheVariants.{BigEndian, LittleEndian}
use Rattle.capture_words.specs.declared.times.Times.TheVariants as times
use Rattle.ip_part.specs.Options.{options_within}
use Rattle.timeline.specs.Counts.{counts_with, no_packets}
use Rattle.timeline.specs.declared.event.Event.{Event}
use Rattle.transport_part.specs.declared.checksum_verdict.Untested.TheVariants.{OtherProtocol}

-- ---- the file: a section without options, and one interface

-- a section header block of version 1.0 without a stated length, as written by a little-endian machine
abbrev section : List ℕ
section =
    10 ∷ 13 ∷ 13 ∷ 10 ∷ 28 ∷ 0 ∷ 0 ∷ 0 ∷ 77 ∷ 60 ∷ 43 ∷ 26 ∷ 1 ∷ 0 ∷ 0 ∷ 0 ∷ (replicate 8 255 ++ 28 ∷ 0 ∷ 0 ∷ 0 ∷ [])

-- an Ethernet interface with a snap length of 262,144 bytes, and timestamps in nanoseconds
abbrev interface : List ℕ
interface =
    1 ∷ 0 ∷ 0 ∷ 0 ∷ 32 ∷ 0 ∷ 0 ∷ 0 ∷ 1 ∷ 0 ∷ 0 ∷ 0 ∷ 0 ∷ 0 ∷ 4 ∷ 0 ∷ 9 ∷ 0 ∷ 1 ∷ 0 ∷ 9 ∷ 0 ∷ 0 ∷ 0 ∷ (replicate 4 0 ++ 32 ∷ 0 ∷ 0 ∷ 0 ∷ [])

section_is_block : IsBlock BigEndian section
section_is_block = record { has_order = refl; shortest = omega arith; words = refl; has_fields = refl; begins = refl; ends = refl }

interface_is_block : IsBlock LittleEndian interface
interface_is_block = record { has_order = refl; shortest = omega arith; words = refl; has_fields = refl; begins = refl; ends = refl }

-- the interface that the second block describes
abbrev ethernet : InterfaceDescription
ethernet = record { link_type = 1; snap_len = 262144; time_resolution = PowerOfTen 9; time_offset = pos 0 }

-- the reader after the first block, which does not have an interface yet
abbrev begun : PcapngReader
begun = record {
  section = record { byte_order = LittleEndian; interfaces = record { items = [] } };
  offset = 28;
  texts = section_begun LittleEndian [] no_texts;
}

-- the reader after the second block
abbrev described : PcapngReader
described = record {
  section = record { byte_order = LittleEndian; interfaces = record { items = ethernet ∷ [] } };
  offset = 60;
  texts = interface_added LittleEndian (9 ∷ 0 ∷ 1 ∷ 0 ∷ 9 ∷ 0 ∷ 0 ∷ 0 ∷ replicate 4 0) begun.texts;
}

-- ---- the buffers

-- bytes that fill up a buffer after `front`
filled : (front : List ℕ) (room : ℕ) → length front ≤ room → (rest : List ℕ) × (length (front ++ rest) ≡ room)
filled front room within =
    let count : ℕ = room - length front in
    (replicate count 0, length-append front (replicate count 0) ∙ omega (arith, within, length-replicate {A = ℕ} count 0))

-- ---- how the file is read

module _ (first second : List ℕ) (first_room : length (section ++ first) ≡ max_packet_len)
    (second_room : length (interface ++ second) ≡ max_packet_len) where
  -- the first block begins the file
  begins : BeginsInput max_packet_len (Pcapng begun) (Some (section ++ interface)) (Some interface)
  unfolding options_within
  begins = (
    section ++ first,
    first_room,
    record {
      block = blocks.Whole (block_header BigEndian section);
      reads = record {
        bytes = section;
        consumed =
            refl;
        is_next = (section_is_block, refl, omega (arith, first_room), refl);
        is_last = tt;
      };
      begins = refl;
      is_first = (begun, refl, record { byte_order = refl; interfaces = refl; offset = refl; texts = refl });
    },
  )

  -- the second block is skipped, since it contains no packet
  describes : ReadsStep begun (Some interface) (Some []) described (interface ++ second) None
  unfolding options_within
  describes = record {
    block = blocks.Whole (block_header LittleEndian interface);
    reads = record {
      bytes = interface;
      consumed =
          refl;
      is_next = (interface_is_block, refl, omega (arith, second_room), refl);
      is_last = tt;
    };
    is_step = (refl, (Ok None, (bodies.InterfaceDescription ethernet, (refl, refl), (refl, omega arith, refl, refl)), refl));
    texts = refl;
  }

  passes : PassesBlocks (length (interface ++ second)) 1 begun (Some interface) (Some []) described
  passes = (begun, Some interface, interface ++ second, refl, (refl, refl), describes)

  -- the file is at its end after the interface
  abbrev ends : EndsWith max_packet_len (Pcapng begun) (Some interface) packets.End
  ends = record {
    still_left = Some [];
    after = Pcapng described;
    buffer = interface ++ second;
    has_room = second_room;
    reads = (
      described,
      refl,
      record {
        count = 1;
        reader = described;
        middle = Some [];
        passed = passes;
        step = record {
          block = blocks.End;
          reads = record { bytes = []; consumed = refl; is_next = refl; is_last = refl };
          is_step = (refl, refl);
          texts = refl;
        };
      },
    );
    no_packet = refl;
  }

  -- the report of the file: no packet is counted, and the reader after the packets knows the interface
  writes : (parts : Parts) → WritesCapture parts (Some (section ++ interface)) (Some []) (Ok End) (empty_tables None) (empty_tables None)
      (Pcapng described) []
  writes parts = record {
    reader = Pcapng begun;
    after_beginning = Some interface;
    begins = begins;
    writes = record {
      packets = [];
      read = record {
        middle = Some interface;
        before = Pcapng begun;
        reads = (refl, refl);
        has_ended = (ends, refl, refl);
        are_first = (Some interface, Pcapng begun, (refl, refl));
        are_all = λ is_end. (packets.End, (Some interface, Pcapng begun, (refl, refl), ends), refl);
      };
      requested = λ is. absurd (cc is);
      counted = refl;
      is_text = (refl, refl, refl);
    };
  }

-- ---- the run

-- the options of a report that consists only of a summary
abbrev summary_alone : Parts
summary_alone = record {
  choice = every_packet;
  lines = lines.None;
  times = times.SinceFirst;
  verbose = false;
  summary = true;
  format = formats.Text;
  top = 10;
  timeline = false;
  interval = None;
  check = true;
  limit = None;
}

-- each name opens the file
abbrev ReadsFile : List ℕ → Given → Type 0
ReadsFile name given = given ≡ Some (Some (section ++ interface))

-- the state after the file
abbrev after_file : Progress
after_file = record {
  summary = empty_tables None;
  status = Success;
  is_empty = false;
  capture = Some (Pcapng described);
  files = no_files;
}

-- the state after the file, if it has a row with this name
abbrev after_row : Option (List ℕ) → Progress
after_row row = record after_file { files = files_after row (Some (Pcapng described)) no_file_packets no_files }

-- the file was reported
opened : (shown row : Option (List ℕ)) → ReportsOpened summary_alone shown row (Some (section ++ interface)) (at_start summary_alone) (after_row row) [] []
opened shown row =
    let (first, first_room) = filled section max_packet_len (omega arith) in
    let (second, second_room) = filled interface max_packet_len (omega arith) in
    record {
      ended = Ok End;
      still_left = Some [];
      reader = Some (Pcapng described);
      is_report = writes first second first_room second_room summary_alone;
      capture = refl;
      files = refl;
      are_lines = refl;
      status = refl;
      empty = (λ is. absurd (cc is), λ both. absurd both.1);
      limit = refl;
      within = λ none. none;
    }

reports_file : ReportsEach ReadsFile summary_alone 1 0 (codes "a.pcapng" ∷ []) (at_start summary_alone) after_file [] []
reports_file =
    (after_file, [], [], [], [], ([], (Some (Some (section ++ interface)), refl, opened _ _), refl), (refl, refl, refl), refl, refl)

-- the summary of the file shows its interface
summary_of_file : IsRun ReadsFile summary_alone (codes "a.pcapng" ∷ []) Success
    (codes "file type pcapng, byte order little-endian, interfaces 1\ninterface 0, snap length 262144, time resolution 10^-9 s\npackets 0, bytes 0\nconversations 0\n") []
unfolding options_within digits
summary_of_file = record {
  after = after_file;
  captures = [];
  reports = reports_file;
  timeline = timeline_from_start ReadsFile summary_alone 1 (codes "a.pcapng" ∷ []) after_file [] [] reports_file;
  whole = refl;
  is_final = refl;
}

-- the state after the file is reported a second time; each of both reports has a row
abbrev after_both : Progress
after_both = record after_file {
  capture = None;
  files = record {
    rows = (codes "a", no_file_packets) ∷ (codes "b", no_file_packets) ∷ [];
    other_files = 0;
    others = no_file_packets;
  };
}

opened_again : (shown : Option (List ℕ)) → ReportsOpened summary_alone shown (Some (codes "b")) (Some (section ++ interface))
    (after_row (Some (codes "a"))) after_both [] []
opened_again shown =
    let (first, first_room) = filled section max_packet_len (omega arith) in
    let (second, second_room) = filled interface max_packet_len (omega arith) in
    record {
      ended = Ok End;
      still_left = Some [];
      reader = Some (Pcapng described);
      is_report = writes first second first_room second_room summary_alone;
      capture = refl;
      files = refl;
      are_lines = refl;
      status = refl;
      empty = (λ is. absurd (cc is), λ both. absurd both.1);
      limit = refl;
      within = λ none. none;
    }

reports_two : ReportsEach ReadsFile summary_alone 2 0 (codes "a" ∷ codes "b" ∷ []) (at_start summary_alone) after_both [] []
reports_two = (
  after_row (Some (codes "a")),
  [],
  [],
  [],
  [],
  ([], (Some (Some (section ++ interface)), refl, opened _ _), refl),
  (
    after_both,
    [],
    [],
    [],
    [],
    ([], (Some (Some (section ++ interface)), refl, opened_again _), refl),
    (refl, refl, refl),
    refl,
    refl,
  ),
  refl,
  refl,
)

-- the summary of two files has a row for each of them
summary_of_two : IsRun ReadsFile summary_alone (codes "a" ∷ codes "b" ∷ []) Success
    (codes "packets 0, bytes 0\nconversations 0\n" ++ files_table after_both.files) []
unfolding options_within digits
summary_of_two = record {
  after = after_both;
  captures = [];
  reports = reports_two;
  timeline = timeline_from_start ReadsFile summary_alone 2 (codes "a" ∷ codes "b" ∷ []) after_both [] [] reports_two;
  whole = refl;
  is_final = refl;
}

-- ---- a classic capture with one packet

-- the header that a little-endian machine writes: version 2.4, a snap length of 262,144 bytes, and the unknown link type 147
abbrev file_header : List ℕ
file_header = 212 ∷ 195 ∷ 178 ∷ 161 ∷ 2 ∷ 0 ∷ 4 ∷ 0 ∷ 0 ∷ 0 ∷ 0 ∷ 0 ∷ 0 ∷ 0 ∷ 0 ∷ 0 ∷ 0 ∷ 0 ∷ 4 ∷ 0 ∷ 147 ∷ 0 ∷ 0 ∷ 0 ∷ []

-- a record of a packet of one byte, captured at 1 second and 2 microseconds
abbrev one_byte : List ℕ
one_byte = 1 ∷ 0 ∷ 0 ∷ 0 ∷ 2 ∷ 0 ∷ 0 ∷ 0 ∷ 1 ∷ 0 ∷ 0 ∷ 0 ∷ 1 ∷ 0 ∷ 0 ∷ 0 ∷ 170 ∷ []

-- the header of the capture, and the readers before and after the packet
abbrev capture : CaptureHeader
capture = record { byte_order = LittleEndian; resolution = Microseconds; snap_len = 262144; link_type = Err 147 }

abbrev at_packet : ClassicReader
at_packet = record { header = capture; offset = 24 }

abbrev after_packet : ClassicReader
after_packet = record { header = capture; offset = 41 }

abbrev time : PacketTime
time = record { seconds = 1; fraction = 2; resolution = PowerOfTen 6; offset = pos 0 }

abbrev captured : CapturedPacket
captured = record {
  link_type = Err 147;
  byte_order = LittleEndian;
  time = Some time;
  start = 0;
  captured_len = 1;
  original_len = 1;
  interface = None;
}

-- the packet in the file, and the packet that is counted
abbrev in_file : FilePacket
in_file = kept captured (170 ∷ [])

abbrev packet : Packet
packet = in_no_tunnel (NotIp (LinkType 147)) (untested OtherProtocol)

is_packet : IsPacketOf false in_file packet
is_packet = refl

-- the packet, as the timeline counts it
abbrev event : Event
event = event_of (content_protocol packet.content) (verdict_kind packet.verdict) (info_of in_file)

-- the counts after the packet
abbrev counted : SummaryTables
counted = record {
  packets = 1;
  bytes = 1;
  span = Some (record { earliest = time; latest = time });
  protocols = packet_counted_at 1 (protocol_place (content_protocol packet.content)) (empty_tables None).protocols;
  verdicts = counted_at (verdict_place (verdict_kind packet.verdict)) (empty_tables None).verdicts;
  links = counted_at (link_place (link_kind (Some (Err 147)))) (empty_tables None).links;
  refusals = (empty_tables None).refusals;
  flows = table_counted None 1 (Some time) (empty_tables None).flows;
  timeline = first_in_timeline (nanoseconds_of time) (counts_with event no_packets);
  file = record { all = record { packets = 1; bytes = 1 }; wrong = 0; refused = 0 };
}

-- every packet is chosen
all_chosen : {chosen : Packet} → IsChosen every_packet chosen (Some time)
all_chosen = record {
  times = record { begun = tt; not_ended = tt };
  addresses = record { hosts = tt; sources = tt; destinations = tt; other_hosts = tt };
  content = record { ports = tt; other_ports = tt; protocols = tt };
}

counts_packet : CountsEach every_packet (empty_tables None) (in_file ∷ []) counted
counts_packet = (
  counted,
  record {
    packet = packet;
    is_packet = is_packet;
    counts = inl (
      all_chosen,
      record {
        flow = None;
        is_flow = refl;
        counts = record {
          rows = record {
            packets = refl;
            bytes = refl;
            span = refl;
            protocols = refl;
            verdicts = refl;
            links = refl;
            refusals = refl;
            flows = refl;
            file = refl;
          };
          timeline = counts_first event (nanoseconds_of time) refl;
        };
      },
    );
  },
  refl,
)

-- the whole file is one record
one_record : IsReading LittleEndian one_byte (one_byte ∷ []) []
one_record = record { whole = refl; each = (refl, tt); partial = inl (omega arith) }

module _ (rest : List ℕ) (room : length (170 ∷ rest) ≡ max_packet_len) where
  reads_packet : ReadsOne max_packet_len (Classic at_packet) (Some one_byte) (Some []) (Classic after_packet) in_file
  reads_packet = record {
    buffer = 170 ∷ rest;
    has_room = room;
    next = packets.Whole captured;
    reads = (
      after_packet,
      refl,
      record {
        next_record = records.Whole (record_header LittleEndian one_byte);
        reads = record { bytes = one_byte; consumed = refl; is_next = (refl, refl, omega arith, refl); is_last = tt };
        is = refl;
        header = refl;
        offset = refl;
      },
    );
    gives = refl;
  }

  abbrev packets_end : EndsWith max_packet_len (Classic after_packet) (Some []) packets.End
  packets_end = record {
    still_left = Some [];
    after = Classic after_packet;
    buffer = 170 ∷ rest;
    has_room = room;
    reads = (
      after_packet,
      refl,
      record {
        next_record = records.End;
        reads = record { bytes = []; consumed = refl; is_next = refl; is_last = refl };
        is = refl;
        header = refl;
        offset = refl;
      },
    );
    no_packet = refl;
  }

  -- the report of the capture: the packet is counted and has this line
  writes_line : (parts : Parts) (line : List ℕ) → parts.choice ≡ every_packet
      → IsPacketText parts 1 (Classic after_packet) None in_file line
      → WritesCapture parts (Some (file_header ++ one_byte)) (Some []) (Ok End) (empty_tables None) counted (Classic after_packet) (line ++ [])
  writes_line parts line every is_line = record {
    reader = Classic at_packet;
    after_beginning = Some one_byte;
    begins = (record { accepted = refl; is_header = record { resolution = refl; snap_len = refl; link_type = refl } }, refl, refl);
    writes = record {
      packets = in_file ∷ [];
      read = record {
        middle = Some [];
        before = Classic after_packet;
        reads = (Classic after_packet, Some [], reads_packet, (refl, refl));
        has_ended = (packets_end, refl, refl);
        are_first = (one_byte ∷ [], [], refl, (refl, tt), refl);
        are_all = λ is_end. (packets.End, (one_byte ∷ [], [], one_record, refl, refl), refl);
      };
      requested = λ is. absurd (cc is);
      counted = rw every counts_packet;
      is_text = (Classic after_packet, Some [], line, [], reads_packet, is_line, (refl, refl, refl), refl);
    };
  }

-- the options of a report that consists only of lines
abbrev lines_alone : Parts
lines_alone = record summary_alone { lines = lines.All; summary = false }

abbrev line : List ℕ
line = codes "1 00:00:00.000000 length 1: link type 147\n"

is_line : IsPacketText lines_alone 1 (Classic after_packet) None in_file line
unfolding char_count digits padded_integral
is_line = record {
  packet = packet;
  is_packet = is_packet;
  is_text = inl (all_chosen, (codes "link type 147", refl, refl));
}

-- the state after the capture
abbrev after_capture : Progress
after_capture = record {
  summary = counted;
  status = Success;
  is_empty = false;
  capture = Some (Classic after_packet);
  files = no_files;
}

reported : (shown : Option (List ℕ)) → ReportsOpened lines_alone shown None (Some (file_header ++ one_byte)) (at_start lines_alone) after_capture (line
    ++ []) []
reported shown =
    let (rest, room) = filled (170 ∷ []) max_packet_len (omega arith) in
    record {
      ended = Ok End;
      still_left = Some [];
      reader = Some (Classic after_packet);
      is_report = writes_line rest room lines_alone line refl is_line;
      capture = refl;
      files = refl;
      are_lines = refl;
      status = refl;
      empty = (λ is. absurd (cc is), λ both. absurd both.1);
      limit = refl;
      within = λ none. none;
    }

-- each name opens the capture
abbrev ReadsPacket : List ℕ → Given → Type 0
ReadsPacket name given = given ≡ Some (Some (file_header ++ one_byte))

reports_packet : ReportsEach ReadsPacket lines_alone 1 0 (codes "a.pcap" ∷ []) (at_start lines_alone) after_capture line []
reports_packet = (
  after_capture,
  line,
  [],
  [],
  [],
  (line, (Some (Some (file_header ++ one_byte)), refl, reported _), refl),
  (refl, refl, refl),
  refl,
  refl,
)

-- the line of the packet is the whole report
line_of_packet : IsRun ReadsPacket lines_alone (codes "a.pcap" ∷ []) Success line []
line_of_packet = record {
  after = after_capture;
  captures = line;
  reports = reports_packet;
  timeline = timeline_from_start ReadsPacket lines_alone 1 (codes "a.pcap" ∷ []) after_capture line [] reports_packet;
  whole = refl;
  is_final = refl;
}
