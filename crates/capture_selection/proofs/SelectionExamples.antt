-- A worked example of a selection, from the bytes of a capture to the bytes that are written, so that a wrong definition fails before any
-- code does.
use Rattle.std.proofs.Common.{◌≡◌, ◌++◌, ℕ, zero, suc, List, [], ◌∷◌, Option, None, Some, Ok, arith, inl, inr, refl, replicate}
use Rattle.capture_numbers.specs.declared.byte_order.ByteOrder.TheVariants.{LittleEndian}
use Rattle.capture_numbers.specs.declared.link_type.LinkType.TheVariants.{RawIp}
use Rattle.capture_file.specs.declared.classic.capture_header.CaptureHeader.{CaptureHeader}
use Rattle.capture_file.specs.declared.classic.record_header.Resolution.TheVariants.{Microseconds}
use Rattle.capture_copy.proofs.VisitLemmas.{part_with}
use Rattle.capture_copy.specs.Passing.{Part}
use Rattle.capture_copy.specs.Records.{IsRecordPart, first_records, records_after}
use Rattle.capture_copy.specs.declared.extent.Extent.TheVariants.{Whole}
use Rattle.capture_packet.proofs.PacketExamples.{frame, is_read, is_rejected, packet, rejected}
use Rattle.capture_summary.specs.Choice.{HasAny, HasPort, every_packet}
use Rattle.capture_summary.specs.declared.choice.PortRange.{PortRange}
use Rattle.capture_request.specs.declared.parts.Lines.TheVariants.{All}
use Rattle.capture_request.specs.declared.parts.Parts.{Parts}
use Rattle.capture_request.specs.declared.reached.Reached.TheVariants.{End}
use Rattle.capture_selection.specs.Captures.{SelectsCapture}
use Rattle.capture_selection.specs.Selector.{selection_of}
use Rattle.capture_selection.specs.declared.counts.Counts.{Counts}
use Rattle.capture_selection.specs.declared.outcome.Outcome.{Outcome}
use Rattle.capture_selection.specs.declared.outcome.Outcome.TheVariants.{Excluded, Written}

-- ---- the capture

-- the header of a little-endian capture of raw IP: version 2.4, 262,144 bytes of snap length, link type 101
abbrev pub header : List ℕ
header = 0xD4 ∷ 0xC3 ∷ 0xB2 ∷ 0xA1 ∷ 2 ∷ 0 ∷ 4 ∷ 0 ∷ 0 ∷ 0 ∷ 0 ∷ 0 ∷ 0 ∷ 0 ∷ 0 ∷ 0 ∷ 0 ∷ 0 ∷ 4 ∷ 0 ∷ 101 ∷ 0 ∷ 0 ∷ 0 ∷ []

abbrev capture : CaptureHeader
capture = record { byte_order = LittleEndian; resolution = Microseconds; snap_len = 262144; link_type = Ok RawIp }

-- a record with all 29 bytes of a UDP packet
abbrev pub udp_record : List ℕ
udp_record = 5 ∷ 0 ∷ 0 ∷ 0 ∷ 7 ∷ 0 ∷ 0 ∷ 0 ∷ 29 ∷ 0 ∷ 0 ∷ 0 ∷ 29 ∷ 0 ∷ 0 ∷ 0 ∷ frame

-- a record with one byte, with IP version 5
abbrev pub other_record : List ℕ
other_record = 6 ∷ 0 ∷ 0 ∷ 0 ∷ 0 ∷ 0 ∷ 0 ∷ 0 ∷ 1 ∷ 0 ∷ 0 ∷ 0 ∷ 1 ∷ 0 ∷ 0 ∷ 0 ∷ 0x50 ∷ []

-- the places for ports, of which the first contains port 9
abbrev port_9 : List (Option PortRange)
port_9 = Some (record { first = 9; last = 9 }) ∷ replicate 15 None

-- all packets from or to port 9 are requested, as by `--port 9`, with any other options
abbrev pub options : Parts → Parts
options others = record others {
  choice = record every_packet { ports = Some port_9 };
  lines = All;
  limit = None;
}

-- ---- its records

-- a record with this outcome, which is written as it was read if it is written
abbrev part_of : Parts → List ℕ → Outcome → Part Outcome
part_of others bytes outcome = part_with (selection_of (options others)) bytes bytes outcome

udp_part : (others : Parts) → IsRecordPart (selection_of (options others)) capture (part_of others udp_record Written)
udp_part others = record {
  is_record = refl;
  visited = inl (
    omega arith,
    record {
      after = frame;
      outcome = Written;
      visited = (
        refl,
        record {
          packet = packet;
          is_packet = is_read;
          given = Written;
          is_outcome = (
            record {
              times = record { begun = tt; not_ended = tt };
              addresses = record { hosts = tt; sources = tt; destinations = tt; other_hosts = tt };
              content = record { ports = inl (inl (inr (omega arith, omega arith))); other_ports = tt; protocols = tt };
            },
            refl,
          );
          has = refl;
        },
      );
      is_written = refl;
      has_outcome = refl;
    },
  );
}

-- places without a value
empty_places : {X : Type 0} (Statement : X → Type 0) (count : ℕ) → HasAny Statement (replicate count None) → ⊥
empty_places Statement zero any = any
empty_places Statement (suc count) (inl none) = none
empty_places Statement (suc count) (inr any) = empty_places Statement count any

-- a packet that is not read has no port
lacks_port : HasAny (HasPort rejected.content) port_9 → ⊥
lacks_port (inl none) = none
lacks_port (inr any) = empty_places (HasPort rejected.content) 15 any

other_part : (others : Parts) → IsRecordPart (selection_of (options others)) capture (part_of others other_record Excluded)
other_part others = record {
  is_record = refl;
  visited = inl (
    omega arith,
    record {
      after = 0x50 ∷ [];
      outcome = Excluded;
      visited = (
        refl,
        record {
          packet = rejected;
          is_packet = is_rejected;
          given = Excluded;
          is_outcome = λ chosen. lacks_port chosen.content.ports;
          has = refl;
        },
      );
      is_written = refl;
      has_outcome = refl;
    },
  );
}

-- ---- the selection

-- the counts with these numbers of packets that were read, chosen and written
abbrev pub counts : ℕ → ℕ → ℕ → Counts
counts read chosen written = record { read = read; chosen = chosen; written = written }

-- the header and the record of the UDP packet are written as they were read
pub selection : (others : Parts) → SelectsCapture (options others) (Ok End) (Some (header ++ udp_record ++ other_record)) (Some []) (Some
    []) (Some (header ++ udp_record))
    (counts 0 0 0) (counts 2 1 1)
selection others = inl (
  Ok Whole,
  refl,
  record {
    header = capture;
    middle = Some (udp_record ++ other_record);
    then_held = Some header;
    copies = record {
      bytes = header;
      says = (refl, refl, record { resolution = refl; snap_len = refl; link_type = refl });
      consumed = refl;
      appended = refl;
    };
    after = records_after (records_after (first_records capture) udp_record) other_record;
    passes = record {
      parts = part_of others udp_record Written ∷ part_of others other_record Excluded ∷ [];
      each = (
        records_after (first_records capture) udp_record,
        (refl, udp_part others),
        (records_after (records_after (first_records capture) udp_record) other_record, (refl, other_part others), refl),
      );
      consumed = refl;
      appended = refl;
      counted = refl;
    };
  },
)
