-- What a visitor does with the packets of a capture that is copied.
use Rattle.std.specs.Prelude.{◌≡◌, ℕ, Bool, true, false, if◌then◌else◌, List, [], ⊤, Option, Some, None, Result, Ok, Err}
use Rattle.capture_file.specs.declared.packet_time.PacketTime.{PacketTime}
use Rattle.capture_file.specs.declared.reader.captured_packet.CapturedPacket.{CapturedPacket}
use Rattle.capture_copy.specs.declared.extent.Extent.{Extent}
use Rattle.capture_copy.specs.declared.extent.Extent.TheVariants.{Enough, Whole}
use Rattle.capture_copy.specs.declared.part_error.PartError.{PartError}
use Rattle.capture_copy.specs.declared.part_error.PartError.TheVariants.{CutOff, Read, Refused, TooManyParts, Write}

-- what holds for the outcomes of packets, and what the outcomes mean
pub record Visits (Outcome Counts : Type 0) : Type 1 where
  -- this is the outcome of the packet with these captured bytes; the second list contains the bytes that are written for them
  pub visits : CapturedPacket → List ℕ → List ℕ → Outcome → Type 0
  -- This is the outcome of a packet that does not fit in the buffer, and that needs this number of bytes. The packet has this time, or
  -- `None` if its time is unknown.
  pub visits_long : ℕ → Option PacketTime → Outcome → Type 0
  -- a packet with this outcome is written
  pub is_written : Outcome → Bool
  -- every packet is written, and also the first bytes of a packet if the capture ends within the packet
  pub writes_all : Bool
  -- the counts after a packet with this outcome
  pub counted : Counts → Outcome → Counts
  -- the maximum number of records or blocks that are read
  pub max_parts : ℕ

-- A block whose packet has this outcome is written. A block without a packet is written, and has no outcome.
abbrev pub is_written_with : {Outcome Counts : Type 0} → Visits Outcome Counts → Option Outcome → Bool
is_written_with visits None = true
is_written_with visits (Some outcome) = visits.is_written outcome

-- the bytes if they are written, or else no bytes
abbrev pub written_if : Bool → List ℕ → List ℕ
written_if is_written bytes = if is_written then bytes else []

-- Enough packets were read if the copy ended for this reason. Otherwise more packets were requested. Nothing is stated if writing failed,
-- or about `TooManyParts`.
abbrev pub EndsWithEnough : Bool → Result Extent PartError → Type 0
EndsWithEnough is_enough (Ok Whole) = is_enough ≡ false
EndsWithEnough is_enough (Ok Enough) = is_enough ≡ true
EndsWithEnough is_enough (Err (CutOff place required len)) = is_enough ≡ false
EndsWithEnough is_enough (Err (Refused error)) = is_enough ≡ false
EndsWithEnough is_enough (Err (Read place error)) = is_enough ≡ false
EndsWithEnough is_enough (Err TooManyParts) = ⊤
EndsWithEnough is_enough (Err (Write error)) = ⊤
