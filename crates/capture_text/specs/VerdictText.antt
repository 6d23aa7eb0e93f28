-- The verdict at the end of a line.
use Rattle.std.specs.Prelude.{ℕ, Bool, true, false, List, ◌++◌, codes, decimal}
use Rattle.transport_part.specs.declared.checksum_verdict.ChecksumVerdict.{ChecksumVerdict}
use Rattle.transport_part.specs.declared.checksum_verdict.ChecksumVerdict.TheVariants as checksums
use Rattle.transport_part.specs.declared.checksum_verdict.Untested.{Untested}
use Rattle.transport_part.specs.declared.checksum_verdict.Untested.TheVariants as reasons
use Rattle.capture_packet.specs.Frames.{max_packet_len}
use Rattle.capture_packet.specs.Verdicts.{zero_length}
use Rattle.capture_packet.specs.declared.verdict.Verdict.{Verdict}
use Rattle.capture_packet.specs.declared.verdict.Verdict.TheVariants as verdicts
use Rattle.capture_summary.specs.Kinds.{verdict_word}
use Rattle.capture_summary.specs.declared.verdict_kind.VerdictKind.{VerdictKind}
use Rattle.capture_summary.specs.declared.verdict_kind.VerdictKind.TheVariants as kinds
use Rattle.capture_words.specs.Numbers.{hex_padded}
use Rattle.capture_words.specs.Refusals.{refusal_text}

-- the reason why a checksum is not tested; for a UDP packet with a length field of 0, the text states that the packet is refused
abbrev pub untested_text : Untested → List ℕ
untested_text reasons.Fragment = codes "checksum not looked at: a fragment"
untested_text reasons.CutOff = codes "checksum not looked at: cut off"
untested_text reasons.UnknownDestination = codes "checksum not looked at: the final destination is not known"
untested_text reasons.OtherProtocol = codes "checksum not looked at: another protocol"
untested_text reasons.ZeroLength = codes "refused: " ++ refusal_text zero_length
untested_text reasons.TooLong = codes "checksum not looked at: too long"

-- the word for the verdict on a checksum, after the word `checksum`
abbrev pub word_text : VerdictKind → List ℕ
word_text kind = codes "checksum " ++ verdict_word kind

-- the verdict on a checksum
abbrev pub checksum_text : ChecksumVerdict → List ℕ
checksum_text checksums.Right = word_text kinds.Right
checksum_text (checksums.Wrong expected) = word_text kinds.Wrong ++ (codes ", " ++ (hex_padded 4 expected ++ codes " expected"))
checksum_text (checksums.Partial expected) = word_text kinds.Partial
checksum_text checksums.Absent = word_text kinds.Absent
checksum_text (checksums.Untested reason) = untested_text reason

-- this is the verdict on a packet whose protocol is not read
abbrev pub is_other_protocol : Verdict → Bool
is_other_protocol (verdicts.Checksum (checksums.Untested reasons.OtherProtocol)) = true
is_other_protocol _ = false

-- the verdict on a packet
abbrev pub verdict_text : Verdict → List ℕ
verdict_text (verdicts.Checksum verdict) = checksum_text verdict
verdict_text verdicts.LengthMissing = codes "checksum not looked at: no length stated"
verdict_text (verdicts.TooLong required_len) =
    codes "checksum not looked at: " ++ (decimal required_len ++ (codes " bytes, more than " ++ decimal max_packet_len))
verdict_text (verdicts.Refused refusal) = codes "refused: " ++ refusal_text refusal
