-- The outcomes of packets, their counts, and the exit status.
use Rattle.std.specs.Prelude.{ℕ, ◌+◌, ◌==◌, ◌||◌, Bool, true, false, if◌then◌else◌, List, Option, Some, None, [], ◌∷◌, ◌++◌, flat_map, slice_index, slice_set, zero, suc, Result, Ok, Err, codes, decimal}
use Rattle.capture_copy.specs.Passing.{one_more}
use Rattle.capture_file.specs.declared.classic.capture_header_error.CaptureHeaderError.TheVariants.{CutOff, Magic, Modified, Pcapng, Version}
use Rattle.capture_file.specs.declared.classic.capture_header_error.CaptureHeaderError.{CaptureHeaderError}
use Rattle.capture_file.specs.declared.reader.packet_error.PacketError.{PacketError}
use Rattle.capture_file.specs.declared.reader.packet_error.PacketError.TheVariants as packet_errors
use Rattle.ip_part.specs.ErrorTexts.{ip_text}
use Rattle.ip_part.specs.declared.ip_error.IpError.{IpError}
use Rattle.translator.specs.declared.capture_error.CaptureError.{CaptureError}
use Rattle.translator.specs.declared.capture_error.CaptureError.TheVariants.{Block, Header, Read, RecordCutOff, TooManyParts, Write}
use Rattle.translator.specs.declared.counts.Counts.{Counts}
use Rattle.translator.specs.declared.done.Done.{Done}
use Rattle.translator.specs.declared.done.Done.TheVariants.{TranslatedIpv4, TranslatedIpv6, UnaffectedIpv4, UnaffectedIpv6}
use Rattle.translator.specs.declared.reason.Reason.{Reason}
use Rattle.translator.specs.declared.reason.Reason.TheVariants as reasons

-- ---- reasons

-- the place of the count of a kind of reasons in `by_reason`
abbrev pub place : Reason → ℕ
place reasons.TooLong = 0
place reasons.LinkType = 1
place reasons.LinkHeader = 2
place reasons.NotIp = 3
place (reasons.IpHeaders error) = 4
place reasons.OtherVersion = 5
place reasons.SourceRoute = 6
place (reasons.Protocol protocol) = 7
place reasons.TransportHeader = 8
place reasons.IcmpMessage = 9
place reasons.QuotedPacket = 10
place reasons.QuotedAddresses = 11

-- ---- packets that can be translated

-- what was done with a packet; the first argument states whether it is an IPv6 packet, and the second whether a replacement applies
abbrev pub done_with : Bool → Bool → Done
done_with false true = TranslatedIpv4
done_with true true = TranslatedIpv6
done_with false false = UnaffectedIpv4
done_with true false = UnaffectedIpv6

-- the outcome of a packet of this IP version
abbrev pub outcome_of : Bool → Result Bool Reason → Result Done Reason
outcome_of is_ipv6 (Ok applies) = Ok (done_with is_ipv6 applies)
outcome_of is_ipv6 (Err reason) = Err reason

-- ---- counts

-- the counts after another packet is counted at this place, up to 2^64 - 1
abbrev pub one_more_at : List ℕ → ℕ → List ℕ
one_more_at counts place = slice_set counts place (one_more (slice_index counts place))

-- the counts by protocol after a packet that can't be translated for this reason
abbrev pub protocols_after : List ℕ → Reason → List ℕ
protocols_after counts (reasons.Protocol protocol) = one_more_at counts protocol.0
protocols_after counts reason = counts

-- the error of the first packet whose IP headers are refused, after a packet that can't be translated for this reason
abbrev pub refusal_after : Option IpError → Reason → Option IpError
refusal_after None (reasons.IpHeaders error) = Some error
refusal_after first reason = first

-- the counts after a packet that can't be translated for this reason
abbrev pub counted_reason : Counts → Reason → Counts
counted_reason counts reason = record counts {
  by_reason = one_more_at counts.by_reason (place reason);
  by_protocol = protocols_after counts.by_protocol reason;
  first_refusal = refusal_after counts.first_refusal reason;
}

-- the counts after a packet with this outcome: only the count of this outcome grows by one, up to 2^64 - 1
abbrev pub counted : Counts → Result Done Reason → Counts
counted counts (Ok TranslatedIpv4) = record counts { translated_ipv4 = one_more counts.translated_ipv4 }
counted counts (Ok TranslatedIpv6) = record counts { translated_ipv6 = one_more counts.translated_ipv6 }
counted counts (Ok UnaffectedIpv4) = record counts { unaffected_ipv4 = one_more counts.unaffected_ipv4 }
counted counts (Ok UnaffectedIpv6) = record counts { unaffected_ipv6 = one_more counts.unaffected_ipv6 }
counted counts (Err reason) = counted_reason counts reason

-- ---- the lines on standard error

-- the number of an extension header that exists only over IPv6 (RFC 8200, section 4; RFC 6275; RFC 5533)
abbrev pub is_extension_header : ℕ → Bool
is_extension_header number = number == 0 || (number == 43 || (number == 44 || (number == 60 || (number == 135 || number == 140))))

-- the words before the number of a protocol
abbrev pub protocol_words : ℕ → List ℕ
protocol_words number = if is_extension_header number then codes "the IPv6 extension header" else codes "the protocol"

-- the words for a reason
abbrev pub reason_text : Reason → List ℕ
reason_text reasons.TooLong = codes "the packet is too long"
reason_text reasons.LinkType = codes "the link type is not read"
reason_text reasons.LinkHeader = codes "the link header is cut off"
reason_text reasons.NotIp = codes "no IP packet"
reason_text (reasons.IpHeaders error) = codes "the IP headers are refused or cut off"
reason_text reasons.OtherVersion = codes "another IP version"
reason_text reasons.SourceRoute = codes "a source route"
reason_text (reasons.Protocol protocol) = protocol_words protocol.0
reason_text reasons.TransportHeader = codes "the transport header is cut off"
reason_text reasons.IcmpMessage = codes "an ICMP message that is no query and no error, or a redirect"
reason_text reasons.QuotedPacket = codes "an ICMP error about a packet that can't be translated"
reason_text reasons.QuotedAddresses = codes "an ICMP error about a packet whose addresses have other replacements"

-- the reasons without an error or a protocol, in the order of their lines
abbrev pub all_reasons : List Reason
all_reasons =
    reasons.TooLong ∷ reasons.LinkType ∷ reasons.LinkHeader ∷ reasons.NotIp ∷ reasons.OtherVersion ∷ reasons.SourceRoute
    ∷ reasons.TransportHeader ∷ reasons.IcmpMessage ∷ reasons.QuotedPacket ∷ reasons.QuotedAddresses ∷ []

-- the line for a reason with this text, which applies to `count` packets; there is no line if `count` is 0
abbrev pub reason_line : List ℕ → ℕ → List ℕ
reason_line reason count =
    if count == 0 then [] else codes "translator: " ++ (decimal count ++ (codes " not translated: " ++ (reason ++ codes "\n")))

-- the line for a reason with its count
abbrev pub counted_line : Counts → Reason → List ℕ
counted_line counts reason = reason_line (reason_text reason) (slice_index counts.by_reason (place reason))

-- the line for IP headers that are refused or cut off, with the text of an error
abbrev pub refusal_text : ℕ → List ℕ → List ℕ
refusal_text count text =
    codes "translator: " ++ (decimal count ++ (codes " not translated: the IP headers are refused or cut off, first error: "
    ++ (text ++ codes "\n")))

-- the line for refused IP headers, with the error of the first packet; there is no line if no IP headers were refused
abbrev pub first_refusal_text : ℕ → Option IpError → List ℕ
first_refusal_text count None = []
first_refusal_text count (Some error) = refusal_text count (ip_text error)

-- the line for refused IP headers, whose count is at the place of `IpHeaders`
abbrev pub refusal_line : Counts → List ℕ
refusal_line counts = first_refusal_text (slice_index counts.by_reason 4) counts.first_refusal

-- the line for `count` packets with these words and a number; there is no line if `count` is 0
abbrev pub numbered_line : List ℕ → ℕ → ℕ → List ℕ
numbered_line words number count =
    if count == 0 then []
    else codes "translator: " ++ (decimal count ++ (codes " not translated: "
    ++ (words ++ (codes " " ++ (decimal number ++ codes "\n")))))

-- the line for a protocol that is not translated, of `count` packets
abbrev pub protocol_line : ℕ → ℕ → List ℕ
protocol_line number count = numbered_line (protocol_words number) number count

-- the lines for the protocols from this number on, with these counts
abbrev pub protocol_lines : ℕ → List ℕ → List ℕ
protocol_lines number [] = []
protocol_lines number (count ∷ counts) = protocol_line number count ++ protocol_lines (number + 1) counts

-- the line that counts the packets translated, and the packets to which no replacement applies, of each IP version
abbrev pub packets_line : Counts → List ℕ
packets_line counts =
    codes "translator: " ++ (decimal counts.translated_ipv4 ++ (codes " IPv4 and "
    ++ (decimal counts.translated_ipv6 ++ (codes " IPv6 packets translated, "
    ++ (decimal counts.unaffected_ipv4 ++ (codes " IPv4 and "
    ++ (decimal counts.unaffected_ipv6 ++ codes " IPv6 packets without a replacement\n")))))))

-- all lines of the counts
abbrev pub counts_text : Counts → List ℕ
counts_text counts =
    packets_line counts ++ (flat_map (counted_line counts) all_reasons ++ (refusal_line counts ++ protocol_lines 0 counts.by_protocol))

-- ---- the exit status

-- the exit status after an error of the header: 2 if the input does not begin with the whole header of a capture, and 1 if the program does
-- not read the format in the header
abbrev pub header_status : CaptureHeaderError → ℕ
header_status Pcapng = 1
header_status (CutOff len) = 2
header_status (Magic magic) = 2
header_status Modified = 1
header_status (Version major minor) = 1

-- the exit status after an error in the block at this offset: 2 if the first block of the file is malformed or cut off, and otherwise 1
abbrev pub block_status : ℕ → PacketError → ℕ
block_status zero (packet_errors.Block error) = 2
block_status zero (packet_errors.Body error) = 1
block_status zero (packet_errors.TooLong block_type total_len) = 1
block_status zero (packet_errors.Interfaces max) = 1
block_status (suc before) error = 1

-- the exit status after an error of the capture
abbrev pub status : CaptureError → ℕ
status (Header error) = header_status error
status (RecordCutOff offset required_len len) = 1
status (Block placed) = block_status placed.offset placed.error
status (Read offset error) = 3
status TooManyParts = 1
status (Write error) = 3
