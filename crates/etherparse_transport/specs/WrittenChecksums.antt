-- Writing the right checksum into an IP packet: which packets are refused, and what changes.
use Rattle.std.specs.Prelude.{◌≡◌, ◌≢◌, ℕ, ◌+◌, false, List, MatchOption, None, Some, Ok}
use Rattle.ip_part.specs.Addresses.{by_value}
use Rattle.ip_part.specs.Headers.{Headers}
use Rattle.ip_part.specs.Ip as ip
use Rattle.ip_part.specs.Protocols.{proto_over}
use Rattle.ip_part.specs.declared.proto.Proto.{Proto}
use Rattle.ip_part.specs.declared.transport.TransportInIp.{TransportInIp}
use Rattle.net_base.specs.StoredChecksum.{with_checksum}
use Rattle.transport_part.specs.StoredChecksums.{IsPartial, IsRightBy, checksum_place, stored_checksum, with_stored}
use Rattle.transport_part.specs.Transports.{kept, proto_of, refusal}
use Rattle.transport_part.specs.Verdicts.{HasChecksum, Judges, JudgesFound}
use Rattle.transport_part.specs.declared.checksum_verdict.ChecksumVerdict.{ChecksumVerdict}
use Rattle.transport_part.specs.declared.checksum_verdict.ChecksumVerdict.TheVariants as verdicts
use Rattle.transport_part.specs.declared.transport_slice.TransportSlice.{TransportSlice}
use Rattle.etherparse_transport.specs.declared.err.packet.write_checksum_error.WriteChecksumError.{WriteChecksumError}
use Rattle.etherparse_transport.specs.declared.err.packet.write_checksum_error.WriteChecksumError.TheVariants.{Ip, Transport, Untested}

-- ---- the verdict on a packet

-- `transport_in_ip` accepts the packet, and `holds` is true of the transport that it finds
pub record IsFoundWith (packet : List ℕ) (holds : TransportInIp → Type 0) : Type 0 where
  pub accepted : ip.refusal packet ≡ None
  pub found : (found : TransportInIp) → ip.Carries packet found → found.is_length_missing ≡ false → holds found

-- `checksum_verdict` returns this verdict for the transport of the packet
abbrev pub HasVerdict : List ℕ → ChecksumVerdict → Type 0
HasVerdict packet verdict = IsFoundWith packet (λ found. (refusal found ≡ None) × JudgesFound found verdict)

-- ---- a partial checksum

-- `transport_slice` accepts the transport that was found, and its checksum is partial
abbrev pub IsPartialIn : TransportInIp → Type 0
IsPartialIn found = (refusal found ≡ None) × MatchOption (kept found) ⊥ (λ transport. IsPartial (by_value found.addresses) transport)

-- the checksum in the packet is partial: the sum of only the pseudo header
abbrev pub HasPartialChecksum : List ℕ → Type 0
HasPartialChecksum packet = IsFoundWith packet IsPartialIn

-- ---- the errors

-- The packet is refused for this reason: `transport_in_ip` refuses it, `checksum_verdict` refuses its transport, or `checksum_verdict` does
-- not test its checksum.
abbrev pub IsRefusedFor : List ℕ → WriteChecksumError → Type 0
IsRefusedFor packet (Ip error) = ip.refusal packet ≡ Some error
IsRefusedFor packet (Transport error) = IsFoundWith packet (λ found. refusal found ≡ Some error)
IsRefusedFor packet (Untested why) = HasVerdict packet (verdicts.Untested why)

-- the transport that was found is refused for this reason
abbrev pub IsRefusedIn : TransportInIp → WriteChecksumError → Type 0
IsRefusedIn found (Ip error) = ⊥
IsRefusedIn found (Transport error) = refusal found ≡ Some error
IsRefusedIn found (Untested why) = (refusal found ≡ None) × JudgesFound found (verdicts.Untested why)

-- ---- the written packet

-- `place` is the place of the checksum of this transport in its IP packet, and `checksum` is the right checksum
pub record IsRightIn (found : TransportInIp) (place checksum : ℕ) : Type 0 where
  pub transport : TransportSlice
  pub is_accepted : refusal found ≡ None
  pub is_kept : kept found ≡ Some transport
  pub is_place : place ≡ found.payload_offset + checksum_place (proto_of transport)
  pub right : Judges (by_value found.addresses) (with_stored transport checksum) verdicts.Right
  pub chosen : (verdict : ChecksumVerdict) → HasChecksum verdict → Judges (by_value found.addresses) transport verdict
      → IsRightBy verdict (stored_checksum transport) checksum

-- Only the two bytes of the checksum change. Their place is after the headers, where the protocol stores its checksum.
pub record IsWritten (before : List ℕ) (checksum : ℕ) (after : List ℕ) : Type 0 where
  pub headers : Headers
  pub read : ip.headers_of false before ≡ Ok headers
  pub proto : Proto
  pub proto_is : proto_over headers.addresses headers.protocol.0 ≡ Some proto
  pub written : after ≡ with_checksum (headers.len + checksum_place proto) before checksum

-- What `write_checksum` writes, given the verdict on the old packet. A right checksum is unchanged. A wrong or partial checksum is replaced
-- by the expected checksum. A UDP packet without a checksum gets a checksum other than 0, since 0 means that there is none (RFC 768).
abbrev pub WritesBy : ChecksumVerdict → List ℕ → ℕ → List ℕ → Type 0
WritesBy verdicts.Right before checksum after = after ≡ before
WritesBy verdicts.Absent before checksum after = checksum ≢ 0
WritesBy (verdicts.Wrong expected) before checksum after = checksum ≡ expected
WritesBy (verdicts.Partial expected) before checksum after = checksum ≡ expected
WritesBy (verdicts.Untested why) before checksum after = ⊥
