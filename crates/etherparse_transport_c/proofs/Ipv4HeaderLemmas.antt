-- Laws of the checksum of an IPv4 header.
use Rattle.std.proofs.Common.{◌≡◌, ℕ, ◌+◌, ◌∙◌, ◌<◌, ◌≤◌, List, [], length, take, drop, Option, None, Some, refl, ap, arith}
use Rattle.std.proofs.lemmas.Bool.Decides.{nat_tests}
use Rattle.std.specs.Option.{option_map}
use Rattle.ip_part.specs.Ip.{ipv4_header}
use Rattle.ip_part.specs.declared.ip_error.IpError.{IpError}
use Rattle.net_base.specs.IpHeaders.{BeginsWithIpv4Header, ipv4_header_len}
use Rattle.word_sum.specs.Checksum.{Verifies, checksum_of, folded, total}
use Rattle.word_sum.proofs.ChecksumLemmas.{checksum_verifies}
use Rattle.etherparse_transport_c.proofs.AnswersLemmas.{answers_ok}
use Rattle.etherparse_transport_c.proofs.ChecksumsLemmas.{byte-with_checksum, length-with_checksum, take-with_checksum, total-with_checksum}
use Rattle.etherparse_transport_c.specs.Checksums.{with_checksum}
use Rattle.etherparse_transport_c.specs.Errors.{Answers, of_ip}
use Rattle.etherparse_transport_c.specs.Ipv4Header.{TestTells, header_refusal, refusal}
use Rattle.etherparse_transport_c.specs.Numbers as numbers

-- if the call in C accepts the bytes, the library in Rattle accepts their header
no_error : (error : Option IpError) → option_map of_ip error ≡ None → error ≡ None
no_error None none = refl
no_error (Some error) none = cc

begins_with : (bytes : List ℕ) → header_refusal bytes ≡ None → BeginsWithIpv4Header bytes
begins_with bytes accepted = record {
  shortest = grind (arith, nat_tests);
  is_version_4 = grind (arith, nat_tests);
  five_words = grind (arith, nat_tests);
  whole = grind (arith, nat_tests);
}

pub accepted-begins : (bytes : List ℕ) → refusal bytes ≡ None → BeginsWithIpv4Header bytes
accepted-begins bytes accepted = begins_with bytes (no_error (header_refusal bytes) accepted)

-- the sum of the bytes before and after the checksum is the sum of the header with the checksum 0
pub total_without : (header : List ℕ) → 20 ≤ length header
    → 0 + total (take 10 header) + total (drop 12 header) ≡ total (with_checksum 10 header 0)
total_without header enough = omega (arith, total-with_checksum 10 header 0 refl (omega (arith, enough)) (omega arith))

-- the sum of a header with its checksum is all ones
pub verifies : (header : List ℕ) (checksum : ℕ) → 20 ≤ length header → checksum < 65536
    → checksum ≡ checksum_of (total (with_checksum 10 header 0)) → Verifies [] (with_checksum 10 header checksum)
verifies header checksum enough small is =
    let without = total_without header enough in
    let within = total-with_checksum 10 header checksum refl (omega (arith, enough)) small in
    ap folded (omega arith) ∙ checksum_verifies (total (with_checksum 10 header 0)) checksum is

-- If the checksum of an IPv4 header is replaced, the bytes still begin with a header. If the sum of this header is all ones, the test
-- accepts it.
pub passes : (bytes : List ℕ) (checksum : ℕ) → BeginsWithIpv4Header bytes → refusal bytes ≡ None
    → Verifies [] (with_checksum 10 (ipv4_header bytes) checksum)
    → Answers (TestTells (with_checksum 10 bytes checksum)) numbers.status_ok
passes bytes checksum begins accepted valid =
    let len = length-with_checksum 10 bytes checksum (omega (arith, begins.shortest)) in
    let first = byte-with_checksum 10 bytes checksum 0 (omega arith) (omega (arith, begins.shortest)) in
    let same : refusal (with_checksum 10 bytes checksum) ≡ refusal bytes = rw (len, first) refl in
    let header : ipv4_header (with_checksum 10 bytes checksum) ≡ with_checksum 10 (ipv4_header bytes) checksum =
    rw first (take-with_checksum 10 bytes checksum (ipv4_header_len bytes) (omega (arith, begins.five_words)) begins.whole) in
    answers_ok _ _ _ (same ∙ accepted) refl (rw header valid)
