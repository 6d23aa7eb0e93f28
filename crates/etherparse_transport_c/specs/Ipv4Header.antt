-- The checksum of an IPv4 header (RFC 791, section 3.1), in the interface to C.
use Rattle.std.specs.Prelude.{ℕ, ◌==◌, if◌then◌else◌, false, List, [], length, Option, Some}
use Rattle.std.specs.Option.{option_map}
use Rattle.ip_part.specs.Ip.{ipv4_header, ipv4_header_refusal}
use Rattle.ip_part.specs.declared.ip_error.IpError.{IpError}
use Rattle.ip_part.specs.declared.ip_error.IpError.TheVariants.{HeaderCutOff, Version}
use Rattle.net_base.specs.IpHeaders.{version}
use Rattle.word_sum.specs.Checksum.{Verifies, checksum_of, total}
use Rattle.etherparse_transport_c.specs.Checksums.{with_checksum}
use Rattle.etherparse_transport_c.specs.Errors.{Tells, of_ip}
use Rattle.etherparse_transport_c.specs.declared.error.EtherparseError.{EtherparseError}

-- The reason why bytes do not begin with an IPv4 header: there are no bytes, the version is not 4, or the header is too short or cut off.
abbrev pub header_refusal : List ℕ → Option IpError
header_refusal bytes =
    if length bytes == 0 then Some (HeaderCutOff 1 0)
    else if version bytes == 4 then ipv4_header_refusal bytes
    else Some (Version (version bytes))

-- this reason as an error in the interface to C
abbrev pub refusal : List ℕ → Option EtherparseError
refusal bytes = option_map of_ip (header_refusal bytes)

-- the checksum to store in the header at the front of these bytes; the checksum field is ignored
abbrev pub checksum : List ℕ → ℕ
checksum bytes = checksum_of (total (with_checksum 10 (ipv4_header bytes) 0))

-- the status of testing the checksum of the header at the front of these bytes
abbrev pub TestTells : List ℕ → ℕ → Type 0
TestTells bytes = Tells (refusal bytes) false (Verifies [] (ipv4_header bytes))
