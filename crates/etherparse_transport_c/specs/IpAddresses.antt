-- The addresses of an IP header, in the interface to C.
use Rattle.std.specs.Prelude.{ℕ, ◌==◌, nat_lt, if◌then◌else◌, List, length, slice_range, Option}
use Rattle.std.specs.Option.{option_map}
use Rattle.ip_part.specs.Ip.{ipv4_header, ipv6_header}
use Rattle.ip_part.specs.declared.ip_error.IpError.TheVariants.{HeaderCutOff}
use Rattle.net_base.specs.IpHeaders.{version}
use Rattle.net_base.specs.Refusals.{refused_if}
use Rattle.etherparse_transport_c.specs.Errors.{of_ip}
use Rattle.etherparse_transport_c.specs.Ip.{ipv4_address}
use Rattle.etherparse_transport_c.specs.Ipv4Header as ipv4
use Rattle.etherparse_transport_c.specs.declared.error.EtherparseError.{EtherparseError}
use Rattle.etherparse_transport_c.specs.declared.ip_addresses.EtherparseIpAddresses.{EtherparseIpAddresses}

-- the refusal of bytes that do not begin with a whole IP header
abbrev pub refusal : List ℕ → Option EtherparseError
refusal bytes =
    if version bytes == 6 then option_map of_ip (refused_if (nat_lt (length bytes) 40) (HeaderCutOff 40 (length bytes)))
    else ipv4.refusal bytes

-- the addresses of an IPv4 header (RFC 791, section 3.1)
abbrev pub addresses_of_ipv4 : List ℕ → EtherparseIpAddresses
addresses_of_ipv4 header = record {
  version = 4;
  source = ipv4_address (slice_range header 12 16);
  destination = ipv4_address (slice_range header 16 20);
}

-- the addresses of an IPv6 header (RFC 8200, section 3)
abbrev pub addresses_of_ipv6 : List ℕ → EtherparseIpAddresses
addresses_of_ipv6 header = record { version = 6; source = slice_range header 8 24; destination = slice_range header 24 40 }

-- the addresses of the IP header at the front of these bytes
abbrev pub addresses_in : List ℕ → EtherparseIpAddresses
addresses_in bytes = if version bytes == 6 then addresses_of_ipv6 (ipv6_header bytes) else addresses_of_ipv4 (ipv4_header bytes)
