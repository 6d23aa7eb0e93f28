-- The packet that an ICMP error quotes, in the interface to C.
use Rattle.std.specs.Prelude.{ℕ, List, length, Option, None, Some}
use Rattle.icmp_part.specs.QuotedPackets.{quoted_by_icmpv4, quoted_by_icmpv6}
use Rattle.etherparse_transport_c.specs.Errors.{first_refusal, of_status}
use Rattle.etherparse_transport_c.specs.Icmpv4 as icmpv4
use Rattle.etherparse_transport_c.specs.Icmpv6 as icmpv6
use Rattle.etherparse_transport_c.specs.Numbers as numbers
use Rattle.etherparse_transport_c.specs.declared.error.EtherparseError.{EtherparseError}

-- A message without a quoted packet is refused, since it is not an ICMP error. Any other message is not refused here.
abbrev pub no_error : Option (List ℕ) → Option EtherparseError
no_error None = Some (of_status numbers.status_no_icmp_error)
no_error (Some packet) = None

-- the refusal of an ICMPv4 message: its header is refused, or it is not an error
abbrev pub icmpv4_refusal : List ℕ → Option EtherparseError
icmpv4_refusal message = first_refusal (icmpv4.refusal message) (no_error (quoted_by_icmpv4 message))

-- the refusal of an ICMPv6 message: its header is refused, or it is not an error
abbrev pub icmpv6_refusal : List ℕ → Option EtherparseError
icmpv6_refusal message = first_refusal (icmpv6.refusal message) (no_error (quoted_by_icmpv6 message))

-- the length of the quoted packet, or 0 if no packet is quoted
abbrev pub quoted_len : Option (List ℕ) → ℕ
quoted_len None = 0
quoted_len (Some packet) = length packet
