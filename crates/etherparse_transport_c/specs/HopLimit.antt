-- The refusal of a packet whose hop limit is not lowered, in the interface to C.
use Rattle.std.specs.Prelude.{ℕ, List, Option}
use Rattle.std.specs.Option.{option_map}
use Rattle.etherparse_transport.specs.HopLimits.{lower_refusal}
use Rattle.etherparse_transport.specs.declared.err.packet.lower_hop_limit_error.LowerHopLimitError.{LowerHopLimitError}
use Rattle.etherparse_transport.specs.declared.err.packet.lower_hop_limit_error.LowerHopLimitError.TheVariants.{Expired, Ip}
use Rattle.etherparse_transport_c.specs.Errors.{nothing, of_ip}
use Rattle.etherparse_transport_c.specs.Numbers as numbers
use Rattle.etherparse_transport_c.specs.declared.error.EtherparseError.{EtherparseError}

-- the error for a packet whose hop limit is not lowered; if the hop limit is 0 or 1, `actual` contains it
abbrev pub of_lower_hop_limit : LowerHopLimitError → EtherparseError
of_lower_hop_limit (Ip error) = of_ip error
of_lower_hop_limit (Expired hop_limit) = record nothing { status = numbers.status_hop_limit_expired; actual = hop_limit }

-- the refusal to lower the hop limit of a packet
abbrev pub refusal : List ℕ → Option EtherparseError
refusal packet = option_map of_lower_hop_limit (lower_refusal packet)
