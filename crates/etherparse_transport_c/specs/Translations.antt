-- The translation of a packet, in the interface to C.
use Rattle.std.specs.Prelude.{ℕ, ◌==◌, if◌then◌else◌, List, Option, Some, None}
use Rattle.std.specs.Option.{option_map}
use Rattle.etherparse_transport.specs.Ipv4Translations as ipv4
use Rattle.etherparse_transport.specs.Ipv6Translations as ipv6
use Rattle.etherparse_transport.specs.declared.ip.ipv4_translation.Ipv4Translation.{Ipv4Translation}
use Rattle.etherparse_transport.specs.declared.ip.ipv6_translation.Ipv6Translation.{Ipv6Translation}
use Rattle.etherparse_transport_c.specs.Errors.{of_translate}
use Rattle.etherparse_transport_c.specs.declared.error.EtherparseError.{EtherparseError}
use Rattle.etherparse_transport_c.specs.declared.translation.EtherparseIpv4Translation.{EtherparseIpv4Translation}
use Rattle.etherparse_transport_c.specs.declared.translation.EtherparseIpv6Translation.{EtherparseIpv6Translation}

-- a value, if its flag is not 0
abbrev pub if_set : {A : Type 0} → ℕ → A → Option A
if_set flag value = if flag == 0 then None else Some value

-- the values that are replaced in an IPv4 packet
abbrev pub ipv4_translation : EtherparseIpv4Translation → Ipv4Translation
ipv4_translation translation = record {
  source = if_set translation.has_source translation.source;
  destination = if_set translation.has_destination translation.destination;
  source_port = if_set translation.has_source_port translation.source_port;
  destination_port = if_set translation.has_destination_port translation.destination_port;
}

-- the values that are replaced in an IPv6 packet
abbrev pub ipv6_translation : EtherparseIpv6Translation → Ipv6Translation
ipv6_translation translation = record {
  source = if_set translation.has_source translation.source;
  destination = if_set translation.has_destination translation.destination;
  source_port = if_set translation.has_source_port translation.source_port;
  destination_port = if_set translation.has_destination_port translation.destination_port;
}

-- the refusal to translate an IPv4 packet by `translation`, and its quoted packet by `quoted`
abbrev pub ipv4_refusal_with : EtherparseIpv4Translation → EtherparseIpv4Translation → List ℕ → Option EtherparseError
ipv4_refusal_with translation quoted packet =
    option_map (of_translate 6) (ipv4.ipv4_refusal_with (ipv4_translation translation) (ipv4_translation quoted) packet)

-- the refusal to translate an IPv6 packet by `translation`, and its quoted packet by `quoted`
abbrev pub ipv6_refusal_with : EtherparseIpv6Translation → EtherparseIpv6Translation → List ℕ → Option EtherparseError
ipv6_refusal_with translation quoted packet =
    option_map (of_translate 4) (ipv6.ipv6_refusal_with (ipv6_translation translation) (ipv6_translation quoted) packet)

-- The refusal to translate an IPv4 packet by this translation. In a quoted packet the new source replaces the destination, and the new
-- destination replaces the source.
abbrev pub ipv4_refusal : EtherparseIpv4Translation → List ℕ → Option EtherparseError
ipv4_refusal translation packet = option_map (of_translate 6) (ipv4.ipv4_refusal (ipv4_translation translation) packet)

-- The refusal to translate an IPv6 packet by this translation. In a quoted packet the new source replaces the destination, and the new
-- destination replaces the source.
abbrev pub ipv6_refusal : EtherparseIpv6Translation → List ℕ → Option EtherparseError
ipv6_refusal translation packet = option_map (of_translate 4) (ipv6.ipv6_refusal (ipv6_translation translation) packet)
