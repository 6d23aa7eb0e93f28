-- The ends of a flow, in the interface to C.
use Rattle.std.specs.Prelude.{ℕ, Option, Some, None, is_some, replicate, unwrap_or}
use Rattle.std.specs.Int.{from_bool}
use Rattle.etherparse_transport.specs.Flows.{Ends, FlowValue}
use Rattle.etherparse_transport_c.specs.Ip.{destination_of, has_destination, source_of, version_of}
use Rattle.etherparse_transport_c.specs.declared.packet_flow.EtherparseFlowEnds.{EtherparseFlowEnds}
use Rattle.etherparse_transport_c.specs.declared.packet_flow.EtherparsePacketFlow.{EtherparsePacketFlow}

-- the fields of these ends; a port that is not known is 0
abbrev pub ends_of : Ends → EtherparseFlowEnds
ends_of ends = record {
  version = version_of ends.addresses;
  protocol = ends.protocol;
  is_fragment = from_bool ends.is_fragment;
  is_later_fragment = from_bool ends.is_later_fragment;
  has_destination = from_bool (has_destination ends.addresses);
  has_source_port = from_bool (is_some ends.source_port);
  has_destination_port = from_bool (is_some ends.destination_port);
  source_port = unwrap_or ends.source_port 0;
  destination_port = unwrap_or ends.destination_port 0;
  source = source_of ends.addresses;
  destination = destination_of ends.addresses;
}

-- ends in which every field is 0
abbrev pub nothing : EtherparseFlowEnds
nothing = record {
  version = 0;
  protocol = 0;
  is_fragment = 0;
  is_later_fragment = 0;
  has_destination = 0;
  has_source_port = 0;
  has_destination_port = 0;
  source_port = 0;
  destination_port = 0;
  source = replicate 16 0;
  destination = replicate 16 0;
}

-- the fields of the ends of the quoted packet; they are all 0 if no packet is quoted
abbrev pub quoted_of : Option Ends → EtherparseFlowEnds
quoted_of None = nothing
quoted_of (Some ends) = ends_of ends

-- a flow in the form of the C struct
abbrev pub told : FlowValue → EtherparsePacketFlow
told flow = record { ends = ends_of flow.ends; quoted = quoted_of flow.quoted }

-- the value after the call: this flow, or the value before the call if the packet is refused
abbrev pub found : Option FlowValue → EtherparsePacketFlow → EtherparsePacketFlow
found None before = before
found (Some flow) before = told flow
