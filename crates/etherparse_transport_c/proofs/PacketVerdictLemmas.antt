-- Laws of the refusal of the transport in an IP packet.
use Rattle.std.proofs.Common.{◌≡◌, List, ℕ, refl, ap, ◌∙◌}
use Rattle.std.specs.Option.{option_map}
use Rattle.transport_part.specs.Transports as transports
use Rattle.ip_part.specs.Ip.{Carries, headers_of}
use Rattle.ip_part.specs.declared.transport.TransportInIp.{TransportInIp}
use Rattle.etherparse_transport_c.specs.Ip.{found, transport_in}
use Rattle.etherparse_transport_c.specs.PacketVerdict.{of_transport, refusal_of_carried}
use Rattle.etherparse_transport_c.specs.declared.ip.EtherparseIpTransport.{EtherparseIpTransport}

-- the refusal of a packet is the refusal of the transport that it carries
pub refusal_by_headers : (packet : List ℕ) (carried : TransportInIp) (carries : Carries packet carried)
    → refusal_of_carried packet carried ≡ option_map (of_transport carries.headers.len) (transports.refusal carried)
refusal_by_headers packet carried carries =
    rw (carries.read, carries.addresses, carries.protocol, carries.is_fragment, carries.is_cut_off, carries.payload) refl

-- the call in C reports about a transport what the headers of its packet state
pub told_of_carried : (packet : List ℕ) (carried : TransportInIp) (carries : Carries packet carried) (told : EtherparseIpTransport)
    → ((before : EtherparseIpTransport) → told ≡ found carried.is_length_missing packet
    (headers_of carried.is_length_missing packet) before)
    → told ≡ transport_in carried.is_length_missing packet carries.headers
told_of_carried packet carried carries told is =
    is told ∙ ap (λ headers. found carried.is_length_missing packet headers told) carries.read
