-- The names by which protocols are chosen.
use Rattle.std.specs.Prelude.{◌≡◌, ◌⊎◌, ℕ, List, [], ◌∷◌, codes, map, None, Option, Some}
use Rattle.std.specs.Char.{to_ascii_lowercase}
use Rattle.capture_summary.specs.declared.protocol.Protocol.TheVariants as protocols
use Rattle.capture_summary.specs.declared.choice.ChosenProtocol.{ChosenProtocol}
use Rattle.capture_summary.specs.declared.choice.ChosenProtocol.TheVariants.{Icmp, One}

-- the names, each with the protocol that it chooses
unfoldable pub protocol_rows : List (List ℕ × ChosenProtocol)
protocol_rows =
    (codes "icmp", Icmp)
    ∷ (codes "udp", One protocols.Udp)
    ∷ (codes "tcp", One protocols.Tcp)
    ∷ (codes "icmpv4", One protocols.Icmpv4)
    ∷ (codes "icmpv6", One protocols.Icmpv6)
    ∷ (codes "igmp", One protocols.Igmp)
    ∷ (codes "ipv4", One protocols.Ipv4)
    ∷ (codes "dccp", One protocols.Dccp)
    ∷ (codes "ipv6", One protocols.Ipv6)
    ∷ (codes "rsvp", One protocols.Rsvp)
    ∷ (codes "gre", One protocols.Gre)
    ∷ (codes "esp", One protocols.Esp)
    ∷ (codes "ah", One protocols.Ah)
    ∷ (codes "no-next-header", One protocols.NoNextHeader)
    ∷ (codes "eigrp", One protocols.Eigrp)
    ∷ (codes "ospf", One protocols.Ospf)
    ∷ (codes "etherip", One protocols.EtherIp)
    ∷ (codes "pim", One protocols.Pim)
    ∷ (codes "ipcomp", One protocols.IpComp)
    ∷ (codes "vrrp", One protocols.Vrrp)
    ∷ (codes "l2tp", One protocols.L2tp)
    ∷ (codes "sctp", One protocols.Sctp)
    ∷ (codes "udp-lite", One protocols.UdpLite)
    ∷ (codes "mpls-in-ip", One protocols.MplsInIp)
    ∷ (codes "other-over-ip", One protocols.OtherOverIp)
    ∷ (codes "arp", One protocols.Arp)
    ∷ (codes "rarp", One protocols.Rarp)
    ∷ (codes "ipx", One protocols.Ipx)
    ∷ (codes "slow-protocol", One protocols.SlowProtocol)
    ∷ (codes "mpls", One protocols.Mpls)
    ∷ (codes "pppoe-discovery", One protocols.PppoeDiscovery)
    ∷ (codes "pppoe-session", One protocols.PppoeSession)
    ∷ (codes "eapol", One protocols.Eapol)
    ∷ (codes "lldp", One protocols.Lldp)
    ∷ (codes "macsec", One protocols.MacSec)
    ∷ (codes "mvrp", One protocols.Mvrp)
    ∷ (codes "ptp", One protocols.Ptp)
    ∷ (codes "cfm", One protocols.Cfm)
    ∷ (codes "loopback", One protocols.Loopback)
    ∷ (codes "ipcp", One protocols.Ipcp)
    ∷ (codes "ipv6cp", One protocols.Ipv6cp)
    ∷ (codes "ccp", One protocols.Ccp)
    ∷ (codes "lcp", One protocols.Lcp)
    ∷ (codes "pap", One protocols.Pap)
    ∷ (codes "lqr", One protocols.Lqr)
    ∷ (codes "chap", One protocols.Chap)
    ∷ (codes "eap", One protocols.Eap)
    ∷ (codes "clnp", One protocols.Clnp)
    ∷ (codes "es-is", One protocols.EsIs)
    ∷ (codes "is-is", One protocols.IsIs)
    ∷ (codes "stp", One protocols.Stp)
    ∷ (codes "other-without-ip", One protocols.OtherWithoutIp)
    ∷ (codes "unknown", One protocols.Unknown)
    ∷ []

-- two names are the same, except that upper and lower case may differ
abbrev pub IsSameName : List ℕ → List ℕ → Type 0
IsSameName name other = map to_ascii_lowercase name ≡ map to_ascii_lowercase other

-- The protocol with this name, by the first of these rows that has the name. It is `None` if no row has the name.
abbrev pub Names : List (List ℕ × ChosenProtocol) → List ℕ → Option ChosenProtocol → Type 0
Names [] name found = found ≡ None
Names (row ∷ rows) name found =
    (IsSameName row.0 name × (found ≡ Some row.1)) ⊎ ((IsSameName row.0 name → ⊥) × Names rows name found)
