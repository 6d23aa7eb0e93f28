-- Ether types (IEEE 802.3, clause 3.2.6).
use Rattle.std.specs.Prelude.{ℕ}

-- the least ether type; a lower number is the length of a frame with an LLC header
abbrev pub least_ether_type : ℕ
least_ether_type = 0x0600

-- the ether type of IPv4 (RFC 894)
abbrev pub ipv4_ether_type : ℕ
ipv4_ether_type = 0x0800

-- the ether type of IPv6 (RFC 2464, section 3)
abbrev pub ipv6_ether_type : ℕ
ipv6_ether_type = 0x86DD

-- the ether type of a customer's VLAN tag (IEEE 802.1Q, clause 9.5)
abbrev pub customer_tag : ℕ
customer_tag = 0x8100

-- the ether type of a service's VLAN tag (IEEE 802.1Q, clause 9.5)
abbrev pub service_tag : ℕ
service_tag = 0x88A8

-- the ether type of a service's VLAN tag, as older equipment writes it
abbrev pub old_service_tag : ℕ
old_service_tag = 0x9100

-- the ether type of a service's VLAN tag, as other older equipment writes it
abbrev pub other_old_service_tag : ℕ
other_old_service_tag = 0x9200

-- the ether type of a stack of MPLS labels (RFC 3032, section 5)
abbrev pub mpls : ℕ
mpls = 0x8847

-- the ether type of a stack of MPLS labels before a multicast packet (RFC 5332, section 3)
abbrev pub mpls_multicast : ℕ
mpls_multicast = 0x8848

-- the ether type of PPPoE discovery (RFC 2516, section 4)
abbrev pub pppoe_discovery : ℕ
pppoe_discovery = 0x8863

-- the ether type of a PPPoE session (RFC 2516, section 4)
abbrev pub pppoe_session : ℕ
pppoe_session = 0x8864
