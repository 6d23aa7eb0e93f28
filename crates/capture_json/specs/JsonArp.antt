-- An ARP packet as JSON members (RFC 826).
use Rattle.std.specs.Prelude.{true, List, [], ◌∷◌, codes, Option, Some, None}
use Rattle.std.specs.Net.Text.{ipv4_text}
use Rattle.capture_packet.specs.declared.arp.Arp.{Arp}
use Rattle.capture_packet.specs.declared.arp.Arp.TheVariants.{Addresses, CutOff, Operation}
use Rattle.capture_packet.specs.declared.arp.ArpAddresses.{ArpAddresses}
use Rattle.capture_json.specs.Members.{Member, object_of, whole_number}
use Rattle.capture_words.specs.HardwareAddress.{hardware_address_text}
use Rattle.serde_json.specs.Data.{boolean, string}

-- the hardware address and the IPv4 address of the sender, and of the target
abbrev pub arp_address_members : ArpAddresses → List Member
arp_address_members addresses =
    (codes "sender_hardware_address", string (hardware_address_text addresses.sender_hardware))
    ∷ (codes "sender_address", string (ipv4_text addresses.sender))
    ∷ (codes "target_hardware_address", string (hardware_address_text addresses.target_hardware))
    ∷ (codes "target_address", string (ipv4_text addresses.target)) ∷ []

-- the operation and the addresses, or instead of the addresses whether the packet is cut off
abbrev pub arp_content : Arp → List Member
arp_content CutOff = (codes "cut_off", boolean true) ∷ []
arp_content (Operation operation is_cut_off) = (codes "operation", whole_number operation) ∷ (codes "cut_off", boolean is_cut_off) ∷ []
arp_content (Addresses operation addresses) = (codes "operation", whole_number operation) ∷ arp_address_members addresses

-- the ARP packet, if there is one
abbrev pub arp_members : Option Arp → List Member
arp_members None = []
arp_members (Some arp) = (codes "arp", object_of (arp_content arp)) ∷ []
