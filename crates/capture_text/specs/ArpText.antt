-- The text of an ARP packet in a line (RFC 826). It follows the name of the protocol.
use Rattle.std.specs.Prelude.{ℕ, ◌==◌, Bool, true, if◌then◌else◌, List, [], ◌++◌, codes, decimal, Option, Some, None}
use Rattle.std.specs.Net.Text.{ipv4_text}
use Rattle.capture_packet.specs.declared.arp.Arp.{Arp}
use Rattle.capture_packet.specs.declared.arp.Arp.TheVariants.{Addresses, CutOff, Operation}
use Rattle.capture_packet.specs.declared.arp.ArpAddresses.{ArpAddresses}
use Rattle.capture_words.specs.HardwareAddress.{hardware_address_text}

-- a packet that is cut off; the text is empty if it is not cut off
abbrev pub cut_off_text : Bool → List ℕ
cut_off_text is_cut_off = if is_cut_off then codes ", cut off" else []

-- an operation by its number
abbrev pub operation_text : ℕ → List ℕ
operation_text operation = codes ", operation " ++ decimal operation

-- a packet without addresses: its operation, and that it is cut off, if it is
abbrev pub unresolved_text : ℕ → Bool → List ℕ
unresolved_text operation is_cut_off = operation_text operation ++ cut_off_text is_cut_off

-- a request: the address that it asks for, and the address of the sender
abbrev pub request_text : ArpAddresses → List ℕ
request_text addresses = codes ", who has " ++ (ipv4_text addresses.target ++ (codes ", asked by " ++ ipv4_text addresses.sender))

-- a reply: the address of the sender, and its hardware address
abbrev pub reply_text : ArpAddresses → List ℕ
reply_text addresses = codes ", " ++ (ipv4_text addresses.sender ++ (codes " is at " ++ hardware_address_text addresses.sender_hardware))

-- a packet with addresses: operation 1 is a request, and 2 is a reply
abbrev pub resolution_text : ℕ → ArpAddresses → List ℕ
resolution_text operation addresses =
    if operation == 1 then request_text addresses
    else if operation == 2 then reply_text addresses
    else operation_text operation

-- an ARP packet, as far as it is read
abbrev pub packet_text : Arp → List ℕ
packet_text CutOff = cut_off_text true
packet_text (Operation operation is_cut_off) = unresolved_text operation is_cut_off
packet_text (Addresses operation addresses) = resolution_text operation addresses

-- the ARP packet in a frame; the text is empty if there is none
abbrev pub arp_text : Option Arp → List ℕ
arp_text None = []
arp_text (Some arp) = packet_text arp
