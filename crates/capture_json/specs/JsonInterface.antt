-- The interface of a packet, as members of the object of the packet.
use Rattle.std.specs.Prelude.{List, [], ◌∷◌, codes, Option, Some, None}
use Rattle.capture_json.specs.JsonTexts.{kept_members}
use Rattle.capture_json.specs.Members.{Member, whole_number}
use Rattle.capture_file.specs.declared.reader.packet_interface.PacketInterface.{PacketInterface}

-- the number of an interface, and its name if it has a name
abbrev pub known_interface_members : PacketInterface → List Member
known_interface_members interface =
    (codes "interface", whole_number interface.number) ∷ kept_members (codes "interface_name") interface.name

-- the interface of a packet; no members if there is no interface
abbrev pub packet_interface_members : Option PacketInterface → List Member
packet_interface_members None = []
packet_interface_members (Some interface) = known_interface_members interface
