-- The interface of a packet, in the line of the packet.
use Rattle.std.specs.Prelude.{List, ℕ, [], ◌++◌, if◌then◌else◌, codes, decimal, Option, Some, None}
use Rattle.capture_words.specs.ShownText.{shown_kept}
use Rattle.capture_words.specs.TextsText.{is_absent}
use Rattle.capture_file.specs.declared.reader.packet_interface.PacketInterface.{PacketInterface}

-- a space and the name of an interface, or its number if it has no name
abbrev pub known_interface : PacketInterface → List ℕ
known_interface interface =
    if is_absent interface.name then codes " interface " ++ decimal interface.number else codes " " ++ shown_kept interface.name

-- a space and the interface of a packet; the text is empty if there is no interface
abbrev pub interface_text : Option PacketInterface → List ℕ
interface_text None = []
interface_text (Some interface) = known_interface interface
