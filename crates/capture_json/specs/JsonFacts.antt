-- The facts of a capture, as members of the summary.
use Rattle.std.specs.Prelude.{ℕ, ◌+◌, List, [], ◌∷◌, ◌++◌, codes, slice_get, Option, Some, None}
use Rattle.capture_words.specs.FactsText.{byte_order_word, resolution_text}
use Rattle.capture_file.specs.Packets.{power_of_ten}
use Rattle.capture_numbers.specs.declared.byte_order.ByteOrder.{ByteOrder}
use Rattle.capture_file.specs.declared.pcapng.interface_description.InterfaceDescription.{InterfaceDescription}
use Rattle.capture_file.specs.declared.pcapng.time_resolution.TimeResolution.{TimeResolution}
use Rattle.capture_file.specs.declared.reader.capture_reader.CaptureReader.{CaptureReader}
use Rattle.capture_file.specs.declared.reader.capture_reader.CaptureReader.TheVariants.{Classic, Pcapng}
use Rattle.capture_json.specs.JsonTexts.{interface_members, texts_members}
use Rattle.capture_json.specs.Members.{Member, array_of, object_of, whole_number}
use Rattle.capture_file.specs.declared.file_texts.InterfaceTexts.{InterfaceTexts}
use Rattle.serde_json.specs.Data.{Data, string}

-- the type and the byte order of a file
abbrev pub form_members : List ℕ → ByteOrder → List Member
form_members type order = (codes "file_type", string type) ∷ (codes "byte_order", string (byte_order_word order)) ∷ []

-- the snap length, which limits the captured bytes of a packet, and the unit of the times
abbrev pub limits_members : ℕ → TimeResolution → List Member
limits_members snap_len resolution =
    (codes "snap_length", whole_number snap_len) ∷ (codes "time_resolution", string (resolution_text resolution)) ∷ []

-- the interface with this number as an object; the object includes the texts of the interface if `texts` contains them
abbrev pub interface_data : List InterfaceTexts → ℕ → InterfaceDescription → Data
interface_data texts number interface =
    object_of (limits_members interface.snap_len interface.time_resolution ++ interface_members (slice_get texts number))

-- these interfaces as objects, in their order; `number` is the number of the first interface
abbrev pub interfaces_data : List InterfaceTexts → ℕ → List InterfaceDescription → List Data
interfaces_data texts number [] = []
interfaces_data texts number (interface ∷ interfaces) =
    interface_data texts number interface ∷ interfaces_data texts (number + 1) interfaces

-- the facts of a capture, or nothing if there is no capture
abbrev pub facts_members : Option CaptureReader → List Member
facts_members None = []
facts_members (Some (Classic reader)) =
    form_members (codes "classic") reader.header.byte_order ++ limits_members reader.header.snap_len (power_of_ten reader.header.resolution)
facts_members (Some (Pcapng reader)) =
    form_members (codes "pcapng") reader.section.byte_order
    ++ (texts_members reader.texts
    ++ (codes "interfaces", array_of (interfaces_data reader.texts.interfaces.items 0 reader.section.interfaces.items)) ∷ [])
