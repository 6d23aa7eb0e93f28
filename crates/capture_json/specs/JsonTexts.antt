-- The texts of a pcapng file and the statistics of its interfaces, as members of the summary. A member without a value is left out.
use Rattle.std.specs.Prelude.{ℕ, ◌==◌, if◌then◌else◌, List, [], ◌∷◌, ◌++◌, codes, Option, Some, None}
use Rattle.capture_words.specs.ShownText.{shown_kept}
use Rattle.capture_words.specs.TextsText.{is_absent}
use Rattle.capture_json.specs.Members.{Member, whole_number}
use Rattle.capture_file.specs.declared.file_texts.FileTexts.{FileTexts}
use Rattle.capture_file.specs.declared.file_texts.InterfaceTexts.{InterfaceTexts}
use Rattle.capture_file.specs.declared.interface_statistics.InterfaceStatistics.{InterfaceStatistics}
use Rattle.capture_file.specs.declared.kept_text.KeptText.{KeptText}
use Rattle.serde_json.specs.Data.{string}

-- a member with this name and this text, if the text is present
abbrev pub kept_members : List ℕ → KeptText → List Member
kept_members name text = if is_absent text then [] else (name, string (shown_kept text)) ∷ []

-- the number of packets with a comment, unless it is 0
abbrev pub commented_members : ℕ → List Member
commented_members count = if count == 0 then [] else (codes "packets_with_comment", whole_number count) ∷ []

-- the texts of a section, and the number of packets with a comment
abbrev pub texts_members : FileTexts → List Member
texts_members texts =
    kept_members (codes "application") texts.application ++ (kept_members (codes "operating_system") texts.operating_system
    ++ (kept_members (codes "hardware") texts.hardware ++ (kept_members (codes "comment") texts.comment
    ++ commented_members texts.commented_packets)))

-- a member with this name and this number of packets, if the number is stated
abbrev pub count_members : List ℕ → Option ℕ → List Member
count_members name None = []
count_members name (Some count) = (name, whole_number count) ∷ []

-- the statistics of an interface
abbrev pub statistics_members : InterfaceStatistics → List Member
statistics_members statistics =
    count_members (codes "packets_received") statistics.received ++ (count_members (codes "packets_dropped") statistics.dropped
    ++ count_members (codes "packets_dropped_by_operating_system") statistics.dropped_by_system)

-- the texts and the statistics of an interface
abbrev pub kept_interface_members : InterfaceTexts → List Member
kept_interface_members texts =
    kept_members (codes "name") texts.name ++ (kept_members (codes "description") texts.description
    ++ (kept_members (codes "comment") texts.comment ++ statistics_members texts.statistics))

-- the texts and the statistics of an interface, or no members if there are no texts
abbrev pub interface_members : Option InterfaceTexts → List Member
interface_members None = []
interface_members (Some texts) = kept_interface_members texts
