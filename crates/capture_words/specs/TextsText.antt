-- The texts of a pcapng file and the statistics of its interfaces, each in a line (draft-ietf-opsawg-pcapng, sections 3.5, 4.1, 4.2 and
-- 4.6).
use Rattle.std.specs.Prelude.{ℕ, ◌==◌, Bool, if◌then◌else◌, List, [], ◌++◌, length, codes, decimal, Option, Some, None}
use Rattle.capture_words.specs.ShownText.{shown_kept}
use Rattle.capture_file.specs.declared.file_texts.FileTexts.{FileTexts}
use Rattle.capture_file.specs.declared.file_texts.InterfaceTexts.{InterfaceTexts}
use Rattle.capture_file.specs.declared.interface_statistics.InterfaceStatistics.{InterfaceStatistics}
use Rattle.capture_file.specs.declared.kept_text.KeptText.{KeptText}

-- the text is absent: it has no byte
abbrev pub is_absent : KeptText → Bool
is_absent text = length text.bytes.items == 0

-- a text, and the end of its line
abbrev pub text_line : KeptText → List ℕ
text_line text = shown_kept text ++ codes "\n"

-- a label and a text in a line; if the text is absent, there is no line
abbrev pub labelled_text : List ℕ → KeptText → List ℕ
labelled_text label text = if is_absent text then [] else label ++ (codes " " ++ text_line text)

-- the number of an interface, a label and a text in a line; if the text is absent, there is no line
abbrev pub numbered_text : ℕ → List ℕ → KeptText → List ℕ
numbered_text number label text =
    if is_absent text then [] else codes "interface " ++ (decimal number ++ (codes " " ++ (label ++ (codes " " ++ text_line text))))

-- the line with the number of packets that have a comment; if the number is 0, there is no line
abbrev pub commented_text : ℕ → List ℕ
commented_text count = if count == 0 then [] else codes "packets with a comment " ++ (decimal count ++ codes "\n")

-- the lines of the texts of a section, and the line with the number of packets that have a comment
abbrev pub texts_text : FileTexts → List ℕ
texts_text texts =
    labelled_text (codes "application") texts.application ++ (labelled_text (codes "operating system") texts.operating_system
    ++ (labelled_text (codes "hardware") texts.hardware ++ (labelled_text (codes "comment") texts.comment
    ++ commented_text texts.commented_packets)))

-- the number of an interface, a label and a number of packets in a line; if the number of packets is not stated, there is no line
abbrev pub count_line : ℕ → List ℕ → Option ℕ → List ℕ
count_line number label None = []
count_line number label (Some count) =
    codes "interface " ++ (decimal number ++ (codes " packets " ++ (label ++ (codes " " ++ (decimal count ++ codes "\n")))))

-- the lines of the statistics of the interface with this number
abbrev pub statistics_lines : ℕ → InterfaceStatistics → List ℕ
statistics_lines number statistics =
    count_line number (codes "received") statistics.received ++ (count_line number (codes "dropped") statistics.dropped
    ++ count_line number (codes "dropped by the operating system") statistics.dropped_by_system)

-- the texts and the statistics of the interface with this number
abbrev pub kept_lines : ℕ → InterfaceTexts → List ℕ
kept_lines number texts =
    numbered_text number (codes "name") texts.name ++ (numbered_text number (codes "description") texts.description
    ++ (numbered_text number (codes "comment") texts.comment ++ statistics_lines number texts.statistics))

-- the lines of the texts of the interface with this number; if these texts are not available, there is no line
abbrev pub interface_lines : ℕ → Option InterfaceTexts → List ℕ
interface_lines number None = []
interface_lines number (Some texts) = kept_lines number texts
