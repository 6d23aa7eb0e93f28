-- Counts of packets and bytes as JSON members.
use Rattle.std.specs.Prelude.{List, [], ◌∷◌, codes}
use Rattle.capture_json.specs.Members.{Member, whole_number}
use Rattle.capture_summary.specs.declared.count.Count.{Count}

-- the packets and bytes of a count
abbrev pub count_members : Count → List Member
count_members count = (codes "packets", whole_number count.packets) ∷ (codes "bytes", whole_number count.bytes) ∷ []
