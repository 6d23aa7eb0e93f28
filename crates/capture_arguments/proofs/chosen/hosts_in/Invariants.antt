use Rattle.std.proofs.Common.{◌≡◌, length, map, take}
use Rattle.capture_arguments.specs.Chosen.{ReadsPlaces, ReadsHost}
use Rattle.capture_arguments.proofs.chosen.hosts_in.Given as goal

-- the first places have the values of the texts before this one
abbrev pub invariant-loop-place : goal.invariant-loop-place
invariant-loop-place l = (length l.hosts ≡ 16) × ReadsPlaces ReadsHost (map (λ text. text.now) (take l.place l.texts)) l.hosts
