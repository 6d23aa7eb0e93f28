use Rattle.std.proofs.Common.{◌≡◌, length, map, take}
use Rattle.capture_arguments.specs.Chosen.{ReadsPlaces, ReadsProtocol}
use Rattle.capture_arguments.proofs.chosen.protocols_in.Given as goal

-- the places have the values of the texts so far
abbrev pub invariant-loop-place : goal.invariant-loop-place
invariant-loop-place l = (length l.protocols ≡ 16) × ReadsPlaces ReadsProtocol (map (λ text. text.now) (take l.place l.texts)) l.protocols
