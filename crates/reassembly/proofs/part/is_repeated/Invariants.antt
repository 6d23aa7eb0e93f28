use Rattle.std.proofs.Common.{◌≡◌, take}
use Rattle.std.specs.List.{list_any}
use Rattle.reassembly.specs.Parts.{piece_in}
use Rattle.reassembly.specs.Pieces.{is_same}
use Rattle.reassembly.proofs.part.is_repeated.Given as goal

abbrev pub invariant-loop-part : goal.invariant-loop-part
invariant-loop-part l =
    l.is_repeated ≡ list_any (λ part. is_same (record { offset = l.offset; bytes = l.bytes }) (piece_in l.buffer part))
    (take l.part-index l.parts)
