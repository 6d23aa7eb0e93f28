use Rattle.std.proofs.Common.{◌≡◌, drop}
use Rattle.etherparse_transport_c.specs.Reassemblies.{after_all, all_refusal}
use Rattle.etherparse_transport_c.proofs.reassembled.add_all.Given as goal

abbrev pub invariant-loop-len : goal.invariant-loop-len
invariant-loop-len l =
    (all_refusal l.fn.reassembly l.lens l.packets ≡ all_refusal l.reassembly (drop l.len-index l.lens) l.rest)
    × (after_all l.fn.reassembly l.lens l.packets ≡ after_all l.reassembly (drop l.len-index l.lens) l.rest)
