use Rattle.std.proofs.Common.{◌≤◌, length, slice_index, refl, rules}
use Rattle.std.proofs.lemmas.List.{take_rest}
use Rattle.tcp_part.proofs.TcpRawOptionsLemmas.{begins_whole}
use Rattle.tcp_part.proofs.tcp_raw_options_iterator.TcpRawOptionsIteratorIterator.next.Goals as goal

pub returns-clause-steps : goal.returns-clause-steps
returns-clause-steps c =
    let bytes = c.self.inside.options.now in
    let kind : 2 ≤ slice_index bytes 0 = search rules in
    let counts : 2 ≤ slice_index bytes 1 = search rules in
    let there : slice_index bytes 1 ≤ length bytes = search rules in
    rw (take_rest, ← c.self.view_is, c.from-2.ensures, c.from-3.ensures) (begins_whole bytes _ kind refl counts there)
