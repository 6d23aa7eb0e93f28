use Rattle.std.proofs.Common.{◌≡◌, ◌≤◌, ◌==◌, true, List, ℕ, slice_index, sym, ap, ◌∙◌, rules}
use Rattle.tcp_part.specs.TcpFormat.{flag_of, options_of, syn_flag}
use Rattle.etherparse_transport.proofs.SegmentSizeLemmas.{finds_behind, none_refused, same_options, same_syn}
use Rattle.etherparse_transport.proofs.ip.segment_size.size_place_in.Goals as goal

pub returns-clause-found : goal.returns-clause-found
returns-clause-found c =
    let segment : List ℕ = c.args.found.now.payload.now in
    let header : 80 ≤ slice_index segment 12 = search rules in
    let is_syn : flag_of c.in-Ok.header syn_flag ≡ true = search rules in
    let is_tcp : (c.args.found.now.protocol.0 == 6) ≡ true = search rules in
    finds_behind c.args.found.now.protocol c.args.found.now.is_later_fragment segment c.options.result.now c.size_place_in_options.result
    (none_refused c.args.found.now.protocol c.args.found.now.is_later_fragment segment is_tcp (search rules) c.in-Ok.ensures.refused
    (sym (same_syn segment header) ∙ ap (λ header. flag_of header syn_flag) (sym c.in-Ok.ensures.kept) ∙ is_syn))
    (c.options.ensures.value ∙ ap options_of c.in-Ok.ensures.kept ∙ same_options segment header)
    c.size_place_in_options.ensures.found
