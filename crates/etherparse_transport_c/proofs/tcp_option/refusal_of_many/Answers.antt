use Rattle.std.proofs.Common.{length, Some, sym, ap, ◌∙◌, arith}
use Rattle.std.proofs.lemmas.List.{nil_from_length}
use Rattle.etherparse_transport_c.specs.TcpOptions.{gathered}
use Rattle.etherparse_transport_c.proofs.TcpOptionLengthLemmas.{many_refused}
use Rattle.etherparse_transport_c.proofs.tcp_option.refusal_of_many.Goals as goal

pub returns : goal.returns
returns c =
    let (found, gathers, count, needed) = c.loop-option.invariant in
    let none = nil_from_length c.loop-option.rest.now c.in_default.ensures.cases in
    many_refused c.args.options.now found c.loop-option.needed (sym gathers ∙ ap (gathered found) none)
    (omega (arith, count, ap length none, c.requires)) needed ∙ ap Some (sym c.of_options.ensures.numbers)
