use Rattle.std.proofs.Common.{arith, rules}
use Rattle.std.proofs.lemmas.List.{take_rest}
use Rattle.etherparse_transport.proofs.SkippedHeaderLemmas.{reached_end, reached_first, reached_next}
use Rattle.etherparse_transport.proofs.ip.skipped_headers.skip_headers.Goals as goal

pub loop-header-init : goal.loop-header-init
loop-header-init c = (reached_first c.args.packet.now _ c.requires.next c.requires.header, omega arith)

pub loop-header-preserved : goal.loop-header-preserved
loop-header-preserved c = (
  reached_next c.args.packet.now c.loop-header.skipped _ _ c.in-Some.header.now c.loop-header.invariant.0
      (take_rest c.args.packet.now c.loop-header.skipped.len)
      c.in-Some.ensures.found c.in-Some.ensures.header (search rules) c.in-Some.ensures.within.0 c.in-Some.ensures.within.1,
  omega (arith, c.loop-header.invariant.1),
)

pub returns-clause-skipped : goal.returns-clause-skipped
returns-clause-skipped c =
    reached_end c.args.packet.now c.loop-header.skipped _ c.loop-header.invariant.0
    (take_rest c.args.packet.now c.loop-header.skipped.len) c.in_default.ensures.found
