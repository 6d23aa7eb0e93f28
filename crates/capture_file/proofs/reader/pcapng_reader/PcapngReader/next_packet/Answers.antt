use Rattle.std.proofs.Common.{◌≡◌, ◌+◌, suc, None, arith, length, subst}
use Rattle.capture_file.specs.PcapngSteps.{PassesBlocks, ReadsStep}
use Rattle.capture_file.proofs.PcapngReadingLemmas.{no_byte_read}
use Rattle.capture_file.proofs.reader.pcapng_reader.PcapngReader.next_packet.Goals as goal

pub loop-passed-preserved : goal.loop-passed-preserved
loop-passed-preserved g c =
    let remaining = g.R.Read.remaining in
    let one_more : suc c.loop-passed._passed ≡ c.loop-passed._passed + 1 = omega arith in
    let none : c.in_ok-next.field-0 ≡ None = c.in_default.is in
    let step = subst
    (ReadsStep c.loop-passed.self (remaining c.loop-passed.input)
    (remaining c.read_step.new.input) c.read_step.new.self c.read_step.new.buffer)
    none c.in_ok-next.ensures.reads in
    let same : length c.read_step.new.buffer ≡ length c.args.buffer.now = omega (arith, c.loop-passed.invariant.0) in (
      same,
      subst (λ count. PassesBlocks (length c.args.buffer.now) count c.args.self.now (remaining c.args.input.now)
          (remaining c.read_step.new.input) c.read_step.new.self) one_more
          (c.loop-passed.self, remaining c.loop-passed.input, c.read_step.new.buffer, same, c.loop-passed.invariant.1, step),
    )

-- reading failed after these blocks
pub returns-clause-fails : goal.returns-clause-fails
returns-clause-fails g c = record {
  count = c.loop-passed._passed;
  middle = g.R.Read.remaining c.loop-passed.input;
  passed = c.loop-passed.invariant.1;
  fails = no_byte_read _ _;
}
