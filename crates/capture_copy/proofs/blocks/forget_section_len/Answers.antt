use Rattle.std.proofs.Common.{◌∙◌, sym}
use Rattle.capture_copy.proofs.SectionLengthLemmas.{section_copy}
use Rattle.capture_copy.proofs.blocks.forget_section_len.Goals as goal

pub returns-then-is_pcapng : goal.returns-then-is_pcapng
returns-then-is_pcapng c = record {
  copy = section_copy c.args.block.now c.copy_from_slice.new.self
      (sym c.is_pcapng.ensures.is ∙ c.if-is_pcapng.true) c.copy_from_slice.ensures.after;
}
