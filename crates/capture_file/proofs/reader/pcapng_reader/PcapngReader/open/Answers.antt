use Rattle.std.proofs.Common.{◌≡◌, ◌∙◌, ◌-◌, None, ap, rules, slice_range, subst, sym}
use Rattle.capture_file.specs.BlockTexts.{texts_with}
use Rattle.capture_file.specs.Opening.{BeginsUnless, IsFirstBlock}
use Rattle.capture_file.specs.PcapngBodies.{section_header_refusal}
use Rattle.capture_file.proofs.reader.pcapng_reader.PcapngReader.open.Goals.{in-Whole+in-Ok, in-Whole+in-Err, in-TooLong, in-End, in-Refused}
use Rattle.capture_file.proofs.reader.pcapng_reader.PcapngReader.open.Goals as goal

-- the texts after the first block are the texts in the block
pub returns : goal.returns
returns g c =
    elim c.match-branch-2.branch [
      | in-Whole+in-Ok w ↦
          (let header = w.in-Whole.header in
          let body = slice_range c.read_rest.new.buffer 8 (header.total_len - 4) in
          let accepted : section_header_refusal header.byte_order body ≡ None = search rules in
          record {
            block = c.in_ok-header.field-0;
            reads = c.in_ok-header.ensures.reads;
            is_first = subst (λ block. IsFirstBlock c.read_rest.new.buffer block c.match-branch-2.result) (sym w.in-Whole.is)
                (subst (λ refusal. BeginsUnless refusal header body c.match-branch-2.result) (sym accepted) (
                  _,
                  w.result-is,
                  record {
                    byte_order = w.new-section.ensures.byte_order;
                    interfaces = w.new-section.ensures.interfaces;
                    offset = w.from-offset.ensures;
                    texts = w.note.ensures ∙ ap (texts_with header body) w.new-texts.ensures;
                  },
                ));
          })
      | in-Whole+in-Err w ↦ search rules
      | in-TooLong w ↦ search rules
      | in-End w ↦ search rules
      | in-Refused w ↦ search rules
    ]
