use Rattle.std.proofs.Common.{length, ap, ◌∙◌}
use Rattle.etherparse_transport_c.specs.Text.{max_text_len, with_string}
use Rattle.std.specs.Prelude.{take}
use Rattle.etherparse_transport_c.proofs.error_text.etherparse_error_text.Goals as goal

pub returns-clause-len : goal.returns-clause-len
returns-clause-len c = c.put_string.ensures.len
    ∙ ap length (c.as_slice.ensures.value ∙ c.cut.ensures ∙ ap (take max_text_len) c.text.ensures)

pub returns-clause-text : goal.returns-clause-text
returns-clause-text c =
    c.put_string.ensures.buffer ∙ ap (λ text. with_string text c.args.buffer.now)
    (c.as_slice.ensures.value ∙ c.cut.ensures ∙ ap (take max_text_len) c.text.ensures)
