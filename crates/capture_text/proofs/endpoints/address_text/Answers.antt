use Rattle.std.specs.Prelude.{◌++◌}
use Rattle.std.specs.Net.Text.{ip_text}
use Rattle.std.proofs.Common.{◌≡◌, ◌∙◌, ap}
use Rattle.std.proofs.lemmas.Fmt.{contents_after_writes}
use Rattle.capture_text.proofs.NameLemmas.{length-address}
use Rattle.capture_text.proofs.endpoints.address_text.Goals as goal

-- the text of the address was written into the empty text
pub returns-in-Ok-clause-text : goal.returns-in-Ok-clause-text
returns-in-Ok-clause-text c =
    contents_after_writes (λ text bytes longer. longer.bytes ≡ text.bytes ++ bytes) (λ text. text.bytes) (λ text bytes longer is. is)
    c.new-text.result (ip_text c.args.address) c.write.new.self c.in-Ok.ensures.writes
    ∙ ap (λ front. front ++ ip_text c.args.address) c.new-text.ensures

-- the text always fits
pub returns-in-Ok-clause-fits : goal.returns-in-Ok-clause-fits
returns-in-Ok-clause-fits c = length-address c.args.address

pub returns-in-Err-clause-fits : goal.returns-in-Err-clause-fits
returns-in-Err-clause-fits c = length-address c.args.address
