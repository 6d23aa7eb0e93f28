use Rattle.std.proofs.Common.{rules, ap, ◌∙◌}
use Rattle.ip_translation.specs.AddressTables.{embedded}
use Rattle.ip_translation.proofs.TranslatedAddressLemmas.{destination_written, source_written}
use Rattle.ip_translation.proofs.header_translation.write_header.Goals as goal

pub returns-clause-addresses : goal.returns-clause-addresses
returns-clause-addresses c = record {
  source = source_written c.copy_from_slice.new.self c.write_embedded.new.place c.write_embedded-2.new.place
      (search rules) (search rules)
      ∙ c.write_embedded.ensures ∙ ap (embedded c.args.prefixes.now.source) c.source.ensures;
  destination = destination_written c.copy_from_slice.new.self c.write_embedded.new.place c.write_embedded-2.new.place
      (search rules) (search rules) (search rules)
      ∙ c.write_embedded-2.ensures ∙ ap (embedded c.args.prefixes.now.destination) c.destination.ensures;
}
