use Rattle.std.proofs.Common.{refl}
use Rattle.capture_words.proofs.WrittenLemmas.{written_2}
use Rattle.capture_words.proofs.icmpv6_fields.write_link_layer_address.Goals as goal

pub returns : goal.returns
returns g c = rw c.in-Some.is (written_2 _ _ _ _ _ _ _ c.in_ok-write.ensures.bytes c.write_hardware_address.ensures refl)
