use Rattle.std.proofs.Common.{◌≡◌, ap, arith}
use Rattle.std.specs.Prelude.{codes}
use Rattle.net_base.specs.Bytes.{be_number}
use Rattle.capture_words.specs.IcmpText.{field_text}
use Rattle.capture_words.proofs.WrittenLemmas.{written_1}
use Rattle.capture_words.proofs.icmpv6.write_listener_number.Goals as goal

-- the maximum response code of a query
pub returns-in-130 : goal.returns-in-130
returns-in-130 g c =
    let number : c.from.result ≡ be_number c.args.bytes5to8.now 0 2 = omega (arith, c.from.ensures) in
    rw c.in-130.is (written_1 _ _ _ _ _ c.write_field.ensures (ap (field_text (codes "maximum response code")) number))

-- the number of records
pub returns-in-143 : goal.returns-in-143
returns-in-143 g c =
    let number : c.from-in-143.result ≡ be_number c.args.bytes5to8.now 2 2 = omega (arith, c.from-in-143.ensures) in
    rw c.in-143.is (written_1 _ _ _ _ _ c.write_field-in-143.ensures (ap (field_text (codes "records")) number))
