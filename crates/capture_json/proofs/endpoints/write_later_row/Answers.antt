use Rattle.std.proofs.Common.{refl}
use Rattle.capture_words.proofs.WrittenLemmas.{written_2}
use Rattle.capture_json.proofs.endpoints.write_later_row.Goals as goal

-- the comma and the row
pub returns : goal.returns
returns g c = written_2 _ _ _ _ _ _ _ c.in_ok-write_bytes.ensures c.write_row.ensures refl
