use Rattle.capture_words.proofs.WrittenLemmas.{written_then}
use Rattle.capture_json.proofs.endpoints.write_endpoints.Goals as goal

-- the beginning, and then the rows
pub returns : goal.returns
returns g c = written_then _ _ _ _ _ _ c.in_ok-write_beginning.ensures c.write_rows.ensures
