use Rattle.capture_file.proofs.PlacesLaws.{offsets_are_places}
use Rattle.capture_file.proofs.reader.laws.places.Goals as goal

pub returns : goal.returns
returns c = offsets_are_places
