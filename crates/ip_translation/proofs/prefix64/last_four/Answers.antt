use Rattle.std.proofs.Common.{drop, ap}
use Rattle.ip_translation.proofs.ListedLemmas.{whole}
use Rattle.ip_translation.proofs.prefix64.last_four.Goals as goal

pub returns : goal.returns
returns c = ap (drop 12) (whole c.args.address.now 16 c.told-address)
