use Rattle.tcp_part.proofs.EqualHeaders.{equal_header, same_header}
use Rattle.tcp_part.proofs.laws.equal_headers.Goals as goal

pub returns : goal.returns
returns c = rw c.eq.ensures record { same = (same_header c.args.a.now c.args.b.now, equal_header c.args.a.now c.args.b.now) }
