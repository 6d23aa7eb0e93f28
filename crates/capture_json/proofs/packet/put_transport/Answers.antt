use Rattle.std.proofs.Common.{[], refl}
use Rattle.capture_json.proofs.packet.put_transport.Goals as goal

pub returns-in_ok-put_ports-in-Ports : goal.returns-in_ok-put_ports-in-Ports
returns-in_ok-put_ports-in-Ports c = rw c.in-Ports.is (_, refl, c.in_ok-put_ports-in-Ports.ensures)

pub returns-in-Unread : goal.returns-in-Unread
returns-in-Unread c = rw c.in-Unread.is ([], refl, refl)
