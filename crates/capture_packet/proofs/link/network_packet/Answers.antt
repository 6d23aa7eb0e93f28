use Rattle.std.proofs.Common.{None, Some, refl}
use Rattle.capture_packet.proofs.link.network_packet.Goals as goal

pub returns-in-None-clause-found : goal.returns-in-None-clause-found
returns-in-None-clause-found c = record {
  len = c.in_ok-header.header.len;
  next = None;
  end = c.in_ok-header.header.end;
  has_header = rw c.in-None.is at c.in_ok-header.ensures.found;
  is_cut = c.bytes_after-bytes.ensures;
}

pub returns-in-Some-clause-found : goal.returns-in-Some-clause-found
returns-in-Some-clause-found c = record {
  len = c.in_ok-header.header.len;
  next = Some c.in-Some.protocol;
  end = c.in_ok-header.header.end;
  has_header = rw c.in-Some.is at c.in_ok-header.ensures.found;
  is_cut = (refl, c.bytes_after-bytes.ensures);
}
