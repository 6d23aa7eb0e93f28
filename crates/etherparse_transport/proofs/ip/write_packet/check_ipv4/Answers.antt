use Rattle.std.proofs.Common.{◌≤◌, List, ℕ, length, subst, sym, ◌∙◌}
use Rattle.etherparse_transport.specs.declared.transport_header.TransportHeader.TheVariants as headers
use Rattle.etherparse_transport.proofs.BuiltLemmas.{header_long}
use Rattle.etherparse_transport.proofs.ip.write_packet.check_ipv4.Goals as goal

pub check_timestamp-requires : goal.check_timestamp-requires
check_timestamp-requires c =
    let Long : List ℕ → Type 0 = λ bytes. 8 ≤ length bytes in
    let is : _ = c.deref.ensures.0 ∙ c.to_bytes.ensures.written in
    record { whole = subst Long (sym is) (header_long (headers.Icmpv4 c.in-Icmpv4.header) c.to_bytes.ensures.reads_back) }
