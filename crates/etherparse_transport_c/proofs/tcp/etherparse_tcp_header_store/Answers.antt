use Rattle.std.proofs.Common.{◌++◌, drop, length, refl, subst}
use Rattle.tcp_part.specs.TcpFormat.{DecodesAs, options_of, wire}
use Rattle.etherparse_transport_c.specs.Tcp.{header_in}
use Rattle.etherparse_transport_c.proofs.TcpLemmas.{stored}
use Rattle.etherparse_transport_c.proofs.tcp.etherparse_tcp_header_store.Goals as goal

pub returns-in-Ok-clause-reads_back : goal.returns-in-Ok-clause-reads_back
returns-in-Ok-clause-reads_back c accepted =
    let fields = c.args.fields.now in
    let bytes = c.args.bytes.now in
    let rest = drop (length (wire (header_in fields (options_of bytes)))) bytes in
    let decodes = subst (λ header. DecodesAs (wire header ++ rest) header rest) c.in-Ok.ensures.made (c.to_bytes.ensures.reads_back rest) in
    rw (c.put_front.ensures, c.deref.ensures.0, c.to_bytes.ensures.written, c.in-Ok.ensures.made) (stored fields bytes accepted decodes)

pub returns-in-Ok-clause-stored : goal.returns-in-Ok-clause-stored
returns-in-Ok-clause-stored c =
    rw (c.in-Ok.ensures.refused, c.put_front.ensures, c.deref.ensures.0, c.to_bytes.ensures.written, c.in-Ok.ensures.made) refl
