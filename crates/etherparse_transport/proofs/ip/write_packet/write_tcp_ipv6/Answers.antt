use Rattle.std.proofs.Common.{◌≡◌, ◌++◌, ℕ, rules, subst}
use Rattle.tcp_part.specs.TcpFormat as tcp
use Rattle.tcp_part.specs.declared.tcp_header.TcpHeader.{TcpHeader}
use Rattle.word_sum.specs.Checksum.{checksum_of}
use Rattle.etherparse_transport.proofs.ip.write_packet.write_tcp_ipv6.Goals as goal

pub returns-clause-reads_back : goal.returns-clause-reads_back
returns-clause-reads_back c =
    let IsRead : TcpHeader → Type 0 = λ header. tcp.DecodesAs (tcp.wire header ++ c.args.payload.now) header c.args.payload.now in
    let Sent : ℕ → Type 0 = λ checksum. IsRead (record c.args.header.now { checksum = checksum }) in
    let summed : c.unwrap-checksum.result ≡ checksum_of (tcp.checksummed_ipv6 c.args.source c.args.destination
    (tcp.wire c.args.header.now) c.args.payload.now) =
    search rules in
    subst Sent summed c.write_tcp.ensures.reads_back
