use Rattle.std.proofs.Common.{◌++◌, List, ℕ, rules, subst}
use Rattle.std.specs.Prelude.{IfOk, Result}
use Rattle.net_base.specs.declared.err.len_error.LenError.{LenError}
use Rattle.tcp_part.specs.TcpFormat as tcp
use Rattle.tcp_part.proofs.ReadsBack.{reads_back_with}
use Rattle.etherparse_transport.proofs.ip.write_packet.write_tcp.Goals as goal

pub returns-clause-reads_back : goal.returns-clause-reads_back
returns-clause-reads_back c =
    let IsRead : Result ℕ LenError → Type 0 =
    λ result. IfOk result (λ _. (payload : List ℕ) → tcp.DecodesAs (tcp.wire c.args.header.now ++ payload) c.args.header.now payload) in
    let decodes : IsRead (c.write_to_slice.result) = c.write_to_slice.ensures.reads_back in
    reads_back_with c.args.header.now c.args.checksum c.args.payload.now (subst IsRead c.unwrap.ensures decodes c.args.payload.now)
    (search rules) (search rules)
