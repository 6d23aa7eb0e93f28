use Rattle.std.proofs.Common.{◌≡◌, ◌∙◌, ap, length}
use Rattle.std.proofs.lemmas.Result.{IfOk-weaker}
use Rattle.tcp_part.specs.TcpFormat.{options_of, wire}
use Rattle.etherparse_transport_c.specs.Tcp.{header_bytes, header_in}
use Rattle.etherparse_transport_c.proofs.TcpLemmas.{stored_len}
use Rattle.etherparse_transport_c.proofs.tcp.changed_header.Goals as goal

pub returns-in-Ok-clause-len : goal.returns-in-Ok-clause-len
returns-in-Ok-clause-len c =
    let fields = c.args.fields.now in
    let bytes = c.args.bytes.now in
    let options : c.options.result.now ≡ options_of bytes =
    c.options.ensures.value ∙ ap (λ header. header.options) c.in-Ok.ensures.read.fields in
    IfOk-weaker c.made_header.result (λ header. header ≡ header_in fields c.options.result.now)
    (λ header. length (wire header) ≡ length (header_bytes bytes))
    (λ header same. ap (λ h. length (wire h)) (same ∙ ap (header_in fields) options)
    ∙ stored_len fields bytes c.in-Ok.ensures.read.accepted)
    c.made_header.ensures.made
