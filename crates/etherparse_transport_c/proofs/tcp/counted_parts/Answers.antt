use Rattle.std.proofs.Common.{Some, None, ap, sym, ◌∙◌}
use Rattle.etherparse_transport_c.proofs.TcpLemmas.{header_refused, parts_whole, payload_after, refused_by}
use Rattle.etherparse_transport_c.proofs.tcp.counted_parts.Goals as goal

pub returns-in-Err-clause-refused : goal.returns-in-Err-clause-refused
returns-in-Err-clause-refused c =
    header_refused c.args.value_type c.args.limit c.args.bytes.now c.in-Err.refused c.in-Err.ensures.refused
    ∙ ap Some (sym c.of_header_slice.ensures.numbers)

pub returns-in-Err-check_payload_len-clause-refused : goal.returns-in-Err-check_payload_len-clause-refused
returns-in-Err-check_payload_len-clause-refused c =
    let bytes = c.args.bytes.now in
    let front = c.slice-header_len.ensures ∙ c.in-Ok.ensures.kept in
    refused_by c.args.value_type c.args.limit bytes c.slice-header_len.result.now _
    (Some c.in-Err-check_payload_len.refused) c.in-Ok.ensures.refused front
    (payload_after bytes c.slice-header_len.result.now c.in-Ok.ensures.refused front) c.in-Err-check_payload_len.ensures
    ∙ ap Some (sym c.of_value.ensures.numbers)

pub returns-in-Ok-check_payload_len-clause-refused : goal.returns-in-Ok-check_payload_len-clause-refused
returns-in-Ok-check_payload_len-clause-refused c =
    let bytes = c.args.bytes.now in
    let front = c.slice-header_len.ensures ∙ c.in-Ok.ensures.kept in
    refused_by c.args.value_type c.args.limit bytes c.slice-header_len.result.now _ None c.in-Ok.ensures.refused front
    (payload_after bytes c.slice-header_len.result.now c.in-Ok.ensures.refused front) c.in-Ok-check_payload_len.ensures

pub returns-in-Ok-check_payload_len-clause-whole : goal.returns-in-Ok-check_payload_len-clause-whole
returns-in-Ok-check_payload_len-clause-whole c =
    let bytes = c.args.bytes.now in
    let front = c.slice-header_len.ensures ∙ c.in-Ok.ensures.kept in
    parts_whole bytes c.in-Ok.header _ c.in-Ok.ensures.kept
    (payload_after bytes c.slice-header_len.result.now c.in-Ok.ensures.refused front)
