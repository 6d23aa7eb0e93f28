use Rattle.std.proofs.Common.{Some, None, ap, sym, ◌∙◌, subst}
use Rattle.net_base.specs.PseudoHeader.{max_len_over_ipv6}
use Rattle.net_base.specs.declared.err.value_type.ValueType.TheVariants.{TcpPayloadLengthIpv6}
use Rattle.tcp_part.specs.TcpFormat.{checksummed_ipv6}
use Rattle.tcp_part.specs.TcpValidity.{IsValidTcpIpv6}
use Rattle.etherparse_transport_c.proofs.TcpLemmas.{built, enough, header_refused, passes_ipv6, payload_after, refused_by, sum_of_parts}
use Rattle.etherparse_transport_c.proofs.tcp.checksum_ipv6.Goals as goal

pub returns-in-Err-clause-refused : goal.returns-in-Err-clause-refused
returns-in-Err-clause-refused c =
    header_refused TcpPayloadLengthIpv6 max_len_over_ipv6 c.args.bytes.now c.in-Err.refused c.in-Err.ensures.refused
    ∙ ap Some (sym c.of_header_slice.ensures.numbers)

pub returns-in-Err-calc_checksum_ipv6_raw-clause-refused : goal.returns-in-Err-calc_checksum_ipv6_raw-clause-refused
returns-in-Err-calc_checksum_ipv6_raw-clause-refused c =
    let bytes = c.args.bytes.now in
    let front = c.in-Ok.ensures.kept in
    let payload = payload_after bytes c.slice.result.now c.in-Ok.ensures.refused (c.slice.ensures ∙ front) in
    refused_by TcpPayloadLengthIpv6 max_len_over_ipv6 bytes c.in-Ok.header _ (Some c.in-Err-calc_checksum_ipv6_raw.refused)
    c.in-Ok.ensures.refused front payload c.in-Err-calc_checksum_ipv6_raw.ensures.refused
    ∙ ap Some (sym c.of_value.ensures.numbers)

pub returns-in-Ok-calc_checksum_ipv6_raw-clause-refused : goal.returns-in-Ok-calc_checksum_ipv6_raw-clause-refused
returns-in-Ok-calc_checksum_ipv6_raw-clause-refused c =
    let bytes = c.args.bytes.now in
    let front = c.in-Ok.ensures.kept in
    let payload = payload_after bytes c.slice.result.now c.in-Ok.ensures.refused (c.slice.ensures ∙ front) in
    refused_by TcpPayloadLengthIpv6 max_len_over_ipv6 bytes c.in-Ok.header _ None c.in-Ok.ensures.refused front payload
    c.in-Ok-calc_checksum_ipv6_raw.ensures.refused

pub returns-in-Ok-calc_checksum_ipv6_raw-clause-header : goal.returns-in-Ok-calc_checksum_ipv6_raw-clause-header
returns-in-Ok-calc_checksum_ipv6_raw-clause-header c = enough c.args.bytes.now c.in-Ok.ensures.refused

pub returns-in-Ok-calc_checksum_ipv6_raw-clause-sum : goal.returns-in-Ok-calc_checksum_ipv6_raw-clause-sum
returns-in-Ok-calc_checksum_ipv6_raw-clause-sum c =
    let bytes = c.args.bytes.now in
    let front = c.in-Ok.ensures.kept in
    let payload = payload_after bytes c.slice.result.now c.in-Ok.ensures.refused (c.slice.ensures ∙ front) in
    sum_of_parts (checksummed_ipv6 c.args.source.now c.args.destination.now) bytes c.in-Ok.header _ c.in-Ok-calc_checksum_ipv6_raw.computed
    c.in-Ok-calc_checksum_ipv6_raw.ensures.sum front payload

pub returns-in-Ok-calc_checksum_ipv6_raw-clause-valid : goal.returns-in-Ok-calc_checksum_ipv6_raw-clause-valid
returns-in-Ok-calc_checksum_ipv6_raw-clause-valid c =
    let front = c.in-Ok.ensures.kept in
    let payload = payload_after c.args.bytes.now c.slice.result.now c.in-Ok.ensures.refused (c.slice.ensures ∙ front) in
    subst (IsValidTcpIpv6 c.args.source.now c.args.destination.now)
    (built c.args.bytes.now c.in-Ok.header _ c.in-Ok-calc_checksum_ipv6_raw.computed c.in-Ok.ensures.refused front payload)
    c.in-Ok-calc_checksum_ipv6_raw.ensures.valid

pub returns-in-Ok-calc_checksum_ipv6_raw-clause-passes : goal.returns-in-Ok-calc_checksum_ipv6_raw-clause-passes
returns-in-Ok-calc_checksum_ipv6_raw-clause-passes c =
    let bytes = c.args.bytes.now in
    passes_ipv6 c.args.source.now c.args.destination.now bytes c.in-Ok-calc_checksum_ipv6_raw.computed
    (enough bytes c.in-Ok.ensures.refused)
    (returns-in-Ok-calc_checksum_ipv6_raw-clause-refused c) (returns-in-Ok-calc_checksum_ipv6_raw-clause-valid c)
