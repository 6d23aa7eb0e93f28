use Rattle.std.proofs.Common.{◌≡◌, ◌==◌, false, None, length, slice_index, take, refl, sym, ◌∙◌, ap, subst, arith}
use Rattle.std.proofs.lemmas.List.{length-take-le}
use Rattle.net_base.specs.Bytes.{be_number}
use Rattle.net_base.specs.IpHeaders.{BeginsWithIpv4Header, ipv4_header_len}
use Rattle.ip_part.specs.ExtensionHeaders.{authentication}
use Rattle.ip_part.specs.Ip.{ipv4_header, refusal, total_len}
use Rattle.reassembly.proofs.FragmentLemmas.{begins_by_total, equal_four, fragment_accepted, fragment_is, ipv4_accepted}
use Rattle.reassembly.specs.Fragments.{fragment_of, ipv4_fragment_in}
use Rattle.reassembly.proofs.fragment.ipv4_len.Goals as goal

pub returns-clause-accepted : goal.returns-clause-accepted
returns-clause-accepted c =
    let packet = c.args.packet.now in
    let begins = c.in_ok-header.ensures.found.0 refl in
    let kept : c.in_ok-header.header ≡ ipv4_header packet = c.in_ok-header.ensures.kept in
    let stated : c.total_len.result ≡ total_len packet = c.total_len.ensures ∙ ap (λ header. be_number header 2 2) kept in
    let len : length c.slice.result.now ≡ ipv4_header_len packet =
    ap length c.slice.ensures ∙ ap length kept ∙ length-take-le (ipv4_header_len packet) packet begins.whole in
    let other : (slice_index (ipv4_header packet) 9 == authentication) ≡ false =
    ap (λ number. number == authentication) (ap (λ header. slice_index header 9) (sym kept) ∙ sym c.protocol.ensures)
    ∙ sym c.if-is_extended.ensures in
    λ _. fragment_accepted packet
    (ipv4_accepted packet begins (omega (arith, len, stated, c.from-total_len.ensures, c.if-total_len-slice.false))
    (omega (arith, stated, c.from-total_len.ensures, c.if-packet-total_len.false)) other) (equal_four packet begins.is_version_4)

pub returns-clause-found : goal.returns-clause-found
returns-clause-found c =
    let packet = c.args.packet.now in
    let begins = c.in_ok-header.ensures.found.0 refl in
    let kept : c.in_ok-header.header ≡ ipv4_header packet = c.in_ok-header.ensures.kept in
    let stated : total_len packet ≡ c.from-total_len.result =
    sym (c.from-total_len.ensures ∙ c.total_len.ensures ∙ ap (λ header. be_number header 2 2) kept) in
    subst (λ n. fragment_of packet ≡ ipv4_fragment_in (take n packet)) stated (fragment_is packet (equal_four packet begins.is_version_4))

pub returns-clause-begins : goal.returns-clause-begins
returns-clause-begins c =
    let packet = c.args.packet.now in
    let begins = c.in_ok-header.ensures.found.0 refl in
    let kept : c.in_ok-header.header ≡ ipv4_header packet = c.in_ok-header.ensures.kept in
    let stated : c.total_len.result ≡ total_len packet = c.total_len.ensures ∙ ap (λ header. be_number header 2 2) kept in
    let len : length c.slice.result.now ≡ ipv4_header_len packet =
    ap length c.slice.ensures ∙ ap length kept ∙ length-take-le (ipv4_header_len packet) packet begins.whole in
    let other : (slice_index (ipv4_header packet) 9 == authentication) ≡ false =
    ap (λ number. number == authentication) (ap (λ header. slice_index header 9) (sym kept) ∙ sym c.protocol.ensures)
    ∙ sym c.if-is_extended.ensures in
    let none : refusal packet ≡ None =
    ipv4_accepted packet begins (omega (arith, len, stated, c.from-total_len.ensures, c.if-total_len-slice.false))
    (omega (arith, stated, c.from-total_len.ensures, c.if-packet-total_len.false)) other in
    subst (λ n. BeginsWithIpv4Header (take n packet)) (sym (c.from-total_len.ensures ∙ stated))
    (begins_by_total packet none (equal_four packet begins.is_version_4))
