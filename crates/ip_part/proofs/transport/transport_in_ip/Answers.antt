use Rattle.std.proofs.Common.{◌≡◌, false, length, length-take, drop, take, nat_lt, ◌≤◌, refl, ap, subst, sym, ◌∙◌, arith, rules}
use Rattle.std.proofs.lemmas.Grind.{common_steps}
use Rattle.std.proofs.lemmas.List.{take_rest}
use Rattle.ip_part.specs.Headers.{headers_by_value}
use Rattle.ip_part.specs.Ip.{counted, counted_len, first_headers}
use Rattle.ip_part.proofs.ReadingLemmas.{after_headers}
use Rattle.ip_part.proofs.RefusalLemmas.{refused_after}
use Rattle.ip_part.proofs.TransportLemmas.{over_ipv4, over_ipv6, read_of_packet}
use Rattle.ip_part.proofs.transport.transport_in_ip.Goals as goal

pub returns-clause-found : goal.returns-clause-found
returns-clause-found c =
    let packet = c.args.packet.now in
    let bytes = take c.in_ok-first.counted_len packet in
    let there : nat_lt (length packet) c.in_ok-first.counted_len ≡ false = grind (arith, common_steps) in
    let same : bytes ≡ counted false packet = ap (λ len. take len packet) c.in_ok-first.ensures.counted in
    record {
      headers = headers_by_value c.in_ok-headers.headers;
      read = read_of_packet false packet bytes (headers_by_value c.in_ok-first.first) _ c.in_ok-first.ensures.first same
          c.in_ok-headers.ensures.read;
      ended = c.in_ok-headers.ensures.ended;
      addresses = refl;
      protocol = refl;
      is_fragment = refl;
      is_later_fragment = refl;
      within = subst (λ bytes. c.in_ok-headers.headers.len ≤ length bytes) same c.in_ok-headers.ensures.within;
      payload = take_rest bytes c.in_ok-headers.headers.len ∙ ap (drop c.in_ok-headers.headers.len) same;
      payload_offset = refl;
      is_cut_off = sym there ∙ ap (nat_lt (length packet)) c.in_ok-first.ensures.counted;
      is_length_missing = λ is. absurd (cc is);
      fixed_header = c.in_ok-first.ensures.fixed;
      header_len = ap (λ headers. headers.len) c.in_ok-first.ensures.first;
      counted_len = c.in_ok-first.ensures.counted;
    }

pub returns-clause-parts : goal.returns-clause-parts
returns-clause-parts c = after_headers _ _ (returns-clause-found c)

pub returns-clause-over_ipv4 : goal.returns-clause-over_ipv4
returns-clause-over_ipv4 c = λ is. over_ipv4 _ _ is (returns-clause-found c)

pub returns-clause-over_ipv6 : goal.returns-clause-over_ipv6
returns-clause-over_ipv6 c = λ is last. over_ipv6 _ _ is last (returns-clause-found c)

pub returns-in_err-headers-clause-refused_after : goal.returns-in_err-headers-clause-refused_after
returns-in_err-headers-clause-refused_after c =
    let packet = c.args.packet.now in
    let bytes = take c.in_ok-first.counted_len packet in
    let same : bytes ≡ counted false packet = ap (λ len. take len packet) c.in_ok-first.ensures.counted in
    let there : (first_headers packet).len ≤ length (counted false packet) =
    omega (
      arith,
      ap (λ headers. headers.len) c.in_ok-first.ensures.first,
      c.in_ok-first.ensures.counted,
      c.in_ok-first.ensures.within.0,
      c.in_ok-first.ensures.within.1,
      length-take (counted_len false packet) packet,
    ) in
    λ accepted whole. search (
      rules,
      refused_after false packet c.in_err-headers.field-0.0 there
          (read_of_packet false packet bytes (headers_by_value c.in_ok-first.first) _ c.in_ok-first.ensures.first same
          c.in_err-headers.ensures.read),
    )
