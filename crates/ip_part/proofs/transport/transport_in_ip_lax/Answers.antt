use Rattle.std.proofs.Common.{◌≡◌, ℕ, List, length, length-take, Option, Some, None, IfSome, arith, drop, take, nat_lt, Ok, Err, is_none, unwrap_or, refl, ap, sym, ◌∙◌, ◌≤◌, subst, rules}
use Rattle.std.proofs.lemmas.List.{take_rest}
use Rattle.ip_part.specs.Headers.{headers_by_value}
use Rattle.ip_part.specs.Ip.{counted, counted_len, first_headers, lacks_len, stated_len}
use Rattle.ip_part.proofs.LengthLemmas.{accepted_too, lax_answer, lax_bytes, lax_is_counted, no_error, turned}
use Rattle.ip_part.proofs.ReadingLemmas.{after_headers}
use Rattle.ip_part.proofs.RefusalLemmas.{refused_after}
use Rattle.ip_part.proofs.TransportLemmas.{over_ipv4, over_ipv6, read_of_packet}
use Rattle.ip_part.proofs.transport.transport_in_ip_lax.Goals as goal

pub returns-clause-stated : goal.returns-clause-stated
returns-clause-stated c = turned _ _ c.is_none.ensures ∙ ap is_none c.in_ok-first.ensures.stated

pub returns-clause-found : goal.returns-clause-found
returns-clause-found c =
    let packet : List ℕ = c.args.packet.now in
    let missing : c.is_none.result ≡ lacks_len packet = turned _ _ c.is_none.ensures ∙ ap is_none c.in_ok-first.ensures.stated in
    let stated : c.unwrap_or-counted_len.result ≡ unwrap_or (stated_len packet) (length packet) =
    c.unwrap_or-counted_len.ensures ∙ ap (λ stated. unwrap_or stated (length packet)) c.in_ok-first.ensures.stated in
    let counts : c.unwrap_or-counted_len.result ≡ counted_len c.is_none.result packet =
    stated ∙ lax_is_counted packet ∙ ap (λ missing. counted_len missing packet) (sym missing) in
    let bytes : List ℕ = take c.min.result packet in
    let same : bytes ≡ counted c.is_none.result packet =
    lax_bytes packet c.unwrap_or-counted_len.result c.min.result stated c.min.ensures
    ∙ ap (λ missing. counted missing packet) (sym missing) in
    record {
      headers = headers_by_value c.in_ok-headers.headers;
      read = read_of_packet c.is_none.result packet bytes
          (headers_by_value c.in_ok-first.first) _ c.in_ok-first.ensures.first same c.in_ok-headers.ensures.read;
      ended = c.in_ok-headers.ensures.ended;
      addresses = refl;
      protocol = refl;
      is_fragment = refl;
      is_later_fragment = refl;
      within = subst (λ bytes. c.in_ok-headers.headers.len ≤ length bytes) same c.in_ok-headers.ensures.within;
      payload = take_rest bytes c.in_ok-headers.headers.len ∙ ap (drop c.in_ok-headers.headers.len) same;
      payload_offset = refl;
      is_cut_off = ap (nat_lt (length packet)) counts;
      is_length_missing = λ is. sym missing ∙ is;
      fixed_header = c.in_ok-first.ensures.fixed;
      header_len = ap (λ headers. headers.len) c.in_ok-first.ensures.first;
      counted_len = counts;
    }

pub returns-clause-parts : goal.returns-clause-parts
returns-clause-parts c = after_headers _ _ (returns-clause-found c)

pub returns-clause-over_ipv4 : goal.returns-clause-over_ipv4
returns-clause-over_ipv4 c = λ is. over_ipv4 _ _ is (returns-clause-found c)

pub returns-clause-over_ipv6 : goal.returns-clause-over_ipv6
returns-clause-over_ipv6 c = λ is last. over_ipv6 _ _ is last (returns-clause-found c)

pub returns-clause-as_strict : goal.returns-clause-as_strict
returns-clause-as_strict c =
    let packet : List ℕ = c.args.packet.now in
    let stated : c.unwrap_or-counted_len.result ≡ unwrap_or (stated_len packet) (length packet) =
    c.unwrap_or-counted_len.ensures ∙ ap (λ stated. unwrap_or stated (length packet)) c.in_ok-first.ensures.stated in
    λ none. ap (nat_lt (length packet)) (stated ∙ lax_is_counted packet) ∙ (accepted_too packet none).0

pub returns-clause-refused : goal.returns-clause-refused
returns-clause-refused c =
    let packet : List ℕ = c.args.packet.now in
    let stated : c.unwrap_or-counted_len.result ≡ unwrap_or (stated_len packet) (length packet) =
    c.unwrap_or-counted_len.ensures ∙ ap (λ stated. unwrap_or stated (length packet)) c.in_ok-first.ensures.stated in
    let bytes : List ℕ = take c.min.result packet in
    let same : bytes ≡ counted (lacks_len packet) packet =
    lax_bytes packet c.unwrap_or-counted_len.result c.min.result stated c.min.ensures in
    lax_answer packet (Ok (headers_by_value c.in_ok-headers.headers)) c.in_ok-first.ensures.refused
    (read_of_packet (lacks_len packet) packet bytes
    (headers_by_value c.in_ok-first.first) _ c.in_ok-first.ensures.first same c.in_ok-headers.ensures.read)

pub returns-in_err-headers-clause-refused : goal.returns-in_err-headers-clause-refused
returns-in_err-headers-clause-refused c =
    let packet : List ℕ = c.args.packet.now in
    let stated : c.unwrap_or-counted_len.result ≡ unwrap_or (stated_len packet) (length packet) =
    c.unwrap_or-counted_len.ensures ∙ ap (λ stated. unwrap_or stated (length packet)) c.in_ok-first.ensures.stated in
    let bytes : List ℕ = take c.min.result packet in
    let same : bytes ≡ counted (lacks_len packet) packet =
    lax_bytes packet c.unwrap_or-counted_len.result c.min.result stated c.min.ensures in
    search (
      rules,
      lax_answer packet (Err c.in_err-headers.field-0.0) c.in_ok-first.ensures.refused
          (read_of_packet (lacks_len packet) packet bytes
          (headers_by_value c.in_ok-first.first) _ c.in_ok-first.ensures.first same c.in_err-headers.ensures.read),
    )

pub returns-in_err-headers-clause-as_strict : goal.returns-in_err-headers-clause-as_strict
returns-in_err-headers-clause-as_strict c =
    let packet : List ℕ = c.args.packet.now in
    let stated : c.unwrap_or-counted_len.result ≡ unwrap_or (stated_len packet) (length packet) =
    c.unwrap_or-counted_len.ensures ∙ ap (λ stated. unwrap_or stated (length packet)) c.in_ok-first.ensures.stated in
    let bytes : List ℕ = take c.min.result packet in
    let same : bytes ≡ counted (lacks_len packet) packet =
    lax_bytes packet c.unwrap_or-counted_len.result c.min.result stated c.min.ensures in
    λ none. absurd (no_error packet c.in_err-headers.field-0.0
    (read_of_packet (lacks_len packet) packet bytes
    (headers_by_value c.in_ok-first.first) _ c.in_ok-first.ensures.first same c.in_err-headers.ensures.read) none)

-- the header is within the stated length and within the captured bytes
at_most_counted : (stated : Option ℕ) (n len : ℕ) → IfSome stated (λ counts. n ≤ counts) → n ≤ len → n ≤ unwrap_or stated len
at_most_counted None n len within there = there
at_most_counted (Some counts) n len within there = within

pub returns-in_err-headers-clause-refused_after : goal.returns-in_err-headers-clause-refused_after
returns-in_err-headers-clause-refused_after c =
    let packet : List ℕ = c.args.packet.now in
    let stated : c.unwrap_or-counted_len.result ≡ unwrap_or (stated_len packet) (length packet) =
    c.unwrap_or-counted_len.ensures ∙ ap (λ stated. unwrap_or stated (length packet)) c.in_ok-first.ensures.stated in
    let bytes : List ℕ = take c.min.result packet in
    let same : bytes ≡ counted (lacks_len packet) packet =
    lax_bytes packet c.unwrap_or-counted_len.result c.min.result stated c.min.ensures in
    let within : c.in_ok-first.first.len ≤ c.unwrap_or-counted_len.result =
    subst (λ len. c.in_ok-first.first.len ≤ len) (sym c.unwrap_or-counted_len.ensures)
    (at_most_counted c.in_ok-first.stated_len c.in_ok-first.first.len
    (length packet) c.in_ok-first.ensures.counted c.in_ok-first.ensures.within) in
    let there : c.in_ok-first.first.len ≤ length bytes =
    omega (arith, within, c.in_ok-first.ensures.within, c.min.ensures, length-take c.min.result packet) in
    let there_too : (first_headers packet).len ≤ length (counted (lacks_len packet) packet) =
    omega (arith, there, ap (λ headers. headers.len) c.in_ok-first.ensures.first, ap length same) in
    λ accepted. search (
      rules,
      refused_after (lacks_len packet) packet c.in_err-headers.field-0.0 there_too
          (read_of_packet (lacks_len packet) packet bytes
          (headers_by_value c.in_ok-first.first) _ c.in_ok-first.ensures.first same c.in_err-headers.ensures.read),
    )
