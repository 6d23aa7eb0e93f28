use Rattle.std.proofs.Common.{◌≡◌, true, rules, sym, ◌∙◌}
use Rattle.std.proofs.lemmas.List.{take_rest}
use Rattle.ip_part.specs.Headers.{headers_by_value}
use Rattle.ip_part.specs.Ip as specs
use Rattle.ip_part.proofs.HeadersLemmas.{ended_at, reached_first, reached_next, refused_at}
use Rattle.ip_part.proofs.extension_headers.read_extension_headers.Goals as goal

pub loop-headers-init : goal.loop-headers-init
loop-headers-init c = reached_first (headers_by_value c.args.first) c.args.counted.now c.requires

pub returns-in_err-header-clause-read : goal.returns-in_err-header-clause-read
returns-in_err-header-clause-read c =
    let is : specs.is_extended (headers_by_value c.loop-headers.headers) ≡ true = sym c.is_extended.ensures ∙ c.loop-headers-test.true in
    search (
      rules,
      refused_at (headers_by_value c.args.first)
          (headers_by_value c.loop-headers.headers) c.args.counted.now _ c.in_err-header.field-0.0
          (take_rest c.args.counted.now c.loop-headers.headers.len) c.loop-headers.invariant is c.in_err-header.ensures.refused,
    )

pub loop-headers-preserved : goal.loop-headers-preserved
loop-headers-preserved c =
    let is : specs.is_extended (headers_by_value c.loop-headers.headers) ≡ true = sym c.is_extended.ensures ∙ c.loop-headers-test.true in
    rw c.headers_after-headers.ensures
    (reached_next (headers_by_value c.args.first) (headers_by_value c.loop-headers.headers) c.args.counted.now _ c.in_ok-header.header.now
    (take_rest c.args.counted.now c.loop-headers.headers.len) c.loop-headers.invariant is
    c.in_ok-header.ensures.refused c.in_ok-header.ensures.kept c.in_ok-header.ensures.shortest c.in_ok-header.ensures.within)

pub returns-clause-read : goal.returns-clause-read
returns-clause-read c =
    sym (ended_at (headers_by_value c.args.first) (headers_by_value c.loop-headers.headers) c.args.counted.now c.loop-headers.invariant
    (sym c.is_extended.ensures ∙ c.loop-headers-test.false))
