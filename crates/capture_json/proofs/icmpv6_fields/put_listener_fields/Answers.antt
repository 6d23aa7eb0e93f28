use Rattle.std.proofs.Common.{◌≡◌, ◌∙◌, ap, arith}
use Rattle.std.proofs.lemmas.Result.{on_ok_weaker}
use Rattle.std.specs.Prelude.{codes}
use Rattle.net_base.specs.Bytes.{be_number}
use Rattle.capture_json.specs.Members.{whole_number}
use Rattle.capture_json.specs.Tokens.{put, tokens_in}
use Rattle.capture_json.proofs.icmpv6_fields.put_listener_fields.Goals as goal

-- the maximum response code of a query
pub returns-in-130 : goal.returns-in-130
returns-in-130 c =
    let number : c.from.result ≡ be_number c.args.bytes5to8.now 0 2 = omega (arith, c.from.ensures) in
    rw c.in-130.is
    (on_ok_weaker c.put_number.result
    (λ last. last ∙ ap (λ n. put (codes "maximum_response_code") (whole_number n) (tokens_in c.args.line.now)) number)
    c.put_number.ensures)

-- the number of records
pub returns-in-143 : goal.returns-in-143
returns-in-143 c =
    let number : c.from-in-143.result ≡ be_number c.args.bytes5to8.now 2 2 = omega (arith, c.from-in-143.ensures) in
    rw c.in-143.is
    (on_ok_weaker c.put_number-in-143.result
    (λ last. last ∙ ap (λ n. put (codes "records") (whole_number n) (tokens_in c.args.line.now)) number)
    c.put_number-in-143.ensures)
