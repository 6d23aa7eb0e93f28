use Rattle.std.proofs.Common.{◌≡◌, min, List, ℕ, length, take, rules, ap, ◌∙◌}
use Rattle.std.proofs.lemmas.List.{take_min}
use Rattle.ip_translation.proofs.extensions.first_bytes.Goals as goal

pub returns-clause-bytes : goal.returns-clause-bytes
returns-clause-bytes c =
    let bytes : List ℕ = c.args.bytes.now in
    let end_is : c.min-end.result ≡ min c.args.len (length bytes) = search rules in
    ap (λ n. take n bytes) end_is ∙ take_min c.args.len bytes
