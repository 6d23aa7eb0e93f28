use Rattle.std.proofs.Common.{◌≡◌, min, List, ℕ, length, drop, take, rules, ap, ◌∙◌}
use Rattle.std.proofs.lemmas.List.{drop_min, take_min}
use Rattle.ip_translation.proofs.extensions.split_extension.Goals as goal

pub returns-clause-quoting : goal.returns-clause-quoting
returns-clause-quoting c =
    let message : List ℕ = c.args.message.now in
    let end_is : c.min-end.result ≡ min c.end_of_quote.result (length message) = search rules in
    let front : c.split_at.result.0.now ≡ take c.min-end.result message = search rules in
    front ∙ ap (λ end. take end message) end_is ∙ take_min c.end_of_quote.result message
    ∙ ap (λ end. take end message) c.end_of_quote.ensures.end

pub returns-clause-extension : goal.returns-clause-extension
returns-clause-extension c =
    let message : List ℕ = c.args.message.now in
    let end_is : c.min-end.result ≡ min c.end_of_quote.result (length message) = search rules in
    let back : c.split_at.result.1.now ≡ drop c.min-end.result message = search rules in
    back ∙ ap (λ end. drop end message) end_is ∙ drop_min c.end_of_quote.result message
    ∙ ap (λ end. drop end message) c.end_of_quote.ensures.end
