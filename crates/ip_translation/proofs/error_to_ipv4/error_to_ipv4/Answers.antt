use Rattle.std.proofs.Common.{◌≡◌, [], ◌∷◌, Err, List, ℕ, Option, not, rules, subst, sym, ap, ap₂, ◌∙◌}
use Rattle.net_base.specs.Refusals.{RefusesExactly, first_of, refused_if}
use Rattle.ip_translation.specs.ErrorsToIpv4 as specs
use Rattle.ip_translation.specs.Extensions.{extension_of, without_extension}
use Rattle.ip_translation.specs.Ipv6Packets.{begins_with_header}
use Rattle.ip_translation.specs.QuotedPackets.{exchanged, quote_of}
use Rattle.ip_translation.specs.declared.packet_translation_error.PacketTranslationError.{PacketTranslationError}
use Rattle.ip_translation.specs.declared.packet_translation_error.PacketTranslationError.TheVariants.{NoQuotedHeader}
use Rattle.ip_translation.proofs.RuleLemmas.{last_of_three, second_of_three}
use Rattle.ip_translation.proofs.error_to_ipv4.error_to_ipv4.Goals as goal

pub returns-in_default-clause-refused : goal.returns-in_default-clause-refused
returns-in_default-clause-refused c =
    let message : List ℕ = c.args.message.now in
    let quoting : List ℕ = c.split_extension.result.0.now in
    let about : List ℕ → Option PacketTranslationError =
    λ quoting. specs.refusal_about (specs.quoted_ipv6 quoting) (specs.kind message) (exchanged c.args.prefixes.now) quoting in
    let quoting_is : quoting ≡ specs.quoting message =
    c.split_extension.ensures.quoting ∙ ap (λ len. without_extension len message) c.stated_len.ensures.len in
    ap (λ quoting. first_of (specs.kind_refusal message
    ∷ refused_if (not (begins_with_header (quote_of quoting))) NoQuotedHeader ∷ about quoting ∷ [])) (sym quoting_is)
    ∙ second_of_three (specs.kind_refusal message) (refused_if (not (begins_with_header (quote_of quoting))) NoQuotedHeader) (about quoting)
    NoQuotedHeader c.in_ok-kind.ensures.refused
    (ap (λ begins. refused_if (not begins) NoQuotedHeader) c.in_default.ensures.found)

pub returns-in_err-error-clause-refused : goal.returns-in_err-error-clause-refused
returns-in_err-error-clause-refused c =
    let message : List ℕ = c.args.message.now in
    let quoting : List ℕ = c.split_extension.result.0.now in
    let about : List ℕ → Option PacketTranslationError =
    λ quoting. specs.refusal_about (specs.quoted_ipv6 quoting) (specs.kind message) (exchanged c.args.prefixes.now) quoting in
    let quoting_is : quoting ≡ specs.quoting message =
    c.split_extension.ensures.quoting ∙ ap (λ len. without_extension len message) c.stated_len.ensures.len in
    let result : c.from_residual-in_err-error.result ≡ Err c.in_err-error.field-0.0 = search rules in
    subst (λ result. RefusesExactly result (specs.error_refusal c.args.prefixes.now message)) (sym result)
    (ap (λ quoting. first_of (specs.kind_refusal message
    ∷ refused_if (not (begins_with_header (quote_of quoting))) NoQuotedHeader ∷ about quoting ∷ [])) (sym quoting_is)
    ∙ last_of_three (specs.kind_refusal message) (refused_if (not (begins_with_header (quote_of quoting))) NoQuotedHeader) (about quoting)
    c.in_ok-kind.ensures.refused
    (ap (λ begins. refused_if (not begins) NoQuotedHeader) c.in-Some.ensures.found.0)
    ∙ ap₂ (λ quoted kind. specs.refusal_about quoted kind (exchanged c.args.prefixes.now) quoting)
    (sym c.in-Some.ensures.found.1) (sym c.in_ok-kind.ensures.kind)
    ∙ c.in_err-error.ensures.refused)

pub returns-clause-refused : goal.returns-clause-refused
returns-clause-refused c =
    let message : List ℕ = c.args.message.now in
    let quoting : List ℕ = c.split_extension.result.0.now in
    let about : List ℕ → Option PacketTranslationError =
    λ quoting. specs.refusal_about (specs.quoted_ipv6 quoting) (specs.kind message) (exchanged c.args.prefixes.now) quoting in
    let quoting_is : quoting ≡ specs.quoting message =
    c.split_extension.ensures.quoting ∙ ap (λ len. without_extension len message) c.stated_len.ensures.len in
    ap (λ quoting. first_of (specs.kind_refusal message
    ∷ refused_if (not (begins_with_header (quote_of quoting))) NoQuotedHeader ∷ about quoting ∷ [])) (sym quoting_is)
    ∙ last_of_three (specs.kind_refusal message) (refused_if (not (begins_with_header (quote_of quoting))) NoQuotedHeader) (about quoting)
    c.in_ok-kind.ensures.refused
    (ap (λ begins. refused_if (not begins) NoQuotedHeader) c.in-Some.ensures.found.0)
    ∙ ap₂ (λ quoted kind. specs.refusal_about quoted kind (exchanged c.args.prefixes.now) quoting)
    (sym c.in-Some.ensures.found.1) (sym c.in_ok-kind.ensures.kind)
    ∙ c.in_ok-error.ensures.refused

pub returns-clause-written : goal.returns-clause-written
returns-clause-written c =
    let message : List ℕ = c.args.message.now in
    let quoting : List ℕ = c.split_extension.result.0.now in
    let about : List ℕ → List ℕ =
    λ quoting. specs.error_about (specs.quoted_ipv6 quoting) (specs.kind message) (exchanged c.args.prefixes.now) quoting in
    let quoting_is : quoting ≡ specs.quoting message =
    c.split_extension.ensures.quoting ∙ ap (λ len. without_extension len message) c.stated_len.ensures.len in
    let extension_is : c.split_extension.result.1.now ≡ extension_of (specs.stated_len message) message =
    c.split_extension.ensures.extension ∙ ap (λ len. extension_of len message) c.stated_len.ensures.len in
    let error_is : c.in_ok-error.error.items ≡ about (specs.quoting message) =
    c.in_ok-error.ensures.written
    ∙ ap₂ (λ quoted kind. specs.error_about quoted kind (exchanged c.args.prefixes.now) quoting)
    c.in-Some.ensures.found.1 c.in_ok-kind.ensures.kind
    ∙ ap about quoting_is in
    c.with_extension.ensures.bytes
    ∙ ap₂ (λ kind extension. specs.with_extension kind extension c.in_ok-error.error.items) c.in_ok-kind.ensures.kind extension_is
    ∙ ap (specs.with_extension (specs.kind message) (extension_of (specs.stated_len message) message)) error_is
