use Rattle.std.proofs.Common.{◌≡◌, ◌+◌, List, None, Option, Some, ℕ, ap, inr, refl, slice_range, subst, sym, unwrap_or, ◌∙◌}
use Rattle.word_sum.specs.Checksum.{folded, total}
use Rattle.word_sum.specs.ChecksumChange.{added_value, removed_value}
use Rattle.etherparse_transport.specs.Ipv6Translations.{sum_of_ipv6}
use Rattle.etherparse_transport.specs.Translations.{AreUpdatedAlike}
use Rattle.etherparse_transport.proofs.UpdatedAlike.{destination_replaced, source_replaced}
use Rattle.etherparse_transport.proofs.ip.translated_ipv6.replaced_ipv6_change.Goals as goal

-- the change is equal to the change of both addresses, each of which is the passed address or the address of the packet
abbrev pub IsAlike : List ℕ → ℕ → ℕ → Option (List ℕ) → Option (List ℕ) → Type 0
IsAlike packet removed added source destination = AreUpdatedAlike removed added
    (sum_of_ipv6 (record { source = slice_range packet 8 24; destination = slice_range packet 24 40 }))
    (sum_of_ipv6 (record {
      source =
          unwrap_or source (slice_range packet 8 24);
      destination = unwrap_or destination (slice_range packet 24 40);
    }))

pub returns-in-Some-None : goal.returns-in-Some-None
returns-in-Some-None c =
    let packet : List ℕ = c.args.packet.now in
    let source : List ℕ = c.in-Some-None.source in
    let removed : ℕ = removed_value c.replace_16bytes.result in
    let added : ℕ = added_value c.replace_16bytes.result in
    let removed_is : removed ≡ folded (0 + total (slice_range packet 8 24)) =
    c.replace_16bytes.ensures.removed ∙ ap (λ n. folded (n + total c.ipv6_addresses-old.result.source)) c.new.ensures.removed
    ∙ ap (λ header. folded (0 + total header.source)) c.ipv6_addresses-old.ensures in
    let added_is : added ≡ folded (0 + total source) =
    c.replace_16bytes.ensures.added ∙ ap (λ n. folded (n + total source)) c.new.ensures.added in
    let some = c.is_specified.ensures c.if-is_specified.true in
    subst (λ source. IsAlike packet removed added source c.args.new.now.destination) (sym c.in-Some-None.is-0)
    (subst (IsAlike packet removed added (Some source)) (sym c.in-Some-None.is-1)
    (inr (source_replaced removed added (slice_range packet 8 24) source (slice_range packet 24 40) removed_is added_is some)))

pub returns-in-None-Some : goal.returns-in-None-Some
returns-in-None-Some c =
    let packet : List ℕ = c.args.packet.now in
    let destination : List ℕ = c.in-None-Some.destination in
    let removed : ℕ = removed_value c.replace_16bytes-in-None-Some.result in
    let added : ℕ = added_value c.replace_16bytes-in-None-Some.result in
    let removed_is : removed ≡ folded (0 + total (slice_range packet 24 40)) =
    c.replace_16bytes-in-None-Some.ensures.removed
    ∙ ap (λ n. folded (n + total c.ipv6_addresses-old.result.destination)) c.new-in-None-Some.ensures.removed
    ∙ ap (λ header. folded (0 + total header.destination)) c.ipv6_addresses-old.ensures in
    let added_is : added ≡ folded (0 + total destination) =
    c.replace_16bytes-in-None-Some.ensures.added ∙ ap (λ n. folded (n + total destination)) c.new-in-None-Some.ensures.added in
    let some = c.if-is_specified-2.ensures refl in
    subst (λ source. IsAlike packet removed added source c.args.new.now.destination) (sym c.in-None-Some.is-0)
    (subst (IsAlike packet removed added None) (sym c.in-None-Some.is-1)
    (inr (destination_replaced removed added (slice_range packet 24 40) destination (slice_range packet 8 24) removed_is added_is some)))
