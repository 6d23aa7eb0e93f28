use Rattle.std.proofs.Common.{◌≡◌, List, ℕ, true, false, None, drop, sym, ap, subst, ◌∙◌}
use Rattle.std.proofs.lemmas.List.{take_rest}
use Rattle.std.specs.Prelude.{◌==◌, ◌&&◌, if◌then◌else◌}
use Rattle.net_base.specs.Refusals.{RefusesExactly}
use Rattle.ip_part.specs.Ip.{has_len_in_options, len_in_options_refusal, next_header}
use Rattle.ip_part.proofs.LengthLemmas.{where_it_is}
use Rattle.ip_part.proofs.ip_header.jumbo_len.Goals as goal

pub returns-then-has_len_in_options-clause-refused : goal.returns-then-has_len_in_options-clause-refused
returns-then-has_len_in_options-clause-refused c =
    let packet : List ℕ = c.args.packet.now in
    let is : has_len_in_options packet ≡ true =
    sym (ap (λ n. n == 0 && next_header packet == 0) c.requires.payload_len)
    ∙ sym (ap (λ n. c.args.payload_len == 0 && n == 0) c.requires.next_header)
    ∙ sym c.has_len_in_options.ensures ∙ c.if-has_len_in_options.true in
    let Refuses : List ℕ → Type 0 = λ rest. RefusesExactly c.len_in_options.result (len_in_options_refusal rest) in
    where_it_is (has_len_in_options packet) (len_in_options_refusal (drop 40 packet)) (RefusesExactly c.len_in_options.result) is
    (subst Refuses (take_rest packet 40) c.len_in_options.ensures.refused)

pub returns-clause-refused : goal.returns-clause-refused
returns-clause-refused c =
    let packet : List ℕ = c.args.packet.now in
    let is : has_len_in_options packet ≡ false =
    sym (ap (λ n. n == 0 && next_header packet == 0) c.requires.payload_len)
    ∙ sym (ap (λ n. c.args.payload_len == 0 && n == 0) c.requires.next_header)
    ∙ sym c.has_len_in_options.ensures ∙ c.if-has_len_in_options.false in
    ap (λ has. if has then len_in_options_refusal (drop 40 packet) else None) is
