use Rattle.std.proofs.Common.{◌≡◌, List, ℕ, true, false, take_all, subst, ◌∙◌, arith}
use Rattle.std.specs.Prelude.{MatchOption}
use Rattle.ip_part.specs.Ip.{ipv6_header}
use Rattle.ip_translation.specs.PacketsToIpv4 as specs
use Rattle.ip_translation.proofs.packet_to_ipv4.whole_header.Goals as goal

pub returns : goal.returns
returns c =
    let bytes : List ℕ = c.args.bytes.now in
    (subst (λ found. MatchOption found (specs.begins_with_header bytes ≡ false)
    (λ header. (specs.begins_with_header bytes ≡ true) × (header ≡ ipv6_header bytes))) c.unwrap.ensures c.front_header.ensures.found).1
    ∙ take_all 40 bytes (omega (arith, c.requires.len))
