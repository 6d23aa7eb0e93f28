use Rattle.std.proofs.Common.{◌≡◌, ◌++◌, List, [], ◌∷◌, ℕ, length, ap, ◌∙◌, arith, rules}
use Rattle.word_sum.specs.Checksum.{complement, folded, total}
use Rattle.word_sum.specs.SumValue.{sum_value}
use Rattle.word_sum.proofs.ChecksumLemmas.{folded_twice, total-append}
use Rattle.word_sum.proofs.NumberLemmas.{total_eight}
use Rattle.etherparse_transport.specs.Packets.{ipv4_fields}
use Rattle.etherparse_transport.proofs.ip.ip_header.ipv4_header.Goals as goal

pub returns : goal.returns
returns c =
    let eight : length c.args.start ≡ 8 = search rules in
    let even : length c.args.source ≡ 4 = search rules in
    let protocol : List ℕ = c.args.time_to_live ∷ c.args.protocol.0 ∷ 0 ∷ 0 ∷ [] in
    let addresses : List ℕ = c.args.source ++ c.args.destination in
    let front = total-append c.args.start (protocol ++ addresses) (omega (arith, eight)) in
    let back = total-append c.args.source c.args.destination (omega (arith, even)) in
    let sum : sum_value c.add_4bytes-4.result
    ≡ folded (total (ipv4_fields c.args.start c.args.time_to_live c.args.protocol.0 c.args.source c.args.destination 0)) =
    rw (c.add_4bytes-4.ensures, c.add_4bytes-3.ensures, c.add_2bytes.ensures, c.add_4bytes-2.ensures, c.add_4bytes.ensures, c.new.ensures)
    (simp folded_twice (ap folded (omega (arith, front, back, total_eight c.args.start eight)))) in
    c.ipv4_fields.ensures
    ∙ ap (λ middle. c.args.start ++ (middle ++ (c.args.source ++ c.args.destination))) c.ipv4_middle-middle.ensures
    ∙ ap (ipv4_fields c.args.start c.args.time_to_live c.args.protocol.0 c.args.source c.args.destination)
    (c.ones_complement-checksum.ensures ∙ ap complement sum)
