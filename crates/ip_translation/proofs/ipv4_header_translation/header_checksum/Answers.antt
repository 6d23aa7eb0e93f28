use Rattle.std.proofs.Common.{◌≡◌, length, ap, ◌∙◌, arith, rules}
use Rattle.word_sum.specs.Checksum.{checksum_of, total}
use Rattle.word_sum.proofs.ChecksumLemmas.{folded_twice, total-append}
use Rattle.ip_translation.specs.HeadersToIpv4.{with_header_checksum}
use Rattle.ip_translation.proofs.ListedLemmas.{listed, whole}
use Rattle.ip_translation.proofs.ipv4_header_translation.header_checksum.Goals as goal

pub returns : goal.returns
returns c =
    let even : length c.args.source ≡ 4 = search rules in
    let even_too : length c.args.destination ≡ 4 = search rules in
    let addresses = total-append c.args.source c.args.destination (omega arith) in
    let is_whole : listed c.args.start 0 10 ≡ c.args.start = whole c.args.start 10 (search rules) in
    rw (
      c.ones_complement.ensures,
      c.add_4bytes-4.ensures,
      c.add_4bytes-3.ensures,
      c.add_2bytes.ensures,
      c.add_4bytes-2.ensures,
      c.add_4bytes.ensures,
      c.new.ensures,
    )
    (simp folded_twice (ap checksum_of (omega arith)))
    ∙ ap (λ start. checksum_of (total (with_header_checksum start 0 c.args.source c.args.destination))) is_whole
