use Rattle.std.proofs.Common.{◌≡◌, ◌+◌, ◌∙◌, take, drop, ap, rules}
use Rattle.word_sum.specs.Checksum.{complement, checksum_of, folded, total}
use Rattle.word_sum.proofs.ChecksumLemmas.{folded-add}
use Rattle.etherparse_transport_c.proofs.ChecksumsLemmas.{from_place}
use Rattle.etherparse_transport_c.proofs.Ipv4HeaderLemmas.{total_without, verifies}
use Rattle.etherparse_transport_c.specs.Checksums.{with_checksum}
use Rattle.etherparse_transport_c.proofs.ipv4_header.checksum_of_header.Goals as goal

sum : (c : goal.After-ones_complement) → c.ones_complement.result ≡ checksum_of (total (with_checksum 10 c.args.header.now 0))
sum c =
    rw (c.ones_complement.ensures, c.add_slice-2.ensures.sum, c.add_slice.ensures.sum, c.new.ensures)
    (ap (λ rest. complement (folded (folded (0 + total (take 10 c.args.header.now)) + total rest))) (from_place 12 c.args.header.now)
    ∙ ap complement (folded-add (0 + total (take 10 c.args.header.now)) (total (drop 12 c.args.header.now)))
    ∙ ap checksum_of (total_without c.args.header.now c.requires))

pub returns-clause-sum : goal.returns-clause-sum
returns-clause-sum c = sum c

pub returns-clause-valid : goal.returns-clause-valid
returns-clause-valid c = verifies c.args.header.now c.ones_complement.result c.requires (search rules) (sum c)
