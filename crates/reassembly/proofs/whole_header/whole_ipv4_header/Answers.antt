use Rattle.std.proofs.Common.{◌≡◌, [], sym, ◌∙◌, ap, subst}
use Rattle.word_sum.specs.Checksum.{Verifies, checksum_of, total}
use Rattle.reassembly.proofs.WholeHeaderLemmas.{accepted_header}
use Rattle.reassembly.specs.WholeHeaders.{ipv4_with_checksum, whole_ipv4_header}
use Rattle.reassembly.proofs.whole_header.whole_ipv4_header.Goals as goal

pub returns-clause-verifies : goal.returns-clause-verifies
returns-clause-verifies c =
    let header = c.in_ok-header.header.now in
    let total_len = c.in_ok-total_len.total_len in
    let summed : c.as_slice.result.now ≡ ipv4_with_checksum header total_len 0 = c.as_slice.ensures.value ∙ c.with_checksum.ensures in
    let is : c.with_checksum-2.result.items ≡ whole_ipv4_header header total_len =
    c.with_checksum-2.ensures
    ∙ ap (ipv4_with_checksum header total_len) (c.checksum_of-checksum.ensures ∙ ap (λ bytes. checksum_of (total bytes)) summed) in
    subst (Verifies []) (sym is) (accepted_header header total_len)
