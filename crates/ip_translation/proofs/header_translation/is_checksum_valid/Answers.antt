use Rattle.std.proofs.Common.{◌≡◌, ◌+◌, ℕ, List, sym, ap, ◌∙◌, arith, rules}
use Rattle.std.specs.Prelude.{slice_range}
use Rattle.word_sum.specs.Checksum.{checksum_of, total}
use Rattle.word_sum.proofs.ChecksumLemmas.{folded_twice}
use Rattle.net_base.proofs.DetectionLemmas.{complement_tested}
use Rattle.ip_translation.proofs.ListedLemmas.{listed, whole}
use Rattle.ip_translation.proofs.header_translation.is_checksum_valid.Goals as goal

pub returns : goal.returns
returns c =
    let bytes : List ℕ = c.slice-bytes.result.now in
    let is_whole : listed bytes 0 20 ≡ bytes = whole bytes 20 (search rules) in
    let words : List ℕ → ℕ = λ bytes.
    total (slice_range bytes 0 4) + (total (slice_range bytes 4 8) + (total (slice_range bytes 8 12)
    + (total (slice_range bytes 12 16) + total (slice_range bytes 16 20)))) in
    let by_words : c.ones_complement.result ≡ checksum_of (words bytes) =
    rw (
      c.ones_complement.ensures,
      c.add_4bytes-5.ensures,
      c.add_4bytes-4.ensures,
      c.add_4bytes-3.ensures,
      c.add_4bytes-2.ensures,
      c.add_4bytes.ensures,
      c.new.ensures,
      c.address_at.ensures,
      c.address_at-2.ensures,
      c.address_at-3.ensures,
      c.address_at-4.ensures,
      c.address_at-5.ensures,
    )
    (simp folded_twice (ap checksum_of (omega arith))) in
    let sum : words bytes ≡ 0 + total bytes =
    ap words (sym is_whole) ∙ omega arith ∙ ap (λ bytes. 0 + total bytes) is_whole in
    complement_tested (0 + total c.args.header.now) _
    (by_words ∙ ap checksum_of sum ∙ ap (λ bytes. checksum_of (0 + total bytes)) c.slice-bytes.ensures)
