use Rattle.std.proofs.Common.{◌≡◌, ◌+◌, ◌%◌, List, ℕ, sym, ap, ◌∙◌, subst, arith, rules}
use Rattle.std.specs.Int.{to_be_bytes, w16}
use Rattle.net_base.specs.StoredChecksum.{with_checksum}
use Rattle.word_sum.specs.Checksum.{total}
use Rattle.etherparse_transport.specs.SegmentSizes.{IsSegmentAccepted}
use Rattle.etherparse_transport.specs.Translations.{with_bytes}
use Rattle.etherparse_transport.proofs.SegmentSizeLemmas.{size_accepted}
use Rattle.etherparse_transport.proofs.ip.segment_size.lower_size.Goals as goal

pub returns-clause-verifies : goal.returns-clause-verifies
returns-clause-verifies c =
    let segment : List ℕ = c.args.segment.now in
    let checksum : ℕ = c.apply-checksum.result in
    let is : c.store_number-2.new.message ≡ with_bytes c.args.place (to_be_bytes w16 c.args.most) (with_checksum 16 segment checksum) =
    search rules in
    subst (IsSegmentAccepted segment) (sym is)
    (size_accepted segment c.args.place c.args.most c.number-size.result checksum c.requires.after c.requires.there c.requires.header
    c.requires.bytes (search rules) (search rules) c.number-size.ensures
    (λ before after turns. c.apply-checksum.ensures.remainder before after
    (c.replace_2bytes-change.ensures.extends before before after
    (omega (arith, turns, ap total c.word_bytes.ensures, ap total c.word_bytes-2.ensures)) (c.new.ensures.unchanged before))
    ∙ ap (λ n. (before + n) % 65535) c.number.ensures))
