use Rattle.std.proofs.Common.{◌≡◌, ◌%◌, ◌∷◌, drop, take, sym, ap, ◌∙◌}
use Rattle.std.specs.Int.{from_be_bytes, w32, w64}
use Rattle.std.specs.Prelude.{slice_range}
use Rattle.ip_translation.specs.Prefixes.{without_reserved}
use Rattle.ip_translation.proofs.ListedLemmas.{listed, whole}
use Rattle.ip_translation.proofs.OctetLemmas.{last_three}
use Rattle.ip_translation.proofs.prefix64.numbers_before_ipv4.Goals as goal

pub returns-clause-front : goal.returns-clause-front
returns-clause-front c =
    let is_whole : listed c.args.address.now 0 16 ≡ c.args.address.now = whole c.args.address.now 16 c.told-address in
    c.from_be_bytes.ensures ∙ ap (from_be_bytes w64) c.address_at.ensures
    ∙ ap (λ address. from_be_bytes w64 (slice_range address 0 8)) (sym is_whole)
    ∙ ap (λ address. from_be_bytes w64 (take 8 (take 11 (without_reserved address)))) is_whole

pub returns-clause-rest : goal.returns-clause-rest
returns-clause-rest c =
    let is_whole : listed c.args.address.now 0 16 ≡ c.args.address.now = whole c.args.address.now 16 c.told-address in
    ap (λ number. number % 16777216) (c.from_be_bytes-2.ensures ∙ ap (from_be_bytes w32) c.address_at-2.ensures)
    ∙ ap (λ address. from_be_bytes w32 (slice_range address 8 12) % 16777216) (sym is_whole)
    ∙ last_three _ _ _ _ (c.fits-address 9) (c.fits-address 10) (c.fits-address 11)
    ∙ ap (λ address. from_be_bytes w32 (0 ∷ drop 8 (take 11 (without_reserved address)))) is_whole
