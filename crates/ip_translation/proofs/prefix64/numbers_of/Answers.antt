use Rattle.std.proofs.Common.{◌≡◌, ◌%◌, ◌∷◌, drop, sym, ap, ◌∙◌}
use Rattle.std.specs.Int.{from_be_bytes, w32, w64}
use Rattle.std.specs.Prelude.{slice_range}
use Rattle.ip_translation.proofs.ListedLemmas.{listed, whole}
use Rattle.ip_translation.proofs.OctetLemmas.{last_three}
use Rattle.ip_translation.proofs.prefix64.numbers_of.Goals as goal

pub returns-clause-front : goal.returns-clause-front
returns-clause-front c = c.from_be_bytes.ensures ∙ ap (from_be_bytes w64) c.address_at.ensures

pub returns-clause-rest : goal.returns-clause-rest
returns-clause-rest c =
    let is_whole : listed c.args.octets.now 0 11 ≡ c.args.octets.now = whole c.args.octets.now 11 c.told-octets in
    ap (λ number. number % 16777216) (c.from_be_bytes-2.ensures ∙ ap (from_be_bytes w32) c.address_at-2.ensures)
    ∙ ap (λ octets. from_be_bytes w32 (slice_range octets 7 11) % 16777216) (sym is_whole)
    ∙ last_three _ _ _ _ (c.fits-octets 8) (c.fits-octets 9) (c.fits-octets 10)
    ∙ ap (λ octets. from_be_bytes w32 (0 ∷ drop 8 octets)) is_whole
