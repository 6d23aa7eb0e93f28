use Rattle.std.proofs.Common.{◌≡◌, ℕ, List, [], ◌∷◌, false, length, refl, ap, sym, ◌∙◌, arith}
use Rattle.std.specs.List.{find}
use Rattle.std.specs.Prelude.{is_some}
use Rattle.ip_part.specs.Options.{ipv4_option, is_unexpired_route, options_of}
use Rattle.ip_part.proofs.OptionsLemmas.{none_at, sought_first}
use Rattle.ip_translation.proofs.PacketBackLemmas.{equal}
use Rattle.ip_translation.proofs.header_translation.has_source_route.Goals as goal

-- no options contain no source route
no_options : (options : List ℕ) → length options ≡ 0 → false ≡ is_some (find is_unexpired_route (options_of ipv4_option options))
no_options [] none =
    sym (ap is_some (none_at is_unexpired_route ipv4_option [] [] (sought_first is_unexpired_route ipv4_option []) refl))
no_options (option ∷ options) none = absurd (omega (arith, none))

pub returns-then-is_empty : goal.returns-then-is_empty
returns-then-is_empty c =
    no_options c.args.options.now (equal (length c.args.options.now) 0 (sym c.is_empty.ensures ∙ c.if-is_empty.true))
