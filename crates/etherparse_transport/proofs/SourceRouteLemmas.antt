-- Options that contain no source route in any form contain no source route that is read.
use Rattle.std.proofs.Common.{◌≡◌, ℕ, zero, suc, Bool, true, false, cond, if◌then◌else◌, is_some, List, length, drop, take, slice_index, ◌==◌, ◌||◌, nat_lt, Option, Some, None, refl, sym, ap, ◌∙◌}
use Rattle.std.specs.Prelude.{unwrap_or}
use Rattle.std.specs.List.{find}
use Rattle.ip_part.specs.Options.{ipv4_option, is_source_route, options_of, options_within, with_first}
use Rattle.etherparse_transport.specs.SourceRoutes.{contain_source_route, option_or_rest}

option_by : (is_end is_one is_impossible : Bool) (one all bytes option : List ℕ)
    → (if is_end then None else if is_one then Some one else if is_impossible then None else Some all) ≡ Some option
    → (if is_end then None else Some
    (unwrap_or (if is_end then None else if is_one then Some one else if is_impossible then None else Some all) bytes))
    ≡ Some option
option_by true is_one is_impossible one all bytes option is = absurd (cc is)
option_by false true is_impossible one all bytes option is = is
option_by false false true one all bytes option is = absurd (cc is)
option_by false false false one all bytes option is = is

-- an option that `ipv4_option` reads is also what `option_or_rest` reads
option_alike : (bytes option : List ℕ) → ipv4_option bytes ≡ Some option → option_or_rest bytes ≡ Some option
option_alike bytes option is =
    option_by (length bytes == 0 || slice_index bytes 0 == 0) (slice_index bytes 0 == 1)
    (nat_lt (length bytes) 2 || (nat_lt (slice_index bytes 1) 2 || nat_lt (length bytes) (slice_index bytes 1)))
    (take 1 bytes) (take (slice_index bytes 1) bytes) bytes option is

-- the options in some bytes, given their first option
options_are : (front : List ℕ → Option (List ℕ)) (more : ℕ) (bytes : List ℕ) (first : Option (List ℕ)) → front bytes ≡ first
    → options_within front (suc more) bytes ≡ with_first first (λ option. options_within front more (drop (length option) bytes))
unfolding options_within
options_are front more bytes first is = ap (λ first. with_first first (λ option. options_within front more (drop (length option) bytes))) is

is_none_by : (is_route : Bool) (option : List ℕ) (found found_too : Option (List ℕ)) → is_some (cond is_route (Some option) found) ≡ false
    → (is_some found ≡ false → is_some found_too ≡ false) → is_some (cond is_route (Some option) found_too) ≡ false
is_none_by true option found found_too none then_none = none
is_none_by false option found found_too none then_none = then_none none

-- options contain no source route if the first option is no source route, and the other options contain none
no_route_after : (more : ℕ) (bytes : List ℕ) (first : Option (List ℕ)) → ipv4_option bytes ≡ first
    → is_some (find is_source_route (options_within option_or_rest (suc more) bytes)) ≡ false
    → ((rest : List ℕ) → is_some (find is_source_route (options_within option_or_rest more rest)) ≡ false
    → is_some (find is_source_route (options_within ipv4_option more rest)) ≡ false)
    → is_some (find is_source_route (options_within ipv4_option (suc more) bytes)) ≡ false
no_route_after more bytes None is none others =
    ap (λ options. is_some (find is_source_route options)) (options_are ipv4_option more bytes None is)
no_route_after more bytes (Some option) is none others =
    ap (λ options. is_some (find is_source_route options)) (options_are ipv4_option more bytes (Some option) is)
    ∙ is_none_by (is_source_route option) option (find is_source_route (options_within option_or_rest more (drop (length option) bytes)))
    (find is_source_route (options_within ipv4_option more (drop (length option) bytes)))
    (sym (ap (λ options. is_some (find is_source_route options))
    (options_are option_or_rest more bytes (Some option) (option_alike bytes option is))) ∙ none)
    (others (drop (length option) bytes))

no_route_within : (more : ℕ) (bytes : List ℕ) → is_some (find is_source_route (options_within option_or_rest more bytes)) ≡ false
    → is_some (find is_source_route (options_within ipv4_option more bytes)) ≡ false
unfolding options_within
no_route_within zero bytes none = refl
no_route_within (suc more) bytes none = no_route_after more bytes (ipv4_option bytes) refl none (λ rest. no_route_within more rest)

pub no_route : (options : List ℕ) → contain_source_route options ≡ false
    → is_some (find is_source_route (options_of ipv4_option options)) ≡ false
no_route options none = no_route_within (suc (length options)) options none
