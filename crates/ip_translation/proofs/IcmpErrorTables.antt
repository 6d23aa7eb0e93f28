-- The tables of RFC 7915, sections 4.2 and 5.2, type by type and code by code. Each type and code is a row of `errors_to_ipv6` or of
-- `errors_to_ipv4`, or it is dropped.
use Rattle.std.proofs.Common.{◌≡◌, ◌<◌, ℕ, [], ◌∷◌, Option, Some, None, refl, arith}
use Rattle.std.proofs.lemmas.Bool.Decides.{nat_tests}
use Rattle.std.specs.Prelude.{map}
use Rattle.ip_translation.specs.IcmpErrors.{error_in, errors_to_ipv4, errors_to_ipv6}

-- ---- types of ICMP errors (RFC 792), and of ICMPv6 errors (RFC 4443, section 3)

abbrev unreachable : ℕ
unreachable = 3

abbrev time_exceeded : ℕ
time_exceeded = 11

abbrev parameter_problem : ℕ
parameter_problem = 12

abbrev unreachable_v6 : ℕ
unreachable_v6 = 1

abbrev packet_too_big : ℕ
packet_too_big = 2

abbrev time_exceeded_v6 : ℕ
time_exceeded_v6 = 3

abbrev parameter_problem_v6 : ℕ
parameter_problem_v6 = 4

-- ---- codes of ICMPv6 errors (RFC 4443, section 3)

abbrev no_route : ℕ
no_route = 0

abbrev prohibited_v6 : ℕ
prohibited_v6 = 1

abbrev beyond_scope : ℕ
beyond_scope = 2

abbrev address_unreachable : ℕ
address_unreachable = 3

abbrev port_unreachable_v6 : ℕ
port_unreachable_v6 = 4

abbrev erroneous_field : ℕ
erroneous_field = 0

abbrev unrecognized_next_header : ℕ
unrecognized_next_header = 1

abbrev unrecognized_option : ℕ
unrecognized_option = 2

-- ---- codes of ICMP errors (RFC 792; RFC 1122, section 3.2.2.1; RFC 1812, section 5.2.7.1)

abbrev net_unreachable : ℕ
net_unreachable = 0

abbrev host_unreachable : ℕ
host_unreachable = 1

abbrev protocol_unreachable : ℕ
protocol_unreachable = 2

abbrev port_unreachable : ℕ
port_unreachable = 3

abbrev fragmentation_needed : ℕ
fragmentation_needed = 4

abbrev source_route_failed : ℕ
source_route_failed = 5

abbrev net_unknown : ℕ
net_unknown = 6

abbrev host_unknown : ℕ
host_unknown = 7

abbrev source_host_isolated : ℕ
source_host_isolated = 8

abbrev net_prohibited : ℕ
net_prohibited = 9

abbrev host_prohibited : ℕ
host_prohibited = 10

abbrev net_unreachable_for_service : ℕ
net_unreachable_for_service = 11

abbrev host_unreachable_for_service : ℕ
host_unreachable_for_service = 12

abbrev communication_prohibited : ℕ
communication_prohibited = 13

abbrev host_precedence_violation : ℕ
host_precedence_violation = 14

abbrev precedence_cutoff : ℕ
precedence_cutoff = 15

abbrev pointer_indicates_error : ℕ
pointer_indicates_error = 0

abbrev missing_option : ℕ
missing_option = 1

abbrev bad_length : ℕ
bad_length = 2

-- ---- from IPv4 to IPv6 (RFC 7915, section 4.2)

-- the ICMPv6 type and code for an ICMP message of this type and code
abbrev to_ipv6 : ℕ → ℕ → Option (ℕ × ℕ)
to_ipv6 type code = error_in (errors_to_ipv6 code) type code

-- "destination unreachable": each code up to 15
unreachable_rows : map (to_ipv6 unreachable) (
    net_unreachable ∷ host_unreachable ∷ protocol_unreachable ∷ port_unreachable
    ∷ fragmentation_needed ∷ source_route_failed ∷ net_unknown ∷ host_unknown
    ∷ source_host_isolated ∷ net_prohibited ∷ host_prohibited ∷ net_unreachable_for_service
    ∷ host_unreachable_for_service ∷ communication_prohibited ∷ host_precedence_violation ∷ precedence_cutoff ∷ [])
    ≡ (Some (unreachable_v6, no_route) ∷ Some (unreachable_v6, no_route)
    ∷ Some (parameter_problem_v6, unrecognized_next_header) ∷ Some (unreachable_v6, port_unreachable_v6)
    ∷ Some (packet_too_big, 0) ∷ Some (unreachable_v6, no_route) ∷ Some (unreachable_v6, no_route) ∷ Some (unreachable_v6, no_route)
    ∷ Some (unreachable_v6, no_route) ∷ Some (unreachable_v6, prohibited_v6)
    ∷ Some (unreachable_v6, prohibited_v6) ∷ Some (unreachable_v6, no_route)
    ∷ Some (unreachable_v6, no_route) ∷ Some (unreachable_v6, prohibited_v6) ∷ None ∷ Some (unreachable_v6, prohibited_v6) ∷ [])
unreachable_rows = refl

other_unreachable : (code : ℕ) → 15 < code → to_ipv6 unreachable code ≡ None
other_unreachable code after = grind (arith, nat_tests, after)

-- "time exceeded": any code is unchanged
time_exceeded_rows : (code : ℕ) → to_ipv6 time_exceeded code ≡ Some (time_exceeded_v6, code)
time_exceeded_rows code = grind (arith, nat_tests)

-- "parameter problem"
parameter_problem_rows : map (to_ipv6 parameter_problem) (pointer_indicates_error ∷ missing_option ∷ bad_length ∷ [])
    ≡ (Some (parameter_problem_v6, erroneous_field) ∷ None ∷ Some (parameter_problem_v6, erroneous_field) ∷ [])
parameter_problem_rows = refl

other_parameter_problem : (code : ℕ) → 2 < code → to_ipv6 parameter_problem code ≡ None
other_parameter_problem code after = grind (arith, nat_tests, after)

-- all other types
other_types : (code : ℕ) → map (λ type. to_ipv6 type code) (0 ∷ 1 ∷ 2 ∷ 4 ∷ 5 ∷ 6 ∷ 7 ∷ 8 ∷ 9 ∷ 10 ∷ [])
    ≡ (None ∷ None ∷ None ∷ None ∷ None ∷ None ∷ None ∷ None ∷ None ∷ None ∷ [])
other_types code = refl

later_types : (type code : ℕ) → 12 < type → to_ipv6 type code ≡ None
later_types type code after = grind (arith, nat_tests, after)

-- ---- from IPv6 to IPv4 (RFC 7915, section 5.2)

-- the ICMP type and code for an ICMPv6 message of this type and code
abbrev to_ipv4 : ℕ → ℕ → Option (ℕ × ℕ)
to_ipv4 type code = error_in (errors_to_ipv4 code) type code

-- "destination unreachable": each code up to 4
unreachable_rows_v6 : map (to_ipv4 unreachable_v6) (
    no_route ∷ prohibited_v6 ∷ beyond_scope ∷ address_unreachable ∷ port_unreachable_v6 ∷ [])
    ≡ (Some (unreachable, host_unreachable) ∷ Some (unreachable, host_prohibited) ∷ Some (unreachable, host_unreachable)
    ∷ Some (unreachable, host_unreachable) ∷ Some (unreachable, port_unreachable) ∷ [])
unreachable_rows_v6 = refl

other_unreachable_v6 : (code : ℕ) → 4 < code → to_ipv4 unreachable_v6 code ≡ None
other_unreachable_v6 code after = grind (arith, nat_tests, after)

-- "packet too big", with any code
packet_too_big_rows : (code : ℕ) → to_ipv4 packet_too_big code ≡ Some (unreachable, fragmentation_needed)
packet_too_big_rows code = grind (arith, nat_tests)

-- "time exceeded": any code is unchanged
time_exceeded_rows_v6 : (code : ℕ) → to_ipv4 time_exceeded_v6 code ≡ Some (time_exceeded, code)
time_exceeded_rows_v6 code = grind (arith, nat_tests)

-- "parameter problem"
parameter_problem_rows_v6 : map (to_ipv4 parameter_problem_v6) (erroneous_field ∷ unrecognized_next_header ∷ unrecognized_option ∷ [])
    ≡ (Some (parameter_problem, pointer_indicates_error) ∷ Some (unreachable, protocol_unreachable) ∷ None ∷ [])
parameter_problem_rows_v6 = refl

other_parameter_problem_v6 : (code : ℕ) → 2 < code → to_ipv4 parameter_problem_v6 code ≡ None
other_parameter_problem_v6 code after = grind (arith, nat_tests, after)

-- all other types
no_type : (code : ℕ) → to_ipv4 0 code ≡ None
no_type code = refl

later_types_v6 : (type code : ℕ) → 4 < type → to_ipv4 type code ≡ None
later_types_v6 type code after = grind (arith, nat_tests, after)
