-- The names of verdicts, as the C header spells them.
use Rattle.std.specs.Prelude.{ℕ, ◌==◌, if◌then◌else◌, List, codes}
use Rattle.etherparse_transport_c.specs.Numbers as numbers

-- the maximum length of a name, in bytes; names that later versions add are not longer
abbrev pub max_verdict_name_len : ℕ
max_verdict_name_len = 63

-- the name of a verdict
abbrev pub verdict_name : ℕ → List ℕ
verdict_name verdict =
    if verdict == numbers.verdict_right then codes "ETHERPARSE_VERDICT_RIGHT"
    else if verdict == numbers.verdict_absent then codes "ETHERPARSE_VERDICT_ABSENT"
    else if verdict == numbers.verdict_wrong then codes "ETHERPARSE_VERDICT_WRONG"
    else if verdict == numbers.verdict_partial then codes "ETHERPARSE_VERDICT_PARTIAL"
    else if verdict == numbers.verdict_untested_fragment then codes "ETHERPARSE_VERDICT_UNTESTED_FRAGMENT"
    else if verdict == numbers.verdict_untested_cut_off then codes "ETHERPARSE_VERDICT_UNTESTED_CUT_OFF"
    else if verdict == numbers.verdict_untested_unknown_destination then codes "ETHERPARSE_VERDICT_UNTESTED_UNKNOWN_DESTINATION"
    else if verdict == numbers.verdict_untested_other_protocol then codes "ETHERPARSE_VERDICT_UNTESTED_OTHER_PROTOCOL"
    else if verdict == numbers.verdict_untested_zero_length then codes "ETHERPARSE_VERDICT_UNTESTED_ZERO_LENGTH"
    else if verdict == numbers.verdict_untested_too_long then codes "ETHERPARSE_VERDICT_UNTESTED_TOO_LONG"
    else codes "unknown verdict"
