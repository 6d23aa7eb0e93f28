use Rattle.std.proofs.Common.{◌≡◌, length}
use Rattle.std.specs.List.{fold}
use Rattle.ip_translation.specs.AddressMappings.{better_of, ipv6_len, is_ipv6_of, longest_ipv6}
use Rattle.ip_translation.proofs.address_table.longest_ipv6.Given as goal

-- the search in the mappings that are left, from the mapping found so far, is the search in all mappings
abbrev pub invariant-loop-left : goal.invariant-loop-left
invariant-loop-left l =
    longest_ipv6 l.fn.mappings l.address ≡ fold (better_of (is_ipv6_of l.address) ipv6_len) l.found l.left

abbrev pub decreases-loop-left : goal.decreases-loop-left
decreases-loop-left l = length l.left
