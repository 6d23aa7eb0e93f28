-- The name and the meaning of each status of a call that puts a packet together.
use Rattle.std.specs.Prelude.{ℕ, ◌==◌, if◌then◌else◌, List, codes}
use Rattle.etherparse_transport_c.specs.Numbers as numbers

-- the name of a status that begins with REASSEMBLY; a text for any other status
unfoldable pub joining_status_name : ℕ → List ℕ
joining_status_name status =
    if status == numbers.status_reassembly_no_fragment then codes "ETHERPARSE_STATUS_REASSEMBLY_NO_FRAGMENT"
    else if status == numbers.status_reassembly_header_chain_cut_off then codes "ETHERPARSE_STATUS_REASSEMBLY_HEADER_CHAIN_CUT_OFF"
    else if status == numbers.status_reassembly_other_key then codes "ETHERPARSE_STATUS_REASSEMBLY_OTHER_KEY"
    else if status == numbers.status_reassembly_empty then codes "ETHERPARSE_STATUS_REASSEMBLY_EMPTY"
    else if status == numbers.status_reassembly_fragment_length then codes "ETHERPARSE_STATUS_REASSEMBLY_FRAGMENT_LENGTH"
    else if status == numbers.status_reassembly_too_long then codes "ETHERPARSE_STATUS_REASSEMBLY_TOO_LONG"
    else if status == numbers.status_reassembly_room then codes "ETHERPARSE_STATUS_REASSEMBLY_ROOM"
    else if status == numbers.status_reassembly_other_end then codes "ETHERPARSE_STATUS_REASSEMBLY_OTHER_END"
    else if status == numbers.status_reassembly_behind_end then codes "ETHERPARSE_STATUS_REASSEMBLY_BEHIND_END"
    else if status == numbers.status_reassembly_overlap then codes "ETHERPARSE_STATUS_REASSEMBLY_OVERLAP"
    else if status == numbers.status_reassembly_too_many_fragments then codes "ETHERPARSE_STATUS_REASSEMBLY_TOO_MANY_FRAGMENTS"
    else if status == numbers.status_reassembly_incomplete then codes "ETHERPARSE_STATUS_REASSEMBLY_INCOMPLETE"
    else if status == numbers.status_reassembly_header then codes "ETHERPARSE_STATUS_REASSEMBLY_HEADER"
    else if status == numbers.status_reassembly_lengths then codes "ETHERPARSE_STATUS_REASSEMBLY_LENGTHS"
    else codes "unknown status"

-- what such a status means
unfoldable pub joining_status_text : ℕ → List ℕ
joining_status_text status =
    if status == numbers.status_reassembly_no_fragment then codes "the packet is whole, so it is not a fragment"
    else if status == numbers.status_reassembly_header_chain_cut_off then codes "the first fragment ends within its transport header"
    else if status == numbers.status_reassembly_other_key then codes "the fragment belongs to another packet"
    else if status == numbers.status_reassembly_empty then codes "the fragment has no payload"
    else if status == numbers.status_reassembly_fragment_length then codes "more fragments follow, and the length is not a multiple of 8"
    else if status == numbers.status_reassembly_too_long then codes "the fragment ends beyond 65535 bytes"
    else if status == numbers.status_reassembly_room then codes "the fragment ends beyond the room for the payload"
    else if status == numbers.status_reassembly_other_end then codes "two last fragments end at different places"
    else if status == numbers.status_reassembly_behind_end then codes "a fragment does not end before the last fragment"
    else if status == numbers.status_reassembly_overlap then codes "the fragment overlaps another fragment"
    else if status == numbers.status_reassembly_too_many_fragments then codes "no more fragments fit"
    else if status == numbers.status_reassembly_incomplete then codes "bytes of the payload are missing"
    else if status == numbers.status_reassembly_header then codes "the whole packet has no room for its headers"
    else if status == numbers.status_reassembly_lengths then codes "the lengths of the packets count more bytes than there are"
    else codes "unknown status"
