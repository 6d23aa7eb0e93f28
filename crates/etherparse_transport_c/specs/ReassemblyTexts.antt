-- The text of each error of a call that puts a packet together.
use Rattle.std.specs.Prelude.{ℕ, ◌==◌, if◌then◌else◌, List, [], ◌∷◌, codes}
use Rattle.std.specs.Fmt.{decimal}
use Rattle.std.specs.List.{concat}
use Rattle.reassembly.specs.ErrorTexts.{fragment_text, reassembly_text}
use Rattle.reassembly.specs.declared.fragment_error.FragmentError.TheVariants.{HeaderChainCutOff}
use Rattle.reassembly.specs.declared.reassembly_error.ReassemblyError.TheVariants.{BehindEnd, BufferTooSmall, Empty, LengthNotMultipleOf8, OtherEnd, OtherKey, Overlap, TooLong, TooManyFragments}
use Rattle.etherparse_transport_c.specs.Numbers as numbers
use Rattle.etherparse_transport_c.specs.declared.error.EtherparseError.{EtherparseError}

-- the text for a length that counts more bytes than are left
abbrev pub lengths_text : ℕ → ℕ → List ℕ
lengths_text required_len len = concat (
    codes "Reassembly Error: the next packet has " ∷ decimal required_len ∷ codes " bytes, and " ∷ decimal len ∷ codes " bytes are left."
    ∷ [])

-- the text of an error whose status begins with REASSEMBLY; a text for any other status
unfoldable pub joining_text : EtherparseError → List ℕ
joining_text error =
    if error.status == numbers.status_reassembly_no_fragment then codes "Reassembly Error: the packet is not a fragment."
    else if error.status == numbers.status_reassembly_header_chain_cut_off
    then fragment_text (HeaderChainCutOff error.required_len error.len)
    else if error.status == numbers.status_reassembly_other_key then reassembly_text OtherKey
    else if error.status == numbers.status_reassembly_empty then reassembly_text Empty
    else if error.status == numbers.status_reassembly_fragment_length then reassembly_text (LengthNotMultipleOf8 error.len)
    else if error.status == numbers.status_reassembly_too_long then reassembly_text (TooLong error.len)
    else if error.status == numbers.status_reassembly_room then reassembly_text (BufferTooSmall error.required_len error.len)
    else if error.status == numbers.status_reassembly_other_end then reassembly_text OtherEnd
    else if error.status == numbers.status_reassembly_behind_end then reassembly_text BehindEnd
    else if error.status == numbers.status_reassembly_overlap then reassembly_text Overlap
    else if error.status == numbers.status_reassembly_too_many_fragments then reassembly_text TooManyFragments
    else if error.status == numbers.status_reassembly_incomplete then codes "Reassembly Error: bytes of the payload are missing."
    else if error.status == numbers.status_reassembly_header then codes "Reassembly Error: the whole packet has no room for its headers."
    else if error.status == numbers.status_reassembly_lengths then lengths_text error.required_len error.len
    else codes "Unknown error."
