-- The text of each error.
use Rattle.std.specs.Prelude.{List, ℕ, [], ◌∷◌, codes}
use Rattle.std.specs.Fmt.{decimal}
use Rattle.std.specs.List.{concat}
use Rattle.ip_part.specs.ErrorTexts.{ip_text}
use Rattle.reassembly.specs.declared.fragment_error.FragmentError.{FragmentError}
use Rattle.reassembly.specs.declared.fragment_error.FragmentError.TheVariants.{HeaderChainCutOff, Ip}
use Rattle.reassembly.specs.declared.reassembly_error.ReassemblyError.{ReassemblyError}
use Rattle.reassembly.specs.declared.reassembly_error.ReassemblyError.TheVariants.{BehindEnd, BufferTooSmall, Empty, LengthNotMultipleOf8, OtherEnd, OtherKey, Overlap, TooLong, TooManyFragments}

-- the text for a fragment whose contents were not read
abbrev pub fragment_text : FragmentError → List ℕ
fragment_text (Ip error) = ip_text error
fragment_text (HeaderChainCutOff required_len len) = concat (
    codes "Fragment Error: the transport header has at least " ∷ decimal required_len ∷ codes " bytes, and the first fragment has "
    ∷ decimal len ∷ codes "." ∷ [])

-- the text for a fragment that was not added
abbrev pub reassembly_text : ReassemblyError → List ℕ
reassembly_text OtherKey = codes "Reassembly Error: the fragment is of another packet."
reassembly_text Empty = codes "Reassembly Error: the fragment has no payload."
reassembly_text (LengthNotMultipleOf8 len) = concat (
    codes "Reassembly Error: more fragments follow, and the length " ∷ decimal len ∷ codes " is no multiple of 8." ∷ [])
reassembly_text (TooLong end) = concat (
    codes "Reassembly Error: the fragment ends at " ∷ decimal end ∷ codes ", which is above 65535." ∷ [])
reassembly_text (BufferTooSmall required_len len) = concat (
    codes "Reassembly Error: the fragment ends at " ∷ decimal required_len ∷ codes ", and the buffer has room for " ∷ decimal len
    ∷ codes " bytes."
    ∷ [])
reassembly_text OtherEnd = codes "Reassembly Error: two last fragments end at different places."
reassembly_text BehindEnd = codes "Reassembly Error: a fragment does not end before the last."
reassembly_text Overlap = codes "Reassembly Error: the fragment overlaps another."
reassembly_text TooManyFragments = codes "Reassembly Error: no more fragments fit."
