-- Worked examples of the definitions, so that a wrong definition fails before any code does.
use Rattle.std.proofs.Common.{◌≡◌, ◌+◌, [], ◌∷◌, refl}
use Rattle.word_sum.specs.Checksum.{checksum_of, folded, sum_of_pieces, total, udp_checksum_of, AllEvenButLast}

-- an odd last byte is the high half of its word
one_byte : total (1 ∷ []) ≡ 256
one_byte = refl

two_bytes : total (1 ∷ 2 ∷ []) ≡ 258
two_bytes = refl

three_bytes : total (1 ∷ 2 ∷ 3 ∷ []) ≡ 258 + 768
three_bytes = refl

nine_bytes : total (1 ∷ 2 ∷ 3 ∷ 4 ∷ 5 ∷ 6 ∷ 7 ∷ 8 ∷ 9 ∷ []) ≡ 0x1914
nine_bytes = refl

-- the example of RFC 1071, section 3: the sum of the words 0001, f203, f4f5 and f6f7 is 2ddf0, which folds to ddf2
rfc_1071_total : total (0 ∷ 1 ∷ 242 ∷ 3 ∷ 244 ∷ 245 ∷ 246 ∷ 247 ∷ []) ≡ 0x2ddf0
rfc_1071_total = refl

rfc_1071_sum : folded 0x2ddf0 ≡ 0xddf2
unfolding folded
rfc_1071_sum = refl

nothing : folded 0 ≡ 0
unfolding folded
nothing = refl

all_ones : folded 65535 ≡ 65535
unfolding folded
all_ones = refl

all_ones_twice : folded 131070 ≡ 65535
unfolding folded
all_ones_twice = refl

one_carry : folded 65536 ≡ 1
unfolding folded
one_carry = refl

checksum_of_nothing : checksum_of 0 ≡ 65535
unfolding folded
checksum_of_nothing = refl

checksum_of_all_ones : checksum_of 65535 ≡ 0
unfolding folded
checksum_of_all_ones = refl

udp_checksum_of_all_ones : udp_checksum_of 65535 ≡ 65535
unfolding folded
udp_checksum_of_all_ones = refl

-- a cut between words doesn't change the sum, and a cut within a word does
even_pieces : AllEvenButLast ((1 ∷ 2 ∷ []) ∷ (3 ∷ 4 ∷ []) ∷ (5 ∷ []) ∷ [])
even_pieces = (refl, (refl, tt))

two_pieces : sum_of_pieces 0 ((1 ∷ 2 ∷ []) ∷ (3 ∷ 4 ∷ []) ∷ []) ≡ 0x0406
unfolding folded
two_pieces = refl

one_piece : sum_of_pieces 0 ((1 ∷ 2 ∷ 3 ∷ 4 ∷ []) ∷ []) ≡ 0x0406
unfolding folded
one_piece = refl

odd_piece : sum_of_pieces 0 ((1 ∷ []) ∷ (2 ∷ 3 ∷ 4 ∷ []) ∷ []) ≡ 0x0703
unfolding folded
odd_piece = refl
