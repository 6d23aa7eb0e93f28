-- Laws of echo messages: their fields, read and written again.
use Rattle.std.proofs.Common.{◌≡◌, ℕ, ◌+◌, ◌≤◌, List, ◌∷◌, ◌++◌, length, take, drop, refl, ap, ◌∙◌, arith}
use Rattle.std.specs.Int.{to_be_bytes, w16}
use Rattle.net_base.specs.Bytes.{IsBytes, be_number}
use Rattle.net_base.proofs.BytesLemmas.{to_be_bytes-be_number_2}
use Rattle.icmp_part.specs.IcmpEcho.{echo, echo_fields, echo_of}
use Rattle.icmp_part.specs.MessageFormat.{Written}
use Rattle.icmp_part.specs.declared.icmp_echo_header.IcmpEchoHeader.{IcmpEchoHeader}
use Rattle.icmp_part.proofs.MessageFormatLemmas.{IsLawful, all_used_lawful, begins}

abbrev with_numbers : ℕ → ℕ → IcmpEchoHeader
with_numbers id seq = record { id = id; seq = seq }

-- the two numbers at their places are the fields
pub echo_of-same : (bytes : List ℕ) (from : ℕ) (fields : IcmpEchoHeader) → be_number bytes from 2 ≡ fields.id
    → be_number bytes (from + 2) 2 ≡ fields.seq
    → echo_of bytes from ≡ fields
echo_of-same bytes from fields id seq =
    ap (λ n. with_numbers n (be_number bytes (from + 2) 2)) id ∙ ap (with_numbers fields.id) seq

-- writing the fields that were read gives the bytes that they were read from
pub echo_fields-echo_of : (bytes : List ℕ) (from next : ℕ) (rest : List ℕ) → IsBytes bytes → next ≡ from + 4 → next ≤ length bytes
    → rest ≡ drop next bytes
    → echo_fields (echo_of bytes from) ++ rest ≡ drop from bytes
echo_fields-echo_of bytes from next rest fits after enough following =
    to_be_bytes-be_number_2 bytes from (from + 2) _ _ fits refl (omega arith) refl
    (to_be_bytes-be_number_2 bytes (from + 2) next _ _ fits (omega arith) enough refl following)

-- the laws of each format hold for the format of an echo message
pub echo_lawful : {Message : Type 0} (write : Message → Written) (IsLen : ℕ → ℕ → ℕ → Type 0) (type : ℕ)
    (variant : IcmpEchoHeader → Message) → IsLen type 0 8
    → ((fields : IcmpEchoHeader) → write (variant fields) ≡ record { type = type; code = 0; fields = echo_fields fields })
    → IsLawful Message write IsLen type 0 (echo variant)
echo_lawful write IsLen type variant is_len is_written =
    all_used_lawful write IsLen type 0 8 (λ bytes. variant (echo_of bytes 4)) is_len refl refl refl refl refl
    (λ bytes fits enough is_type is_code.
    ap (λ w. w.type ∷ (w.code ∷ (to_be_bytes w16 (be_number bytes 2 2) ++ (w.fields ++ drop 8 bytes)))) (is_written (echo_of bytes 4))
    ∙ begins bytes type 0 _ fits (omega arith) is_type is_code
    ∙ ap (λ later. take 4 bytes ++ later) (echo_fields-echo_of bytes 4 8 _ fits refl enough refl))
