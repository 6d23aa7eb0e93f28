-- Laws of timestamp messages: their fields, read and written again.
use Rattle.std.proofs.Common.{◌≡◌, ℕ, List, [], ◌∷◌, ◌++◌, length, drop_of_length-le, refl, sym, ap, ◌∙◌, arith}
use Rattle.net_base.specs.Bytes.{IsBytes, be_number}
use Rattle.net_base.proofs.BytesLemmas.{to_be_bytes-be_number_2, to_be_bytes-be_number_4}
use Rattle.icmp_part.specs.Icmpv4Format.{timestamp_fields, timestamp_of}
use Rattle.icmp_part.specs.Icmpv4ReadsBack.{TimestampFits}
use Rattle.icmp_part.specs.declared.icmpv4.timestamp_message.TimestampMessage.{TimestampMessage}

abbrev with_times : ℕ → ℕ → ℕ → ℕ → ℕ → TimestampMessage
with_times id seq originate receive transmit =
    record { id = id; seq = seq; originate_timestamp = originate; receive_timestamp = receive; transmit_timestamp = transmit }

-- five equal numbers are equal fields
timestamp_same : (id seq originate receive transmit : ℕ) (message : TimestampMessage) → id ≡ message.id → seq ≡ message.seq
    → originate ≡ message.originate_timestamp → receive ≡ message.receive_timestamp → transmit ≡ message.transmit_timestamp
    → with_times id seq originate receive transmit ≡ message
timestamp_same id seq originate receive transmit message e f g h i =
    ap (λ n. with_times n seq originate receive transmit) e
    ∙ ap (λ n. with_times message.id n originate receive transmit) f
    ∙ ap (λ n. with_times message.id message.seq n receive transmit) g
    ∙ ap (λ n. with_times message.id message.seq message.originate_timestamp n transmit) h
    ∙ ap (with_times message.id message.seq message.originate_timestamp message.receive_timestamp) i

-- written fields are read back after four bytes
pub timestamp_read : (a b c d : ℕ) (message : TimestampMessage) (later : List ℕ) → TimestampFits message
    → timestamp_of (a ∷ (b ∷ (c ∷ (d ∷ (timestamp_fields message ++ later))))) 4 ≡ message
timestamp_read a b c d message later fit =
    let bytes = a ∷ (b ∷ (c ∷ (d ∷ (timestamp_fields message ++ later)))) in
    let id : be_number bytes 4 2 ≡ message.id = omega (arith, fit.0) in
    let seq : be_number bytes 6 2 ≡ message.seq = omega (arith, fit.1) in
    let originate : be_number bytes 8 4 ≡ message.originate_timestamp = omega (arith, fit.2) in
    let receive : be_number bytes 12 4 ≡ message.receive_timestamp = omega (arith, fit.3) in
    let transmit : be_number bytes 16 4 ≡ message.transmit_timestamp = omega (arith, fit.4) in
    timestamp_same (be_number bytes 4 2) (be_number bytes 6 2) (be_number bytes 8 4) (be_number bytes 12 4)
    (be_number bytes 16 4) message id seq originate receive transmit

-- the fields of a timestamp message are read back
pub timestamp_fields_read : (message : TimestampMessage) → TimestampFits message → timestamp_of (timestamp_fields message) 0 ≡ message
timestamp_fields_read message fit =
    let bytes = timestamp_fields message in
    let id : be_number bytes 0 2 ≡ message.id = omega (arith, fit.0) in
    let seq : be_number bytes 2 2 ≡ message.seq = omega (arith, fit.1) in
    let originate : be_number bytes 4 4 ≡ message.originate_timestamp = omega (arith, fit.2) in
    let receive : be_number bytes 8 4 ≡ message.receive_timestamp = omega (arith, fit.3) in
    let transmit : be_number bytes 12 4 ≡ message.transmit_timestamp = omega (arith, fit.4) in
    timestamp_same (be_number bytes 0 2) (be_number bytes 2 2) (be_number bytes 4 4) (be_number bytes 8 4)
    (be_number bytes 12 4) message id seq originate receive transmit

-- writing the fields of sixteen bytes gives these bytes
pub timestamp_written_back : (bytes : List ℕ) → IsBytes bytes → length bytes ≡ 16 → timestamp_fields (timestamp_of bytes 0) ≡ bytes
timestamp_written_back bytes fits sixteen =
    to_be_bytes-be_number_2 bytes 0 2 _ _ fits refl (omega arith) refl
    (to_be_bytes-be_number_2 bytes 2 4 _ _ fits refl (omega arith) refl
    (to_be_bytes-be_number_4 bytes 4 8 _ _ fits refl (omega arith) refl
    (to_be_bytes-be_number_4 bytes 8 12 _ _ fits refl (omega arith) refl
    (to_be_bytes-be_number_4 bytes 12 16 _ [] fits refl (omega arith) refl (sym (drop_of_length-le bytes {i = 16} (omega arith)))))))
