use Rattle.std.proofs.Common.{◌≡◌, ◌≤◌, ◌-◌, ℕ, true, List, None, length, drop, take, bit_and, ap, ap₂, sym, ◌∙◌, arith, if◌then◌else◌}
use Rattle.std.proofs.lemmas.Grind.{common_steps}
use Rattle.std.proofs.lemmas.List.{take_rest}
use Rattle.capture_packet.specs.Gre.{first_bits, header_len, is_read, len_with, protocol_type}
use Rattle.capture_packet.specs.InnerPackets.{packet_of_type}
use Rattle.capture_packet.specs.Tunnels.{packet_after_gre}
use Rattle.capture_packet.proofs.gre.packet_after_gre.Goals as goal

-- a GRE header whose bits are allowed is read
read : (bytes : List ℕ) → 4 ≤ length bytes → bit_and (first_bits bytes) 0x4C07 ≡ 0 → is_read bytes ≡ true
read bytes there zeros = grind (arith, common_steps)

-- the packet after a GRE header that is read
after_header : (bytes : List ℕ) (bits len number : ℕ) → 4 ≤ length bytes → bits ≡ first_bits bytes → bit_and bits 0x4C07 ≡ 0
    → len ≡ len_with bits → number ≡ protocol_type bytes
    → packet_of_type number (take (length bytes - len) (drop len bytes)) ≡ packet_after_gre bytes
after_header bytes bits len number there bits_are zeros len_is number_is =
    let is_read : is_read bytes ≡ true = read bytes there (rw bits_are at zeros) in
    ap₂ packet_of_type number_is (take_rest bytes len ∙ ap (λ n. drop n bytes) (len_is ∙ ap len_with bits_are))
    ∙ sym (ap (λ b. if b then packet_of_type (protocol_type bytes) (drop (header_len bytes) bytes) else None) is_read)

pub returns : goal.returns
returns c =
    let bytes = c.args.bytes.now in
    let bits : c.from_be_bytes-first_bits.result ≡ first_bits bytes = omega arith in
    let number : c.from_be_bytes.result ≡ protocol_type bytes = omega arith in
    c.packet_of_type.ensures
    ∙ after_header bytes _ _ _ c.if-bytes-lt-SHORTEST_LEN.false bits c.if-first_bits-ne0.false c.header_len-len.ensures.is number
