-- Two headers are equal, field by field, exactly if they are the same.
use Rattle.std.proofs.Common.{◌≡◌, ℕ, Bool, true, false, List, ap, refl, rules}
use Rattle.std.specs.Prelude.{◌&&◌, IsTrue, nat_eq}
use Rattle.std.specs.Cmp.{booleans_Decides}
use Rattle.std.specs.Cmp.Lexicographic.{pointwise}
use Rattle.std.specs.Cmp.Rules.{comparing}
use Rattle.std.proofs.Math.Bool.{beq}
use Rattle.tcp_part.specs.contracts.tcp_header.TcpHeaderPartialEq.TheImpl as equal
use Rattle.tcp_part.specs.declared.tcp_header.TcpHeader.{TcpHeader}
use Rattle.tcp_part.proofs.ReadsBack.{same_fields}

-- two conditions that are both true
both : (x y : Bool) → IsTrue (x && y) → IsTrue x × IsTrue y
both true y is = (refl, is)
both false y is = cc

together : (x y : Bool) → IsTrue x → IsTrue y → IsTrue (x && y)
together x y is is_too = rw (is, is_too) refl

-- two numbers that are equal as a test are the same number
same_number : (x y : ℕ) → IsTrue (nat_eq x y) → x ≡ y
same_number x y is = search (comparing, rules)

equal_number : (x y : ℕ) → x ≡ y → IsTrue (nat_eq x y)
equal_number x y same = search (comparing, rules)

same_flag : (x y : Bool) → IsTrue (beq x y) → x ≡ y
same_flag x y is = (booleans_Decides x y).0 is

equal_flag : (x y : Bool) → x ≡ y → IsTrue (beq x y)
equal_flag x y same = (booleans_Decides x y).1 same

same_bytes : (x y : List ℕ) → IsTrue (pointwise nat_eq x y) → x ≡ y
same_bytes x y is = search (comparing, rules)

equal_bytes : (x y : List ℕ) → x ≡ y → IsTrue (pointwise nat_eq x y)
equal_bytes x y same = search (comparing, rules)

-- two headers that are equal as a test are the same header
pub same_header : (a b : TcpHeader) → IsTrue ((equal.ghosts).eq a b) → a ≡ b
same_header a b is =
    let after_source_port = both _ _ is in
    let after_destination_port = both _ _ after_source_port.1 in
    let after_sequence_number = both _ _ after_destination_port.1 in
    let after_acknowledgment_number = both _ _ after_sequence_number.1 in
    let after_ns = both _ _ after_acknowledgment_number.1 in
    let after_fin = both _ _ after_ns.1 in
    let after_syn = both _ _ after_fin.1 in
    let after_rst = both _ _ after_syn.1 in
    let after_psh = both _ _ after_rst.1 in
    let after_ack = both _ _ after_psh.1 in
    let after_urg = both _ _ after_ack.1 in
    let after_ece = both _ _ after_urg.1 in
    let after_cwr = both _ _ after_ece.1 in
    let after_window_size = both _ _ after_cwr.1 in
    let after_checksum = both _ _ after_window_size.1 in
    let after_urgent_pointer = both _ _ after_checksum.1 in
    same_fields a b
    (same_number _ _ after_source_port.0)
    (same_number _ _ after_destination_port.0)
    (same_number _ _ after_sequence_number.0)
    (same_number _ _ after_acknowledgment_number.0)
    (same_flag _ _ after_ns.0)
    (same_flag _ _ after_fin.0)
    (same_flag _ _ after_syn.0)
    (same_flag _ _ after_rst.0)
    (same_flag _ _ after_psh.0)
    (same_flag _ _ after_ack.0)
    (same_flag _ _ after_urg.0)
    (same_flag _ _ after_ece.0)
    (same_flag _ _ after_cwr.0)
    (same_number _ _ after_window_size.0)
    (same_number _ _ after_checksum.0)
    (same_number _ _ after_urgent_pointer.0)
    (same_bytes _ _ after_urgent_pointer.1)

pub equal_header : (a b : TcpHeader) → a ≡ b → IsTrue ((equal.ghosts).eq a b)
equal_header a b same =
    together _ _ (equal_number _ _ (ap (λ header. header.source_port) same)) (
    together _ _ (equal_number _ _ (ap (λ header. header.destination_port) same)) (
    together _ _ (equal_number _ _ (ap (λ header. header.sequence_number) same)) (
    together _ _ (equal_number _ _ (ap (λ header. header.acknowledgment_number) same)) (
    together _ _ (equal_flag _ _ (ap (λ header. header.ns) same)) (
    together _ _ (equal_flag _ _ (ap (λ header. header.fin) same)) (
    together _ _ (equal_flag _ _ (ap (λ header. header.syn) same)) (
    together _ _ (equal_flag _ _ (ap (λ header. header.rst) same)) (
    together _ _ (equal_flag _ _ (ap (λ header. header.psh) same)) (
    together _ _ (equal_flag _ _ (ap (λ header. header.ack) same)) (
    together _ _ (equal_flag _ _ (ap (λ header. header.urg) same)) (
    together _ _ (equal_flag _ _ (ap (λ header. header.ece) same)) (
    together _ _ (equal_flag _ _ (ap (λ header. header.cwr) same)) (
    together _ _ (equal_number _ _ (ap (λ header. header.window_size) same)) (
    together _ _ (equal_number _ _ (ap (λ header. header.checksum) same)) (
    together _ _ (equal_number _ _ (ap (λ header. header.urgent_pointer) same)) (
    equal_bytes _ _ (ap (λ header. header.options) same)))))))))))))))))
