use Rattle.std.proofs.Common.{◌≡◌, ℕ, Bool, true, false, List, ap, rules, subst, sym}
use Rattle.std.specs.Prelude.{◌&&◌, IsTrue, nat_eq}
use Rattle.std.specs.Cmp.{booleans_Decides}
use Rattle.std.specs.Cmp.Lexicographic.{pointwise}
use Rattle.std.proofs.Math.Bool.{beq}
use Rattle.ip_part.specs.Addresses.{by_value}
use Rattle.ip_part.specs.FixedHeaders.{fixed_by_value}
use Rattle.ip_part.specs.Ip.{AreAlike}
use Rattle.ip_part.specs.contracts.fixed_part.FixedHeaderPartialEq.TheImpl as fixed_equal
use Rattle.ip_part.specs.contracts.ip_addresses.IpAddressesPartialEq.TheImpl as addresses_equal
use Rattle.ip_part.specs.contracts.transport.TransportInIpPartialEq.TheImpl as equal
use Rattle.ip_part.specs.declared.fixed_part.FixedHeader.{FixedHeader}
use Rattle.ip_part.specs.declared.ip_addresses.IpAddresses.{IpAddresses}
use Rattle.ip_part.specs.declared.transport.TransportInIp.{TransportInIp}
use Rattle.ip_part.proofs.laws.equal_transport_in_ip.Goals as goal

-- if both conditions hold, each of them holds
first : (x y : Bool) → IsTrue (x && y) → IsTrue x
first true y is = cc
first false y is = is

second : (x y : Bool) → IsTrue (x && y) → IsTrue y
second true y is = is
second false y is = cc

both : (x y : Bool) → IsTrue x → IsTrue y → IsTrue (x && y)
both true y is is_too = is_too
both false y is is_too = is

-- ---- one field

same_flag : (x y : Bool) → IsTrue (beq x y) → x ≡ y
same_flag x y is = (booleans_Decides x y).0 is

equal_flag : (x y : Bool) → x ≡ y → IsTrue (beq x y)
equal_flag x y is = (booleans_Decides x y).1 is

same_number : (x y : ℕ) → IsTrue (nat_eq x y) → x ≡ y
same_number x y is = search rules

equal_number : (x y : ℕ) → x ≡ y → IsTrue (nat_eq x y)
equal_number x y is = search rules

same_bytes : (xs ys : List ℕ) → IsTrue (pointwise nat_eq xs ys) → xs ≡ ys
same_bytes xs ys is = search rules

equal_bytes : (xs ys : List ℕ) → xs ≡ ys → IsTrue (pointwise nat_eq xs ys)
equal_bytes xs ys is = search rules

same_addresses : (a b : IpAddresses) → IsTrue ((addresses_equal.ghosts).eq a b) → by_value a ≡ by_value b
same_addresses a b is = search rules

equal_addresses : (a b : IpAddresses) → by_value a ≡ by_value b → IsTrue ((addresses_equal.ghosts).eq a b)
equal_addresses a b is = search rules

same_fixed : (a b : FixedHeader) → IsTrue ((fixed_equal.ghosts).eq a b) → fixed_by_value a ≡ fixed_by_value b
same_fixed a b is = search rules

equal_fixed : (a b : FixedHeader) → fixed_by_value a ≡ fixed_by_value b → IsTrue ((fixed_equal.ghosts).eq a b)
equal_fixed a b is = search rules

-- ---- all fields

same_fields : (a b : TransportInIp) → IsTrue ((equal.ghosts).eq a b) → AreAlike a b
same_fields a b is =
    let addresses : Bool = (addresses_equal.ghosts).eq a.addresses b.addresses in
    let protocol : Bool = nat_eq a.protocol.0 b.protocol.0 in
    let payload : Bool = pointwise nat_eq a.payload.now b.payload.now in
    let offset : Bool = nat_eq a.payload_offset b.payload_offset in
    let fragment : Bool = beq a.is_fragment b.is_fragment in
    let later : Bool = beq a.is_later_fragment b.is_later_fragment in
    let cut : Bool = beq a.is_cut_off b.is_cut_off in
    let missing : Bool = beq a.is_length_missing b.is_length_missing in
    let fixed : Bool = (fixed_equal.ghosts).eq a.fixed_header b.fixed_header in
    let header : Bool = nat_eq a.header_len b.header_len in
    let counted : Bool = nat_eq a.counted_len b.counted_len in
    let last_2 : Bool = header && counted in
    let last_3 : Bool = fixed && last_2 in
    let last_4 : Bool = missing && last_3 in
    let last_5 : Bool = cut && last_4 in
    let last_6 : Bool = later && last_5 in
    let last_7 : Bool = fragment && last_6 in
    let last_8 : Bool = offset && last_7 in
    let last_9 : Bool = payload && last_8 in
    let last_10 : Bool = protocol && last_9 in
    let of_10 : IsTrue last_10 = second addresses last_10 is in
    let of_9 : IsTrue last_9 = second protocol last_9 of_10 in
    let of_8 : IsTrue last_8 = second payload last_8 of_9 in
    let of_7 : IsTrue last_7 = second offset last_7 of_8 in
    let of_6 : IsTrue last_6 = second fragment last_6 of_7 in
    let of_5 : IsTrue last_5 = second later last_5 of_6 in
    let of_4 : IsTrue last_4 = second cut last_4 of_5 in
    let of_3 : IsTrue last_3 = second missing last_3 of_4 in
    let of_2 : IsTrue last_2 = second fixed last_2 of_3 in (
      same_addresses a.addresses b.addresses (first addresses last_10 is),
      ap (λ number. record { 0 = number }) (same_number a.protocol.0 b.protocol.0 (first protocol last_9 of_10)),
      same_bytes a.payload.now b.payload.now (first payload last_8 of_9),
      same_number a.payload_offset b.payload_offset (first offset last_7 of_8),
      same_flag a.is_fragment b.is_fragment (first fragment last_6 of_7),
      same_flag a.is_later_fragment b.is_later_fragment (first later last_5 of_6),
      same_flag a.is_cut_off b.is_cut_off (first cut last_4 of_5),
      same_flag a.is_length_missing b.is_length_missing (first missing last_3 of_4),
      same_fixed a.fixed_header b.fixed_header (first fixed last_2 of_3),
      same_number a.header_len b.header_len (first header counted of_2),
      same_number a.counted_len b.counted_len (second header counted of_2),
    )

equal_fields : (a b : TransportInIp) → AreAlike a b → IsTrue ((equal.ghosts).eq a b)
equal_fields a b (addresses, protocol, payload, offset, fragment, later, cut, missing, fixed, header, counted) =
    both _ _ (equal_addresses a.addresses b.addresses addresses)
    (both _ _ (equal_number a.protocol.0 b.protocol.0 (ap (λ protocol. protocol.0) protocol))
    (both _ _ (equal_bytes a.payload.now b.payload.now payload)
    (both _ _ (equal_number a.payload_offset b.payload_offset offset)
    (both _ _ (equal_flag a.is_fragment b.is_fragment fragment)
    (both _ _ (equal_flag a.is_later_fragment b.is_later_fragment later)
    (both _ _ (equal_flag a.is_cut_off b.is_cut_off cut)
    (both _ _ (equal_flag a.is_length_missing b.is_length_missing missing)
    (both _ _ (equal_fixed a.fixed_header b.fixed_header fixed)
    (both _ _ (equal_number a.header_len b.header_len header) (equal_number a.counted_len b.counted_len counted))))))))))

pub returns : goal.returns
returns c = record {
  same = (
    λ is. same_fields c.args.a.now c.args.b.now (subst IsTrue c.eq.ensures is),
    λ alike. subst IsTrue (sym c.eq.ensures) (equal_fields c.args.a.now c.args.b.now alike),
  );
}
