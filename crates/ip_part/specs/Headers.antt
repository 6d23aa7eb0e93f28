-- The contents of the headers that were read in an IP packet, with the addresses as bytes.
use Rattle.std.specs.Prelude.{ℕ, Bool, Result, Ok, Err}
use Rattle.net_base.specs.declared.ip_number.IpNumber.{IpNumber}
use Rattle.ip_part.specs.Addresses.{Addresses, by_value}
use Rattle.ip_part.specs.declared.headers.Headers as borrowed

-- What the headers read so far contain: the addresses, the number of the next header, and the length of these headers. `is_fragment` is
-- true if the bytes after these headers are only a part of a packet, and `is_later_fragment` if they are a later part. `may_be_extended` is
-- true if an extension header may come next. `payload_len` is the payload length of an IPv6 header, or 0 over IPv4. `is_jumbogram` is true
-- if hop-by-hop options directly after the IPv6 header contain the length.
pub record Headers : Type 0 where
  pub addresses : Addresses
  pub protocol : IpNumber
  pub len : ℕ
  pub is_fragment : Bool
  pub is_later_fragment : Bool
  pub may_be_extended : Bool
  pub payload_len : ℕ
  pub is_jumbogram : Bool

-- the contents of the headers, with the values of the borrowed addresses
abbrev pub headers_by_value : borrowed.Headers → Headers
headers_by_value headers = record {
  addresses = by_value headers.addresses;
  protocol = headers.protocol;
  len = headers.len;
  is_fragment = headers.is_fragment;
  is_later_fragment = headers.is_later_fragment;
  may_be_extended = headers.may_be_extended;
  payload_len = headers.payload_len;
  is_jumbogram = headers.is_jumbogram;
}

-- the result, with the values of the borrowed addresses
abbrev pub result_by_value : {E : Type 0} → Result borrowed.Headers E → Result Headers E
result_by_value (Ok headers) = Ok (headers_by_value headers)
result_by_value (Err error) = Err error
