use Rattle.std.proofs.Common.{◌≡◌, [], refl}
use Rattle.ip_part.specs.Addresses.{by_value}
use Rattle.capture_json.specs.JsonPacket.{address_members}
use Rattle.capture_json.proofs.JsonLemmas.{puts_these}
use Rattle.capture_json.proofs.TokensLemmas.{with_append}
use Rattle.capture_json.proofs.packet.put_content.Goals as goal

-- nothing is added for a packet that is not read
pub returns-in-Unread : goal.returns-in-Unread
returns-in-Unread c = rw c.in-Unread.is ([], refl, refl)

pub returns-in-IpHeader : goal.returns-in-IpHeader
returns-in-IpHeader c =
    let members = address_members (by_value c.in-IpHeader.addresses) in
    rw c.in-IpHeader.is (puts_these _ members _ _ (λ others. others ≡ members) refl c.put_addresses.ensures)

pub returns-in_ok-put_network_protocol-in-NotIp : goal.returns-in_ok-put_network_protocol-in-NotIp
returns-in_ok-put_network_protocol-in-NotIp c = rw c.in-NotIp.is (_, refl, c.in_ok-put_network_protocol-in-NotIp.ensures)

-- the addresses, the protocol, the quoted packet, the transport and the length of the payload were written
pub returns-in_ok-put_payload_len-in-Ip : goal.returns-in_ok-put_payload_len-in-Ip
returns-in_ok-put_payload_len-in-Ip c =
    let (inner, are, put) = c.in_ok-put_transport-in-Ip.ensures in
    rw c.in-Ip.is (
      _,
      (inner, are, refl),
      simp (
        with_append,
        c.in_ok-put_payload_len-in-Ip.ensures,
        c.payload.ensures,
        put,
        c.in_ok-put_quoted-in-Ip.ensures,
        c.quoted_packet.ensures,
        c.in_ok-put_ip_protocol-in-Ip.ensures,
        c.in_ok-put_addresses-in-Ip.ensures,
      ),
    )
