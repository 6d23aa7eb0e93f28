use Rattle.std.proofs.Common.{◌≡◌, refl}
use Rattle.capture_json.proofs.JsonLemmas.{puts_these}
use Rattle.capture_json.specs.JsonPacket.{icmpv4_members, icmpv6_members, udp_members}
use Rattle.capture_json.proofs.packet.put_read.Goals as goal

pub returns-in_ok-put_udp-in-Udp : goal.returns-in_ok-put_udp-in-Udp
returns-in_ok-put_udp-in-Udp c = rw c.in-Udp.is (udp_members c.in-Udp.datagram, refl, c.in_ok-put_udp-in-Udp.ensures)

pub returns-in-Icmpv4 : goal.returns-in-Icmpv4
returns-in-Icmpv4 c =
    let members = icmpv4_members c.in-Icmpv4.message in
    rw c.in-Icmpv4.is (puts_these _ members _ _ (λ others. others ≡ members) refl c.put_icmpv4.ensures)

pub returns-in-Icmpv6 : goal.returns-in-Icmpv6
returns-in-Icmpv6 c =
    let members = icmpv6_members c.in-Icmpv6.message in
    rw c.in-Icmpv6.is (puts_these _ members _ _ (λ others. others ≡ members) refl c.put_icmpv6.ensures)
