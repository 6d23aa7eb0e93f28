-- Laws of the length of the name of a conversation, and of the length of an address.
use Rattle.std.specs.Prelude.{List, [], ◌∷◌, ℕ, ◌+◌, ◌*◌, ◌-◌, ◌/◌, ◌%◌, ◌^◌, ◌≤◌, ◌<◌, ◌++◌, ◌==◌, Bool, true, false, bytes_eq, codes, decimal, drop, flat_map, if◌then◌else◌, length, nat_lt, slice_index, take}
use Rattle.std.specs.Net.Addr.{IsIpv4Addr, IsIpv6Addr, MatchIp, ipv4_octets, ipv6_segments, octets_of}
use Rattle.std.specs.Net.Socket.{IsSocketAddr}
use Rattle.std.specs.Net.Text.{groups_text, hex, hex_groups_text, ip_text, ipv4_text, ipv6_text, leading_zero_digits, longest_zero_run, scope_text, socket_text}
use Rattle.std.specs.declared.net.ip_addr.IpAddr.{IpAddr}
use Rattle.std.specs.declared.net.ip_addr.IpAddr.TheVariants as Ip
use Rattle.std.specs.declared.net.socket_addr.SocketAddr.{SocketAddr}
use Rattle.std.specs.declared.net.socket_addr.SocketAddr.TheVariants as Socket
use Rattle.capture_summary.specs.Kinds.{flow_protocol_word}
use Rattle.capture_summary.specs.declared.flow.Flow.{Flow}
use Rattle.capture_summary.specs.declared.flow.FlowProtocol.{FlowProtocol}
use Rattle.capture_summary.specs.declared.flow.FlowProtocol.TheVariants.{Tcp, Udp}
use Rattle.capture_text.specs.SummaryText.{conversation_name}
use Rattle.std.proofs.Common.{◌≡◌, arith, length-append, length-drop, length-take, refl, suc, zero}
use Rattle.std.proofs.lemmas.Fmt.{length-decimal-le}
use Rattle.std.proofs.lemmas.List.{get_or-drop}
use Rattle.std.specs.Char.{digit_char}

-- ---- IPv4

-- the text of an IPv4 address whose octets may have 16 bits has at most 23 bytes
length-ipv4 : (octets : List ℕ) → ((k : ℕ) → slice_index octets k < 2 ^ 16) → length (ipv4_text octets) ≤ 23
length-ipv4 octets small =
    let digits : (k : ℕ) → length (decimal (slice_index octets k)) ≤ 5 =
    λ k. length-decimal-le 5 (slice_index octets k) (omega arith) (omega (arith, small k)) (omega (arith, small k)) in
    let first = decimal (slice_index octets 0) in
    let second = decimal (slice_index octets 1) in
    let third = decimal (slice_index octets 2) in
    let fourth = decimal (slice_index octets 3) in
    omega (
      arith,
      digits 0,
      digits 1,
      digits 2,
      digits 3,
      length-append first (codes "."),
      length-append (first ++ codes ".") second,
      length-append (first ++ codes "." ++ second) (codes "."),
      length-append (first ++ codes "." ++ second ++ codes ".") third,
      length-append (first ++ codes "." ++ second ++ codes "." ++ third) (codes "."),
      length-append (first ++ codes "." ++ second ++ codes "." ++ third ++ codes ".") fourth,
    )

-- each octet of segments of 16 bits is below 256
small_octet : (segments : List ℕ) → ((k : ℕ) → slice_index segments k < 2 ^ 16) → (k : ℕ) → slice_index (octets_of segments) k < 2 ^ 16
small_octet [] small k = small k
small_octet (segment ∷ segments) small zero = omega (arith, small 0)
small_octet (segment ∷ segments) small (suc zero) = omega arith
small_octet (segment ∷ segments) small (suc (suc k)) = small_octet segments (λ j. small (suc j)) k

-- ---- IPv6

-- a group has at most four digits
length-group : (n : ℕ) → length (hex n) ≤ 4
unfolding hex
length-group n =
    omega (
      arith,
      length-drop (leading_zero_digits n)
          (digit_char (n / 0x1000) ∷ digit_char (n / 0x100 % 16) ∷ digit_char (n / 0x10 % 16) ∷ digit_char (n % 16) ∷ []),
    )

-- the length of groups after colons
length-more_groups : (segments : List ℕ) → length (flat_map (λ segment. codes ":" ++ hex segment) segments) ≤ 5 * length segments
length-more_groups [] = omega arith
length-more_groups (segment ∷ segments) =
    omega (
      arith,
      length-group segment,
      length-append (codes ":") (hex segment),
      length-more_groups segments,
      length-append (codes ":" ++ hex segment) (flat_map (λ segment. codes ":" ++ hex segment) segments),
    )

-- the length of groups with colons between them
length-groups : (segments : List ℕ) → length (groups_text segments) ≤ 5 * length segments - 1
length-groups [] = omega arith
length-groups (segment ∷ segments) =
    omega (
      arith,
      length-group segment,
      length-more_groups segments,
      length-append (hex segment) (flat_map (λ segment. codes ":" ++ hex segment) segments),
    )

-- the length of eight groups, or of the groups before and after a run of zeros
compressed_by : (segments : List ℕ) (run : ℕ × ℕ) (test : Bool) → length segments ≡ 8
    → length (if test then groups_text (take run.0 segments) ++ codes "::" ++ groups_text (drop (run.0 + run.1) segments)
    else groups_text segments) ≤ 41
compressed_by segments run true eight =
    let before = take run.0 segments in
    let after = drop (run.0 + run.1) segments in
    omega (
      arith,
      eight,
      length-groups before,
      length-groups after,
      length-take run.0 segments,
      length-drop (run.0 + run.1) segments,
      length-append (groups_text before) (codes "::"),
      length-append (groups_text before ++ codes "::") (groups_text after),
    )
compressed_by segments run false eight = omega (arith, eight, length-groups segments)

ipv6_by : (segments : List ℕ) (test : Bool) → length segments ≡ 8 → ((k : ℕ) → slice_index segments k < 2 ^ 16)
    → length (if test then codes "::ffff:" ++ ipv4_text (octets_of (drop 6 segments)) else hex_groups_text segments) ≤ 41
unfolding hex_groups_text
ipv6_by segments true eight small =
    let last : (k : ℕ) → slice_index (drop 6 segments) k < 2 ^ 16 = λ k. omega (arith, small (6 + k), get_or-drop 6 segments k 0) in
    omega (
      arith,
      length-append (codes "::ffff:") (ipv4_text (octets_of (drop 6 segments))),
      length-ipv4 (octets_of (drop 6 segments)) (small_octet (drop 6 segments) last),
    )
ipv6_by segments false eight small =
    compressed_by segments (longest_zero_run segments) (nat_lt 1 (longest_zero_run segments).1) eight

length-ipv6 : (segments : List ℕ) → length segments ≡ 8 → ((k : ℕ) → slice_index segments k < 2 ^ 16) → length (ipv6_text segments) ≤ 41
unfolding ipv6_text
length-ipv6 segments = ipv6_by segments (bytes_eq (take 6 segments) (0 ∷ 0 ∷ 0 ∷ 0 ∷ 0 ∷ 0xffff ∷ []))

pub length-address : (address : IpAddr) → MatchIp address IsIpv4Addr IsIpv6Addr → length (ip_text address) ≤ 48
length-address (Ip.V4 ip) is = omega (arith, length-ipv4 (ipv4_octets ip) (λ k. omega (arith, is.1 k)))
length-address (Ip.V6 ip) is = omega (arith, length-ipv6 (ipv6_segments ip) is.0 is.1)

scope_by : (scope : ℕ) (test : Bool) → scope < 2 ^ 32 → length (if test then [] else codes "%" ++ decimal scope) ≤ 11
scope_by scope true small = omega arith
scope_by scope false small =
    omega (
      arith,
      length-append (codes "%") (decimal scope),
      length-decimal-le 10 scope (omega arith) (omega (arith, small)) (omega (arith, small)),
    )

-- ---- an address with its port

length-socket : (socket : SocketAddr) → IsSocketAddr socket → length (socket_text socket) ≤ 60
length-socket (Socket.V4 a) is =
    let digits = length-decimal-le 5 a.port (omega arith) (omega (arith, is.1)) (omega (arith, is.1)) in
    omega (
      arith,
      digits,
      length-ipv4 (ipv4_octets a.ip) (λ k. omega (arith, is.0.1 k)),
      length-append (ipv4_text (ipv4_octets a.ip)) (codes ":"),
      length-append (ipv4_text (ipv4_octets a.ip) ++ codes ":") (decimal a.port),
    )
length-socket (Socket.V6 a) is =
    let digits = length-decimal-le 5 a.port (omega arith) (omega (arith, is.1)) (omega (arith, is.1)) in
    let address = ipv6_text (ipv6_segments a.ip) in
    let scope = scope_text a.scope_id in
    omega (
      arith,
      digits,
      length-ipv6 (ipv6_segments a.ip) is.0.0 is.0.1,
      scope_by a.scope_id (a.scope_id == 0) is.2,
      length-append (codes "[") address,
      length-append (codes "[" ++ address) scope,
      length-append (codes "[" ++ address ++ scope) (codes "]:"),
      length-append (codes "[" ++ address ++ scope ++ codes "]:") (decimal a.port),
    )

-- ---- the name

length-protocol : (protocol : FlowProtocol) → length (flow_protocol_word protocol) ≡ 3
length-protocol Udp = refl
length-protocol Tcp = refl

pub length-name : (flow : Flow) → IsSocketAddr flow.source → IsSocketAddr flow.destination → length (conversation_name flow) ≤ 128
length-name flow from to =
    let protocol = flow_protocol_word flow.protocol in
    let source = socket_text flow.source in
    let destination = socket_text flow.destination in
    omega (
      arith,
      length-protocol flow.protocol,
      length-socket flow.source from,
      length-socket flow.destination to,
      length-append protocol (codes " "),
      length-append (protocol ++ codes " ") source,
      length-append (protocol ++ codes " " ++ source) (codes " <> "),
      length-append (protocol ++ codes " " ++ source ++ codes " <> ") destination,
    )
