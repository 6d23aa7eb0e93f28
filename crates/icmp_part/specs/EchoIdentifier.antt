-- The identifier of echo messages, and messages whose identifier is replaced.
use Rattle.std.specs.Prelude.{ℕ, Option, Some, None}
use Rattle.icmp_part.specs.declared.icmpv4_type.Icmpv4Type.{Icmpv4Type}
use Rattle.icmp_part.specs.declared.icmpv4_type.Icmpv4Type.TheVariants as v4
use Rattle.icmp_part.specs.declared.icmpv6_type.Icmpv6Type.{Icmpv6Type}
use Rattle.icmp_part.specs.declared.icmpv6_type.Icmpv6Type.TheVariants as v6

-- the identifier of an ICMPv4 echo request or echo reply; other messages contain no identifier
abbrev pub icmpv4_echo_id : Icmpv4Type → Option ℕ
icmpv4_echo_id (v4.EchoRequest echo) = Some echo.id
icmpv4_echo_id (v4.EchoReply echo) = Some echo.id
icmpv4_echo_id other = None

-- the identifier of an ICMPv6 echo request or echo reply; other messages contain no identifier
abbrev pub icmpv6_echo_id : Icmpv6Type → Option ℕ
icmpv6_echo_id (v6.EchoRequest echo) = Some echo.id
icmpv6_echo_id (v6.EchoReply echo) = Some echo.id
icmpv6_echo_id other = None

-- the ICMPv4 message with its identifier replaced by this identifier; a message that contains no identifier is unchanged
abbrev pub icmpv4_with_echo_id : Icmpv4Type → ℕ → Icmpv4Type
icmpv4_with_echo_id (v4.EchoRequest echo) id = v4.EchoRequest (record echo { id = id })
icmpv4_with_echo_id (v4.EchoReply echo) id = v4.EchoReply (record echo { id = id })
icmpv4_with_echo_id other id = other

-- the ICMPv6 message with its identifier replaced by this identifier; a message that contains no identifier is unchanged
abbrev pub icmpv6_with_echo_id : Icmpv6Type → ℕ → Icmpv6Type
icmpv6_with_echo_id (v6.EchoRequest echo) id = v6.EchoRequest (record echo { id = id })
icmpv6_with_echo_id (v6.EchoReply echo) id = v6.EchoReply (record echo { id = id })
icmpv6_with_echo_id other id = other
