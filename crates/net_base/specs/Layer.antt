-- The names of the layers.
use Rattle.std.specs.Prelude.{ℕ, List, codes}
use Rattle.net_base.specs.declared.err.layer.Layer.{Layer}
use Rattle.net_base.specs.declared.err.layer.Layer.TheVariants.{UdpHeader, UdpPayload, TcpHeader, Icmpv4, Icmpv4Timestamp, Icmpv4TimestampReply, Icmpv6}

-- the name of a layer
abbrev pub word_of : Layer → List ℕ
word_of UdpHeader = codes "UdpHeader"
word_of UdpPayload = codes "UdpPayload"
word_of TcpHeader = codes "TcpHeader"
word_of Icmpv4 = codes "Icmpv4"
word_of Icmpv4Timestamp = codes "Icmpv4Timestamp"
word_of Icmpv4TimestampReply = codes "Icmpv4TimestampReply"
word_of Icmpv6 = codes "Icmpv6"
