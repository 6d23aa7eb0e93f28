-- Echo messages and their replies (RFC 792, "Echo or Echo Reply Message"; RFC 4443, sections 4.1 and 4.2).
--
--   byte  4, 5        6, 7
--         identifier  sequence number
use Rattle.std.specs.Prelude.{ℕ, ◌+◌, ◌^◌, ◌<◌, List, ◌++◌}
use Rattle.std.specs.Int.{to_be_bytes, w16}
use Rattle.net_base.specs.Bytes.{be_number}
use Rattle.icmp_part.specs.MessageFormat.{MessageFormat, all_used}
use Rattle.icmp_part.specs.declared.icmp_echo_header.IcmpEchoHeader.{IcmpEchoHeader}

-- the fields that begin at this place: the identifier, and the sequence number two bytes later
abbrev pub echo_of : List ℕ → ℕ → IcmpEchoHeader
echo_of bytes from = record { id = be_number bytes from 2; seq = be_number bytes (from + 2) 2 }

-- the bytes of the identifier and the sequence number
abbrev pub echo_fields : IcmpEchoHeader → List ℕ
echo_fields echo = to_be_bytes w16 echo.id ++ to_be_bytes w16 echo.seq

-- the format of a header of eight bytes whose last four bytes are the identifier and the sequence number
abbrev pub echo : {Message : Type 0} → (IcmpEchoHeader → Message) → MessageFormat Message
echo variant = all_used 8 (λ bytes. variant (echo_of bytes 4))

-- both fields fit in 16 bits
abbrev pub EchoFits : IcmpEchoHeader → Type 0
EchoFits echo = (echo.id < 2 ^ 16) × (echo.seq < 2 ^ 16)
