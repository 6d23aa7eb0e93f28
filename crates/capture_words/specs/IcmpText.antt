-- The common part of the lines of ICMPv4 and ICMPv6.
use Rattle.std.specs.Prelude.{ℕ, List, [], ◌++◌, codes, decimal, Option, None, Some}
use Rattle.icmp_part.specs.declared.icmp_echo_header.IcmpEchoHeader.{IcmpEchoHeader}
use Rattle.capture_words.specs.Numbers.{hex_bytes}

-- the name of a message, its code, and the meaning of the code
abbrev pub named_message : List ℕ → ℕ → List ℕ → List ℕ
named_message name code meaning = name ++ (codes ", code " ++ (decimal code ++ (codes " (" ++ (meaning ++ codes ")"))))

-- a field of a message: a comma, the name of the field, and its value
abbrev pub field_text : List ℕ → ℕ → List ℕ
field_text name value = codes ", " ++ (name ++ (codes " " ++ decimal value))

-- a field of a message, or nothing if the message does not have it
abbrev pub optional_field : List ℕ → Option ℕ → List ℕ
optional_field name None = []
optional_field name (Some value) = field_text name value

-- an echo request or an echo reply
abbrev pub echo_text : List ℕ → IcmpEchoHeader → List ℕ
echo_text name echo =
    name ++ (codes ", code 0, identifier " ++ (decimal echo.id ++ (codes ", sequence number " ++ decimal echo.seq)))

-- a message that is not read: its type, its code, and its bytes 5 to 8
abbrev pub unknown_text : ℕ → ℕ → List ℕ → List ℕ
unknown_text type code bytes =
    codes "type " ++ (decimal type ++ (codes ", code " ++ (decimal code ++ (codes ", bytes 5 to 8 " ++ hex_bytes bytes))))
