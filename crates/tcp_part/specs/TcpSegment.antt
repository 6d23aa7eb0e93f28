-- A TCP segment in one list of bytes: its header, whose length the data offset states, and the payload after it (RFC 9293, section 3.1).
use Rattle.std.specs.Prelude.{ℕ, ◌*◌, List, take, drop}
use Rattle.tcp_part.specs.TcpFormat.{data_offset}

-- the bytes of the header with its options
abbrev pub header_bytes : List ℕ → List ℕ
header_bytes segment = take (data_offset segment * 4) segment

-- the bytes after the header
abbrev pub payload_bytes : List ℕ → List ℕ
payload_bytes segment = drop (data_offset segment * 4) segment
