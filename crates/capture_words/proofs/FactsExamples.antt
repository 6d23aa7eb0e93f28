-- Worked examples of the facts of a capture as text, so that a wrong definition fails before any code does. The texts are those of tests of
-- `capture_words`.
use Rattle.std.proofs.Common.{◌≡◌, ◌++◌, [], ◌∷◌, Err, codes, pos, refl}
use Rattle.std.specs.Char.{encode_utf8}
use Rattle.std.specs.Fmt.{char_count, digits, padded_integral}
use Rattle.std.specs.Str.{chars, is_utf8}
use Rattle.capture_file.proofs.TextsExamples.{file_texts}
use Rattle.capture_numbers.specs.declared.byte_order.ByteOrder.TheVariants.{BigEndian}
use Rattle.capture_file.specs.declared.classic.record_header.Resolution.TheVariants.{Microseconds}
use Rattle.capture_file.specs.declared.pcapng.interface_description.InterfaceDescription.{InterfaceDescription}
use Rattle.capture_file.specs.declared.pcapng.time_resolution.TimeResolution.TheVariants.{PowerOfTen}
use Rattle.capture_words.specs.FactsText.{classic_text, pcapng_text}
use Rattle.capture_words.specs.ShownText.{shown_bytes}

classic : classic_text (record { byte_order = BigEndian; resolution = Microseconds; snap_len = 0; link_type = Err 147 })
    ≡ codes "file type classic, byte order big-endian, snap length 0, time resolution 10^-6 s\n"
unfolding digits
classic = refl

-- ---- a pcapng file

-- an Ethernet interface with a snap length of 262,144 bytes
abbrev described : InterfaceDescription
described = record { link_type = 1; snap_len = 262144; time_resolution = PowerOfTen 6; time_offset = pos 0 }

lines_of_file : pcapng_text (codes "little-endian") file_texts (described ∷ []) file_texts.interfaces.items
    ≡ codes "file type pcapng, byte order little-endian, interfaces 1\napplication dump\noperating system Linux\nhardware x\\xE9\n"
    ++ codes "comment a\\x1Bb\ninterface 0, snap length 262144, time resolution 10^-6 s\ninterface 0 name eth0\n"
    ++ codes "interface 0 description LAN\ninterface 0 comment " ++ 0xC3 ∷ 0xA9 ∷ 10 ∷ []
unfolding char_count chars digits encode_utf8 is_utf8 padded_integral
lines_of_file = refl

-- ---- texts

-- a name in Latin-1, whose last byte is not UTF-8
latin_1 : shown_bytes (codes "caf" ++ 0xE9 ∷ []) ≡ codes "caf\\xE9"
unfolding char_count chars digits encode_utf8 is_utf8 padded_integral
latin_1 = refl

-- a line feed and a sequence that clears a terminal
control_characters : shown_bytes (97 ∷ 10 ∷ 0x1B ∷ codes "[2J") ≡ codes "a\\x0A\\x1B[2J"
unfolding char_count chars digits encode_utf8 is_utf8 padded_integral
control_characters = refl
