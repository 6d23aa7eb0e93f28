-- Worked examples of numbers, link types, options and texts of captures, so that a wrong definition fails before any code does.
use Rattle.std.proofs.Common.{◌≡◌, ℕ, true, false, List, [], ◌∷◌, ◌++◌, None, Some, codes, refl, replicate}
use Rattle.ip_part.specs.Options.{options_within}
use Rattle.capture_numbers.specs.LinkTypes.{link_type_with}
use Rattle.capture_numbers.specs.Numbers.{long_at, number_at, short_at}
use Rattle.capture_numbers.specs.Options.{option_value}
use Rattle.capture_file.specs.Texts.{char_start, comments_in, interface_statistics, interface_texts, kept_comments, kept_text, no_comments, no_statistics, no_texts, texts_after}
use Rattle.capture_numbers.specs.declared.byte_order.ByteOrder.TheVariants.{BigEndian, LittleEndian}
use Rattle.capture_file.specs.declared.file_texts.FileTexts.{FileTexts}
use Rattle.capture_file.specs.declared.kept_text.KeptText.{KeptText}
use Rattle.capture_numbers.specs.declared.link_type.LinkType.TheVariants.{LinuxCooked2, RawIp}

-- ---- numbers and link types

-- the magic number A1B2C3D4 of a file of a little-endian machine (draft-ietf-opsawg-pcap, section 4)
magic_number : number_at LittleEndian (0xD4 ∷ 0xC3 ∷ 0xB2 ∷ 0xA1 ∷ []) 0 ≡ 0xA1B2C3D4
magic_number = refl

-- the byte-order magic 1A2B3C4D of a file of a big-endian machine (draft-ietf-opsawg-pcapng, section 4.1)
byte_order_magic : number_at BigEndian (0x1A ∷ 0x2B ∷ 0x3C ∷ 0x4D ∷ []) 0 ≡ 0x1A2B3C4D
byte_order_magic = refl

-- the major version 2 and the minor version 4
minor_version : short_at LittleEndian (2 ∷ 0 ∷ 4 ∷ 0 ∷ []) 2 ≡ 4
minor_version = refl

-- a section length of -1, which states no length, is the greatest number of 64 bits
no_section_length : long_at BigEndian (replicate 8 0xFF) 0 ≡ 0xFFFFFFFFFFFFFFFF
no_section_length = refl

-- link type 101 is LINKTYPE_RAW
link_type_101 : link_type_with 101 ≡ Some RawIp
link_type_101 = refl

-- link type 276 is LINKTYPE_LINUX_SLL2
link_type_276 : link_type_with 276 ≡ Some LinuxCooked2
link_type_276 = refl

-- link type 147, LINKTYPE_USER0, is not read
link_type_147 : link_type_with 147 ≡ None
link_type_147 = refl

-- ---- options

-- if_name `eth0`, opt_comment `hello` with three bytes of padding, opt_endofopt, and an if_description after the end (sections 3.5 and 4.2)
abbrev interface_options : List ℕ
interface_options =
    2 ∷ 0 ∷ 4 ∷ 0 ∷ (codes "eth0" ++ 1 ∷ 0 ∷ 5 ∷ 0 ∷ (codes "hello" ++ 0 ∷ 0 ∷ 0 ∷ 0 ∷ 0 ∷ 0 ∷ 0 ∷ 3 ∷ 0 ∷ 4 ∷ 0 ∷ codes "none"))

-- a text that is kept as a whole
abbrev pub whole : List ℕ → KeptText
whole text = record { bytes = record { items = text }; is_cut = false }

comment_of_interface : option_value LittleEndian 1 None interface_options ≡ Some (codes "hello")
unfolding options_within
comment_of_interface = refl

texts_of_interface : interface_texts LittleEndian interface_options
    ≡ record { name = whole (codes "eth0"); description = whole []; comment = whole (codes "hello"); statistics = no_statistics }
unfolding options_within
texts_of_interface = refl

-- ---- texts

-- the body of a section header block: the byte-order magic, version 1.0 and no section length, then a comment with an escape character,
-- hardware with a byte that is not UTF-8, an operating system and an application (section 4.1)
section : List ℕ
section =
    0x4D ∷ 0x3C ∷ 0x2B ∷ 0x1A ∷ 1 ∷ 0 ∷ 0 ∷ 0 ∷ (replicate 8 0xFF
    ++ 1 ∷ 0 ∷ 3 ∷ 0 ∷ 97 ∷ 0x1B ∷ 98 ∷ 0 ∷ 2 ∷ 0 ∷ 2 ∷ 0 ∷ 120 ∷ 0xE9 ∷ 0 ∷ 0 ∷
    3 ∷ 0 ∷ 5 ∷ 0 ∷ (codes "Linux" ++ 0 ∷ 0 ∷ 0 ∷ 4 ∷ 0 ∷ 4 ∷ 0 ∷ codes "dump"))

-- the body of an interface description block: Ethernet, a snap length of 262,144, then a name, a description and a comment in UTF-8
interface : List ℕ
interface =
    1 ∷ 0 ∷ 0 ∷ 0 ∷ 0 ∷ 0 ∷ 4 ∷ 0 ∷ 2 ∷ 0 ∷ 4 ∷ 0
    ∷ (codes "eth0" ++ 3 ∷ 0 ∷ 3 ∷ 0 ∷ (codes "LAN" ++ 0 ∷ 1 ∷ 0 ∷ 2 ∷ 0 ∷ 0xC3 ∷ 0xA9 ∷ 0 ∷ 0 ∷
    replicate 4 0))

-- the texts of a file with these two blocks
abbrev pub file_texts : FileTexts
file_texts = record {
  comment = whole (97 ∷ 0x1B ∷ 98 ∷ []);
  hardware = whole (120 ∷ 0xE9 ∷ []);
  operating_system = whole (codes "Linux");
  application = whole (codes "dump");
  interfaces = record {
    items = record {
      name = whole (codes "eth0");
      description = whole (codes "LAN");
      comment = whole (0xC3 ∷ 0xA9 ∷ []);
      statistics = no_statistics;
    } ∷ [];
  };
  packet_comments = no_comments;
  commented_packets = 0;
}

texts_of_file : texts_after LittleEndian 1 interface (texts_after LittleEndian 0x0A0D0D0A section no_texts) ≡ file_texts
unfolding interface options_within section
texts_of_file = refl

-- epb_flags, the comment `a`, an empty comment, opt_endofopt, and a comment after the end (sections 3.5 and 4.3)
comments_of_packet : comments_in LittleEndian
    (2 ∷ 0 ∷ 4 ∷ 0 ∷ (replicate 4 0
    ++ 1 ∷ 0 ∷ 1 ∷ 0 ∷ 97 ∷ 0 ∷ 0 ∷ 0 ∷ 1 ∷ 0 ∷ 0 ∷ 0 ∷ 0 ∷ 0 ∷ 0 ∷ 0 ∷ 1 ∷ 0 ∷ 1 ∷ 0 ∷ 98 ∷ 0 ∷ 0 ∷ 0 ∷ []))
    ≡ (97 ∷ []) ∷ ([] ∷ [])
unfolding options_within
comments_of_packet = refl

-- of five comments four are kept
fifth_comment : kept_comments ((49 ∷ []) ∷ ((50 ∷ []) ∷ ((51 ∷ []) ∷ ((52 ∷ []) ∷ ((53 ∷ []) ∷ [])))))
    ≡ record {
      texts = record { items = whole (49 ∷ []) ∷ (whole (50 ∷ []) ∷ (whole (51 ∷ []) ∷ (whole (52 ∷ []) ∷ []))) };
      more = 1;
    }
fifth_comment = refl

-- an isb_ifrecv of four bytes, which does not count, and an isb_ifdrop of 12 packets (section 4.6)
dropped_packets : interface_statistics LittleEndian (4 ∷ 0 ∷ 4 ∷ 0 ∷ 9 ∷ 0 ∷ 0 ∷ 0 ∷ 5 ∷ 0 ∷ 8 ∷ 0 ∷ 12 ∷ replicate 7 0)
    ≡ record { received = None; dropped = Some 12; dropped_by_system = None }
unfolding options_within
dropped_packets = refl

-- bytes 127 and 128 are the character U+00E9 (RFC 3629, section 3), which is left out
cut_at_character : kept_text (replicate 127 97 ++ 0xC3 ∷ 0xA9 ∷ 97 ∷ [])
    ≡ record { bytes = record { items = replicate 127 97 }; is_cut = true }
unfolding char_start
cut_at_character = refl
