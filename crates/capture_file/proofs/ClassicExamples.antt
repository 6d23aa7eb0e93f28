-- Worked examples of captures, so that a wrong definition fails before any code does.
use Rattle.std.proofs.Common.{◌≡◌, ℕ, List, [], ◌∷◌, ◌++◌, None, Some, Err, Ok, arith, inl, refl, replicate}
use Rattle.capture_file.specs.Classic.{form_of, header_refusal, link_type_or_number, record_header, record_len, IsHeaderOf, IsReading, IsRecord}
use Rattle.capture_numbers.specs.LinkTypes.{link_type_with}
use Rattle.capture_file.specs.Reading.{required_len}
use Rattle.capture_numbers.specs.declared.byte_order.ByteOrder.TheVariants.{BigEndian, LittleEndian}
use Rattle.capture_file.specs.declared.classic.capture_header_error.CaptureHeaderError.TheVariants.{CutOff, Magic, Modified, Pcapng, Version}
use Rattle.capture_numbers.specs.declared.link_type.LinkType.TheVariants.{Ethernet, LinuxCooked2}
use Rattle.capture_file.specs.declared.classic.record_header.Resolution.TheVariants.{Microseconds, Nanoseconds}

-- the header of a little-endian capture: version 2.4, a snap length of 262,144 bytes, Ethernet
abbrev ethernet : List ℕ
ethernet = 212 ∷ 195 ∷ 178 ∷ 161 ∷ 2 ∷ 0 ∷ 4 ∷ 0 ∷ 0 ∷ 0 ∷ 0 ∷ 0 ∷ 0 ∷ 0 ∷ 0 ∷ 0 ∷ 0 ∷ 0 ∷ 4 ∷ 0 ∷ 1 ∷ 0 ∷ 0 ∷ 0 ∷ []

little_endian_microseconds : form_of ethernet ≡ Some (LittleEndian, Microseconds)
little_endian_microseconds = refl

ethernet_is_read : header_refusal ethernet ≡ None
ethernet_is_read = refl

ethernet_header : IsHeaderOf ethernet
    (record { byte_order = LittleEndian; resolution = Microseconds; snap_len = 262144; link_type = Ok Ethernet })
ethernet_header = record { resolution = refl; snap_len = refl; link_type = refl }

big_endian_nanoseconds : form_of (161 ∷ 178 ∷ 60 ∷ 77 ∷ []) ≡ Some (BigEndian, Nanoseconds)
big_endian_nanoseconds = refl

other_magic : header_refusal (1 ∷ 2 ∷ 3 ∷ 4 ∷ replicate 20 0) ≡ Some (Magic 16909060)
other_magic = refl

modified : header_refusal (52 ∷ 205 ∷ 178 ∷ 161 ∷ replicate 20 0) ≡ Some Modified
modified = refl

version_2_3 : header_refusal (161 ∷ 178 ∷ 195 ∷ 212 ∷ 0 ∷ 2 ∷ 0 ∷ 3 ∷ replicate 16 0) ≡ Some (Version 2 3)
version_2_3 = refl

other_link_type : link_type_or_number 147 ≡ Err 147
other_link_type = refl

pcapng_before_length : header_refusal (10 ∷ 13 ∷ 13 ∷ 10 ∷ []) ≡ Some Pcapng
pcapng_before_length = refl

no_byte : header_refusal [] ≡ Some (CutOff 0)
no_byte = refl

link_type_276 : link_type_with 276 ≡ Some LinuxCooked2
link_type_276 = refl

-- a record from second 1 and fraction 2, with 3 captured bytes of a packet of 4 bytes
abbrev three_of_four : List ℕ
three_of_four = 1 ∷ 0 ∷ 0 ∷ 0 ∷ 2 ∷ 0 ∷ 0 ∷ 0 ∷ 3 ∷ 0 ∷ 0 ∷ 0 ∷ 4 ∷ 0 ∷ 0 ∷ 0 ∷ 170 ∷ 187 ∷ 204 ∷ []

three_of_four_header : record_header LittleEndian three_of_four
    ≡ record { time = record { seconds = 1; fraction = 2 }; captured_len = 3; original_len = 4 }
three_of_four_header = refl

three_of_four_is_record : IsRecord LittleEndian three_of_four
three_of_four_is_record = refl

other_order : record_len BigEndian three_of_four ≡ 50331664
other_order = refl

-- a record, and the first byte of another record
one_record : IsReading LittleEndian (three_of_four ++ 1 ∷ []) (three_of_four ∷ []) (1 ∷ [])
one_record = record { whole = refl; each = (refl, tt); partial = inl (omega arith) }

one_byte_missing : required_len LittleEndian (7 ∷ replicate 7 0 ++ 3 ∷ replicate 9 0) ≡ 19
one_byte_missing = refl

header_missing : required_len LittleEndian (7 ∷ []) ≡ 16
header_missing = refl
