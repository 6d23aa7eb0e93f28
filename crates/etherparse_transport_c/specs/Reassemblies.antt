-- Fragments, and packets that are put together from them, in the interface to C.
use Rattle.std.specs.Prelude.{◌≡◌, ◌≤◌, ◌<◌, ◌⊎◌, ℕ, nat_lt, List, [], ◌∷◌, ◌++◌, length, take, drop, replicate, Option, Some, None, Result, Ok, Err}
use Rattle.std.specs.Int.{from_bool}
use Rattle.std.specs.Option.{option_map}
use Rattle.net_base.specs.Refusals.{first_of, refused_if}
use Rattle.reassembly.specs.Fragments.{FragmentValue, fragment_of, fragment_refusal}
use Rattle.reassembly.specs.Packets.{HasPacket, IsPacket, PacketState, empty, with_fragment}
use Rattle.reassembly.specs.Reassembly.{IsComplete, refusal}
use Rattle.reassembly.specs.declared.fragment_error.FragmentError.{FragmentError}
use Rattle.reassembly.specs.declared.fragment_error.FragmentError.TheVariants.{HeaderChainCutOff, Ip}
use Rattle.reassembly.specs.declared.fragment_key.FragmentKey.{FragmentKey}
use Rattle.reassembly.specs.declared.fragment_key.FragmentKey.TheVariants as keys
use Rattle.reassembly.specs.declared.reassembly_error.ReassemblyError.{ReassemblyError}
use Rattle.reassembly.specs.declared.reassembly_error.ReassemblyError.TheVariants.{BehindEnd, BufferTooSmall, Empty, LengthNotMultipleOf8, OtherEnd, OtherKey, Overlap, TooLong, TooManyFragments}
use Rattle.etherparse_transport_c.specs.Errors.{at_front, of_buffer, of_ip, of_ip_length, of_status}
use Rattle.etherparse_transport_c.specs.Numbers as numbers
use Rattle.etherparse_transport_c.specs.declared.error.EtherparseError.{EtherparseError}
use Rattle.etherparse_transport_c.specs.declared.fragment.EtherparseFragment.{EtherparseFragment}
use Rattle.etherparse_transport_c.specs.declared.fragment.KeyFields.{KeyFields}

-- ---- errors

-- the error for a fragment whose contents are not read
abbrev pub of_fragment : FragmentError → EtherparseError
of_fragment (Ip error) = of_ip error
of_fragment (HeaderChainCutOff required_len len) = of_ip_length numbers.status_reassembly_header_chain_cut_off required_len len

-- the longest payload, in bytes
abbrev pub max_payload_len : ℕ
max_payload_len = 65535

-- The error for a fragment that is not added. `len` is the length of the fragment, the place after its last byte, or the length of the room
-- for the payload.
abbrev pub of_reassembly : ReassemblyError → EtherparseError
of_reassembly OtherKey = of_status numbers.status_reassembly_other_key
of_reassembly Empty = of_status numbers.status_reassembly_empty
of_reassembly (LengthNotMultipleOf8 len) = of_ip_length numbers.status_reassembly_fragment_length 0 len
of_reassembly (TooLong end) = of_ip_length numbers.status_reassembly_too_long max_payload_len end
of_reassembly (BufferTooSmall required_len len) = of_ip_length numbers.status_reassembly_room required_len len
of_reassembly OtherEnd = of_status numbers.status_reassembly_other_end
of_reassembly BehindEnd = of_status numbers.status_reassembly_behind_end
of_reassembly Overlap = of_status numbers.status_reassembly_overlap
of_reassembly TooManyFragments = of_status numbers.status_reassembly_too_many_fragments

-- ---- one fragment

-- The fields of a key: the version, the protocol over IPv4, the identification, and both addresses in 16 bytes.
abbrev pub key_fields : FragmentKey → KeyFields
key_fields (keys.Ipv4 source destination protocol identification) = record {
  version = 4;
  protocol = protocol.0;
  identification = identification;
  source = source ++ replicate 12 0;
  destination = destination ++ replicate 12 0;
}
key_fields (keys.Ipv6 source destination identification) = record {
  version = 6;
  protocol = 0;
  identification = identification;
  source = source;
  destination = destination;
}

-- the fragment in the form of the C struct
abbrev pub fragment_fields : FragmentValue → EtherparseFragment
fragment_fields fragment = record {
  version = (key_fields fragment.key).version;
  protocol = (key_fields fragment.key).protocol;
  identification = (key_fields fragment.key).identification;
  offset = fragment.offset;
  more_fragments = from_bool fragment.more_fragments;
  source = (key_fields fragment.key).source;
  destination = (key_fields fragment.key).destination;
  payload_offset = length fragment.header;
  payload_len = length fragment.bytes;
}

-- the refusal of a packet without padding that contains this fragment, or none
abbrev pub whole_refusal : Option FragmentValue → Option EtherparseError
whole_refusal None = Some (of_status numbers.status_reassembly_no_fragment)
whole_refusal (Some fragment) = None

-- the refusal to read the fragment in a packet: its headers are refused, or the packet is whole
unfoldable pub read_refusal : List ℕ → Option EtherparseError
read_refusal packet = first_of (option_map of_fragment (fragment_refusal packet) ∷ whole_refusal (fragment_of packet) ∷ [])

-- the C struct after the call: the fields of the fragment, or unchanged if there is none
abbrev pub fields_or : Option FragmentValue → EtherparseFragment → EtherparseFragment
fields_or None before = before
fields_or (Some fragment) before = fragment_fields fragment

-- ---- fragments one after another

-- the refusal to add the fragment in a packet
abbrev pub add_refusal : PacketState → Option FragmentValue → Option EtherparseError
add_refusal state None = None
add_refusal state (Some fragment) = option_map of_reassembly (refusal state.payload fragment)

-- the refusal of the next packet
unfoldable pub packet_refusal : PacketState → List ℕ → Option EtherparseError
packet_refusal state packet = first_of (read_refusal packet ∷ add_refusal state (fragment_of packet) ∷ [])

-- the state after the fragment was added
abbrev pub added : PacketState → Option FragmentValue → PacketState
added state None = state
added state (Some fragment) = with_fragment state fragment

-- the refusal of a length that counts more bytes than there are
unfoldable pub length_refusal : ℕ → List ℕ → Option EtherparseError
length_refusal len packets = refused_if (nat_lt (length packets) len) (of_ip_length numbers.status_reassembly_lengths len (length packets))

-- The first refusal of packets with these lengths. They are one after another in `packets`.
abbrev pub all_refusal : PacketState → List ℕ → List ℕ → Option EtherparseError
all_refusal state [] packets = None
all_refusal state (len ∷ lens) packets = first_of (
    length_refusal len packets
    ∷ packet_refusal state (take len packets)
    ∷ all_refusal (added state (fragment_of (take len packets))) lens (drop len packets)
    ∷ [])

-- the state after the fragments in these packets were added
abbrev pub after_all : PacketState → List ℕ → List ℕ → PacketState
after_all state [] packets = state
after_all state (len ∷ lens) packets = after_all (added state (fragment_of (take len packets))) lens (drop len packets)

-- ---- the packet

-- the first packet
abbrev pub first_packet : List ℕ → List ℕ → List ℕ
first_packet [] packets = []
first_packet (len ∷ lens) packets = take len packets

-- the refusal if there is no packet, or if the length of the first packet counts more bytes than there are
abbrev pub first_length_refusal : List ℕ → List ℕ → Option EtherparseError
first_length_refusal [] packets = Some (of_status numbers.status_reassembly_incomplete)
first_length_refusal (len ∷ lens) packets = length_refusal len packets

-- the refusal if there is no first packet, or if it is not a fragment
abbrev pub first_packet_refusal : List ℕ → List ℕ → Option EtherparseError
first_packet_refusal lens packets = first_of (first_length_refusal lens packets ∷ read_refusal (first_packet lens packets) ∷ [])

-- the fragment in the first packet
abbrev pub first_fragment : List ℕ → List ℕ → Option FragmentValue
first_fragment lens packets = fragment_of (first_packet lens packets)

-- the key of the first fragment
abbrev pub first_key : List ℕ → List ℕ → Option FragmentKey
first_key lens packets = option_map (λ fragment. fragment.key) (first_fragment lens packets)

-- What the call tells once all fragments were added. There are three errors: the payload is not complete, there is no whole packet, and the
-- packet does not fit.
abbrev pub TellsPacket : PacketState → List ℕ → List ℕ → ℕ → ℕ → ℕ → EtherparseError → EtherparseError → Type 0
TellsPacket state old new written before_written status error before =
    ((IsComplete state.payload → ⊥) × (error ≡ of_status numbers.status_reassembly_incomplete) × (status ≡ error.status)
    × (new ≡ old) × (written ≡ before_written))
    ⊎ (IsComplete state.payload × (HasPacket state → ⊥) × (error ≡ of_status numbers.status_reassembly_header) × (status ≡ error.status)
    × (new ≡ old) × (written ≡ before_written))
    ⊎ ((packet : List ℕ) × IsPacket state packet × (length old < length packet) × (error ≡ of_buffer (length packet) (length old))
    × (status ≡ error.status) × (new ≡ old) × (written ≡ before_written))
    ⊎ ((packet : List ℕ) × IsPacket state packet × (length packet ≤ length old) × (error ≡ before) × (status ≡ numbers.status_ok)
    × (new ≡ at_front packet old) × (written ≡ length packet))
