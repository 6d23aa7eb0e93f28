-- Laws of the UDP header: reading, writing and canonical bytes.
use Rattle.std.proofs.Common.{◌≡◌, ℕ, ◌+◌, ◌<◌, ◌≤◌, List, [], ◌++◌, length, drop, take, None, refl, sym, ap, ◌∙◌, drop_of_length-le, lit≤, arith}
use Rattle.std.proofs.lemmas.Bool.Decides.{nat_tests}
use Rattle.std.proofs.lemmas.List.{get_or-take}
use Rattle.std.specs.Prelude.{◌↔◌}
use Rattle.net_base.specs.Bytes.{IsBytes, be_number}
use Rattle.net_base.proofs.BytesLemmas.{be_number-same, to_be_bytes-be_number_2}
use Rattle.net_base.proofs.MaskedLemmas.{ReadsKeptBits, masked-all, read_alike}
use Rattle.udp_part.specs.UdpFormat.{DecodesAs, canonical, header_of, layout, refusal, wire}
use Rattle.udp_part.specs.declared.udp_header.UdpHeader.{UdpHeader}

-- every bit of a UDP header is kept
pub canonical-bytes : (bytes : List ℕ) → IsBytes bytes → canonical bytes ≡ bytes
canonical-bytes bytes fits = masked-all 8 bytes fits

-- accepted bytes contain a whole header
pub length-accepted : (bytes : List ℕ) → refusal bytes ≡ None → 8 ≤ length bytes
length-accepted bytes accepted = grind (arith, nat_tests)

-- bytes with a whole header are accepted
accepted_whole : (bytes : List ℕ) → 8 ≤ length bytes → refusal bytes ≡ None
accepted_whole bytes whole = grind (arith, nat_tests)

-- headers are equal if their fields are equal
pub same_fields : (header other : UdpHeader) → header.source_port ≡ other.source_port → header.destination_port ≡ other.destination_port
    → header.length ≡ other.length → header.checksum ≡ other.checksum → header ≡ other
same_fields header other a b c d = λ i. record { source_port = a i; destination_port = b i; length = c i; checksum = d i }

-- the first eight bytes are read as the same header as all bytes
header_of-take : (bytes : List ℕ) → header_of (take 8 bytes) ≡ header_of bytes
header_of-take bytes =
    let number : (from : ℕ) → from + 2 ≤ 8 → be_number (take 8 bytes) from 2 ≡ be_number bytes from 2 =
    λ from within. be_number-same (take 8 bytes) bytes from 2 (λ place below. get_or-take 8 bytes (from + place) 0 (omega arith)) in
    same_fields (header_of (take 8 bytes)) (header_of bytes)
    (number 0 (omega arith)) (number 2 (omega arith)) (number 4 (omega arith)) (number 6 (omega arith))

-- bytes are read as the header in their front, and the bytes after it
pub decoded : (bytes kept : List ℕ) (header : UdpHeader) (rest : List ℕ) → refusal bytes ≡ None → kept ≡ take 8 bytes
    → header ≡ header_of kept → rest ≡ drop 8 bytes → DecodesAs bytes header rest
decoded bytes kept header rest accepted front fields after = record {
  accepted = accepted;
  fields = fields ∙ ap header_of front ∙ header_of-take bytes;
  after_header = after;
}

-- writing the header of bytes, and the bytes after it, gives the same bytes
pub wire-header_of : (bytes rest : List ℕ) → IsBytes bytes → 8 ≤ length bytes → rest ≡ drop 8 bytes → wire (header_of bytes) ++ rest ≡ bytes
wire-header_of bytes rest fits enough after =
    to_be_bytes-be_number_2 bytes 0 2 _ _ fits refl (omega arith) refl
    (to_be_bytes-be_number_2 bytes 2 4 _ _ fits refl (omega arith) refl
    (to_be_bytes-be_number_2 bytes 4 6 _ _ fits refl (omega arith) refl
    (to_be_bytes-be_number_2 bytes 6 8 _ _ fits refl (omega arith) refl after)))

-- eight bytes are equal to the bytes of the header read from them
pub wire-header_of_whole : (bytes : List ℕ) → IsBytes bytes → length bytes ≡ 8 → wire (header_of bytes) ≡ bytes
wire-header_of_whole bytes fits eight =
    wire-header_of bytes [] fits (omega arith) (sym (drop_of_length-le bytes {i = 8} (omega arith)))

-- writing the header and the rest gives the canonical bytes
pub written_back : (bytes : List ℕ) (header : UdpHeader) (rest : List ℕ) → IsBytes bytes → DecodesAs bytes header rest
    → wire header ++ rest ≡ canonical bytes
written_back bytes header rest fits read =
    ap (λ h. wire h ++ rest) read.fields
    ∙ wire-header_of bytes rest fits (length-accepted bytes read.accepted) read.after_header
    ∙ sym (canonical-bytes bytes fits)

-- reading depends only on the kept bits, and all bits are kept
reads_kept_bits : (bytes : List ℕ) → IsBytes bytes → ReadsKeptBits header_of (λ packet. layout) bytes
reads_kept_bits bytes fits = record {
  same_header = ap header_of (canonical-bytes bytes fits);
  same_len = refl;
  masks_within = lit≤ tt;
}

-- two accepted inputs decode alike exactly if their canonical bytes are the same
pub decode_alike : (bytes other : List ℕ) (header : UdpHeader) (rest : List ℕ) → IsBytes bytes → IsBytes other → refusal other ≡ None
    → DecodesAs bytes header rest → (DecodesAs other header rest ↔ (canonical other ≡ canonical bytes))
decode_alike bytes other header rest fits other_fits accepted read = (
  λ alike. sym (written_back other header rest other_fits alike) ∙ written_back bytes header rest fits read,
  λ same.
      let both = read_alike (λ packet. layout) bytes other (reads_kept_bits bytes fits) (reads_kept_bits other other_fits) same in
      record { accepted = accepted; fields = read.fields ∙ both.0; after_header = read.after_header ∙ both.1 },
)

-- the fields of a header are in the ranges of their types
pub record FitsHeader (header : UdpHeader) : Type 0 where
  pub source_port : header.source_port < 65536
  pub destination_port : header.destination_port < 65536
  pub length : header.length < 65536
  pub checksum : header.checksum < 65536

-- a written header is read back, and the bytes after it are the rest
pub reads_back : (header : UdpHeader) (payload : List ℕ) → FitsHeader header → DecodesAs (wire header ++ payload) header payload
reads_back header payload fits = record {
  accepted = accepted_whole (wire header ++ payload) (omega arith);
  fields = same_fields header (header_of (wire header ++ payload))
      (omega (arith, fits.source_port)) (omega (arith, fits.destination_port)) (omega (arith, fits.length)) (omega (arith, fits.checksum));
  after_header = refl;
}
