-- Canonical bytes are accepted, and are their own canonical bytes.
use Rattle.std.proofs.Common.{◌≡◌, ℕ, ◌≤◌, ◌*◌, ◌+◌, ◌-◌, List, ◌∷◌, ◌++◌, length, drop, take, replicate, length-append, length-drop, slice_index, Option, Some, None, refl, sym, ap, ◌∙◌, subst, arith}
use Rattle.std.proofs.Math.Seq.{take-append_seam}
use Rattle.std.proofs.lemmas.Bool.Decides.{nat_tests}
use Rattle.std.specs.Option.{option_map}
use Rattle.std.specs.Prelude.{Result, Ok, Err, IfOk}
use Rattle.ip_part.specs.declared.proto.Proto.{Proto}
use Rattle.ip_part.specs.declared.proto.Proto.TheVariants.{Udp, Tcp, Icmpv4, Icmpv6}
use Rattle.net_base.specs.Bytes.{HeaderLayout, IsBytes, masked}
use Rattle.net_base.specs.declared.err.len_error.LenError.{LenError}
use Rattle.net_base.specs.declared.err.tcp.header_slice_error.HeaderSliceError.TheVariants.{Len}
use Rattle.net_base.proofs.MaskedLemmas.{length-masked, masked-masked, slice_index-masked_kept}
use Rattle.udp_part.specs.UdpFormat as udp
use Rattle.udp_part.proofs.UdpFormatLemmas as udp_laws
use Rattle.tcp_part.specs.TcpFormat as tcp
use Rattle.tcp_part.proofs.TcpFormatLemmas as tcp_laws
use Rattle.icmp_part.specs.Icmpv4Format as icmpv4
use Rattle.icmp_part.proofs.Icmpv4FormatLemmas as icmpv4_laws
use Rattle.icmp_part.specs.Icmpv6Format as icmpv6
use Rattle.icmp_part.proofs.Icmpv6FormatLemmas as icmpv6_laws
use Rattle.etherparse_transport.specs.Formats.{DecodesAs, IsCanonical, WritesDecoded, canonical, proto_of, refusal}
use Rattle.transport_part.specs.Layouts.{layout_of}
use Rattle.etherparse_transport.specs.declared.transport_header.TransportHeader.{TransportHeader}
use Rattle.etherparse_transport.specs.declared.transport_header.TransportHeader.TheVariants as headers

-- if masked bytes have the masks of the bytes, masking them again changes nothing
masked_again : (layout_of : List ℕ → HeaderLayout) (bytes : List ℕ) → layout_of (masked ((layout_of bytes).masks) bytes) ≡ layout_of bytes
    → masked ((layout_of (masked ((layout_of bytes).masks) bytes)).masks) (masked ((layout_of bytes).masks) bytes)
    ≡ masked ((layout_of bytes).masks) bytes
masked_again layout_of bytes same =
    ap (λ layout. masked (layout.masks) (masked ((layout_of bytes).masks) bytes)) same ∙ masked-masked ((layout_of bytes).masks) bytes

canonical_udp : (bytes : List ℕ) → IsBytes bytes → udp.refusal bytes ≡ None → IsCanonical Udp (udp.canonical bytes)
canonical_udp bytes fits accepted =
    let same = udp_laws.canonical-bytes bytes fits in
    record {
      accepted = ap (λ b. option_map Len (udp.refusal b)) same ∙ ap (option_map Len) accepted;
      unchanged = ap udp.canonical same;
    }

-- the data offset determines the layout of a TCP header
layout_of_offset : (bytes other : List ℕ) → tcp.data_offset bytes ≡ tcp.data_offset other → tcp.layout_of bytes ≡ tcp.layout_of other
layout_of_offset bytes other same = ap (λ offset. record {
  header_len = offset * 4;
  masks = replicate 12 0xff ++ (0xf1 ∷ replicate (offset * 4 - 13) 0xff);
}) same

canonical_tcp : (bytes : List ℕ) → IsBytes bytes → tcp.refusal bytes ≡ None → IsCanonical Tcp (tcp.canonical bytes)
canonical_tcp bytes fits accepted =
    let offset = tcp_laws.data_offset-canonical bytes fits in
    let long = tcp_laws.length-accepted bytes accepted in
    let len = length-masked ((tcp.layout_of bytes).masks) bytes in
    record {
      accepted = tcp_laws.accepted_whole (tcp.canonical bytes) (omega (arith, long.0, long.1, len)) (omega (arith, long.0, offset))
          (omega (arith, long.1, offset, len));
      unchanged = masked_again tcp.layout_of bytes (layout_of_offset (tcp.canonical bytes) bytes offset);
    }

-- type and code determine the format of an ICMPv4 message
icmpv4_format_of_alike : (bytes other : List ℕ) → slice_index other 0 ≡ slice_index bytes 0 → slice_index other 1 ≡ slice_index bytes 1
    → icmpv4.format_of other ≡ icmpv4.format_of bytes
unfolding icmpv4.format_of
icmpv4_format_of_alike bytes other type code =
    ap (λ t. icmpv4.format_at t (slice_index other 1)) type ∙ ap (λ c. icmpv4.format_at (slice_index bytes 0) c) code

icmpv4_accepted_alike : (bytes other : List ℕ) → length other ≡ length bytes → slice_index other 0 ≡ slice_index bytes 0
    → slice_index other 1 ≡ slice_index bytes 1
    → icmpv4.refusal bytes ≡ None → icmpv4.refusal other ≡ None
icmpv4_accepted_alike bytes other len type code accepted = grind (arith, nat_tests)

canonical_icmpv4 : (bytes : List ℕ) → IsBytes bytes → icmpv4.refusal bytes ≡ None → IsCanonical Icmpv4 (icmpv4.canonical bytes)
canonical_icmpv4 bytes fits accepted =
    let lawful = icmpv4_laws.format_of-lawful bytes in
    let type = slice_index-masked_kept ((icmpv4.layout_of bytes).masks) bytes 0 fits lawful.keeps_type in
    let code = slice_index-masked_kept ((icmpv4.layout_of bytes).masks) bytes 1 fits lawful.keeps_code in
    let len = length-masked ((icmpv4.layout_of bytes).masks) bytes in
    record {
      accepted = ap (option_map Len) (icmpv4_accepted_alike bytes (icmpv4.canonical bytes) len type code accepted);
      unchanged = masked_again icmpv4.layout_of bytes
          (ap (λ format. format.layout) (icmpv4_format_of_alike bytes (icmpv4.canonical bytes) type code));
    }

-- type and code determine the format of an ICMPv6 message
icmpv6_format_of_alike : (bytes other : List ℕ) → slice_index other 0 ≡ slice_index bytes 0 → slice_index other 1 ≡ slice_index bytes 1
    → icmpv6.format_of other ≡ icmpv6.format_of bytes
unfolding icmpv6.format_of
icmpv6_format_of_alike bytes other type code =
    ap (λ t. icmpv6.format_at t (slice_index other 1)) type ∙ ap (λ c. icmpv6.format_at (slice_index bytes 0) c) code

icmpv6_accepted_alike : (bytes other : List ℕ) → length other ≡ length bytes → slice_index other 0 ≡ slice_index bytes 0
    → slice_index other 1 ≡ slice_index bytes 1
    → icmpv6.refusal bytes ≡ None → icmpv6.refusal other ≡ None
icmpv6_accepted_alike bytes other len type code accepted = grind (arith, nat_tests)

canonical_icmpv6 : (bytes : List ℕ) → IsBytes bytes → icmpv6.refusal bytes ≡ None → IsCanonical Icmpv6 (icmpv6.canonical bytes)
canonical_icmpv6 bytes fits accepted =
    let lawful = icmpv6_laws.format_of-lawful bytes in
    let type = slice_index-masked_kept ((icmpv6.layout_of bytes).masks) bytes 0 fits lawful.keeps_type in
    let code = slice_index-masked_kept ((icmpv6.layout_of bytes).masks) bytes 1 fits lawful.keeps_code in
    let len = length-masked ((icmpv6.layout_of bytes).masks) bytes in
    record {
      accepted = ap (option_map Len) (icmpv6_accepted_alike bytes (icmpv6.canonical bytes) len type code accepted);
      unchanged = masked_again icmpv6.layout_of bytes
          (ap (λ format. format.layout) (icmpv6_format_of_alike bytes (icmpv6.canonical bytes) type code));
    }

-- an error that becomes no error as `Len` is no error
accepted_by_len : (refusal : Option LenError) → option_map Len refusal ≡ None → refusal ≡ None
accepted_by_len None accepted = refl
accepted_by_len (Some error) accepted = absurd (grind arith)

is_canonical : (protocol : Proto) (bytes : List ℕ) → IsBytes bytes → refusal protocol bytes ≡ None
    → IsCanonical protocol (canonical protocol bytes)
is_canonical Udp bytes fits accepted = canonical_udp bytes fits (accepted_by_len (udp.refusal bytes) accepted)
is_canonical Tcp bytes fits accepted = canonical_tcp bytes fits accepted
is_canonical Icmpv4 bytes fits accepted = canonical_icmpv4 bytes fits (accepted_by_len (icmpv4.refusal bytes) accepted)
is_canonical Icmpv6 bytes fits accepted = canonical_icmpv6 bytes fits (accepted_by_len (icmpv6.refusal bytes) accepted)

-- the canonical bytes of accepted bytes are canonical
canonical_again : (protocol : Proto) (bytes written : List ℕ) → IsBytes bytes → refusal protocol bytes ≡ None
    → written ≡ canonical protocol bytes → IsCanonical protocol written
canonical_again protocol bytes written fits accepted same =
    let P : List ℕ → Type 0 = λ b. IsCanonical protocol b in
    subst P (sym same) (is_canonical protocol bytes fits accepted)

-- accepted bytes contain their whole header
header_len-within : (protocol : Proto) (bytes : List ℕ) → refusal protocol bytes ≡ None
    → (layout_of protocol bytes).header_len ≤ length bytes
header_len-within Udp bytes accepted = udp_laws.length-accepted bytes (accepted_by_len (udp.refusal bytes) accepted)
header_len-within Tcp bytes accepted = (tcp_laws.length-accepted bytes accepted).1
header_len-within Icmpv4 bytes accepted =
    icmpv4_laws.header_len_whole bytes (icmpv4_laws.accepted-whole bytes (accepted_by_len (icmpv4.refusal bytes) accepted))
header_len-within Icmpv6 bytes accepted =
    let whole = icmpv6_laws.accepted-length bytes (accepted_by_len (icmpv6.refusal bytes) accepted) in
    omega (arith, icmpv6_laws.header_len_eight bytes, whole.shortest)

length-canonical : (protocol : Proto) (bytes : List ℕ) → length (canonical protocol bytes) ≡ length bytes
length-canonical Udp bytes = length-masked (udp.layout.masks) bytes
length-canonical Tcp bytes = length-masked ((tcp.layout_of bytes).masks) bytes
length-canonical Icmpv4 bytes = length-masked ((icmpv4.layout_of bytes).masks) bytes
length-canonical Icmpv6 bytes = length-masked ((icmpv6.layout_of bytes).masks) bytes

-- the bytes in front of the rest are the header of the canonical bytes, so the rest is the bytes after the header
canonical_front : (protocol : Proto) (bytes header rest : List ℕ) → refusal protocol bytes ≡ None
    → header ++ rest ≡ canonical protocol bytes → rest ≡ drop (layout_of protocol bytes).header_len bytes
    → header ≡ take (layout_of protocol bytes).header_len (canonical protocol bytes)
canonical_front protocol bytes header rest accepted whole after =
    let within = header_len-within protocol bytes accepted in
    let rest_len : length rest ≡ length bytes - (layout_of protocol bytes).header_len =
    rw after (length-drop (layout_of protocol bytes).header_len bytes) in
    let whole_len : length header + length rest ≡ length bytes =
    sym (length-append header rest) ∙ ap length whole ∙ length-canonical protocol bytes in
    let len : length header ≡ (layout_of protocol bytes).header_len = omega arith in
    sym (take-append_seam header rest) ∙ ap (λ n. take n (header ++ rest)) len ∙ ap (take (layout_of protocol bytes).header_len) whole

-- bytes that are read are accepted, and the rest is the bytes after the header
decoded-accepted : (bytes : List ℕ) (header : TransportHeader) (rest : List ℕ) → DecodesAs bytes header rest
    → refusal (proto_of header) bytes ≡ None
decoded-accepted bytes (headers.Udp header) rest decodes = ap (option_map Len) decodes.accepted
decoded-accepted bytes (headers.Tcp header) rest decodes = decodes.accepted
decoded-accepted bytes (headers.Icmpv4 header) rest decodes = ap (option_map Len) decodes.accepted
decoded-accepted bytes (headers.Icmpv6 header) rest decodes = ap (option_map Len) decodes.accepted

decoded-rest : (bytes : List ℕ) (header : TransportHeader) (rest : List ℕ) → DecodesAs bytes header rest
    → rest ≡ drop (layout_of (proto_of header) bytes).header_len bytes
decoded-rest bytes (headers.Udp header) rest decodes = decodes.after_header
decoded-rest bytes (headers.Tcp header) rest decodes = decodes.after_header
decoded-rest bytes (headers.Icmpv4 header) rest decodes = decodes.after_header
decoded-rest bytes (headers.Icmpv6 header) rest decodes = decodes.after_header

-- bytes whose decoded header and rest are written are accepted
written-accepted : (protocol : Proto) (bytes header rest : List ℕ) → WritesDecoded protocol bytes header rest
    → refusal protocol bytes ≡ None
written-accepted protocol bytes header rest written =
    let P : Proto → Type 0 = λ p. refusal p bytes ≡ None in
    subst P written.protocol_of_header (decoded-accepted bytes written.header rest written.decodes)

written-rest : (protocol : Proto) (bytes header rest : List ℕ) → WritesDecoded protocol bytes header rest
    → rest ≡ drop (layout_of protocol bytes).header_len bytes
written-rest protocol bytes header rest written =
    let P : Proto → Type 0 = λ p. rest ≡ drop (layout_of p bytes).header_len bytes in
    subst P written.protocol_of_header (decoded-rest bytes written.header rest written.decodes)

-- the found header, if header and rest are the canonical bytes
pub found_front : {T E : Type 0} (protocol : Proto) (bytes : List ℕ) (header rest : T → List ℕ) (result : Result T E)
    → IfOk result (λ found. WritesDecoded protocol bytes (header found) (rest found))
    → IfOk result (λ found. header found ++ rest found ≡ canonical protocol bytes)
    → IfOk result (λ found. header found ≡ take (layout_of protocol bytes).header_len (canonical protocol bytes))
found_front protocol bytes header rest (Ok found) decoded whole =
    canonical_front protocol bytes (header found) (rest found)
    (written-accepted protocol bytes (header found) (rest found) decoded) whole
    (written-rest protocol bytes (header found) (rest found) decoded)
found_front protocol bytes header rest (Err error) decoded whole = tt

pub found_again : {T E : Type 0} (protocol : Proto) (bytes : List ℕ) (header rest : T → List ℕ) (result : Result T E) → IsBytes bytes
    → IfOk result (λ found. WritesDecoded protocol bytes (header found) (rest found))
    → IfOk result (λ found. header found ++ rest found ≡ canonical protocol bytes)
    → IfOk result (λ found. IsCanonical protocol (header found ++ rest found))
found_again protocol bytes header rest (Ok found) fits decoded whole =
    canonical_again protocol bytes (header found ++ rest found) fits
    (written-accepted protocol bytes (header found) (rest found) decoded) whole
found_again protocol bytes header rest (Err error) fits decoded whole = tt
