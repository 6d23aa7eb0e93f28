-- A written header is read back unchanged, with any bytes after it.
use Rattle.std.proofs.Common.{◌≡◌, ℕ, ◌+◌, ◌-◌, ◌*◌, ◌/◌, ◌%◌, ◌^◌, ◌<◌, ◌≤◌, Bool, true, false, List, ◌++◌, length, drop, take, bit_and, refl, sym, ap, ◌∙◌, length-append, length-drop, arith}
use Rattle.std.proofs.Math.Seq.{drop-append_seam, take-append_seam}
use Rattle.std.proofs.lemmas.Bool.Decides.{nat_tests}
use Rattle.std.proofs.lemmas.List.{drop-drop}
use Rattle.std.proofs.lemmas.Nat.Bits.{and_pow}
use Rattle.std.specs.Prelude.{not, ◌==◌}
use Rattle.std.specs.Int.{from_bool}
use Rattle.net_base.specs.Bytes.{be_number, flag}
use Rattle.tcp_part.specs.TcpFormat.{DecodesAs, data_offset, flags_byte, header_of, offset_byte, options_of, wire}
use Rattle.tcp_part.specs.declared.tcp_header.TcpHeader.{TcpHeader}
use Rattle.tcp_part.proofs.TcpFormatLemmas.{accepted_whole}

from_bool-lt : (b : Bool) → from_bool b < 2
from_bool-lt true = omega arith
from_bool-lt false = omega arith

-- a flag, times its bit, is not 0 exactly if the flag is set
tested_flag : (kept bit : ℕ) (b : Bool) → 0 < bit → kept ≡ from_bool b * bit → b ≡ not (kept == 0)
tested_flag kept bit false some e = let none : kept ≡ 0 = omega arith in rw none refl
tested_flag kept bit true some e =
    let some_kept : (kept == 0) ≡ false = grind (arith, nat_tests) in
    rw some_kept refl

-- a flag that is written as one bit of a number is read from the number
flag_read : (number k : ℕ) (b : Bool) → 0 < 2 ^ k → number / 2 ^ k % 2 ≡ from_bool b → b ≡ not (bit_and number (2 ^ k) == 0)
flag_read number k b some e = tested_flag (bit_and number (2 ^ k)) (2 ^ k) b some (and_pow number k ∙ ap (λ n. n * 2 ^ k) e)

-- the fields of a header are in the ranges of their types
pub record FitsHeader (header : TcpHeader) : Type 0 where
  pub source_port : header.source_port < 65536
  pub destination_port : header.destination_port < 65536
  pub sequence_number : header.sequence_number < 4294967296
  pub acknowledgment_number : header.acknowledgment_number < 4294967296
  pub window_size : header.window_size < 65536
  pub checksum : header.checksum < 65536
  pub urgent_pointer : header.urgent_pointer < 65536
  pub at_most : length header.options ≤ 40
  pub whole_words : length header.options % 4 ≡ 0

-- headers are equal if their fields are equal
pub same_fields : (header other : TcpHeader)
    → header.source_port ≡ other.source_port
    → header.destination_port ≡ other.destination_port
    → header.sequence_number ≡ other.sequence_number
    → header.acknowledgment_number ≡ other.acknowledgment_number
    → header.ns ≡ other.ns
    → header.fin ≡ other.fin
    → header.syn ≡ other.syn
    → header.rst ≡ other.rst
    → header.psh ≡ other.psh
    → header.ack ≡ other.ack
    → header.urg ≡ other.urg
    → header.ece ≡ other.ece
    → header.cwr ≡ other.cwr
    → header.window_size ≡ other.window_size
    → header.checksum ≡ other.checksum
    → header.urgent_pointer ≡ other.urgent_pointer
    → header.options ≡ other.options
    → header ≡ other
same_fields header other a b c d ns fin syn rst psh ack urg ece cwr e f g options = λ i. record {
  source_port = a i;
  destination_port = b i;
  sequence_number = c i;
  acknowledgment_number = d i;
  ns = ns i;
  fin = fin i;
  syn = syn i;
  rst = rst i;
  psh = psh i;
  ack = ack i;
  urg = urg i;
  ece = ece i;
  cwr = cwr i;
  window_size = e i;
  checksum = f i;
  urgent_pointer = g i;
  options = options i;
}

pub reads_back : (header : TcpHeader) (payload : List ℕ) → FitsHeader header → DecodesAs (wire header ++ payload) header payload
reads_back header payload fits =
    let ns_fits = from_bool-lt header.ns in
    let fin_fits = from_bool-lt header.fin in
    let syn_fits = from_bool-lt header.syn in
    let rst_fits = from_bool-lt header.rst in
    let psh_fits = from_bool-lt header.psh in
    let ack_fits = from_bool-lt header.ack in
    let urg_fits = from_bool-lt header.urg in
    let ece_fits = from_bool-lt header.ece in
    let cwr_fits = from_bool-lt header.cwr in
    let bytes = wire header ++ payload in
    let offset : data_offset bytes * 4 ≡ 20 + length header.options = omega (arith, fits.whole_words) in
    let len : length bytes ≡ 20 + length header.options + length payload = omega (arith, length-append header.options payload) in
    let a : header.source_port ≡ be_number bytes 0 2 = omega (arith, fits.source_port) in
    let b : header.destination_port ≡ be_number bytes 2 2 = omega (arith, fits.destination_port) in
    let c : header.sequence_number ≡ be_number bytes 4 4 = omega (arith, fits.sequence_number) in
    let d : header.acknowledgment_number ≡ be_number bytes 8 4 = omega (arith, fits.acknowledgment_number) in
    let e : header.window_size ≡ be_number bytes 14 2 = omega (arith, fits.window_size) in
    let f : header.checksum ≡ be_number bytes 16 2 = omega (arith, fits.checksum) in
    let g : header.urgent_pointer ≡ be_number bytes 18 2 = omega (arith, fits.urgent_pointer) in
    let ns : header.ns ≡ flag bytes 12 1 = flag_read (offset_byte header) 0 header.ns (omega arith) (omega arith) in
    let fin : header.fin ≡ flag bytes 13 1 = flag_read (flags_byte header) 0 header.fin (omega arith) (omega arith) in
    let syn : header.syn ≡ flag bytes 13 2 = flag_read (flags_byte header) 1 header.syn (omega arith) (omega arith) in
    let rst : header.rst ≡ flag bytes 13 4 = flag_read (flags_byte header) 2 header.rst (omega arith) (omega arith) in
    let psh : header.psh ≡ flag bytes 13 8 = flag_read (flags_byte header) 3 header.psh (omega arith) (omega arith) in
    let ack : header.ack ≡ flag bytes 13 16 = flag_read (flags_byte header) 4 header.ack (omega arith) (omega arith) in
    let urg : header.urg ≡ flag bytes 13 32 = flag_read (flags_byte header) 5 header.urg (omega arith) (omega arith) in
    let ece : header.ece ≡ flag bytes 13 64 = flag_read (flags_byte header) 6 header.ece (omega arith) (omega arith) in
    let cwr : header.cwr ≡ flag bytes 13 128 = flag_read (flags_byte header) 7 header.cwr (omega arith) (omega arith) in
    let count : data_offset bytes * 4 - 20 ≡ length header.options = omega arith in
    let options : header.options ≡ options_of bytes =
    sym (ap (λ n. take n (header.options ++ payload)) count ∙ take-append_seam header.options payload) in
    let after : payload ≡ drop (data_offset bytes * 4) bytes =
    sym (ap (λ n. drop n bytes) offset ∙ sym (drop-drop (length header.options) 20 bytes) ∙ drop-append_seam header.options payload) in
    record {
      accepted = accepted_whole bytes (omega arith) (omega arith) (omega arith);
      fields = same_fields header (header_of bytes) a b c d ns fin syn rst psh ack urg ece cwr e f g options;
      after_header = after;
    }

-- a header that is read back has fields in the ranges of their types
pub fits_read : (header : TcpHeader) (payload : List ℕ) → DecodesAs (wire header ++ payload) header payload → length header.options ≤ 40
    → FitsHeader header
fits_read header payload decodes at_most =
    let ns_fits = from_bool-lt header.ns in
    let bytes = wire header ++ payload in
    let len : length bytes ≡ 20 + length header.options + length payload = omega (arith, length-append header.options payload) in
    let rest : length payload ≡ length bytes - data_offset bytes * 4 =
    ap length decodes.after_header ∙ length-drop (data_offset bytes * 4) bytes in
    record {
      source_port = omega (arith, ap (λ header. header.source_port) decodes.fields);
      destination_port = omega (arith, ap (λ header. header.destination_port) decodes.fields);
      sequence_number = omega (arith, ap (λ header. header.sequence_number) decodes.fields);
      acknowledgment_number = omega (arith, ap (λ header. header.acknowledgment_number) decodes.fields);
      window_size = omega (arith, ap (λ header. header.window_size) decodes.fields);
      checksum = omega (arith, ap (λ header. header.checksum) decodes.fields);
      urgent_pointer = omega (arith, ap (λ header. header.urgent_pointer) decodes.fields);
      at_most = at_most;
      whole_words = omega (arith, len, rest);
    }

-- the header with another checksum is also read back
pub reads_back_with : (header : TcpHeader) (checksum : ℕ) (payload : List ℕ) → DecodesAs (wire header ++ payload) header payload
    → length header.options ≤ 40 → checksum < 65536
    → DecodesAs (wire (record header { checksum = checksum }) ++ payload) (record header { checksum = checksum }) payload
reads_back_with header checksum payload decodes at_most fits_checksum =
    let fits = fits_read header payload decodes at_most in
    reads_back (record header { checksum = checksum }) payload (record {
      source_port = fits.source_port;
      destination_port = fits.destination_port;
      sequence_number = fits.sequence_number;
      acknowledgment_number = fits.acknowledgment_number;
      window_size = fits.window_size;
      checksum = fits_checksum;
      urgent_pointer = fits.urgent_pointer;
      at_most = fits.at_most;
      whole_words = fits.whole_words;
    })
