-- The program's answers at worked examples, so that a wrong definition fails before any code does.
use Rattle.std.proofs.Common.{◌≡◌, [], codes, refl}
use Rattle.std.specs.Fmt.{digits}
use Rattle.hex.specs.Hex.{decode_pairs, encode_with}
use Rattle.etherparse_transport.specs.Icmpv4Format as icmpv4
use Rattle.etherparse_transport.specs.Icmpv6Format as icmpv6
use Rattle.pktprobe.specs.Report.{bad_input, line_of, max_input_len, report}

one_byte_after : report (codes "udp 003504D200080000AA\n") ≡ (codes "ok 003504d200080000 1\n", 0)
unfolding decode_pairs encode_with digits
one_byte_after = refl

digits_of_either_case : report (codes "udp fFfFFFFFFFFFFFFF") ≡ (codes "ok ffffffffffffffff 0\n", 0)
unfolding decode_pairs encode_with digits
digits_of_either_case = refl

no_digits : report (codes "udp ") ≡ (codes "refused len UdpHeader 8 0\n", 1)
unfolding decode_pairs digits
no_digits = refl

seven_bytes : report (codes "udp 00000000000000\n") ≡ (codes "refused len UdpHeader 8 7\n", 1)
unfolding decode_pairs digits
seven_bytes = refl

small_data_offset : report (codes "tcp 0000000000000000000000004000000000000000") ≡ (codes "refused offset 4\n", 1)
unfolding decode_pairs digits
small_data_offset = refl

reserved_bits : report (codes "tcp 0000000000000000000000005F00000000000000")
    ≡ (codes "ok 0000000000000000000000005100000000000000 0\n", 0)
unfolding decode_pairs encode_with digits
reserved_bits = refl

two_bytes : report (codes "icmpv4 0D00") ≡ (codes "refused len Icmpv4 8 2\n", 1)
unfolding decode_pairs digits
two_bytes = refl

next_hop_mtu : report (codes "icmpv4 03040000010205DC") ≡ (codes "ok 03040000000005dc 0\n", 0)
unfolding decode_pairs encode_with digits icmpv4.format_of
next_hop_mtu = refl

three_flags : report (codes "icmpv6 88000000FFFFFFFF") ≡ (codes "ok 88000000e0000000 0\n", 0)
unfolding decode_pairs encode_with digits icmpv6.format_of
three_flags = refl

odd_digits : report (codes "udp 00350") ≡ bad_input
odd_digits = refl

no_hex_digit : report (codes "udp 0G") ≡ bad_input
unfolding decode_pairs
no_hex_digit = refl

upper_case_word : report (codes "TCP 00") ≡ bad_input
upper_case_word = refl

two_spaces : report (codes "tcp  00") ≡ bad_input
unfolding decode_pairs
two_spaces = refl

no_space : report (codes "udp") ≡ bad_input
no_space = refl

no_input : report [] ≡ bad_input
no_input = refl

one_line_feed_is_dropped : line_of (codes "udp \n\n") ≡ codes "udp \n"
one_line_feed_is_dropped = refl

-- 8,192 bytes, a line feed and one byte more
longest_input : max_input_len ≡ 8194
longest_input = refl
