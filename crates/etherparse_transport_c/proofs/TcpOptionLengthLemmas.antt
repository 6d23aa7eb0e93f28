-- The number of bytes of TCP options.
use Rattle.std.proofs.Common.{◌≡◌, ℕ, ◌+◌, ◌*◌, ◌<◌, ◌≤◌, List, [], ◌∷◌, length, Option, None, Some, Ok, length-append, sym, ap, ◌∙◌, arith}
use Rattle.std.proofs.lemmas.Bool.Decides.{nat_tests}
use Rattle.std.specs.List.{flat_map}
use Rattle.std.specs.Option.{option_map}
use Rattle.net_base.specs.declared.tcp_option_write_error.TcpOptionWriteError.TheVariants.{NotEnoughSpace}
use Rattle.tcp_part.specs.TcpOptions.{block_bytes, join, max_options_len, pair, saturated, spelling, too_long}
use Rattle.tcp_part.specs.declared.tcp_option_element.TcpOptionElement.{TcpOptionElement}
use Rattle.tcp_part.specs.declared.tcp_option_element.TcpOptionElement.TheVariants.{Noop, MaximumSegmentSize, WindowScale, SelectiveAcknowledgementPermitted, SelectiveAcknowledgement, Timestamp}
use Rattle.tcp_part.proofs.TcpOptionsLemmas.{length-pair}
use Rattle.etherparse_transport_c.specs.Errors.{of_options}
use Rattle.etherparse_transport_c.specs.Tcp.{edge_count}
use Rattle.etherparse_transport_c.specs.TcpOptions.{gathered, options_refusal, refusal_of}
use Rattle.etherparse_transport_c.specs.declared.tcp_option.EtherparseTcpOption.{EtherparseTcpOption}

blocks_len : (more : List (Option (ℕ × ℕ))) → length (flat_map block_bytes more) ≡ edge_count more * 4
blocks_len [] = omega arith
blocks_len (None ∷ more) = blocks_len more
blocks_len (Some block ∷ more) = omega (arith, length-append (pair block) (flat_map block_bytes more), length-pair block, blocks_len more)

-- each edge of a block has four bytes
pub sack_len : (first : ℕ × ℕ) (more : List (Option (ℕ × ℕ)))
    → length (spelling (SelectiveAcknowledgement first more)) ≡ 2 + (2 + edge_count more) * 4
sack_len first more = omega (arith, length-append (pair first) (flat_map block_bytes more), length-pair first, blocks_len more)

pub timestamp_len : (value echo : ℕ) → length (spelling (Timestamp value echo)) ≡ 10
timestamp_len value echo = omega (arith, length-pair (value, echo))

one_byte : (element : TcpOptionElement) → 1 ≤ length (spelling element)
one_byte Noop = omega arith
one_byte (MaximumSegmentSize size) = omega arith
one_byte (WindowScale shift) = omega arith
one_byte SelectiveAcknowledgementPermitted = omega arith
one_byte (SelectiveAcknowledgement first more) = omega arith
one_byte (Timestamp value echo) = omega arith

-- elements have at least one byte each
pub join_len : (elements : List TcpOptionElement) → length elements ≤ length (join elements)
join_len [] = omega arith
join_len (element ∷ elements) = omega (arith, length-append (spelling element) (join elements), one_byte element, join_len elements)

too_long_above : (len : ℕ) → max_options_len < len → too_long len ≡ Some (NotEnoughSpace len)
too_long_above len more = grind (arith, nat_tests)

-- more than 40 options are refused with the length of all options
pub many_refused : (options : List EtherparseTcpOption) (found : List TcpOptionElement) (needed : ℕ) → gathered [] options ≡ Ok found
    → max_options_len < length found → needed ≡ saturated (length (join found))
    → options_refusal options ≡ Some (of_options (NotEnoughSpace needed))
many_refused options found needed whole many is =
    ap refusal_of whole ∙ ap (λ len. option_map of_options (too_long len)) (sym is)
    ∙ ap (option_map of_options) (too_long_above needed (omega (arith, many, is, join_len found)))
