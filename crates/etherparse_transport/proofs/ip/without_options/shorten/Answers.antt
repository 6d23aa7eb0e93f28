use Rattle.std.proofs.Common.{◌≡◌, ◌<◌, ◌+◌, ◌++◌, ◌==◌, false, if◌then◌else◌, List, ℕ, ap, arith, drop, length, length-append, rules, slice_index, slice_range, subst, sym, ◌∙◌}
use Rattle.std.proofs.lemmas.Bool.Decides.{nat_tests}
use Rattle.std.proofs.lemmas.List.{length-drop, length-take-le}
use Rattle.ip_part.specs.Ip.{counted_len}
use Rattle.net_base.specs.IpHeaders.{ipv4_header_len, ipv4_header_of}
use Rattle.etherparse_transport.specs.EchoReplies.{IsIpv4Request, header_without_options, ipv4_message, len_without_options, start_without_options, without_options}
use Rattle.etherparse_transport.proofs.EchoRequestLemmas.{message_range}
use Rattle.etherparse_transport.proofs.WithoutOptionsLemmas.{IsShortened, shortened}
use Rattle.etherparse_transport.proofs.ip.without_options.shorten.Goals as goal

source_len : (c : goal.After-slice_known-2-1) → length (slice_range c.args.packet.now 12 16) ≡ 4
source_len c =
    let is : IsIpv4Request c.args.packet.now = c.requires.request in
    length-take-le 4 (drop 12 c.args.packet.now) (omega (arith, length-drop 12 c.args.packet.now, is.five_words, is.end, is.there))

destination_len : (c : goal.After-slice_known-2-1) → length (slice_range c.args.packet.now 16 20) ≡ 4
destination_len c =
    let is : IsIpv4Request c.args.packet.now = c.requires.request in
    length-take-le 4 (drop 16 c.args.packet.now) (omega (arith, length-drop 16 c.args.packet.now, is.five_words, is.end, is.there))

-- the packet is the new header, the message, and the bytes after the message
written : (c : goal.After-slice_known-2-1) → c.replace_header.new.packet
    ≡ header_without_options c.args.packet.now
    ++ (ipv4_message c.args.packet.now ++ drop (len_without_options c.args.packet.now) c.args.packet.now)
written c =
    let packet : List ℕ = c.args.packet.now in
    let is : IsIpv4Request packet = c.requires.request in
    let header : List ℕ = header_without_options packet in
    let header_is : c.deref.result.now ≡ header = c.deref.ensures.0 ∙ c.header_without_options-header.ensures in
    let header_len : length header ≡ 20 =
    omega (arith, source_len c, destination_len c, length-append (slice_range packet 12 16) (slice_range packet 16 20)) in
    let message_is : slice_range packet c.args.header_len c.from-end.result ≡ ipv4_message packet =
    ap (λ n. slice_range packet n c.from-end.result) c.requires.header_len
    ∙ ap (slice_range packet (ipv4_header_len packet)) (c.from-end.ensures ∙ c.requires.len)
    ∙ message_range (ipv4_header_len packet) packet (omega (arith, is.end)) in
    c.replace_header.ensures
    ∙ ap (λ header. header ++ (slice_range packet c.args.header_len c.from-end.result
    ++ drop (length header + length (slice_range packet c.args.header_len c.from-end.result)) packet)) header_is
    ∙ ap (λ message. header ++ (message ++ drop (length header + length message) packet)) message_is
    ∙ ap (λ n. header ++ (ipv4_message packet ++ drop (n + length (ipv4_message packet)) packet)) header_len

short : (c : goal.After-slice_known-2-1) → IsShortened c.args.packet.now c.replace_header.new.packet
short c =
    let packet : List ℕ = c.args.packet.now in
    let is : IsIpv4Request packet = c.requires.request in
    let small : len_without_options packet < 65536 = omega (arith, c.ranges.len.fits, c.requires.len, is.end, is.five_words) in
    subst (IsShortened packet) (sym (written c))
    (shortened packet (drop (len_without_options packet) packet) is small (source_len c) (destination_len c))

pub returns-clause-removed : goal.returns-clause-removed
returns-clause-removed c =
    let packet : List ℕ = c.args.packet.now in
    let other : (ipv4_header_len packet == 20) ≡ false = grind (arith, nat_tests, c.requires.options) in
    written c
    ∙ sym (ap (λ same. if same then packet
    else header_without_options packet ++ (ipv4_message packet ++ drop (len_without_options packet) packet)) other)

pub returns-clause-plain : goal.returns-clause-plain
returns-clause-plain c = (short c).plain

pub returns-clause-addresses : goal.returns-clause-addresses
returns-clause-addresses c = (short c).addresses

pub returns-clause-message : goal.returns-clause-message
returns-clause-message c = (short c).message
