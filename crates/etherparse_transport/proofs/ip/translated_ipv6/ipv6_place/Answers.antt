use Rattle.std.proofs.Common.{◌&&◌, ◌||◌, refl, sym, ap, ◌∙◌}
use Rattle.std.specs.Prelude.{is_none}
use Rattle.ip_part.specs.Addresses.{by_value}
use Rattle.ip_part.specs.Protocols.{proto_over}
use Rattle.etherparse_transport.specs.Ipv6Translations.{covers_ipv6_addresses}
use Rattle.net_base.specs.IpHeaders.{BeginsWithIpv6Header}
use Rattle.etherparse_transport.specs.Translations.{has_port}
use Rattle.etherparse_transport.proofs.TranslationReading.{ipv6_place_is}
use Rattle.etherparse_transport.proofs.TranslationLemmas.{ipv6_no_proto}
use Rattle.etherparse_transport.proofs.ip.translated_ipv6.ipv6_place.Goals as goal

pub returns-clause-place : goal.returns-clause-place
returns-clause-place c =
    let begins : BeginsWithIpv6Header c.args.packet.now = c.in-Some.ensures.found.0 refl in
    ipv6_place_is c.args.packet.now c.in-Ok.found c.proto_over-proto.result _
    (record {
      begins = begins;
      carries = c.in-Ok.ensures.found;
      missing = c.in-Ok.ensures.stated;
      after = c.in-Ok.ensures.parts;
      known = c.proto_over-proto.ensures ∙ ap (λ headers. proto_over (by_value c.in-Ok.found.addresses) headers.protocol.0)
          c.skip_headers-headers.ensures.skipped;
      has_port = has_port c.args.new.now.source_port c.args.new.now.destination_port;
      accepted = ap (λ headers. is_none c.proto_over-proto.result
          && (has_port c.args.new.now.source_port c.args.new.now.destination_port || covers_ipv6_addresses headers.protocol.0))
          (sym c.skip_headers-headers.ensures.skipped) ∙ sym c.is_ipv6_refused.ensures ∙ c.if-is_ipv6_refused.false;
    }) (ap (λ headers. headers.len) c.skip_headers-headers.ensures.skipped) refl refl
    (ap (λ headers. headers.is_later_fragment) c.skip_headers-headers.ensures.skipped)

pub returns-then-is_ipv6_refused-clause-refused : goal.returns-then-is_ipv6_refused-clause-refused
returns-then-is_ipv6_refused-clause-refused c =
    let begins : BeginsWithIpv6Header c.args.packet.now = c.in-Some.ensures.found.0 refl in
    ipv6_no_proto _ c.args.packet.now c.in-Ok.found _ c.proto_over-proto.result c.in-Ok.ensures.refused begins.is_version_6
    c.in-Ok.ensures.parts
    (ap (λ headers. headers.protocol.0) c.skip_headers-headers.ensures.skipped) c.proto_over-proto.ensures
    (sym c.is_ipv6_refused.ensures ∙ c.if-is_ipv6_refused.true)

pub returns-in_default-clause-bytes : goal.returns-in_default-clause-bytes
returns-in_default-clause-bytes c = λ place. (c.type_inv.packet place).fits

pub returns-in-Err-clause-bytes : goal.returns-in-Err-clause-bytes
returns-in-Err-clause-bytes c = λ place. (c.type_inv.packet place).fits

pub returns-then-is_ipv6_refused-clause-bytes : goal.returns-then-is_ipv6_refused-clause-bytes
returns-then-is_ipv6_refused-clause-bytes c = λ place. (c.type_inv.packet place).fits

pub returns-clause-bytes : goal.returns-clause-bytes
returns-clause-bytes c = λ place. (c.type_inv.packet place).fits
