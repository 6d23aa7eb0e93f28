use Rattle.std.proofs.Common.{◌≡◌, ◌∙◌, ap, IfOk, None, Some, refl, rules, subst, sym}
use Rattle.net_base.specs.Refusals.{RefusesExactly}
use Rattle.translator.specs.Given.{ipv6_by, ipv6_with, quoted_in, quoted_of}
use Rattle.translator.specs.Reasons.{ipv6_quoting_reason}
use Rattle.translator.proofs.PacketLemmas.{false_is_true, ipv6_header_kept, ipv6_own_given, other_than_ipv6, ports_are, quoted_is, unknown_other, unknown_read, unknown_rejected}
use Rattle.translator.proofs.ipv6_packet.translation.Goals as goal

pub returns-in-Err-clause-refused : goal.returns-in-Err-clause-refused
returns-in-Err-clause-refused c = unknown_rejected 6 c.args.packet.now _ _ c.in-Err.ensures.refused

pub returns-in_default-clause-refused : goal.returns-in_default-clause-refused
returns-in_default-clause-refused c =
    unknown_other 6 c.args.packet.now _ c.in-Ok.ensures.refused (other_than_ipv6 c.args.packet.now c.in-Ok.ensures.refused
    (λ begins. false_is_true (c.in_default.ensures.found.1 begins)))

pub returns-in-Some-quoted_in : goal.returns-in-Some-quoted_in
returns-in-Some-quoted_in c =
    let packet = c.args.packet.now in
    let table = c.args.table.now in
    let found = c.in-Ok.found in
    let quoted = c.in-Some-quoted_in.quoted.now in
    let begins = c.in-Some.ensures.found.0 refl in
    let quotes : Some quoted ≡ quoted_in found = search rules in
    let quotes_of : Some quoted ≡ quoted_of packet = quotes ∙ quoted_is packet found c.in-Ok.ensures.found c.in-Ok.ensures.stated in
    let header = c.to_header.ensures ∙ ipv6_header_kept packet c.in-Some.header c.in-Some.ensures.kept in
    let ports = c.ports_in.ensures ∙ ports_are packet found c.in-Ok.ensures.found c.in-Ok.ensures.stated in
    let own = ipv6_own_given table packet _ _ _ header ports c.ipv6_translation-new.ensures in
    record {
      given = subst (λ given. IfOk c.quoting_translation.result (λ new. new ≡ given)) (ap (ipv6_with table packet) quotes_of)
          c.quoting_translation.ensures.given;
      refused = subst (RefusesExactly c.quoting_translation.result)
          (ap (λ own. ipv6_quoting_reason table own (Some quoted)) own ∙ ap (ipv6_quoting_reason table (ipv6_by table packet)) quotes_of
          ∙ sym (unknown_read 6 packet _ c.in-Ok.ensures.refused begins.is_version_6))
          c.quoting_translation.ensures.refused;
    }

pub returns-in-None : goal.returns-in-None
returns-in-None c =
    let packet = c.args.packet.now in
    let table = c.args.table.now in
    let found = c.in-Ok.found in
    let begins = c.in-Some.ensures.found.0 refl in
    let none : None ≡ quoted_in found = search rules in
    let none_of : None ≡ quoted_of packet = none ∙ quoted_is packet found c.in-Ok.ensures.found c.in-Ok.ensures.stated in
    let header = c.to_header.ensures ∙ ipv6_header_kept packet c.in-Some.header c.in-Some.ensures.kept in
    let ports = c.ports_in.ensures ∙ ports_are packet found c.in-Ok.ensures.found c.in-Ok.ensures.stated in
    let own = ipv6_own_given table packet _ _ _ header ports c.ipv6_translation-new.ensures in
    record {
      given = own ∙ ap (ipv6_with table packet) none_of;
      refused = unknown_read 6 packet _ c.in-Ok.ensures.refused begins.is_version_6
          ∙ sym (ap (ipv6_quoting_reason table (ipv6_by table packet)) none_of);
    }
