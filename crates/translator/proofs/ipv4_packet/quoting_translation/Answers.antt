use Rattle.std.proofs.Common.{◌≡◌, ◌∙◌, ap, false, refl, sym, true}
use Rattle.translator.specs.Reasons.{is_same_ipv4}
use Rattle.translator.proofs.PacketLemmas.{false_is_true, ipv4_destination_kept, ipv4_inner_given, ipv4_same_is, ipv4_source_kept, is_read_by, no_ipv4, not_read, ports_are, quoted_rules, same_addresses}
use Rattle.translator.proofs.ipv4_packet.quoting_translation.Goals as goal

pub returns-in_default-clause-refused : goal.returns-in_default-clause-refused
returns-in_default-clause-refused c =
    quoted_rules 4 c.args.quoted.now _ false _ (not_read 4 c.args.quoted.now _ c.in_default.ensures.refused) refl

pub returns-in_default-from_slice-clause-refused : goal.returns-in_default-from_slice-clause-refused
returns-in_default-from_slice-clause-refused c =
    quoted_rules 4 c.args.quoted.now _ false _
    (no_ipv4 c.args.quoted.now c.in-Ok.ensures.refused (λ begins. false_is_true (c.in_default-from_slice.ensures.found.1 begins))) refl

pub returns-then-eq : goal.returns-then-eq
returns-then-eq c =
    let quoted = c.args.quoted.now in
    let outer = c.args.outer.now in
    let inner = c.ipv4_translation-inner.result in
    let begins = c.in-Some.ensures.found.0 refl in
    let inner_is = ipv4_inner_given c.args.table.now quoted c.destination.result c.source.result c.ports_in.result c.exchanged.result inner
    (c.destination.ensures ∙ ipv4_destination_kept quoted c.in-Some.header c.in-Some.ensures.kept
    (c.in-Some.ensures.found.0 refl).five_words)
    (c.source.ensures ∙ ipv4_source_kept quoted c.in-Some.header c.in-Some.ensures.kept (c.in-Some.ensures.found.0 refl).five_words)
    (c.ports_in.ensures ∙ ports_are quoted c.in-Ok.found c.in-Ok.ensures.found c.in-Ok.ensures.stated)
    c.exchanged.ensures c.ipv4_translation-inner.ensures in
    let alike : is_same_ipv4 outer inner ≡ true =
    sym (same_addresses outer.source outer.destination inner.source inner.destination inner.source_port inner.destination_port)
    ∙ sym c.eq.ensures ∙ c.if-eq.true in
    record {
      given = ipv4_same_is outer inner _ alike inner_is;
      refused = quoted_rules 4 quoted _ true true (is_read_by 4 quoted c.in-Ok.ensures.refused begins.is_version_4)
          (ap (is_same_ipv4 outer) (sym inner_is) ∙ alike);
    }

pub returns-clause-refused : goal.returns-clause-refused
returns-clause-refused c =
    let quoted = c.args.quoted.now in
    let outer = c.args.outer.now in
    let inner = c.ipv4_translation-inner.result in
    let begins = c.in-Some.ensures.found.0 refl in
    let inner_is = ipv4_inner_given c.args.table.now quoted c.destination.result c.source.result c.ports_in.result c.exchanged.result inner
    (c.destination.ensures ∙ ipv4_destination_kept quoted c.in-Some.header c.in-Some.ensures.kept
    (c.in-Some.ensures.found.0 refl).five_words)
    (c.source.ensures ∙ ipv4_source_kept quoted c.in-Some.header c.in-Some.ensures.kept (c.in-Some.ensures.found.0 refl).five_words)
    (c.ports_in.ensures ∙ ports_are quoted c.in-Ok.found c.in-Ok.ensures.found c.in-Ok.ensures.stated)
    c.exchanged.ensures c.ipv4_translation-inner.ensures in
    let other : is_same_ipv4 outer inner ≡ false =
    sym (same_addresses outer.source outer.destination inner.source inner.destination inner.source_port inner.destination_port)
    ∙ sym c.eq.ensures ∙ c.if-eq.false in
    quoted_rules 4 quoted _ true false (is_read_by 4 quoted c.in-Ok.ensures.refused begins.is_version_4)
    (ap (is_same_ipv4 outer) (sym inner_is) ∙ other)
