use Rattle.std.proofs.Common.{◌+◌, refl, sym, ◌∙◌, arith}
use Rattle.capture_packet.proofs.LinkLemmas.{has_header, needs_after_tags, read_first, read_next}
use Rattle.capture_packet.proofs.link.tagged_header.Goals as goal

pub loop-len-init : goal.loop-len-init
loop-len-init c = read_first c.args.header c.args.frame.now _ c.in_ok-expect_len.ensures c.short_at-ether_type.ensures

pub loop-len-preserved : goal.loop-len-preserved
loop-len-preserved c =
    read_next c.args.header c.args.frame.now c.loop-len.len c.loop-len.ether_type (c.loop-len.len + 4) _ _ c.loop-len.invariant
    (sym c.is_vlan_tag.ensures ∙ c.loop-len-test.true) refl
    (omega arith) c.in_ok-expect_len-2.ensures c.short_at-ether_type-in-loop-len.ensures

pub returns-clause-found : goal.returns-clause-found
returns-clause-found c =
    has_header c.args.header c.args.frame.now c.loop-len.len c.loop-len.ether_type c.after_tags.result c.loop-len.invariant
    (sym c.is_vlan_tag.ensures ∙ c.loop-len-test.false) c.after_tags.ensures.is

pub returns-clause-refused : goal.returns-clause-refused
returns-clause-refused c =
    needs_after_tags c.args.header c.args.frame.now c.loop-len.len c.loop-len.ether_type c.after_tags.result c.loop-len.invariant
    (sym c.is_vlan_tag.ensures ∙ c.loop-len-test.false) c.after_tags.ensures.is
