use Rattle.std.proofs.Common.{◌≡◌, ◌*◌, ◌∙◌, Some, ap, arith, false, slice_index, sym}
use Rattle.std.proofs.lemmas.List.{take_rest}
use Rattle.capture_words.specs.Icmpv6Fields.{is_link_layer_address}
use Rattle.capture_words.proofs.LinkLayerLemmas.{cut_off_at, ended_at, found_at, left_first, next_by, zero_at}
use Rattle.capture_words.proofs.icmpv6_fields.link_layer_address_in.Goals as goal

pub loop-rest-init : goal.loop-rest-init
loop-rest-init c = left_first _

-- a link-layer address
pub returns-then-is_link_layer_address : goal.returns-then-is_link_layer_address
returns-then-is_link_layer_address c =
    ap Some c.link_layer_address.ensures
    ∙ sym (found_at _ _ c.loop-rest.invariant c.loop-rest-test.true (sym c.is_link_layer_address.ensures ∙ c.if-is_link_layer_address.true))

-- an option of length 0
pub returns-then-len-eq0 : goal.returns-then-len-eq0
returns-then-len-eq0 c =
    let other : is_link_layer_address c.loop-rest.rest.now ≡ false =
    sym c.is_link_layer_address.ensures ∙ c.if-is_link_layer_address.false in
    sym (zero_at _ _ c.loop-rest.invariant c.loop-rest-test.true other (omega (arith, c.if-len-eq0.true, c.from-len.ensures)))

-- an option that is cut off
pub returns-then-rest-len : goal.returns-then-rest-len
returns-then-rest-len c =
    let other : is_link_layer_address c.loop-rest.rest.now ≡ false =
    sym c.is_link_layer_address.ensures ∙ c.if-is_link_layer_address.false in
    sym (cut_off_at _ _ c.loop-rest.invariant c.loop-rest-test.true other (omega (arith, c.if-rest-len.true, c.from-len.ensures)))

-- the search goes on after an option
pub loop-rest-preserved : goal.loop-rest-preserved
loop-rest-preserved c =
    let other : is_link_layer_address c.loop-rest.rest.now ≡ false =
    sym c.is_link_layer_address.ensures ∙ c.if-is_link_layer_address.false in
    let len : c.from-len.result * 8 ≡ slice_index c.loop-rest.rest.now 1 * 8 = omega (arith, c.from-len.ensures) in
    next_by _ _ _ _ c.loop-rest.invariant c.loop-rest-test.true other len (omega (arith, c.if-len-eq0.false))
    (take_rest c.loop-rest.rest.now (c.from-len.result * 8))

pub returns : goal.returns
returns c = sym (ended_at _ _ c.loop-rest.invariant (omega (arith, c.loop-rest-test.false)))
