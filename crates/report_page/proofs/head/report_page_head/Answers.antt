use Rattle.std.proofs.Common.{[], ◌+◌, arith, inl, refl, subst, suc}
use Rattle.capture_numbers.specs.declared.byte_order.ByteOrder.TheVariants.{BigEndian}
use Rattle.report_page.specs.Heads.{IsHeadAfter}
use Rattle.report_page.proofs.head.report_page_head.Goals as goal

-- the block that was read comes before the other blocks
pub loop-block-preserved : goal.loop-block-preserved
loop-block-preserved c =
    let leads = c.loop-block.invariant.1 in
    let order = c.in-Ok.block.header.byte_order in
    let others = c.in-Ok.others.now in (
      c.in-Some.ensures.within,
      (
        leads.0 + 1,
        λ more whole is. subst (λ blocks. IsHeadAfter blocks BigEndian c.args.piece.now [] whole) (omega arith)
            (leads.1 (suc more) whole (
              c.in-Ok.block,
              others,
              c.in-Ok.ensures.refused,
              c.in-Ok.ensures.read,
              subst (λ head. IsHeadAfter more order others head whole) c.in-Some.ensures.head is,
            )),
      ),
    )

-- no block follows
pub returns : goal.returns
returns c =
    let leads = c.loop-block.invariant.1 in
    inl (c.loop-block.invariant.0, (leads.0 + 0, leads.1 0 _ ((λ none. cc (c.in_default.ensures.refused, none)), refl)))
