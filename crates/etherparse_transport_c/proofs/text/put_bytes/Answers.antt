use Rattle.std.proofs.Common.{◌≡◌, ◌++◌, take, length-take, subst, sym, arith}
use Rattle.etherparse_transport_c.specs.Text.{IsCut}
use Rattle.etherparse_transport_c.proofs.TextLemmas.{appended}
use Rattle.etherparse_transport_c.proofs.text.put_bytes.Goals as goal

pub returns : goal.returns
returns c before cut =
    let text = c.args.text.now.items in
    let bytes = c.args.bytes.now in
    let room = c.remaining_capacity-room.result in
    let all : c.try_extend_from_slice.new.self.items ≡ text ++ take room bytes = grind (arith, length-take) in
    subst (λ t. IsCut t (before ++ bytes)) (sym all) (appended text before bytes room cut c.remaining_capacity-room.ensures)
