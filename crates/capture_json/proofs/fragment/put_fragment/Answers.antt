use Rattle.std.proofs.lemmas.Result.{on_ok_weaker}
use Rattle.std.specs.Prelude.{codes}
use Rattle.capture_json.specs.JsonPacket.{fragment_content}
use Rattle.capture_json.specs.Tokens.{tokens_in}
use Rattle.capture_json.proofs.TokensLemmas.{nested_by}
use Rattle.capture_json.proofs.fragment.put_fragment.Goals as goal

-- the object of the fragment
pub returns-in_ok-put_fragment_content-in-Some : goal.returns-in_ok-put_fragment_content-in-Some
returns-in_ok-put_fragment_content-in-Some c =
    rw c.in-Some.is
    (on_ok_weaker c.end_object.result
    (λ ended. nested_by (codes "fragment") (fragment_content c.in-Some.fragment) (tokens_in c.args.line.now) _ _ _
    c.in_ok-begin_object-in-Some.ensures c.in_ok-put_fragment_content-in-Some.ensures ended)
    c.end_object.ensures)
