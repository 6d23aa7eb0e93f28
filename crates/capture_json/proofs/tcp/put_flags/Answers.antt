use Rattle.std.proofs.Common.{◌∙◌, ap, map, sym}
use Rattle.std.proofs.lemmas.Result.{on_ok_weaker}
use Rattle.std.specs.Prelude.{codes}
use Rattle.capture_json.specs.Tokens.{array_begun, array_ended, tokens_in, with_items}
use Rattle.serde_json.specs.Data.{string}
use Rattle.capture_json.specs.JsonPacket.{name_if_set, names_of_set}
use Rattle.capture_words.specs.TcpText.{tcp_flags}
use Rattle.std.proofs.lemmas.List.Folds.{flat_map-map}
use Rattle.capture_json.proofs.TokensLemmas.{listed}
use Rattle.capture_json.proofs.tcp.put_flags.Goals as goal

-- the names of the flags of the header
pub returns : goal.returns
returns c =
    let before = tokens_in c.args.line.now in
    let begun = array_begun (codes "flags") before in
    let names = names_of_set (λ flag. flag) (tcp_flags c.args.segment.now) in
    on_ok_weaker c.end_array.result
    (λ ended. ended
    ∙ ap array_ended (c.in_ok-push_names_of_set.ensures
    ∙ ap (with_items (map string (names_of_set (λ flag. (flag.0, flag.1.now)) c.named_flags.result))) c.in_ok-begin_array.ensures
    ∙ ap (λ names. with_items (map string names) begun)
    (sym (flat_map-map name_if_set (λ flag. (flag.0, flag.1.now)) c.named_flags.result)
    ∙ ap (names_of_set (λ flag. flag)) c.named_flags.ensures))
    ∙ listed (codes "flags") (map string names) before)
    c.end_array.ensures
