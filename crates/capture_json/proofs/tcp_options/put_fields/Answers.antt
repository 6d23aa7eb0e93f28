use Rattle.std.proofs.Common.{◌≡◌, Some, refl, rules}
use Rattle.std.proofs.lemmas.Result.{on_ok_weaker}
use Rattle.tcp_part.specs.TcpRawOptions.{element_refusal}
use Rattle.capture_json.specs.JsonOptions.{data_fields}
use Rattle.capture_json.proofs.tcp_options.put_fields.Goals as goal

-- the data of an option that is no element
pub returns-in-Err : goal.returns-in-Err
returns-in-Err c =
    let option = c.args.option.now in
    let refused : element_refusal option ≡ Some c.in-Err.field-0 = search rules in
    on_ok_weaker c.put_data.result (λ put. (data_fields option, rw refused refl, put)) c.put_data.ensures
