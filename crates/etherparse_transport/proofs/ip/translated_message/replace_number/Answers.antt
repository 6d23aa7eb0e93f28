use Rattle.std.proofs.Common.{◌≡◌, ◌+◌, ◌≤◌, List, ℕ, length, ap, ◌∙◌, arith, rules}
use Rattle.word_sum.specs.Checksum.{total}
use Rattle.etherparse_transport.specs.Translations.{number}
use Rattle.etherparse_transport.proofs.TranslationSums.{stored_number_total}
use Rattle.etherparse_transport.proofs.ip.translated_message.replace_number.Goals as goal

pub returns-clause-total : goal.returns-clause-total
returns-clause-total c =
    let message : List ℕ = c.args.message.now in λ there.
    ap (λ bytes. total bytes + number c.args.place message) c.store_number.ensures
    ∙ stored_number_total c.args.place c.args.value message c.requires.even (search rules) there

pub returns-clause-extends : goal.returns-clause-extends
returns-clause-extends c = λ there packet between changed is.
    c.replace_2bytes.ensures.extends packet between changed
    (omega (arith, is, ap total c.to_be_bytes.ensures, ap total c.to_be_bytes-2.ensures, c.number-old.ensures))

pub returns-clause-turns : goal.returns-clause-turns
returns-clause-turns c =
    let message : List ℕ = c.args.message.now in
    let there : c.args.place + 2 ≤ length message = search rules in
    let stored : total c.store_number.new.message + number c.args.place message ≡ total message + c.args.value =
    ap (λ bytes. total bytes + number c.args.place message) c.store_number.ensures
    ∙ stored_number_total c.args.place c.args.value message c.requires.even (search rules) there in λ before after.
    c.replace_2bytes.ensures.extends before (after + total message) (after + total c.store_number.new.message)
    (omega (arith, stored, ap total c.to_be_bytes.ensures, ap total c.to_be_bytes-2.ensures, c.number-old.ensures))
