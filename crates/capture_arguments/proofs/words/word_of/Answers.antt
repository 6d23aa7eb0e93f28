use Rattle.capture_arguments.proofs.WordLemmas.{escaped_word, text_word}
use Rattle.capture_arguments.proofs.words.word_of.Goals as goal

-- bytes that are UTF-8 are the word itself
pub returns-in-Ok-clause-word : goal.returns-in-Ok-clause-word
returns-in-Ok-clause-word g c =
    rw (text_word c.args.bytes.now c.in-Ok.text.now c.in-Ok.ensures.cases.0 c.in-Ok.ensures.cases.1) at c.text.ensures.text

-- bytes that are not UTF-8 are escaped in the word
pub returns-in-Err-clause-word : goal.returns-in-Err-clause-word
unfolding lib.Utf8.encode
returns-in-Err-clause-word g c = rw (escaped_word c.args.bytes.now c.in-Err.ensures.cases.0) at c.text-in-Err.ensures.text
