use Rattle.std.proofs.Common.{◌≡◌, ◌+◌, ◌++◌, ◌∙◌, [], ap, get_or, rules, sym, take}
use Rattle.std.proofs.Output.{has_written_append, has_written_of_eq}
use Rattle.std.proofs.lemmas.List.{flat_map_more, take_more}
use Rattle.std.specs.List.{flat_map}
use Rattle.capture_words.specs.ShownText.{escaped_byte}
use Rattle.capture_words.proofs.shown_text.EscapedBytesDisplay.fmt.Goals as goal

-- the invariant holds after another byte
pub loop-byte-preserved : goal.loop-byte-preserved
loop-byte-preserved g c = λ plain.
    let bytes = c.args.self.now.0.now in
    let i = c.loop-byte.byte-index in
    let next : flat_map escaped_byte (take i bytes) ++ escaped_byte (get_or bytes i 0) ≡ flat_map escaped_byte (take (i + 1) bytes) =
    flat_map_more escaped_byte [] (take i bytes) (get_or bytes i 0)
    ∙ ap (flat_map escaped_byte) (sym (take_more bytes i 0 (search rules))) in
    has_written_of_eq _ _ _ _ _ next (has_written_append _ _ _ _ _ _ (c.loop-byte.invariant plain) (search rules))
