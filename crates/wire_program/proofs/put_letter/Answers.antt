use Rattle.std.proofs.Common.{rules}
use mathlib.Core.Path.{refl, ap, ◌∙◌}
use Rattle.net.specs.Values.{network_of}
use Rattle.text.specs.Parts.{hex_text}
use Rattle.text.proofs.Lines.{adds_put, adds_then, adds_more, puts_same}
use Rattle.wire_program.specs.LetterLineLine.{letter_text}
use Rattle.wire_program.proofs.LetterLineWritten.{letter_back, letter_few, wrote_size}
use Rattle.wire_program.proofs.put_letter.Goals as goal

pub returns : goal.returns
unfolding letter_text
returns c =
    let a = c.args in
    let written = letter_back a.net a.letter _ _ _ _ c.requires.0 c.requires.1 refl c.write.ensures.answer c.write.ensures.output
    (c.unwrap_or-n.ensures ∙ wrote_size c.write.result) in
    let kind = adds_put (puts_same c.kind_word.ensures c.word.ensures) in
    let front = adds_more (adds_then (adds_then kind c.field.ensures) c.field-2.ensures) c.put_body.ensures.text in
    record {
      text = adds_then (adds_then front (puts_same (ap hex_text written.bytes) c.bytes.ensures)) c.word-2.ensures;
      few = letter_few (network_of a.net) a.letter (search rules) (search rules) c.put_body.ensures.few;
    }
