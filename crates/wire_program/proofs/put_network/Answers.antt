use mathlib.Core.Path.{refl, ap, ◌∙◌}
use Rattle.text.specs.Parts.{field_text, hex_text}
use Rattle.text.proofs.Lines.{adds_put, adds_then, puts_same}
use Rattle.wire_program.specs.Line.{sheet_text}
use Rattle.wire_program.proofs.Written.{sheet_back, wrote_size, stations_said, links_said}
use Rattle.wire_program.proofs.put_network.Goals as goal

pub returns : goal.returns
unfolding sheet_text
returns c =
    let net = c.args.net in
    let written = sheet_back net _ _ _ _ c.requires refl c.write.ensures.answer c.write.ensures.output
    (c.unwrap_or-n.ensures ∙ wrote_size c.write.result) in
    let stations = adds_then (adds_put c.word.ensures) (puts_same (ap field_text (stations_said net c.requires)) c.field.ensures) in
    let links = adds_then stations (puts_same (ap field_text (links_said net c.requires)) c.field-2.ensures) in
    adds_then (adds_then links (puts_same (ap hex_text written.bytes) c.bytes.ensures)) c.word-2.ensures
