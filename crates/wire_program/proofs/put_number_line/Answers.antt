use Rattle.text.proofs.Lines.{adds_put, adds_then}
use Rattle.console.specs.Sheets.{refusal_text}
use Rattle.console.proofs.Puts.{refusal_few}
use Rattle.wire_program.proofs.put_number_line.Goals as goal

pub returns-clause-text : goal.returns-clause-text
unfolding refusal_text
returns-clause-text c = adds_then (adds_put c.number.ensures) c.word.ensures

pub returns-clause-few : goal.returns-clause-few
returns-clause-few c = refusal_few c.args.n c.ranges.n.fits
