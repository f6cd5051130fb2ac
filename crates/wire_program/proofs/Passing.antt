-- The ways out of `run_letters`: crate `console`'s law of feeding, for lines of letters.
use Prim.Native.Nat.{ℕ, ◌+◌, ◌*◌, ◌-◌, ◌/◌, ◌≤◌, ◌<◌}
use mathlib.Core.Path.{◌≡◌, refl, sym, ◌∙◌, subst}
use Rattle.std.specs.Prelude.{None}
use mathlib.Core.List.{List}
use native.Mathlib.Omega.{arith}
use lib.ListN.{length, take, drop}
use borrow.Author.Tests.{le-ltb, lt-ltb}
use Rattle.hex_lines.specs.declared.HexReading.{HexReading}
use Rattle.hex_lines.specs.HexSteps.{hex_start, read_hex, fed_hex}
use Rattle.net.specs.declared.Net.{Net}
use Rattle.fields.specs.Output.{writes, writing_output}
use Rattle.event_lines.specs.Ends.{end_from}
use Rattle.text.specs.Line.{Adds}
use Rattle.text.specs.declared.Line.{Line}
use Rattle.console.specs.Outputs.{Counts, Put}
use Rattle.console.proofs.Feeding.{Going, Done, going_done}
use Rattle.wire_program.specs.Passing.{said_by, acted, spoken, texts, written, passed_as, passed_by}

-- a line's text where there is room for it
pub put_added : {text : List ℕ} {a b : Line} (most : ℕ) → Adds text a b → length text ≤ most → a.at + most ≤ length a.out.now
    → Put text most a.at a.out.now b.at b.out.now
put_added most p few h = record { place = p.place (omega arith); output = p.output (omega arith); few = few }

module _ (net : Net) (r : HexReading) (bytes old : List ℕ) where
  pub passed_short : length old / 64 < length bytes
      → (passed_as 10 0 r ≡ passed_by (written net r bytes old) net r bytes)
      × ((old ≡ writing_output (written net r bytes old) old) × Counts 0 old)
  passed_short h = simp (lt-ltb (length old) (64 * length bytes) (omega arith)) (refl, (refl, (omega arith, refl)))

  module _ (out : List ℕ) (q : HexReading) (at from : ℕ)
      (g : Going hex_start read_hex said_by acted spoken 64 bytes old net r out net q at from)
      (is : None ≡ end_from bytes from) (line : HexReading) (reads : line ≡ fed_hex q (take (length bytes - from) (drop from bytes)))
      (h : length bytes ≤ length old / 64) where
    done : Done hex_start read_hex said_by acted spoken 64 bytes old net r out net q at from g line
    done = going_done hex_start read_hex said_by acted spoken 64 bytes old net r out net q at from g is line reads

    pub passed_answer : passed_as 0 at line ≡ passed_by (written net r bytes old) net r bytes
    passed_answer = simp (le-ltb (length old) (64 * length bytes) (omega arith)) (λ i. passed_as 0 (done.written i) (done.read i))

    module _ {last : List ℕ} (e : last ≡ out) where
      pub passed_output : last ≡ writing_output (written net r bytes old) old
      passed_output = simp (le-ltb (length old) (64 * length bytes) (omega arith)) (e ∙ done.output)

      pub passed_counts : Counts at last
      passed_counts = subst (λ (l : List ℕ). Counts at l) (sym e) done.counts

-- the wire program lends 65,536 bytes for a piece of at most 1,024: it is never refused with 10
pub room_suffices : (net : Net) (r : HexReading) (bytes out : List ℕ) → length bytes ≤ 1024 → length out ≡ 65536
    → written net r bytes out ≡ writes (texts net r bytes)
room_suffices net r bytes out h e = simp (le-ltb (length out) (64 * length bytes) (omega arith))
