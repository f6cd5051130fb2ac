-- The list as the code fills it: one line's numbers, and the loop of `list_lines`, crate `console`'s law of feeding with nothing held.
use Rattle.std.specs.Prelude.{Some, None, Ok, Err}
use borrow.Rule.Slice.PartMut.{put_mid}
use Rattle.text.proofs.Puts.{put_whole}
use Prim.Native.Nat.{ℕ, ◌+◌, ◌-◌, ◌*◌, ◌/◌, ◌≤◌, ◌<◌}
use mathlib.Core.Path.{◌≡◌, refl, ap, subst, ◌∙◌}
use mathlib.Core.List.{List, [], ◌∷◌}
use native.Mathlib.Omega.{arith}
use lib.ListN.{length, take, drop, set}
use borrow.Author.Tests.{lt-ltb, le-ltb}
use Rattle.fields.specs.Output.{writing_output}
use Rattle.text.proofs.Chains.{stored_three}
use Rattle.event_lines.specs.declared.Reading.{Reading}
use Rattle.event_lines.specs.declared.Event.{Event}
use Rattle.event_lines.specs.Ends.{end_from}
use Rattle.event_lines.specs.Steps.{start, read_on, fed, line_end}
use Rattle.console.specs.Outputs.{Counts, Put}
use Rattle.console.proofs.Puts.{put_done}
use Rattle.console.proofs.Feeding as Feeding
use Rattle.event_list.specs.Lines.{three_of, asked_by, passes, lists, listing, listed_by}

-- ---- one line
pub line_put : (said : List ℕ) (at : ℕ) (old : List ℕ) (kind a b : ℕ) → at + 3 ≤ length old → kind ∷ a ∷ b ∷ [] ≡ three_of said
    → Put (three_of said) 3 at old (at + 3) (set (set (set old at kind) (at + 1) a) (at + 2) b)
line_put said at old kind a b h is =
    subst (λ (text : List ℕ). Put text 3 at old (at + 3) (set (set (set old at kind) (at + 1) a) (at + 2) b)) is
    (put_done (kind ∷ a ∷ b ∷ []) 3 at old (at + 3) _ (stored_three old at kind a b h) (omega arith) h)

-- an event's numbers, copied to their places
pub event_put : (event : Event) (at : ℕ) (old copied : List ℕ) → at + 3 ≤ length old → copied ≡ event.kind ∷ event.a ∷ event.b ∷ []
    → Put (event.kind ∷ event.a ∷ event.b ∷ []) 3 at old (at + 3) (put_mid at (at + 3 - at) old copied)
event_put event at old copied h is =
    record {
      place = refl;
      output =
          ap (put_mid at (at + 3 - at) old) is
          ∙ put_whole (event.kind ∷ event.a ∷ event.b ∷ []) at old (at + 3 - at) h (omega arith);
      few = omega arith;
    }

-- the event that a line says
pub asked_put : (said : List ℕ) (at : ℕ) (old : List ℕ) (n : ℕ) (new : List ℕ) (e : Event) → e ≡ asked_by said
    → Put (e.kind ∷ e.a ∷ e.b ∷ []) 3 at old n new → Put (three_of said) 3 at old n new
asked_put said at old n new e is put = subst (λ (x : Event). Put (x.kind ∷ x.a ∷ x.b ∷ []) 3 at old n new) is put

-- ---- the loop: between two turns, three places for each byte
abbrev pub Going : List ℕ → List ℕ → Reading → List ℕ → Reading → ℕ → ℕ → Type 0
Going bytes old r₀ out r at from = Feeding.Going start read_on line_end passes lists 3 bytes old tt r₀ out tt r at from

module _ (bytes old : List ℕ) (r₀ : Reading) (out : List ℕ) (r : Reading) (at from : ℕ) (g : Going bytes old r₀ out r at from) where
  -- a turn: a line ends in these bytes, and is listed
  module _ (stop : ℕ) (is : Some stop ≡ end_from bytes from) (line : Reading)
      (reads : line ≡ fed r (take (stop - from) (drop from bytes))) where
    pub turn_room : at + 3 ≤ length out
    turn_room = Feeding.going_room start read_on line_end passes lists 3 bytes old tt r₀ out tt r at from g stop is line reads

    pub turn_more : (n : ℕ) (new : List ℕ) → Put (three_of (line_end line)) 3 at out n new → (next : Reading) → next ≡ start
        → Going bytes old r₀ new next n (stop + 1)
    unfolding passes lists
    turn_more n new w next begun =
        Feeding.going_more start read_on line_end passes lists 3 bytes old tt r₀ out tt r at from g stop is line reads
        tt refl (three_of (line_end line)) refl n new w next begun

  -- the line goes on behind these bytes
  pub listed : None ≡ end_from bytes from → (line : Reading) → line ≡ fed r (take (length bytes - from) (drop from bytes))
      → length bytes ≤ length old / 3
      → (Ok (record { size = at; reading = line }) ≡ listed_by (listing r₀ bytes old) r₀ bytes)
      × ((out ≡ writing_output (listing r₀ bytes old) old) × Counts at out)
  unfolding listing
  listed is line reads h =
      let w = Feeding.going_done start read_on line_end passes lists 3 bytes old tt r₀ out tt r at from g is line reads in
      simp (le-ltb (length old) (3 * length bytes) (omega arith))
      ((λ i. Ok (record { size = w.written i; reading = w.read i })), (w.output, w.counts))

pub list_short : (r : Reading) (bytes old : List ℕ) → length old / 3 < length bytes
    → (Err (record {}) ≡ listed_by (listing r bytes old) r bytes) × (old ≡ writing_output (listing r bytes old) old)
unfolding listing
list_short r bytes old h = simp (lt-ltb (length old) (3 * length bytes) (omega arith)) (refl, refl)
