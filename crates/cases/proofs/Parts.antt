-- The parts of a case, cut off one after another.
use Prim.Native.Nat.{ℕ, ◌-◌}
use mathlib.Core.Path.{◌≡◌, ap, ap₂, ◌∙◌}
use mathlib.Core.List.{List}
use native.Mathlib.Omega.{arith}
use lib.ListN.{length, get_or, take, drop, length-drop}
use lib.Seq.{take_all, drop-drop}
use Rattle.net.specs.declared.Net.{Net}
use Rattle.net.specs.Sizes.{link_room}
use Rattle.cases.specs.Cases.{case_net}

module _ (bytes : List ℕ) where
  abbrev ends : List ℕ
  ends = take (length bytes - 2) (drop 2 bytes)

  pub case_parts : (low more high rest : List ℕ) → (low ≡ take link_room ends) × (more ≡ drop link_room ends)
      → (high ≡ take link_room more) × (rest ≡ drop link_room more)
      → ◌≡◌ {A = Net} (record { stations = get_or bytes 0 0; links = get_or bytes 1 0; low = low; high = high }) (case_net bytes)
      × (rest ≡ drop 130 bytes)
  case_parts low more high rest p q =
      let w : ends ≡ drop 2 bytes = take_all (length bytes - 2) (drop 2 bytes) (omega (arith, length-drop 2 bytes)) in
      let m : more ≡ drop 66 bytes = p.1 ∙ ap (drop link_room) w ∙ drop-drop link_room 2 bytes in (
        ap₂ (λ (x y : List ℕ). record { stations = get_or bytes 0 0; links = get_or bytes 1 0; low = x; high = y })
            (p.0 ∙ ap (take link_room) w) (q.0 ∙ ap (take link_room) m),
        q.1 ∙ ap (drop link_room) m ∙ drop-drop link_room 66 bytes,
      )
