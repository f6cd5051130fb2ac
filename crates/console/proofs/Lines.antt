-- The law of specs/Feeding.antt: whatever the pieces that an input comes in, in all there is printed, and held at the end, what its lines
-- say, one after the other.
use Rattle.std.specs.Prelude.{if◌then◌else◌}
use Prim.Native.Nat.{ℕ}
use mathlib.Core.Bool.{Bool, true, false}
use mathlib.Core.Path.{◌≡◌, refl, sym, ap, ap₂, ◌∙◌}
use mathlib.Core.List.{List, [], ◌∷◌, ◌++◌, map, append_assoc}
use native.Mathlib.Decide.{ℕ_discrete}
use borrow.Author.Tests.{eq-eqb, ne_eqb}
use Rattle.lists.specs.Places.{collect}
use Rattle.event_lines.specs.Split.{lines_of, answers}
use Rattle.console.specs.Feeding.{held_after, read_after, text_after, printed, held_all, pieces_held, pieces_read, pieces_text, closing}
use Rattle.console.specs.Feeding.{whole_text, whole_held}

-- the pieces joined
abbrev pub joined : List (List ℕ) → List ℕ
joined pieces = collect (λ p. p) pieces

module _ {Y R A : Type 0} (fresh : R) (on : R → ℕ → R) (ends : R → A) (act : Y → A → Y) (say : Y → A → List ℕ) where
  abbrev held : Y → R → List ℕ → Y
  held = held_after fresh on ends act say

  abbrev read : Y → R → List ℕ → R
  read = read_after fresh on ends act say

  abbrev text : Y → R → List ℕ → List ℕ
  text = text_after fresh on ends act say

  -- ---- two pieces
  held_append : (xs ys : List ℕ) (y : Y) (r : R) → held y r (xs ++ ys) ≡ held (held y r xs) (read y r xs) ys
  unfolding held_after read_after
  held_append [] ys y r = refl
  held_append (b ∷ xs) ys y r = go (ℕ_discrete b 10) (held_append xs ys (act y (ends r)) fresh) (held_append xs ys y (on r b))
    where
      go : Dec (b ≡ 10) → held (act y (ends r)) fresh (xs ++ ys) ≡ held (held (act y (ends r)) fresh xs) (read (act y (ends r)) fresh xs) ys
          → held y (on r b) (xs ++ ys) ≡ held (held y (on r b) xs) (read y (on r b) xs) ys
          → held y r ((b ∷ xs) ++ ys) ≡ held (held y r (b ∷ xs)) (read y r (b ∷ xs)) ys
      go (yes e) p q = simp (eq-eqb b 10 e) p
      go (no e) p q = simp (ne_eqb b 10 e) q

  read_append : (xs ys : List ℕ) (y : Y) (r : R) → read y r (xs ++ ys) ≡ read (held y r xs) (read y r xs) ys
  unfolding held_after read_after
  read_append [] ys y r = refl
  read_append (b ∷ xs) ys y r = go (ℕ_discrete b 10) (read_append xs ys (act y (ends r)) fresh) (read_append xs ys y (on r b))
    where
      go : Dec (b ≡ 10) → read (act y (ends r)) fresh (xs ++ ys) ≡ read (held (act y (ends r)) fresh xs) (read (act y (ends r)) fresh xs) ys
          → read y (on r b) (xs ++ ys) ≡ read (held y (on r b) xs) (read y (on r b) xs) ys
          → read y r ((b ∷ xs) ++ ys) ≡ read (held y r (b ∷ xs)) (read y r (b ∷ xs)) ys
      go (yes e) p q = simp (eq-eqb b 10 e) p
      go (no e) p q = simp (ne_eqb b 10 e) q

  text_append : (xs ys : List ℕ) (y : Y) (r : R) → text y r (xs ++ ys) ≡ text y r xs ++ text (held y r xs) (read y r xs) ys
  unfolding held_after read_after text_after
  text_append [] ys y r = refl
  text_append (b ∷ xs) ys y r = go (ℕ_discrete b 10) (text_append xs ys (act y (ends r)) fresh) (text_append xs ys y (on r b))
    where
      go : Dec (b ≡ 10) → text (act y (ends r)) fresh (xs ++ ys) ≡ text (act y (ends r)) fresh xs ++ text (held (act y (ends r)) fresh xs)
          (read (act y (ends r)) fresh xs) ys
          → text y (on r b) (xs ++ ys) ≡ text y (on r b) xs ++ text (held y (on r b) xs) (read y (on r b) xs) ys
          → text y r ((b ∷ xs) ++ ys) ≡ text y r (b ∷ xs) ++ text (held y r (b ∷ xs)) (read y r (b ∷ xs)) ys
      go (yes e) p q =
          simp (eq-eqb b 10 e)
          (ap (λ (l : List ℕ). say y (ends r) ++ l) p
          ∙ sym (append_assoc (say y (ends r)) (text (act y (ends r)) fresh xs)
          (text (held (act y (ends r)) fresh xs) (read (act y (ends r)) fresh xs) ys)))
      go (no e) p q = simp (ne_eqb b 10 e) q

  -- ---- any number of pieces
  pieces_held_lem : (pieces : List (List ℕ)) (y : Y) (r : R) → pieces_held fresh on ends act say y r pieces ≡ held y r (joined pieces)
  unfolding pieces_held held_after
  pieces_held_lem [] y r = refl
  pieces_held_lem (p ∷ pieces) y r = pieces_held_lem pieces (held y r p) (read y r p) ∙ sym (held_append p (joined pieces) y r)

  pieces_read_lem : (pieces : List (List ℕ)) (y : Y) (r : R) → pieces_read fresh on ends act say y r pieces ≡ read y r (joined pieces)
  unfolding pieces_read read_after
  pieces_read_lem [] y r = refl
  pieces_read_lem (p ∷ pieces) y r = pieces_read_lem pieces (held y r p) (read y r p) ∙ sym (read_append p (joined pieces) y r)

  pieces_text_lem : (pieces : List (List ℕ)) (y : Y) (r : R) → pieces_text fresh on ends act say y r pieces ≡ text y r (joined pieces)
  unfolding pieces_text text_after
  pieces_text_lem [] y r = refl
  pieces_text_lem (p ∷ pieces) y r =
      ap (λ (l : List ℕ). text y r p ++ l) (pieces_text_lem pieces (held y r p) (read y r p)) ∙ sym (text_append p (joined pieces) y r)

  -- ---- the lines of the whole
  module _ (begun : R → Bool) (at_first : begun fresh ≡ false) (then-on : (r : R) (b : ℕ) → begun (on r b) ≡ true) where
    abbrev last : R → List ℕ
    last r = closing fresh on ends act say begun r

    closed_text : (bytes : List ℕ) (y : Y) (r : R) (t : Bool) → begun r ≡ t
        → text y r bytes ++ text (held y r bytes) (read y r bytes) (last (read y r bytes)) ≡ printed fresh on ends act say y
        (answers fresh on ends r t bytes)
    unfolding held_after read_after text_after printed
    closed_text [] y r true e = ap (λ (b : Bool). text y r (if b then 10 ∷ [] else [])) e
    closed_text [] y r false e = ap (λ (b : Bool). text y r (if b then 10 ∷ [] else [])) e
    closed_text (b ∷ bytes) y r t e =
        go t (ℕ_discrete b 10) (closed_text bytes (act y (ends r)) fresh false at_first) (closed_text bytes y (on r b) true (then-on r b))
      where
        go : (t : Bool) → Dec (b ≡ 10)
            → text (act y (ends r)) fresh bytes ++ text (held (act y (ends r)) fresh bytes) (read (act y (ends r)) fresh bytes)
            (last (read (act y (ends r)) fresh bytes)) ≡ printed fresh on ends act say (act y (ends r))
            (answers fresh on ends fresh false bytes)
            → text y (on r b) bytes ++ text (held y (on r b) bytes) (read y (on r b) bytes) (last (read y (on r b) bytes)) ≡ printed fresh
            on ends act say y (answers fresh on ends (on r b) true bytes)
            → text y r (b ∷ bytes) ++ text (held y r (b ∷ bytes)) (read y r (b ∷ bytes)) (last (read y r (b ∷ bytes))) ≡ printed fresh on
            ends act say y (answers fresh on ends r t (b ∷ bytes))
        go true (yes h) p q = simp (eq-eqb b 10 h, append_assoc) (ap (λ (l : List ℕ). say y (ends r) ++ l) p)
        go false (yes h) p q = simp (eq-eqb b 10 h, append_assoc) (ap (λ (l : List ℕ). say y (ends r) ++ l) p)
        go true (no h) p q = simp (ne_eqb b 10 h) q
        go false (no h) p q = simp (ne_eqb b 10 h) q

    closed_held : (bytes : List ℕ) (y : Y) (r : R) (t : Bool) → begun r ≡ t
        → held (held y r bytes) (read y r bytes) (last (read y r bytes))
        ≡ held_all fresh on ends act say y (answers fresh on ends r t bytes)
    unfolding held_after read_after held_all
    closed_held [] y r true e = ap (λ (b : Bool). held y r (if b then 10 ∷ [] else [])) e
    closed_held [] y r false e = ap (λ (b : Bool). held y r (if b then 10 ∷ [] else [])) e
    closed_held (b ∷ bytes) y r t e =
        go t (ℕ_discrete b 10) (closed_held bytes (act y (ends r)) fresh false at_first) (closed_held bytes y (on r b) true (then-on r b))
      where
        go : (t : Bool) → Dec (b ≡ 10)
            → held (held (act y (ends r)) fresh bytes) (read (act y (ends r)) fresh bytes)
            (last (read (act y (ends r)) fresh bytes)) ≡ held_all fresh on ends act say (act y (ends r))
            (answers fresh on ends fresh false bytes)
            → held (held y (on r b) bytes) (read y (on r b) bytes) (last (read y (on r b) bytes)) ≡ held_all fresh on ends act say y
            (answers fresh on ends (on r b) true bytes)
            → held (held y r (b ∷ bytes)) (read y r (b ∷ bytes)) (last (read y r (b ∷ bytes))) ≡ held_all fresh on ends act say y
            (answers fresh on ends r t (b ∷ bytes))
        go true (yes h) p q = simp (eq-eqb b 10 h) p
        go false (yes h) p q = simp (eq-eqb b 10 h) p
        go true (no h) p q = simp (ne_eqb b 10 h) q
        go false (no h) p q = simp (ne_eqb b 10 h) q

    -- THE LAW, for a reading whose answers for a text are those for its lines
    module _ (whole : List ℕ → A) (each : (bytes : List ℕ) → answers fresh on ends fresh false bytes ≡ map whole (lines_of bytes)) (y : Y)
        (pieces : List (List ℕ)) where
      pub whole_text_lem : whole_text fresh on ends act say begun y pieces ≡ printed fresh on ends act say y
          (map whole (lines_of (joined pieces)))
      unfolding whole_text
      whole_text_lem =
          ap₂ (λ (l m : List ℕ). l ++ m) (pieces_text_lem pieces y fresh)
          (ap₂ (λ (z : Y) (r : R). text z r (last r)) (pieces_held_lem pieces y fresh) (pieces_read_lem pieces y fresh))
          ∙ closed_text (joined pieces) y fresh false at_first ∙ ap (printed fresh on ends act say y) (each (joined pieces))

      pub whole_held_lem : whole_held fresh on ends act say begun y pieces ≡ held_all fresh on ends act say y
          (map whole (lines_of (joined pieces)))
      unfolding whole_held
      whole_held_lem =
          ap₂ (λ (z : Y) (r : R). held z r (last r)) (pieces_held_lem pieces y fresh) (pieces_read_lem pieces y fresh)
          ∙ closed_held (joined pieces) y fresh false at_first ∙ ap (held_all fresh on ends act say y) (each (joined pieces))
