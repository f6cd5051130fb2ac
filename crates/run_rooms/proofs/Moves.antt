-- The letters in flight while one leaves: those behind it close up, or those before it do, and the front moves up.
use Prim.Native.Nat.{ℕ, zero, suc, ◌+◌, ◌-◌, ◌≤◌, ◌<◌}
use mathlib.Core.Path.{◌≡◌, refl, sym, ap, ap₂, ◌∙◌}
use mathlib.Core.List.{List, ◌∷◌, ◌++◌, map}
use native.Mathlib.Decide.{dec_lt}
use native.Mathlib.Omega.{arith}
use lib.ListN.{length, get_or, length-append, get_or-append}
use lib.Seq.{get_or-append-add}
use Rattle.std.specs.List.{CopiedTo, SameBelow, SameFrom}
use Rattle.lists.specs.Lists.{from, below}
use Rattle.lists.specs.Places.{without}
use Rattle.lists.proofs.Fill.{by_places, map_below_same}
use Rattle.lists.proofs.Numbers.{length_map_below, get_or_map_below}
use Rattle.net.specs.declared.Letter.{Letter}
use Rattle.world.specs.World.{no_letter}
use Rattle.run_rooms.specs.Rooms.{in_flight}

-- ---- a list without one of its places, place by place
module _ {A : Type 0} where
  shifted : (n i : ℕ) (f g : ℕ → A) → ((j : ℕ) → j < n → g (i + j) ≡ f (suc i + j)) → map g (from i n) ≡ map f (from (suc i) n)
  shifted zero i f g h = refl
  shifted (suc n) i f g h =
      ap₂ (λ (x : A) (xs : List A). x ∷ xs)
      (ap g (omega arith) ∙ h 0 (omega arith) ∙ ap f (omega arith))
      (shifted n (suc i) f g (λ j l. ap g (omega arith) ∙ h (suc j) (omega arith) ∙ ap f (omega arith)))

  pub without_from : (p n i : ℕ) (f g : ℕ → A) → p ≤ n → ((j : ℕ) → j < p → g (i + j) ≡ f (i + j))
      → ((j : ℕ) → p ≤ j → j < n → g (i + j) ≡ f (suc i + j)) → map g (from i n) ≡ without p (map f (from i (suc n)))
  without_from zero n i f g h a b = shifted n i f g (λ j l. b j (omega arith) l)
  without_from (suc p) zero i f g h a b = absurd (omega (arith, h))
  without_from (suc p) (suc n) i f g h a b =
      ap₂ (λ (x : A) (xs : List A). x ∷ xs) (ap g (omega arith) ∙ a 0 (omega arith) ∙ ap f (omega arith))
      (without_from p n (suc i) f g (omega (arith, h))
      (λ j l. ap g (omega arith) ∙ a (suc j) (omega arith) ∙ ap f (omega arith))
      (λ j k l. ap g (omega arith) ∙ b (suc j) (omega arith) (omega arith) ∙ ap f (omega arith)))

-- ---- those behind place `at` close up, n of them: those in flight are without the one that left
pub fallen : (old l : List Letter) (at n : ℕ) → CopiedTo old l (at + 1) at n → SameBelow old l at → (start place many : ℕ)
    → at ≡ start + place → at + n ≡ start + many → place ≤ many → in_flight l start many ≡ without place (in_flight old start (many + 1))
fallen old l at n moved before start place many p q h =
    let one : suc many ≡ many + 1 = omega arith in
    without_from place many 0 (λ j. get_or old (start + j) no_letter) (λ j. get_or l (start + j) no_letter) h
    (λ j k. before (start + (0 + j)) no_letter (omega (arith, k, p)))
    (λ j k m. moved (start + (0 + j)) no_letter (omega (arith, k, p)) (omega (arith, m, q))
    ∙ ap (λ (n : ℕ). get_or old n no_letter) (omega (arith, k, p)))
    ∙ ap (λ (n : ℕ). without place (in_flight old start n)) one

-- ---- those before it do, all that are in flight: those in flight, whose front is one place further up, are without the one that left
pub risen : (old l : List Letter) (start n : ℕ) → CopiedTo old l start (start + 1) n → SameFrom old l (start + 1 + n) → (place many : ℕ)
    → n ≡ place → place ≤ many → in_flight l (start + 1) many ≡ without place (in_flight old start (many + 1))
risen old l start n moved behind place many q h =
    let one : suc many ≡ many + 1 = omega arith in
    without_from place many 0 (λ j. get_or old (start + j) no_letter) (λ j. get_or l (start + 1 + j) no_letter) h
    (λ j k. moved (start + 1 + (0 + j)) no_letter (omega arith) (omega (arith, k, q))
    ∙ ap (λ (n : ℕ). get_or old n no_letter) (omega arith))
    (λ j k m. behind (start + 1 + (0 + j)) no_letter (omega (arith, k, q)) ∙ ap (λ (n : ℕ). get_or old n no_letter) (omega arith))
    ∙ ap (λ (n : ℕ). without place (in_flight old start n)) one

-- ---- those in flight with new ones behind them
pub joined : (old l new : List Letter) (start many count : ℕ) → count ≡ length new
    → ((j : ℕ) → j < start + many → get_or l j no_letter ≡ get_or old j no_letter)
    → ((m : ℕ) → m < count → get_or l (start + many + m) no_letter ≡ get_or new m no_letter)
    → in_flight l start (many + count) ≡ in_flight old start many ++ new
joined old l new start many count e a b =
    map_below_same g (λ j. get_or (xs ++ new) j no_letter) (many + count) (λ j h. go j h (dec_lt j many))
    ∙ sym (by_places no_letter (many + count) (xs ++ new) (omega (arith, length-append xs new, length_map_below f many, e)))
  where
    f : ℕ → Letter
    f j = get_or old (start + j) no_letter

    g : ℕ → Letter
    g j = get_or l (start + j) no_letter

    xs : List Letter
    xs = map f (below many)

    go : (j : ℕ) → j < many + count → Dec (j < many) → g j ≡ get_or (xs ++ new) j no_letter
    go j h (yes k) =
        a (start + j) (omega (arith, k))
        ∙ sym (get_or-append xs new no_letter j (omega (arith, k, length_map_below f many)) ∙ get_or_map_below f many j no_letter k)
    go j h (no k) =
        let p : start + j ≡ start + many + (j - many) = omega (arith, k) in
        let q : length xs + (j - many) ≡ j = omega (arith, k, length_map_below f many) in
        ap (λ (n : ℕ). get_or l n no_letter) p ∙ b (j - many) (omega (arith, h, k))
        ∙ sym (ap (λ (n : ℕ). get_or (xs ++ new) n no_letter) (sym q) ∙ get_or-append-add xs new (j - many) no_letter)
