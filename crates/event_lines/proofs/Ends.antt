-- Where a line ends in the bytes to come: the ways of the loop that looks for its newline, and what a caller has of the answer.
use Rattle.std.specs.Prelude.{Option, Some, None, position, slice_range, ◌==◌, if◌then◌else◌}
use Rattle.std.specs.List.{position_or_len}
use Rattle.std.proofs.lemmas.List.Recursion.{is_position_or_len}
use Prim.Native.Nat.{ℕ, suc, ◌+◌, ◌-◌, ◌≤◌, ◌<◌}
use Prim.Native.Nat.compare
use mathlib.Core.Bool.{Bool, true, false}
use mathlib.Core.Path.{◌≡◌, refl, sym, ap, ◌∙◌}
use mathlib.Core.List.{List, [], ◌∷◌}
use native.Mathlib.Decide.{ℕ_discrete}
use native.Mathlib.Numerals.{add-one}
use native.Mathlib.Omega.{arith}
use lib.ListN.{length, get_or, drop, take, length-drop, drop_of_length-le}
use lib.Seq.{drop-cons, drop-drop, take_all}
use lib.Dec.{eqb, ltb}
use borrow.Author.Tests.{eq-eqb, ne_eqb, lt-ltb}
use Rattle.event_lines.specs.Ends.{line_size, line_ends, end_from}

-- ---- a step of the search
module _ (bytes : List ℕ) (i : ℕ) where
  opens : i < length bytes → drop i bytes ≡ get_or bytes i 0 ∷ drop (i + 1) bytes
  opens h = rw (add-one, drop-cons bytes i 0 h)

  pub end_found : i < length bytes → get_or bytes i 0 ≡ 10 → Some i ≡ end_from bytes i
  unfolding end_from
  end_found h e = rw (opens h) (simp (eq-eqb (get_or bytes i 0) 10 e) (ap Some zero_more))
    where
      zero_more : i ≡ i + 0
      zero_more = omega arith

  pub end_more : i < length bytes → (get_or bytes i 0 ≡ 10 → ⊥) → end_from bytes i ≡ end_from bytes (i + 1)
  unfolding end_from
  end_more h e =
      rw (opens h) (simp (ne_eqb (get_or bytes i 0) 10 e, one_more (line_size (drop (i + 1) bytes))))
    where
      one_more : (n : ℕ) → i + suc n ≡ i + 1 + n
      one_more n = omega arith

-- ---- a line with a newline
size_ended : (later : List ℕ) → line_ends later ≡ true → line_size later < length later
size_ended [] e = let z : ◌≡◌ {A = ℕ} 0 1 = cc in absurd (omega arith)
size_ended (b ∷ later) e = go (ℕ_discrete b 10) (size_ended later) e
  where
    go : Dec (b ≡ 10) → (line_ends later ≡ true → line_size later < length later)
        → line_ends (b ∷ later) ≡ true → line_size (b ∷ later) < length (b ∷ later)
    go (yes h) p = simp (eq-eqb b 10 h) (λ e. omega arith)
    go (no h) p = simp (ne_eqb b 10 h) (λ e. omega (arith, p e))

record Ended (bytes : List ℕ) (from stop : ℕ) : Type 0 where
  pub ends : line_ends (drop from bytes) ≡ true
  pub place : stop ≡ from + line_size (drop from bytes)

ended : (bytes : List ℕ) (from stop : ℕ) → Some stop ≡ end_from bytes from → Ended bytes from stop
unfolding end_from
ended bytes from stop is = go (line_ends (drop from bytes)) refl is
  where
    go : (b : Bool) → line_ends (drop from bytes) ≡ b
        → Some stop ≡ (if b then Some (from + line_size (drop from bytes)) else None) → Ended bytes from stop
    go true e p = record { ends = e; place = cc }
    go false e p = cc

-- ---- for a caller that reads the line as far as it goes
module _ (bytes : List ℕ) (from : ℕ) where
  abbrev later : List ℕ
  later = drop from bytes

  -- no newline: the line goes on behind these bytes
  pub open_is : None ≡ end_from bytes from → line_ends later ≡ false
  unfolding end_from
  open_is is = go (line_ends later) refl is
    where
      go : (b : Bool) → line_ends later ≡ b → None ≡ (if b then Some (from + line_size later) else None) → line_ends later ≡ false
      go true e p = cc
      go false e p = e

  -- all of them are read
  pub line_whole : take (length bytes - from) later ≡ later
  line_whole = take_all (length bytes - from) later (omega (arith, length-drop from bytes))

  module _ (stop : ℕ) (is : Some stop ≡ end_from bytes from) where
    pub ends_is : line_ends later ≡ true
    ends_is = (ended bytes from stop is).ends

    stop_is : stop ≡ from + line_size later
    stop_is = (ended bytes from stop is).place

    pub line_is : take (stop - from) later ≡ take (line_size later) later
    line_is = let e : stop - from ≡ line_size later = omega (arith, stop_is) in ap (λ (n : ℕ). take n later) e

    pub end_after : from ≤ stop
    end_after = omega (arith, stop_is)

    -- there is a place behind it
    pub end_inside : stop < length bytes
    end_inside = omega (arith, stop_is, size_ended later ends_is, length-drop from bytes)

    pub end_behind : drop (stop + 1) bytes ≡ drop (suc (line_size later)) later
    end_behind =
        let here : from + suc (line_size later) ≡ stop + 1 = omega (arith, stop_is) in
        sym (drop-drop (suc (line_size later)) from bytes ∙ ap (λ (n : ℕ). drop n bytes) here)

-- ---- the code's search: std's first place of a newline
abbrev pub newline_place : List ℕ → Option ℕ
newline_place = position (λ b. b == 10)

size_is : (later : List ℕ) → line_size later ≡ position_or_len (λ b. b == 10) later
size_is =
    is_position_or_len line_size (λ b. b == 10) refl
    (λ b others. ap (λ (n : ℕ). if b == 10 then 0 else n) (one_more (line_size others)))
  where
    one_more : (n : ℕ) → suc n ≡ 1 + n
    one_more n = omega arith

ends_if : (xs : List ℕ) → line_ends xs ≡ ltb (line_size xs) (length xs)
ends_if [] = refl
ends_if (b ∷ xs) = go (eqb b 10) (ends_if xs)
  where
    go : (t : Bool) → line_ends xs ≡ ltb (line_size xs) (length xs)
        → (if t then true else line_ends xs) ≡ ltb (if t then 0 else suc (line_size xs)) (suc (length xs))
    go true e = sym (lt-ltb 0 (suc (length xs)) (omega arith))
    go false e = simp compare.suc-suc e

place_is : (xs : List ℕ) → newline_place xs ≡ (if line_ends xs then Some (line_size xs) else None)
place_is xs = rw (ends_if xs, size_is xs)

module _ (bytes : List ℕ) (from : ℕ) where
  pub end_none : length bytes ≤ from → None ≡ end_from bytes from
  unfolding end_from
  end_none h = rw (drop_of_length-le bytes h)

  module _ (rest : List ℕ) (is : rest ≡ slice_range bytes from (length bytes)) where
    found : newline_place rest ≡ (if line_ends (drop from bytes) then Some (line_size (drop from bytes)) else None)
    found =
        ap newline_place (is ∙ line_whole bytes from) ∙ place_is (drop from bytes)

    pub end_some : (place : ℕ) → Some place ≡ newline_place rest → Some (from + place) ≡ end_from bytes from
    unfolding end_from
    end_some place e = go (line_ends (drop from bytes)) (e ∙ found)
      where
        go : (b : Bool) → Some place ≡ (if b then Some (line_size (drop from bytes)) else None)
            → Some (from + place) ≡ (if b then Some (from + line_size (drop from bytes)) else None)
        go true p = let same : place ≡ line_size (drop from bytes) = cc in ap (λ (n : ℕ). Some (from + n)) same
        go false p = cc

    pub end_missed : None ≡ newline_place rest → None ≡ end_from bytes from
    unfolding end_from
    end_missed e = go (line_ends (drop from bytes)) (e ∙ found)
      where
        go : (b : Bool) → None ≡ (if b then Some (line_size (drop from bytes)) else None)
            → None ≡ (if b then Some (from + line_size (drop from bytes)) else None)
        go true p = cc
        go false p = refl
