-- For callers: texts put one after the other are the joined text put at once, and the last answer says whether all of it fits.
use Prim.Native.Nat.{ℕ, suc, ◌+◌, ◌≤◌, ◌<◌}
use mathlib.Core.Path.{◌≡◌, refl, sym, ap, ap₂, ◌∙◌}
use mathlib.Core.List.{List, [], ◌∷◌, ◌++◌, append_assoc}
use native.Mathlib.Nat.{add-zero}
use native.Mathlib.Decide.{dec_le}
use native.Mathlib.Omega.{arith}
use lib.ListN.{length, take, drop, set, length-append, length-set}
use lib.Seq.{set_split, paste-zero, take_at, drop_at, drop-drop, length-take-le}
use Rattle.text.specs.Text.{put_at, place_after}
use Rattle.text.proofs.Puts.{place_over, place_fits, put_fits, length_put}

-- from the place `from` of the output `old` a text was put, in parts: `at` is the last answer and `out` the output now
pub record Chain (text : List ℕ) (from : ℕ) (old : List ℕ) (at : ℕ) (out : List ℕ) : Type 0 where
  pub place : at ≡ place_after text from old
  pub size : length out ≡ length old
  pub output : at ≤ length old → out ≡ put_at text from old

-- nothing yet
pub chain_none : (from : ℕ) (old : List ℕ) → from ≤ length old → Chain [] from old from old
chain_none from old h =
    record {
      place = sym (place_fits [] from old (omega arith) ∙ add-zero from);
      size = refl;
      output = λ l. paste-zero old from [] ∙ sym (put_fits [] from old (omega arith));
    }

-- the answer says whether it fits
pub chain_fits : (text : List ℕ) (from : ℕ) (old : List ℕ) (at : ℕ) (out : List ℕ) → Chain text from old at out → at ≤ length old
    → from + length text ≤ length old
chain_fits text from old at out c l = go (dec_le (from + length text) (length old))
  where
    go : Dec (from + length text ≤ length old) → from + length text ≤ length old
    go (yes h) = h
    go (no h) = absurd (omega (arith, c.place, place_over text from old (omega arith)))

-- a text put behind another is both put at once
pub put_twice : (xs ys : List ℕ) (from : ℕ) (old : List ℕ) → from + length (xs ++ ys) ≤ length old
    → put_at ys (from + length xs) (put_at xs from old) ≡ put_at (xs ++ ys) from old
put_twice xs ys from old h =
    let whole : length (xs ++ ys) ≡ length xs + length ys = length-append xs ys in
    let front : length (take from old ++ xs) ≡ from + length xs = length-append (take from old) xs
    ∙ ap (λ (n : ℕ). n + length xs) (length-take-le from old (omega (arith, whole))) in
    let first : put_at xs from old ≡ (take from old ++ xs) ++ drop (from + length xs) old = put_fits xs from old (omega (arith, whole)) in
    let ends : from + length xs + length ys ≡ from + length (xs ++ ys) = omega (arith, whole) in
    let back : drop (from + length xs + length ys) (put_at xs from old) ≡ drop (from + length (xs ++ ys)) old =
    ap (drop (from + length xs + length ys)) first
    ∙ sym (drop-drop (length ys) (from + length xs) ((take from old ++ xs) ++ drop (from + length xs) old))
    ∙ ap (drop (length ys)) (drop_at (take from old ++ xs) (drop (from + length xs) old) (from + length xs) front)
    ∙ drop-drop (length ys) (from + length xs) old ∙ ap (λ (n : ℕ). drop n old) ends in
    put_fits ys (from + length xs) (put_at xs from old) (omega (arith, whole, length_put xs from old))
    ∙ ap₂ (λ (x y : List ℕ). x ++ ys ++ y) (ap (take (from + length xs)) first
    ∙ take_at (take from old ++ xs) (drop (from + length xs) old) (from + length xs) front) back
    ∙ ap (λ (x : List ℕ). x ++ drop (from + length (xs ++ ys)) old) (append_assoc (take from old) xs ys)
    ∙ sym (put_fits (xs ++ ys) from old h)

module _ (xs ys : List ℕ) (from : ℕ) (old : List ℕ) (at : ℕ) (out : List ℕ) (c : Chain xs from old at out) where
  whole : length (xs ++ ys) ≡ length xs + length ys
  whole = length-append xs ys

  -- one text more
  pub chain_more : Chain (xs ++ ys) from old (place_after ys at out) (put_at ys at out)
  chain_more = go (dec_le (from + length xs) (length old)) (dec_le (from + length (xs ++ ys)) (length old))
    where
      go : Dec (from + length xs ≤ length old) → Dec (from + length (xs ++ ys) ≤ length old)
          → Chain (xs ++ ys) from old (place_after ys at out) (put_at ys at out)
      go (yes h) (yes l) =
          let here : at ≡ from + length xs = c.place ∙ place_fits xs from old h in
          record {
            place = place_fits ys at out (omega (arith, c.size, whole)) ∙ omega (arith, whole, place_fits (xs ++ ys) from old l);
            size = length_put ys at out ∙ c.size;
            output = λ i. ap₂ (λ (x : ℕ) (y : List ℕ). put_at ys x y) here (c.output (omega arith)) ∙ put_twice xs ys from old l;
          }
      go (yes h) (no l) =
          let here : at ≡ from + length xs = c.place ∙ place_fits xs from old h in
          let over : place_after ys at out ≡ length out + 1 = place_over ys at out (omega (arith, c.size, whole)) in
          record {
            place = over ∙ omega (arith, c.size, place_over (xs ++ ys) from old (omega arith));
            size = length_put ys at out ∙ c.size;
            output = λ i. absurd (omega (arith, c.size, over));
          }
      go (no h) l =
          let here : at ≡ length old + 1 = c.place ∙ place_over xs from old (omega arith) in
          let over : place_after ys at out ≡ length out + 1 = place_over ys at out (omega (arith, c.size)) in
          record {
            place = over ∙ omega (arith, c.size, place_over (xs ++ ys) from old (omega (arith, whole)));
            size = length_put ys at out ∙ c.size;
            output = λ i. absurd (omega (arith, c.size, over));
          }

-- the same with what a call promises of its answer and of the output
pub chain_next : {xs : List ℕ} {from : ℕ} {old : List ℕ} {at : ℕ} {out : List ℕ} (ys : List ℕ) {r : ℕ} {next : List ℕ}
    → Chain xs from old at out
    → (r ≡ place_after ys at out) × (next ≡ put_at ys at out) → Chain (xs ++ ys) from old r next
chain_next {xs} {from} {old} {at} {out} ys c p =
    let w = chain_more xs ys from old at out c in
    record { place = p.0 ∙ w.place; size = ap length p.1 ∙ w.size; output = λ l. p.1 ∙ w.output (omega (arith, p.0)) }

-- ---- numbers stored one by one
-- one number stored is a text of one put there
pub stored : (old : List ℕ) (at r x : ℕ) → at < length old → r ≡ at + 1
    → (r ≡ place_after (x ∷ []) at old) × (set old at x ≡ put_at (x ∷ []) at old)
stored old at r x h e =
    let past : suc at ≡ at + length (x ∷ []) = omega arith in (
      e ∙ sym (place_fits (x ∷ []) at old (omega arith)),
      set_split old at x h ∙ ap (λ (n : ℕ). take at old ++ (x ∷ drop n old)) past
          ∙ sym (put_fits (x ∷ []) at old (omega arith) ∙ append_assoc (take at old) (x ∷ []) (drop (at + length (x ∷ [])) old)),
    )

-- and three are a text of three
pub stored_three : (old : List ℕ) (at x y z : ℕ) → at + 3 ≤ length old
    → Chain (x ∷ y ∷ z ∷ []) at old (at + 3) (set (set (set old at x) (at + 1) y) (at + 2) z)
stored_three old at x y z h =
    let first = chain_next (x ∷ []) (chain_none at old (omega arith)) (stored old at (at + 1) x (omega arith) refl) in
    let second = chain_next (y ∷ []) first (stored (set old at x) (at + 1) (at + 2) y (simp length-set (omega arith)) (omega arith)) in
    chain_next (z ∷ []) second
    (stored (set (set old at x) (at + 1) y) (at + 2) (at + 3) z (simp length-set (omega arith)) (omega arith))

pub put_three : (old : List ℕ) (at x y z : ℕ) → at + 3 ≤ length old
    → set (set (set old at x) (at + 1) y) (at + 2) z ≡ put_at (x ∷ y ∷ z ∷ []) at old
put_three old at x y z h = (stored_three old at x y z h).output (omega arith)

-- behind a text that was put, with room for one more
module _ {xs : List ℕ} {from : ℕ} {old : List ℕ} {at : ℕ} {out : List ℕ} (c : Chain xs from old at out)
    (h : from + length xs < length old) where
  pub chain_room : at < length out
  chain_room = omega (arith, c.size, c.place, place_fits xs from old (omega arith))

  pub chain_stored : (x : ℕ) → Chain (xs ++ (x ∷ [])) from old (at + 1) (set out at x)
  chain_stored x = chain_next (x ∷ []) c (stored out at (at + 1) x chain_room refl)
