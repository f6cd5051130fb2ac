-- What the code sees of the field at the front, and what its stores leave.
use Prim.Native.Nat.{ℕ, suc, ◌+◌, ◌-◌, ◌/◌, ◌%◌, ◌≤◌, ◌<◌}
use mathlib.Core.Path.{◌≡◌, refl, sym, ap₂, ◌∙◌}
use mathlib.Core.List.{List, [], ◌∷◌, ◌++◌}
use native.Mathlib.Omega.{arith}
use lib.ListN.{length, get_or, take, drop, length-drop}
use lib.Seq.{take_all, drop-drop}
use borrow.Author.Tests.{lt-ltb, le-ltb, le-leb, lt-leb}
use Rattle.std.specs.Prelude.{Option, Some, None}
use Rattle.lists.proofs.Tests.{and_no}
use Rattle.fields.specs.Fields.{short, field, wide, cut_value, first_field, write_field, put_field, put_size, longest_value}

-- ---- cutting
pub head_short : (bytes : List ℕ) → length bytes < 3 → short ≡ first_field bytes
unfolding first_field
head_short [] h = refl
head_short (t ∷ []) h = refl
head_short (t ∷ a ∷ []) h = refl
head_short (t ∷ a ∷ b ∷ bytes) h = absurd (omega arith)

head_whole : (bytes : List ℕ) → 3 ≤ length bytes
    → first_field bytes ≡ cut_value (get_or bytes 0 0) (wide (get_or bytes 1 0) (get_or bytes 2 0)) (drop 3 bytes)
unfolding first_field
head_whole [] h = absurd (omega arith)
head_whole (t ∷ []) h = absurd (omega arith)
head_whole (t ∷ a ∷ []) h = absurd (omega arith)
head_whole (t ∷ a ∷ b ∷ bytes) h = refl

-- where there is a head, with so much after it
module _ (bytes : List ℕ) (n : ℕ) (h : 3 ≤ length bytes) (e : n ≡ wide (get_or bytes 1 0) (get_or bytes 2 0)) where
  abbrev after : List ℕ
  after = take (length bytes - 3) (drop 3 bytes)

  cut : cut_value (get_or bytes 0 0) n after ≡ first_field bytes
  cut =
      ap₂ (cut_value (get_or bytes 0 0)) e (take_all (length bytes - 3) (drop 3 bytes) (omega (arith, length-drop 3 bytes)))
      ∙ sym (head_whole bytes h)

  pub cut_short : length after < n → short ≡ first_field bytes
  cut_short l = sym (sym cut ∙ simp (lt-ltb (length after) n l))

  pub cut_whole : n ≤ length after → (value rest : List ℕ) → value ≡ take n after → rest ≡ drop n after
      → field (get_or bytes 0 0) value rest ≡ first_field bytes
  cut_whole l value rest p q = ap₂ (field (get_or bytes 0 0)) p q ∙ sym (sym cut ∙ simp (le-ltb (length after) n l))

-- ---- writing
three_add : (n : ℕ) → 3 + n ≡ suc (suc (suc n))
three_add n = omega arith

module _ (tag : ℕ) (value old : List ℕ) where
  abbrev Leaves : Option ℕ → List ℕ → Type 0
  Leaves size out = (size ≡ put_size value old) × (out ≡ put_field tag value old)

  pub put_long : (length value < 65536 → ⊥) → Leaves None old
  unfolding put_size put_field
  put_long h =
      let l = lt-leb (length value) longest_value (omega arith) in (simp l, simp l)

  pub put_short : length old < length value + 3 → Leaves None old
  unfolding put_size put_field
  put_short h = (simp (lt-leb (length value + 3) (length old) h, and_no), simp (lt-leb (length value + 3) (length old) h, and_no))

  pub put_whole : (n : ℕ) (two front part : List ℕ) → (length value < 65536) × (n ≡ length value) → length value + 3 ≤ length old
      → two ≡ n / 256 % 256 ∷ n % 256 ∷ [] → front ≡ tag ∷ get_or two 0 0 ∷ get_or two 1 0 ∷ [] → part ≡ value
      → Leaves (Some (length value + 3))
      (take 3 (front ++ drop 3 old) ++ (part ++ drop (length value + 3 - 3) (drop 3 (front ++ drop 3 old))))
  unfolding put_size put_field write_field
  put_whole n two front part s l p q r =
      let m : length value ≤ longest_value = omega (arith, s.0) in
      let high : n / 256 % 256 ≡ length value / 256 = omega (arith, s.0, s.1) in
      let low : n % 256 ≡ length value % 256 = omega (arith, s.1) in
      let size : length value + 3 - 3 ≡ length value = omega arith in
      let head : front ≡ tag ∷ length value / 256 ∷ length value % 256 ∷ [] = q ∙ simp (p, high, low) in (
        simp (le-leb (length value) longest_value m, le-leb (length value + 3) (length old) l),
        simp (
          head,
          r,
          size,
          le-leb (length value) longest_value m,
          le-leb (length value + 3) (length old) l,
          drop-drop (length value) 3 old,
          three_add,
        ),
      )
