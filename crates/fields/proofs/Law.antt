-- The law of fields, for sheets and letters alike: what is written is cut back, and what is cut was written so.
use Rattle.std.specs.Prelude.{if◌then◌else◌}
use Prim.Native.Nat.{ℕ, ◌/◌, ◌%◌, ◌≤◌, ◌<◌}
use mathlib.Core.Bool.{Bool, true, false}
use mathlib.Core.Path.{◌≡◌, refl, sym, ap, ap₂, ◌∙◌, subst, subst⁻¹}
use mathlib.Core.List.{List, [], ◌∷◌, ◌++◌}
use native.Mathlib.Nat.{div-add-mod'}
use native.Mathlib.Omega.{arith}
use lib.Dec.{T, ltb, ltb→lt, lt→ltb}
use lib.ListN.{length, take, drop, length-append, take-append-drop}
use lib.Seq.{take-append_seam, drop-append_seam, length-take-le}
use borrow.Author.Tests.{le-ltb, ltb-false}
use Rattle.lists.proofs.Tests.{and_l, and_r, and_i, every_append}
use Rattle.fields.specs.Fields.{short, field, wide, cut_value, first_field, write_field, are_bytes, longest_value}

-- what was written is cut back, whatever follows
pub cut_written : (tag : ℕ) (value rest : List ℕ) → first_field (write_field tag value ++ rest) ≡ field tag value rest
unfolding first_field write_field
cut_written tag value rest =
    ap (λ (n : ℕ). cut_value tag n (value ++ rest)) (div-add-mod' (length value) 256)
    ∙ simp (
      le-ltb (length (value ++ rest)) (length value) (omega (arith, length-append value rest)),
      take-append_seam value
          rest,
      drop-append_seam value rest,
    )

-- what a value that was cut says of the bytes
pub value_cut : (tag n : ℕ) (bytes : List ℕ) (t : ℕ) (v r : List ℕ) → cut_value tag n bytes ≡ field t v r
    → (tag ≡ t) × (length v ≡ n) × (bytes ≡ v ++ r)
value_cut tag n bytes t v r e = go (ltb (length bytes) n) refl e
  where
    go : (b : Bool) → ltb (length bytes) n ≡ b → (if b then short else field tag (take n bytes) (drop n bytes)) ≡ field t v r
        → (tag ≡ t) × (length v ≡ n) × (bytes ≡ v ++ r)
    go true p q = let z : ◌≡◌ {A = ℕ} 0 1 = cc in absurd (omega arith)
    go false p q =
        let tags : tag ≡ t = cc in
        let values : take n bytes ≡ v = cc in
        let rests : drop n bytes ≡ r = cc in (
          tags,
          ap length (sym values) ∙ length-take-le n bytes (ltb-false (length bytes) n p),
          sym (take-append-drop n bytes) ∙ ap₂ (λ (x y : List ℕ). x ++ y) values rests,
        )

-- a field that was cut is exactly the bytes written, followed by the rest
pub written_cut : (bytes : List ℕ) (tag : ℕ) (value rest : List ℕ) → T (are_bytes bytes) → first_field bytes ≡ field tag value rest
    → bytes ≡ write_field tag value ++ rest
unfolding first_field write_field
written_cut [] tag value rest t e = let z : ◌≡◌ {A = ℕ} 0 1 = cc in absurd (omega arith)
written_cut (x ∷ []) tag value rest t e = let z : ◌≡◌ {A = ℕ} 0 1 = cc in absurd (omega arith)
written_cut (x ∷ a ∷ []) tag value rest t e = let z : ◌≡◌ {A = ℕ} 0 1 = cc in absurd (omega arith)
written_cut (x ∷ a ∷ b ∷ bytes) tag value rest t e =
    let parts = value_cut x (wide a b) bytes tag value rest e in
    let u = and_r (ltb x 256) _ t in
    let high : a < 256 = ltb→lt a 256 (and_l (ltb a 256) _ u) in
    let low : b < 256 = ltb→lt b 256 (and_l (ltb b 256) _ (and_r (ltb a 256) _ u)) in
    let n : length value ≡ wide a b = parts.1 in
    let first : a ≡ length value / 256 = omega arith in
    let second : b ≡ length value % 256 = omega arith in
    cc (parts.0, parts.2)

-- what follows a field of bytes is bytes, and so is its value
pub parts_bytes : (xs ys : List ℕ) → T (are_bytes (xs ++ ys)) → T (are_bytes xs) × T (are_bytes ys)
parts_bytes xs ys t =
    let u = subst T (every_append (λ b. ltb b 256) xs ys) t in
    (and_l (are_bytes xs) _ u, and_r (are_bytes xs) _ u)

pub bytes_append : (xs ys : List ℕ) → T (are_bytes xs) → T (are_bytes ys) → T (are_bytes (xs ++ ys))
bytes_append xs ys t u = subst⁻¹ T (every_append (λ b. ltb b 256) xs ys) (and_i (are_bytes xs) _ t u)

-- a field of bytes whose length fits in two bytes is written in bytes
pub field_bytes : (tag : ℕ) (value : List ℕ) → tag < 256 → length value ≤ longest_value → T (are_bytes value)
    → T (are_bytes (write_field tag value))
unfolding write_field
field_bytes tag value h l t =
    let high : length value / 256 < 256 = omega arith in
    let low : length value % 256 < 256 = omega arith in
    and_i (ltb tag 256) _ (lt→ltb tag 256 h) (and_i (ltb (length value / 256) 256) _ (lt→ltb (length value / 256) 256 high)
    (and_i (ltb (length value % 256) 256) _ (lt→ltb (length value % 256) 256 low) t))
