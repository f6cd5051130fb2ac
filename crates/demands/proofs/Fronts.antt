-- The field at the front of bytes, as the definitions cut it, is the field in the words of specs/Given.antt.
use Rattle.std.specs.Prelude.{if◌then◌else◌}
use Prim.Native.Nat.{ℕ, ◌<◌}
use mathlib.Core.Bool.{Bool, true, false}
use mathlib.Core.Path.{◌≡◌, refl, ap, ◌∙◌, subst}
use mathlib.Core.List.{List, [], ◌∷◌}
use native.Mathlib.Omega.{arith}
use lib.Dec.{T, eqb, ltb, eqb→eq}
use lib.ListN.{length, take, drop}
use borrow.Author.Tests.{lt-ltb, ltb-true}
use Rattle.lists.proofs.Tests.{and_l, and_r, and_i, eq→eqb}
use Rattle.fields.specs.Fields.{short, field, wide, first_field, is_field, are_bytes}
use Rattle.fields.proofs.Law.{cut_written, written_cut}
use Rattle.demands.specs.Given.{Front, EndsInside, in_head, in_value}

-- ---- a test that does not pass
pub no_test : (b : Bool) → b ≡ false → T b → ⊥
no_test b e t = subst T e t

pub test_no : (b : Bool) → (T b → ⊥) → b ≡ false
test_no true f = absurd (f tt)
test_no false f = refl

-- ---- the field
pub front_cut : {bytes : List ℕ} {t : ℕ} {v r : List ℕ} → Front bytes t v r → first_field bytes ≡ field t v r
front_cut {t = t} {v = v} {r = r} e = ap first_field e ∙ cut_written t v r

pub cut_front : (bytes : List ℕ) → T (are_bytes bytes) → {t : ℕ} {v r : List ℕ} → first_field bytes ≡ field t v r → Front bytes t v r
cut_front bytes b {t} {v} {r} e = written_cut bytes t v r b e

pub ends_short : {bytes : List ℕ} → EndsInside bytes → first_field bytes ≡ short
unfolding first_field
ends_short (in_head {bytes} h) = go bytes h
  where
    go : (l : List ℕ) → length l < 3 → first_field l ≡ short
    go [] h = refl
    go (a ∷ []) h = refl
    go (a ∷ b ∷ []) h = refl
    go (a ∷ b ∷ c ∷ l) h = absurd (omega arith)
ends_short (in_value {tag} {high} {low} {value} h) = rw (lt-ltb (length value) (wide high low) h)

pub short_ends : (bytes : List ℕ) → first_field bytes ≡ short → EndsInside bytes
unfolding first_field
short_ends [] e = in_head {bytes = []} (omega arith)
short_ends (a ∷ []) e = in_head {bytes = a ∷ []} (omega arith)
short_ends (a ∷ b ∷ []) e = in_head {bytes = a ∷ b ∷ []} (omega arith)
short_ends (a ∷ b ∷ c ∷ l) e = go (ltb (length l) (wide b c)) refl e
  where
    go : (x : Bool) → ltb (length l) (wide b c) ≡ x → (if x then short else field a (take (wide b c) l) (drop (wide b c) l)) ≡ short
        → EndsInside (a ∷ b ∷ c ∷ l)
    go true p q = in_value (ltb-true (length l) (wide b c) p)
    go false p q = let z : ◌≡◌ {A = ℕ} 0 1 = cc in absurd (omega arith)

-- ---- a tag and a length
pub field_no : (tag n t : ℕ) (v : List ℕ) → is_field tag n t v ≡ false → (t ≡ tag) × (length v ≡ n) → ⊥
field_no tag n t v e p = no_test (is_field tag n t v) e (and_i (eqb t tag) _ (eq→eqb t tag p.0) (eq→eqb (length v) n p.1))

pub no_field : (tag n t : ℕ) (v : List ℕ) → ((t ≡ tag) × (length v ≡ n) → ⊥) → is_field tag n t v ≡ false
no_field tag n t v f =
    test_no (is_field tag n t v) (λ h. f (eqb→eq t tag (and_l (eqb t tag) _ h), eqb→eq (length v) n (and_r (eqb t tag) _ h)))
