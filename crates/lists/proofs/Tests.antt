-- Laws of tests: `&&`, `||`, `if`, and `every`, `any` over a list.
-- A test that passed is `T b` or `b ≡ true`; T-is and is_T go between.
use Rattle.std.specs.Prelude.{cond}
use Prim.Native.Nat.{ℕ, zero, suc, ◌<◌, zero-le, suc-le-suc}
use mathlib.Core.Bool.{Bool, true, false, not, ◌&&◌, ◌||◌}
use mathlib.Core.Path.{◌≡◌, refl, ap, ◌∙◌, subst, subst⁻¹}
use mathlib.Core.Logic.{◌⊎◌, inl, inr}
use mathlib.Core.List.{List, [], ◌∷◌, ◌++◌}
use native.Mathlib.Nat.{not-suc-le-zero, le_of_suc-le-suc}
use lib.Dec.{T, eqb, eqb_refl}
use lib.ListN.{length, get_or}
use Rattle.lists.specs.Lists.{every}

pub T_is : (b : Bool) → T b → b ≡ true
T_is true t = refl
T_is false t = absurd t

pub is_T : (b : Bool) → b ≡ true → T b
is_T b e = subst⁻¹ T e tt

pub T_not_is : (b : Bool) → T (not b) → b ≡ false
T_not_is true t = absurd t
T_not_is false t = refl

pub and_l : (a b : Bool) → T (a && b) → T a
and_l true b t = tt
and_l false b t = t

pub and_r : (a b : Bool) → T (a && b) → T b
and_r true b t = t
and_r false b t = absurd t

pub and_i : (a b : Bool) → T a → T b → T (a && b)
and_i true b t u = u
and_i false b t u = t

pub and_no : (a : Bool) → (a && false) ≡ false
and_no true = refl
and_no false = refl

pub and_yes : (a : Bool) → (a && true) ≡ a
and_yes true = refl
and_yes false = refl

pub and_assoc : (a b c : Bool) → (a && (b && c)) ≡ ((a && b) && c)
and_assoc true b c = refl
and_assoc false b c = refl

pub or_cases : (a b : Bool) → T (a || b) → T a ⊎ T b
or_cases true b t = inl tt
or_cases false b t = inr t

pub or_left : (a b : Bool) → T a → T (a || b)
or_left true b t = tt
or_left false b t = absurd t

pub or_right : (a b : Bool) → T b → T (a || b)
or_right true b t = tt
or_right false b t = t

pub eq→eqb : (a b : ℕ) → a ≡ b → T (eqb a b)
eq→eqb a b e = subst (λ (x : ℕ). T (eqb a x)) e (eqb_refl a)

-- two tests that pass together are equal
pub same_test : (a b : Bool) → (T a → T b) → (T b → T a) → a ≡ b
same_test true true f g = refl
same_test true false f g = absurd (f tt)
same_test false true f g = absurd (g tt)
same_test false false f g = refl

-- an `if` by its test: what holds of both branches holds of it
pub if_elim {ℓ κ} : {A : Type ℓ} (P : A → Type κ) (b : Bool) {x y : A} → (T b → P x) → (T (not b) → P y) → P (cond b x y)
if_elim P true p q = p tt
if_elim P false p q = q tt

module _ {ℓ} {A : Type ℓ} where
  pub every_append : (p : A → Bool) (xs ys : List A) → every p (xs ++ ys) ≡ (every p xs && every p ys)
  every_append p [] ys = refl
  every_append p (x ∷ xs) ys = ap (λ (b : Bool). p x && b) (every_append p xs ys) ∙ and_assoc (p x) (every p xs) (every p ys)

  pub every_at : (p : A → Bool) (xs : List A) (n : ℕ) (d : A) → T (every p xs) → n < length xs → T (p (get_or xs n d))
  every_at p [] n d t h = absurd (not-suc-le-zero h)
  every_at p (x ∷ xs) zero d t h = and_l (p x) _ t
  every_at p (x ∷ xs) (suc n) d t h = every_at p xs n d (and_r (p x) _ t) (le_of_suc-le-suc h)

  pub at_every : (p : A → Bool) (xs : List A) (d : A) → ((n : ℕ) → n < length xs → T (p (get_or xs n d))) → T (every p xs)
  at_every p [] d f = tt
  at_every p (x ∷ xs) d f = and_i (p x) _ (f 0 (suc-le-suc zero-le)) (at_every p xs d (λ n h. f (suc n) (suc-le-suc h)))

  -- one that fails is enough
  pub every_fails : (p : A → Bool) (xs : List A) (n : ℕ) (d : A) → n < length xs → p (get_or xs n d) ≡ false → every p xs ≡ false
  every_fails p [] n d h e = absurd (not-suc-le-zero h)
  every_fails p (x ∷ xs) zero d h e = ap (λ (b : Bool). b && every p xs) e
  every_fails p (x ∷ xs) (suc n) d h e = ap (λ (b : Bool). p x && b) (every_fails p xs n d (le_of_suc-le-suc h) e) ∙ and_no (p x)
