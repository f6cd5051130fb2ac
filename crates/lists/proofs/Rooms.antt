-- Lists in a room of fixed size whose unused places are all the same: one more at the end, one less in the middle.
use Prim.Native.Nat.{ℕ, zero, suc, ◌+◌, ◌-◌, ◌≤◌, ◌<◌}
use mathlib.Core.Path.{◌≡◌, refl, sym, ap, ap₂, ◌∙◌, subst}
use mathlib.Core.List.{List, [], ◌∷◌, ◌++◌, append_assoc}
use native.Mathlib.Decide.{dec_lt}
use native.Mathlib.Nat.{not-suc-le-zero, le_of_suc-le-suc}
use native.Mathlib.Numerals.{add-one}
use native.Mathlib.Omega.{arith}
use lib.ListN.{length, get_or, set, take, drop, replicate, length-append, length-set, length-replicate}
use lib.ListN.{get_or-replicate, take-append-drop, get_or-append}
use lib.Seq.{length-take-le, take-suc, drop-cons, take-append_seam, get_or-append-add, get_or-take}
use lib.Seq.{get_or-drop, set_at, take_at, drop_at, set-append_left, ext_get_or}
use Rattle.lists.specs.Places.{without, roomed, closing}
use Rattle.lists.proofs.Without.{length_without}

module _ {A : Type 0} where
  pub drop_replicate : (n m : ℕ) (x : A) → drop n (replicate m x) ≡ replicate (m - n) x
  drop_replicate zero m x = ap (λ (k : ℕ). replicate k x) all
    where
      all : m ≡ m - 0
      all = omega arith
  drop_replicate (suc n) zero x = ap (λ (k : ℕ). replicate k x) none
    where
      none : 0 ≡ 0 - suc n
      none = omega arith
  drop_replicate (suc n) (suc m) x = drop_replicate n m x ∙ ap (λ (k : ℕ). replicate k x) less
    where
      less : m - n ≡ suc m - suc n
      less = omega arith

  -- a place behind the one that is gone is the next one of before
  pub get_or_without : (n : ℕ) (l : List A) (i : ℕ) (d : A) → n ≤ i → get_or (without n l) i d ≡ get_or l (suc i) d
  get_or_without n [] i d h = refl
  get_or_without zero (x ∷ l) i d h = refl
  get_or_without (suc n) (x ∷ l) zero d h = absurd (not-suc-le-zero h)
  get_or_without (suc n) (x ∷ l) (suc i) d h = get_or_without n l i d (le_of_suc-le-suc h)

  take_without : (n : ℕ) (l : List A) → take n (without n l) ≡ take n l
  take_without zero l = refl
  take_without (suc n) [] = refl
  take_without (suc n) (x ∷ l) = ap (λ (r : List A). x ∷ r) (take_without n l)

  without_append : (n : ℕ) (xs ys : List A) → n < length xs → without n (xs ++ ys) ≡ without n xs ++ ys
  without_append n [] ys h = absurd (not-suc-le-zero h)
  without_append zero (x ∷ xs) ys h = refl
  without_append (suc n) (x ∷ xs) ys h = ap (λ (r : List A). x ∷ r) (without_append n xs ys (le_of_suc-le-suc h))

  -- ---- closing up, place by place
  pub closing_none : (a : ℕ) (l : List A) → closing a l a ≡ l
  closing_none a l = ap (λ (r : List A). r ++ drop a l) (take_without a l) ∙ take-append-drop a l

  module _ (a : ℕ) (l : List A) (i : ℕ) (d : A) (h : a ≤ i) (m : i + 1 < length l) where
    shorter : length (without a l) + 1 ≡ length l
    shorter = length_without a l (omega arith)

    front : length (take i (without a l)) ≡ i
    front = length-take-le i (without a l) (omega (arith, shorter))

    pub closing_next : get_or (closing a l i) (i + 1) d ≡ get_or (without a l) i d
    closing_next =
        let e : length (take i (without a l)) + 1 ≡ i + 1 = omega (arith, front) in
        subst (λ (k : ℕ). get_or (closing a l i) k d ≡ get_or (drop i l) 1 d) e (get_or-append-add (take i (without a l)) (drop i l) 1 d)
        ∙ get_or-drop i l 1 d ∙ ap (λ (k : ℕ). get_or l k d) (add-one i) ∙ sym (get_or_without a l i d h)

    pub closing_more : set (closing a l i) i (get_or (closing a l i) (i + 1) d) ≡ closing a l (i + 1)
    closing_more =
        ap₂ (λ (r : List A) (v : A). set (take i (without a l) ++ r) i v) (drop-cons l i d (omega arith)) closing_next
        ∙ set_at (take i (without a l)) (get_or l i d) (drop (suc i) l) (get_or (without a l) i d) i front
        ∙ sym (append_assoc (take i (without a l)) (get_or (without a l) i d ∷ []) (drop (suc i) l))
        ∙ ap (λ (r : List A). r ++ drop (suc i) l) (sym (take-suc (without a l) i d (omega (arith, shorter))))
        ∙ ap (λ (k : ℕ). closing a l k) (sym (add-one i))

-- ---- the room
module _ {A : Type 0} (size : ℕ) (z : A) where
  module _ (xs : List A) where
    pub length_roomed : length xs ≤ size → length (roomed size z xs) ≡ size
    unfolding roomed
    length_roomed h = length-append xs (replicate (size - length xs) z) ∙ omega (arith, length-replicate (size - length xs) z)

    pub take_roomed : take (length xs) (roomed size z xs) ≡ xs
    unfolding roomed
    take_roomed = take-append_seam xs (replicate (size - length xs) z)

    pub roomed_at : (j : ℕ) (d : A) → j < length xs → get_or (roomed size z xs) j d ≡ get_or xs j d
    unfolding roomed
    roomed_at j d h = get_or-append xs (replicate (size - length xs) z) d j h

    pub roomed_past : (j : ℕ) (d : A) → length xs ≤ j → j < size → get_or (roomed size z xs) j d ≡ z
    unfolding roomed
    roomed_past j d h m =
        let e : length xs + (j - length xs) ≡ j = omega arith in
        subst (λ (k : ℕ). get_or (xs ++ replicate (size - length xs) z) k d ≡ get_or (replicate (size - length xs) z) (j - length xs) d) e
        (get_or-append-add xs (replicate (size - length xs) z) (j - length xs) d)
        ∙ get_or-replicate (size - length xs) (j - length xs) z d (omega arith)

    -- one more at the end
    pub roomed_more : (x : A) → length xs < size → set (roomed size z xs) (length xs) x ≡ roomed size z (xs ++ x ∷ [])
    unfolding roomed
    roomed_more x h =
        let k : ℕ = size - (length xs + 1) in
        let e : size - length xs ≡ suc k = omega arith in
        let f : k ≡ size - length (xs ++ x ∷ []) = omega (arith, length-append xs (x ∷ [])) in
        ap (λ (n : ℕ). set (xs ++ replicate n z) (length xs) x) e
        ∙ set_at xs z (replicate k z) x (length xs) refl
        ∙ sym (append_assoc xs (x ∷ []) (replicate k z))
        ∙ ap (λ (n : ℕ). (xs ++ x ∷ []) ++ replicate n z) f

    -- another at a place that is used
    pub roomed_set : (i : ℕ) (x : A) → i < length xs → set (roomed size z xs) i x ≡ roomed size z (set xs i x)
    unfolding roomed
    roomed_set i x h =
        set-append_left xs (replicate (size - length xs) z) i x h
        ∙ ap (λ (n : ℕ). set xs i x ++ replicate (size - n) z) (sym (length-set xs i x))

    -- one less: place a is closed up to the last, and the last place is z
    pub roomed_less : (a n : ℕ) → a < length xs → length xs ≤ size → n + 1 ≡ length xs
        → set (closing a (roomed size z xs) n) n z ≡ roomed size z (without a xs)
    unfolding roomed
    roomed_less a n h m e =
        let rest = replicate (size - length xs) z in
        let w : length (without a xs) ≡ n = omega (arith, e, length_without a xs h) in
        let q : length xs ≡ suc n = omega (arith, e) in
        ap₂ (λ (l r : List A). set (l ++ r) n z) (ap (take n) (without_append a xs rest h) ∙ take_at (without a xs) rest n w)
        (drop-cons (xs ++ rest) n z (omega (arith, e, length-append xs rest))
        ∙ ap (λ (r : List A). get_or (xs ++ rest) n z ∷ r) (drop_at xs rest (suc n) q))
        ∙ set_at (without a xs) (get_or (xs ++ rest) n z) rest z n w
        ∙ ap (λ (r : List A). without a xs ++ r) (ap (λ (k : ℕ). replicate k z) (count w))
      where
        count : length (without a xs) ≡ n → suc (size - length xs) ≡ size - length (without a xs)
        count w = omega (arith, e, w)

  -- a list of that size whose places from n on are z
  pub roomed_of : (l : List A) (n : ℕ) (d : A) → length l ≡ size → n ≤ size → ((j : ℕ) → n ≤ j → j < size → get_or l j d ≡ z)
      → l ≡ roomed size z (take n l)
  roomed_of l n d e h f =
      ext_get_or d l (roomed size z (take n l)) (e ∙ sym (length_roomed (take n l) (omega (arith, t)))) (λ i m. at i m (dec_lt i n))
    where
      t : length (take n l) ≡ n
      t = length-take-le n l (omega (arith, e))

      at : (i : ℕ) → i < length l → Dec (i < n) → get_or l i d ≡ get_or (roomed size z (take n l)) i d
      at i m (yes p) = sym (roomed_at (take n l) i d (omega (arith, t)) ∙ get_or-take n l i d p)
      at i m (no p) = f i (omega arith) (omega (arith, e)) ∙ sym (roomed_past (take n l) i d (omega (arith, t)) (omega (arith, e)))
