-- For callers: what a field that was cut says of the bytes, and what `put` leaves where the field fits.
use Prim.Native.Nat.{ℕ, ◌+◌, ◌-◌, ◌≤◌}
use mathlib.Core.Path.{◌≡◌, refl, sym, ap, ap₂, ◌∙◌}
use mathlib.Core.List.{List, [], ◌∷◌, ◌++◌, append_assoc, append-nil}
use native.Mathlib.Omega.{arith}
use lib.Dec.{T, eqb, eqb→eq}
use lib.ListN.{length, take, drop, length-drop, length-append, drop_of_length-le}
use lib.Seq.{take_at, drop_at, take_all, drop-drop}
use borrow.Author.Tests.{le-leb}
use Rattle.std.specs.Prelude.{Some}
use Rattle.lists.proofs.Tests.{and_l, and_r}
use Rattle.fields.specs.Fields.{write_field, is_field, is_empty, onto, put_field, put_size, longest_value}

-- a field of this tag and of this length
pub tag_is : (tag n t : ℕ) (v : List ℕ) → T (is_field tag n t v) → t ≡ tag
tag_is tag n t v h = eqb→eq t tag (and_l (eqb t tag) _ h)

pub size_is : (tag n t : ℕ) (v : List ℕ) → T (is_field tag n t v) → length v ≡ n
size_is tag n t v h = eqb→eq (length v) n (and_r (eqb t tag) _ h)

pub empty_is : (l : List ℕ) → T (is_empty l) → l ≡ []
empty_is [] t = refl
empty_is (x ∷ l) t = absurd t

-- where the field fits, `put` writes it
module _ (tag : ℕ) (value old : List ℕ) (small : length value ≤ longest_value) (room : length value + 3 ≤ length old) where
  pub put_written : put_field tag value old ≡ onto (write_field tag value) old
  unfolding put_field
  put_written = simp (le-leb (length value) longest_value small, le-leb (length value + 3) (length old) room)

  pub size_written : put_size value old ≡ Some (length value + 3)
  unfolding put_size
  size_written = simp (le-leb (length value) longest_value small, le-leb (length value + 3) (length old) room)

pub length_field : (tag : ℕ) (value : List ℕ) → length (write_field tag value) ≡ length value + 3
unfolding write_field
length_field tag value = omega arith

-- bytes written behind others that were written
pub onto_more : (xs ys old : List ℕ) (n : ℕ) → length xs ≡ n → take n (onto xs old) ++ onto ys (drop n (onto xs old)) ≡ onto (xs ++ ys) old
onto_more xs ys old n e =
    ap₂ (λ (x y : List ℕ). x ++ (ys ++ drop (length ys) y)) (take_at xs (drop (length xs) old) n e) (drop_at xs (drop (length xs) old) n e)
    ∙ ap (λ (l : List ℕ). xs ++ (ys ++ l)) (drop-drop (length ys) (length xs) old ∙ ap (λ (k : ℕ). drop k old) (sym (length-append xs ys)))
    ∙ sym (append_assoc xs ys (drop (length (xs ++ ys)) old))

pub length_onto : (xs old : List ℕ) → length xs ≤ length old → length (onto xs old) ≡ length old
length_onto xs old h = length-append xs (drop (length xs) old) ∙ omega (arith, length-drop (length xs) old)

-- the same where what is left of the output was lent to be written: `part` is what it is now
pub lent_more : (xs ys old out part : List ℕ) (n : ℕ) → out ≡ onto xs old → length xs ≡ n
    → part ≡ onto ys (take (length out - n) (drop n out)) → take n out ++ (part ++ drop (length out - n) (drop n out)) ≡ onto (xs ++ ys) old
lent_more xs ys old out part n e l p =
    let whole : take (length out - n) (drop n out) ≡ drop n out = take_all (length out - n) (drop n out)
    (omega (arith, length-drop n out)) in
    let none : drop (length out - n) (drop n out) ≡ [] = drop_of_length-le (drop n out) {i = length out - n}
    (omega (arith, length-drop n out)) in
    ap₂ (λ (x y : List ℕ). take n out ++ (x ++ y)) (p ∙ ap (onto ys) whole) none
    ∙ ap (λ (x : List ℕ). take n out ++ x) (append-nil (onto ys (drop n out)))
    ∙ ap (λ (x : List ℕ). take n x ++ onto ys (drop n x)) e
    ∙ onto_more xs ys old n l
