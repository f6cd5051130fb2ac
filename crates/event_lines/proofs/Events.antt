-- The bytes of a line, one after the other, give what specs/Events.antt says of the whole line.
use Rattle.std.specs.Prelude.{if◌then◌else◌}
use Prim.Native.Nat.{ℕ, zero, suc, ◌+◌, ◌-◌, ◌*◌, ◌^◌, ◌≤◌, ◌<◌}
use mathlib.Core.Bool.{Bool, true, false, ◌&&◌}
use mathlib.Core.Path.{◌≡◌, refl, sym, ap, ◌∙◌}
use mathlib.Core.List.{List, [], ◌∷◌, ◌++◌, map}
use native.Mathlib.Nat.{pow-suc, pow-le-pow_right, zero-add}
use native.Mathlib.Decide.{dec_lt, ℕ_discrete}
use native.Mathlib.Numerals.{add-one}
use native.Mathlib.Omega.{arith}
use lib.Dec.{eqb, leb, eqb→eq}
use lib.ListN.{length, take}
use borrow.Author.Tests.{lt-ltb, le-ltb, le-leb, lt-leb, eq-eqb, ne_eqb}
use Rattle.lists.specs.Lists.{every}
use Rattle.lists.proofs.Tests.{and_no, and_yes, if_elim}
use Rattle.event_lines.specs.declared.Reading.{Reading}
use Rattle.event_lines.specs.Events.{is_digit, on_first, pieces, is_number, value_from, value, is_event, event_line}
use Rattle.event_lines.specs.Steps.{start, spoilt, with_digit, next_number, read_on, line_end, fed}

-- ---- a malformed line stays so, whatever follows
abbrev Beyond : Reading → Type 0
Beyond r = 3 ≤ r.place

spoilt_on : (r : Reading) (b : ℕ) → Beyond r → Beyond (read_on r b)
unfolding read_on next_number with_digit
spoilt_on r b h =
    if_elim Beyond (eqb b 32)
    (λ t. if_elim Beyond (eqb r.digits 0) (λ u. omega arith)
    (λ u. if_elim Beyond (eqb r.place 0) (λ w. absurd (omega (arith, eqb→eq r.place 0 w)))
    (λ w. if_elim Beyond (eqb r.place 1) (λ x. absurd (omega (arith, eqb→eq r.place 1 x))) (λ x. omega arith))))
    (λ t. if_elim Beyond (is_digit b)
    (λ u. if_elim Beyond (leb (suc r.digits) 9) (λ w. if_elim Beyond (leb (suc r.value) 100000000) (λ x. h) (λ x. omega arith))
    (λ w. omega arith))
    (λ u. omega arith))

spoilt_end : (bytes : List ℕ) (r : Reading) → Beyond r → line_end (fed r bytes) ≡ 6 ∷ []
unfolding line_end
spoilt_end [] r h =
    if_elim (λ (x : List ℕ). x ≡ 6 ∷ []) (eqb r.digits 0) (λ t. refl)
    (λ t. if_elim (λ (x : List ℕ). x ≡ 6 ∷ []) (eqb r.place 2) (λ u. absurd (omega (arith, eqb→eq r.place 2 u))) (λ u. refl))
spoilt_end (b ∷ bytes) r h = spoilt_end bytes (read_on r b) (spoilt_on r b h)

-- ---- what the line gives, if so many numbers are done, the one under way has k digits that make v, and these pieces are to come:
-- the first of them goes on with that number
abbrev grown : ℕ → List ℕ → Bool
grown k p = leb 1 (k + length p) && leb (k + length p) 9 && every is_digit p

abbrev goes : ℕ → List (List ℕ) → Bool
goes k [] = false
goes k (p ∷ ps) = grown k p && every is_number ps

abbrev values : ℕ → List (List ℕ) → List ℕ
values v [] = []
values v (p ∷ ps) = value_from v p ∷ map value ps

unfoldable ahead : ℕ → List ℕ → ℕ → ℕ → List (List ℕ) → List ℕ
ahead n done k v ps = if eqb (n + length ps) 3 && goes k ps then 0 ∷ (done ++ values v ps) else 6 ∷ []

module _ (n : ℕ) (done : List ℕ) (k v : ℕ) (p : List ℕ) (ps : List (List ℕ)) where
  ahead_digit : (b : ℕ) → 48 ≤ b → b ≤ 57 → ahead n done (k + 1) (v * 10 + (b - 48)) (p ∷ ps) ≡ ahead n done k v ((b ∷ p) ∷ ps)
  unfolding ahead
  ahead_digit b l h = let e : k + 1 + length p ≡ k + suc (length p) = omega arith in simp (e, le-leb 48 b l, le-leb b 57 h)

  ahead_tenth : (b : ℕ) → 9 ≤ k → ahead n done k v ((b ∷ p) ∷ ps) ≡ 6 ∷ []
  unfolding ahead
  ahead_tenth b h = simp (lt-leb (k + suc (length p)) 9 (omega arith), and_no)

  ahead_low : (b : ℕ) → b < 48 → ahead n done k v ((b ∷ p) ∷ ps) ≡ 6 ∷ []
  unfolding ahead
  ahead_low b h = simp (lt-leb 48 b h, and_no)

  ahead_high : (b : ℕ) → 57 < b → ahead n done k v ((b ∷ p) ∷ ps) ≡ 6 ∷ []
  unfolding ahead
  ahead_high b h = simp (lt-leb b 57 h, and_no)

  ahead_none : (e : k ≡ 0) → ahead n done k v ([] ∷ p ∷ ps) ≡ 6 ∷ []
  unfolding ahead
  ahead_none e = simp (e, and_no)

  ahead_fourth : 2 ≤ n → ahead n done k v ([] ∷ p ∷ ps) ≡ 6 ∷ []
  unfolding ahead
  ahead_fourth h = simp (ne_eqb (n + suc (suc (length ps))) 3 (λ e. omega arith))

-- the number that ended, and the next one
ahead_space : (n : ℕ) (k v : ℕ) (p : List ℕ) (ps : List (List ℕ)) → 1 ≤ k → k ≤ 9 → (done next : List ℕ)
    → ((l : List ℕ) → next ++ l ≡ done ++ (v ∷ l))
    → ahead (n + 1) next 0 0 (p ∷ ps) ≡ ahead n done k v ([] ∷ p ∷ ps)
unfolding ahead
ahead_space n k v p ps h l done next e =
    let c : n + 1 + suc (length ps) ≡ n + suc (suc (length ps)) = omega arith in
    simp (c, zero-add, le-leb 1 (k + 0) (omega arith), le-leb (k + 0) 9 (omega arith), e)

-- ---- the pieces of a line
record Some (ps : List (List ℕ)) : Type 0 where
  head : List ℕ
  tail : List (List ℕ)
  same : ps ≡ head ∷ tail

on_first_lem : (b : ℕ) (ps : List (List ℕ)) → Some (on_first b ps)
on_first_lem b [] = record { head = b ∷ []; tail = []; same = refl }
on_first_lem b (p ∷ ps) = record { head = b ∷ p; tail = ps; same = refl }

some : (bytes : List ℕ) → Some (pieces bytes)
unfolding pieces
some [] = record { head = []; tail = []; same = refl }
some (b ∷ bytes) =
    if_elim Some (eqb b 32) (λ t. record { head = []; tail = pieces bytes; same = refl }) (λ t. on_first_lem b (pieces bytes))

pieces_space : (b : ℕ) (bytes : List ℕ) → b ≡ 32 → pieces (b ∷ bytes) ≡ [] ∷ pieces bytes
unfolding pieces
pieces_space b bytes e = simp (eq-eqb b 32 e)

pieces_on : (b : ℕ) (bytes : List ℕ) → (b ≡ 32 → ⊥) → pieces (b ∷ bytes) ≡ on_first b (pieces bytes)
unfolding pieces
pieces_on b bytes h = simp (ne_eqb b 32 h)

-- ---- what a byte does to a reading
abbrev pub at : ℕ → ℕ → ℕ → ℕ → ℕ → Reading
at n k v f s = record { place = n; digits = k; value = v; first = f; second = s }

module _ (n k v f s b : ℕ) where
  pub on_digit : 48 ≤ b → b ≤ 57 → k < 9 → v < 100000000 → read_on (at n k v f s) b ≡ at n (k + 1) (v * 10 + (b - 48)) f s
  unfolding read_on with_digit
  on_digit l h i j = simp (ne_eqb b 32 (λ e. omega arith), le-leb 48 b l, le-leb b 57 h, lt-ltb k 9 i, lt-ltb v 100000000 j)

  on_tenth : 48 ≤ b → b ≤ 57 → 9 ≤ k → read_on (at n k v f s) b ≡ spoilt
  unfolding read_on with_digit
  on_tenth l h i = simp (ne_eqb b 32 (λ e. omega arith), le-leb 48 b l, le-leb b 57 h, le-ltb k 9 i)

  on_low : (b ≡ 32 → ⊥) → b < 48 → read_on (at n k v f s) b ≡ spoilt
  unfolding read_on
  on_low i h = simp (ne_eqb b 32 i, lt-leb 48 b h)

  on_high : 57 < b → read_on (at n k v f s) b ≡ spoilt
  unfolding read_on
  on_high h = simp (ne_eqb b 32 (λ e. omega arith), lt-leb b 57 h, and_no)

  pub on_space : b ≡ 32 → read_on (at n k v f s) b ≡ next_number (at n k v f s)
  unfolding read_on
  on_space e = simp (eq-eqb b 32 e)

next_none : (n k v f s : ℕ) → k ≡ 0 → next_number (at n k v f s) ≡ spoilt
unfolding next_number
next_none n k v f s e = simp (eq-eqb k 0 e)

pub next_some : (n k v f s : ℕ) → (k ≡ 0 → ⊥) → next_number
    (at n k v f s) ≡ (if eqb n 0 then at 1 0 0 v 0 else if eqb n 1 then at 2 0 0 f v else spoilt)
unfolding next_number
next_some n k v f s h = simp (ne_eqb k 0 h)

-- the line ends
end_is : (n k v f s : ℕ) → n ≤ 2 → k ≤ 9 → line_end (at n k v f s) ≡ ahead n (take n (f ∷ s ∷ [])) k v (pieces [])
unfolding line_end pieces ahead
end_is n k v f s l h = go (ℕ_discrete k 0)
  where
    ends : (n : ℕ) → n ≤ 2 → (if eqb n 2 then 0 ∷ f ∷ s ∷ v ∷ [] else 6 ∷ []) ≡ (if eqb (n + 1) 3 then 0 ∷ (take n (f ∷ s ∷ []) ++ (v ∷ []))
        else 6 ∷ [])
    ends zero l = refl
    ends (suc zero) l = refl
    ends (suc (suc zero)) l = refl
    ends (suc (suc (suc n))) l = absurd (omega arith)

    go : Dec (k ≡ 0) → (if eqb k 0 then 6 ∷ [] else if eqb n 2 then 0 ∷ f ∷ s ∷ v ∷ [] else 6 ∷ [])
        ≡ (if eqb (n + 1) 3 && (leb 1 (k + 0) && leb (k + 0) 9 && true && true) then 0 ∷ (take n (f ∷ s ∷ []) ++ (v ∷ [])) else 6 ∷ [])
    go (yes e) = simp (e, and_no)
    go (no i) = simp (ne_eqb k 0 i, le-leb 1 (k + 0) (omega arith), le-leb (k + 0) 9 (omega arith), and_yes) (ends n l)

-- ---- the whole line, from any place in it
abbrev given : ℕ → ℕ → ℕ → ℕ → ℕ → List (List ℕ) → List ℕ
given n k v f s ps = ahead n (take n (f ∷ s ∷ [])) k v ps

abbrev Rest : List ℕ → Type 0
Rest bytes = (n k v f s : ℕ) → n ≤ 2 → k ≤ 9 → v < 10 ^ k → line_end (fed (at n k v f s) bytes) ≡ given n k v f s (pieces bytes)

-- one byte more at the front
module _ (b : ℕ) (bytes : List ℕ) (behind : Rest bytes) (n k v f s : ℕ) (l : n ≤ 2) (h : k ≤ 9) (i : v < 10 ^ k) where
  more : Some (pieces bytes)
  more = some bytes

  abbrev Now : Type 0
  Now = line_end (fed (read_on (at n k v f s) b) bytes) ≡ given n k v f s (pieces (b ∷ bytes))

  -- a byte that spoils the line
  over : read_on (at n k v f s) b ≡ spoilt → given n k v f s (pieces (b ∷ bytes)) ≡ 6 ∷ [] → Now
  over e w = ap (λ (x : Reading). line_end (fed x bytes)) e ∙ spoilt_end bytes spoilt (omega arith) ∙ sym w

  -- the pieces from here on, where the byte is no space, and where it is one
  here : (b ≡ 32 → ⊥) → pieces (b ∷ bytes) ≡ (b ∷ more.head) ∷ more.tail
  here j = pieces_on b bytes j ∙ ap (on_first b) more.same

  there : b ≡ 32 → pieces (b ∷ bytes) ≡ [] ∷ more.head ∷ more.tail
  there e = pieces_space b bytes e ∙ ap {B = List (List ℕ)} (λ x. [] ∷ x) more.same

  next : (n : ℕ) → n ≤ 2 → (k ≡ 0 → ⊥) → line_end (fed (if eqb n 0 then at 1 0 0 v 0 else if eqb n 1 then at 2 0 0 f v else spoilt)
      bytes) ≡ given n k v f s ([] ∷ more.head ∷ more.tail)
  next zero m j =
      behind 1 0 0 v 0 (omega arith) (omega arith) (omega arith) ∙ ap (given 1 0 0 v 0) more.same
      ∙ ahead_space 0 k v more.head more.tail (omega arith) h [] (v ∷ []) (λ x. refl)
  next (suc zero) m j =
      behind 2 0 0 f v (omega arith) (omega arith) (omega arith) ∙ ap (given 2 0 0 f v) more.same
      ∙ ahead_space 1 k v more.head more.tail (omega arith) h (f ∷ []) (f ∷ v ∷ []) (λ x. refl)
  next (suc (suc zero)) m j =
      spoilt_end bytes spoilt (omega arith) ∙ sym (ahead_fourth 2 (f ∷ s ∷ []) k v more.head more.tail (omega arith))
  next (suc (suc (suc n))) m j = absurd (omega arith)

  space : b ≡ 32 → Dec (k ≡ 0) → Now
  space e (yes z) =
      over (on_space n k v f s b e ∙ next_none n k v f s z)
      (ap (given n k v f s) (there e) ∙ ahead_none n (take n (f ∷ s ∷ [])) k v more.head more.tail z)
  space e (no j) =
      ap (λ (x : Reading). line_end (fed x bytes)) (on_space n k v f s b e ∙ next_some n k v f s j)
      ∙ next n l j ∙ ap (given n k v f s) (sym (there e))

  byte : Dec (b ≡ 32) → Dec (b < 48) → Dec (57 < b) → Dec (k < 9) → Now
  byte (yes e) x y z = space e (ℕ_discrete k 0)
  byte (no j) (yes x) y z =
      over (on_low n k v f s b j x) (ap (given n k v f s) (here j) ∙ ahead_low n (take n (f ∷ s ∷ [])) k v more.head more.tail b x)
  byte (no j) (no x) (yes y) z =
      over (on_high n k v f s b y) (ap (given n k v f s) (here j) ∙ ahead_high n (take n (f ∷ s ∷ [])) k v more.head more.tail b y)
  byte (no j) (no x) (no y) (no z) =
      over (on_tenth n k v f s b (omega arith) (omega arith) (omega arith))
      (ap (given n k v f s) (here j) ∙ ahead_tenth n (take n (f ∷ s ∷ [])) k v more.head more.tail b (omega arith))
  byte (no j) (no x) (no y) (yes z) =
      let small : 10 ^ k ≤ 10 ^ 8 = pow-le-pow_right {n = 10} (omega arith) {i = k} {j = 8} (omega arith) in
      let grows : 10 ^ (k + 1) ≡ 10 ^ k * 10 = ap (λ (x : ℕ). 10 ^ x) (add-one k) ∙ pow-suc 10 k in
      ap (λ (x : Reading). line_end (fed x bytes)) (on_digit n k v f s b (omega arith) (omega arith) z (omega arith))
      ∙ behind n (k + 1) (v * 10 + (b - 48)) f s l (omega arith) (omega arith)
      ∙ ap (given n (k + 1) (v * 10 + (b - 48)) f s) more.same
      ∙ ahead_digit n (take n (f ∷ s ∷ [])) k v more.head more.tail b (omega arith) (omega arith)
      ∙ ap (given n k v f s) (sym (here j))

rest : (bytes : List ℕ) → Rest bytes
rest [] n k v f s l h i = end_is n k v f s l h
rest (b ∷ bytes) n k v f s l h i = byte b bytes (rest bytes) n k v f s l h i (ℕ_discrete b 32) (dec_lt b 48) (dec_lt 57 b) (dec_lt k 9)

-- a whole line: no number is done, and none is under way
whole : (ps : List (List ℕ)) → Some ps → given 0 0 0 0 0 ps ≡ (if is_event ps then 0 ∷ map value ps else 6 ∷ [])
unfolding ahead is_event
whole ps m = rw m.same (simp zero-add)

-- the law: all bytes of a line from the start, and its end
pub read_line_lem : (bytes : List ℕ) → line_end (fed start bytes) ≡ event_line bytes
unfolding event_line
read_line_lem bytes = rest bytes 0 0 0 0 0 (omega arith) (omega arith) (omega arith) ∙ whole (pieces bytes) (some bytes)
