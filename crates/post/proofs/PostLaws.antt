-- Laws of a sending that is being posted: at the beginning all its letters are left, and taking the first letter and what is
-- left after it takes them off one by one. A loop uses `start`, `subject_few` and `step_seen`.
use Rattle.std.specs.Prelude.{if◌then◌else◌}
use Prim.Native.Nat.{ℕ, suc, ◌+◌, ◌<◌}
use mathlib.Core.Bool.{Bool, true, false, ◌&&◌}
use mathlib.Core.Path.{◌≡◌, refl, sym, ap, ap₂, ◌∙◌, subst, subst⁻¹}
use mathlib.Core.List.{List, [], ◌∷◌, ◌++◌}
use native.Mathlib.Nat.{not-suc-le-zero}
use native.Mathlib.Numerals.{add-one}
use native.Mathlib.Omega.{arith}
use lib.ListN.{length, get_or, drop}
use lib.Seq.{drop-cons}
use Rattle.net.specs.declared.Body.TheVariants.{Request, Reply}
use Rattle.net.specs.declared.Letter.{Letter}
use Rattle.net.specs.Sizes.{link_room}
use Rattle.station.specs.declared.Sending.{Sending}
use Rattle.station.specs.Done.{letter, on_each, tell}
use Rattle.station.specs.Values.{members_of, letters_of}
use Rattle.post.specs.declared.Post.{Post}
use Rattle.post.specs.Links.{some_in, lowest_in, less_lowest}
use Rattle.post.specs.Post.{telling, posted, Going, begun_post, tells, first_by, first_left, rest_by, rest_left}
use Rattle.post.proofs.LinkLaws.{some_members, no_members, lowest_lt}

-- ---- notices
-- with every way left nothing is told yet
telling_all : (s : ℕ) (c : ℕ → ℕ) (js ways : List ℕ) → telling s c js ways ways ≡ tell s c js ways
telling_all s c [] ways = refl
telling_all s c (j ∷ js) ways = refl

tell_nowhere : (s : ℕ) (c : ℕ → ℕ) (js : List ℕ) → tell s c js [] ≡ []
tell_nowhere s c [] = refl
tell_nowhere s c (j ∷ js) = tell_nowhere s c js

-- ---- the beginning
pub begun_posts : (s : ℕ) (told : List ℕ) (x : Sending) → posted s told (begun_post x) ≡ letters_of s told x
unfolding posted letters_of
begun_posts s told x =
    let last = (if x.replies then (letter s x.link (Reply x.reply) ∷ []) else []) in
    ap (λ (l : List Letter). on_each s Request (members_of x.requests) ++ (l ++ last))
    (telling_all s (λ j. get_or told j 0) (members_of x.subjects) (members_of x.ways))

pub begun_going : (x : Sending) → Going (begun_post x)
unfolding Going
begun_going x e = e

-- so a loop begins, with p as the code answered it and none appended
pub start : (s : ℕ) (told : List ℕ) (x : Sending) (p : Post) → p ≡ begun_post x → (posted s told p ≡ letters_of s told x) × Going p
start s told x p e = (ap (posted s told) e ∙ begun_posts s told x, subst⁻¹ Going e (begun_going x))

-- the link that is told of has a place in a table
pub subject_few : (p : Post) (j : ℕ) → j ≡ lowest_in p.subjects → j < link_room
subject_few p j e = subst⁻¹ (λ (x : ℕ). x < link_room) e (lowest_lt p.subjects)

-- ---- what is left, by the lists that its words mean
module _ (s : ℕ) (told : List ℕ) where
  abbrev counted : ℕ → ℕ
  counted j = get_or told j 0

  abbrev letters_by : Post → List ℕ → List ℕ → List ℕ → List ℕ → Bool → List Letter
  letters_by p rs js left ways b =
      on_each s Request rs ++ (telling s counted js left ways ++ (if b then (letter s p.link (Reply p.reply) ∷ []) else []))

  posted_by : (p : Post) (rs js left ways : List ℕ) (b : Bool) → members_of p.requests ≡ rs → members_of p.subjects ≡ js
      → members_of p.left ≡ left → members_of p.ways ≡ ways → p.replies ≡ b → posted s told p ≡ letters_by p rs js left ways b
  unfolding posted
  posted_by p rs js left ways b e f g h i =
      ap₂ (λ (x y : List ℕ). letters_by p x y (members_of p.left) (members_of p.ways) p.replies) e f
      ∙ ap₂ (λ (x y : List ℕ). letters_by p rs js x y p.replies) g h
      ∙ ap (λ (x : Bool). letters_by p rs js left ways x) i

  -- ---- one letter taken off
  module _ (p : Post) (g : Going p) where
    -- the first letter left, with the counter that the table has for the link told of
    abbrev head : Bool → Bool → Letter
    head a t = first_by a t s (counted (lowest_in p.subjects)) p

    -- the links to be told of and the ways left, each with the lowest first
    abbrev subjects : List ℕ
    subjects = lowest_in p.subjects ∷ members_of (less_lowest p.subjects)

    abbrev left : List ℕ
    left = lowest_in p.left ∷ members_of (less_lowest p.left)

    abbrev Taken : Bool → Bool → Bool → Type 0
    Taken a t m = 0 < length (posted s told p) → posted s told p ≡ head a t ∷ posted s told (rest_by a t m p)

    nothing : {B : Type 0} → posted s told p ≡ [] → 0 < length (posted s told p) → B
    nothing e h = absurd (not-suc-le-zero (subst (λ (l : List Letter). 0 < length l) e h))

    asked : (t m : Bool) → some_in p.requests ≡ true → Taken true t m
    unfolding posted
    asked t m e h =
        posted_by p (lowest_in p.requests ∷ members_of (less_lowest p.requests))
        (members_of p.subjects) (members_of p.left) (members_of p.ways) p.replies
        (some_members p.requests e) refl refl refl refl

    module _ (none : some_in p.requests ≡ false) where
      -- one more way is left for the subject
      more : some_in p.subjects ≡ true → some_in p.left ≡ true → Taken false true true
      more b l h =
          posted_by p [] subjects left (members_of p.ways) p.replies
          (no_members p.requests none) (some_members p.subjects b) (some_members p.left l) refl refl
          ∙ ap (λ (z : List Letter). head false true ∷ z)
          (sym (posted_by (rest_by false true true p) [] subjects (members_of (less_lowest p.left)) (members_of p.ways) p.replies
          (no_members p.requests none) (some_members p.subjects b) refl refl refl))

      -- it was the last way: the next subject has them all
      last : some_in p.subjects ≡ true → some_in p.left ≡ true → some_in (less_lowest p.left) ≡ false → Taken false true false
      last b l m h =
          posted_by p [] subjects (lowest_in p.left ∷ []) (members_of p.ways) p.replies
          (no_members p.requests none) (some_members p.subjects b)
          (some_members p.left l ∙ ap {B = List ℕ} (λ x. lowest_in p.left ∷ x) (no_members (less_lowest p.left) m)) refl refl
          ∙ ap (λ (z : List Letter). head false true ∷ (z ++ (if p.replies then (letter s p.link (Reply p.reply) ∷ []) else [])))
          (sym (telling_all s counted (members_of (less_lowest p.subjects)) (members_of p.ways)))
          ∙ ap (λ (z : List Letter). head false true ∷ z)
          (sym (posted_by (rest_by false true false p) []
          (members_of (less_lowest p.subjects)) (members_of p.ways) (members_of p.ways) p.replies
          (no_members p.requests none) refl refl refl refl))

      -- no notice is left: the reply, if there is one
      replied : (m b : Bool) → p.replies ≡ b → (js ls ways : List ℕ)
          → members_of p.subjects ≡ js → members_of p.left ≡ ls → members_of p.ways ≡ ways
          → telling s counted js ls ways ≡ [] → Taken false false m
      replied m true r js ls ways e f q n h =
          posted_by p [] js ls ways true (no_members p.requests none) e f q r
          ∙ ap (λ (z : List Letter). z ++ (letter s p.link (Reply p.reply) ∷ [])) n
          ∙ ap (λ (z : List Letter). head false false ∷ z)
          (sym (posted_by (rest_by false false m p) [] js ls ways false (no_members p.requests none) e f q refl
          ∙ ap (λ (z : List Letter). z ++ []) n))
      replied m false r js ls ways e f q n h =
          nothing (posted_by p [] js ls ways false (no_members p.requests none) e f q r ∙ ap (λ (z : List Letter). z ++ []) n) h

    taken : (a b l m : Bool) → some_in p.requests ≡ a → some_in p.subjects ≡ b → some_in p.left ≡ l
        → some_in (less_lowest p.left) ≡ m → Taken a (b && l) m
    unfolding Going
    taken true b l m ea eb el em = asked (b && l) m ea
    taken false true true true ea eb el em = more ea eb el
    taken false true true false ea eb el em = last ea eb el em
    taken false true false m ea eb el em =
        replied ea m p.replies refl subjects [] []
        (some_members p.subjects eb) (no_members p.left el) (g (no_members p.left el))
        (tell_nowhere s counted (members_of (less_lowest p.subjects)))
    taken false false l m ea eb el em =
        replied ea m p.replies refl [] (members_of p.left) (members_of p.ways) (no_members p.subjects eb) refl refl refl

    -- where a letter is left, the first comes first and then what is left after it
    pub next : 0 < length (posted s told p)
        → posted s told p ≡ first_left s (get_or told (lowest_in p.subjects) 0) p ∷ posted s told (rest_left p)
    unfolding first_left rest_left
    next = taken (some_in p.requests) (some_in p.subjects) (some_in p.left) (some_in (less_lowest p.left)) refl refl refl refl

-- what is left after a letter goes on so
going_by : (p : Post) (a t m : Bool) → some_in (less_lowest p.left) ≡ m → Going p → Going (rest_by a t m p)
unfolding Going
going_by p true t m e g n = g n
going_by p false true true e g n = absurd (omega (arith, ap length n, ap length (some_members (less_lowest p.left) e)))
going_by p false true false e g n = n
going_by p false false m e g n = g n

pub rest_going : (p : Post) → Going p → Going (rest_left p)
unfolding rest_left
rest_going p g = going_by p (some_in p.requests) (tells p) (some_in (less_lowest p.left)) refl g

-- ---- a turn of the loop that appends the letters all, k of which are appended
pub step : (s : ℕ) (told : List ℕ) (p : Post) (all : List Letter) (k : ℕ) (d : Letter)
    → Going p → posted s told p ≡ drop k all → k < length all
    → (first_left s (get_or told (lowest_in p.subjects) 0) p ≡ get_or all k d)
    × (posted s told (rest_left p) ≡ drop (k + 1) all) × Going (rest_left p)
step s told p all k d g e h =
    let q : posted s told p ≡ get_or all k d ∷ drop (suc k) all = e ∙ drop-cons all k d h in
    let w : first_left s (get_or told (lowest_in p.subjects) 0) p ∷ posted s told (rest_left p) ≡ get_or all k d ∷ drop (suc k) all =
    sym (next s told p g (subst (λ (l : List Letter). 0 < length l) (sym q) (omega arith))) ∙ q in
    (cc, rw add-one (cc), rest_going p g)

-- the same for what the code answered: the link j told of, its counter c, the letter y, and q left after it
pub step_seen : (s : ℕ) (told : List ℕ) (p q : Post) (j c : ℕ) (y : Letter) (all : List Letter) (k : ℕ) (d : Letter)
    → j ≡ lowest_in p.subjects → c ≡ get_or told j 0 → y ≡ first_left s c p → q ≡ rest_left p
    → Going p → posted s told p ≡ drop k all → k < length all
    → (y ≡ get_or all k d) × (posted s told q ≡ drop (k + 1) all) × Going q
step_seen s told p q j c y all k d ej ec ey eq g e h =
    let t = step s told p all k d g e h in
    let counter : c ≡ get_or told (lowest_in p.subjects) 0 = ec ∙ ap (λ (x : ℕ). get_or told x 0) ej in
    (ey ∙ ap (λ (x : ℕ). first_left s x p) counter ∙ t.0, ap (posted s told) eq ∙ t.1, subst⁻¹ Going eq t.2)
