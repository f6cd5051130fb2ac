-- The letters that a sending means: its words are read as lists of links, rising.
use Rattle.std.specs.Prelude.{if◌then◌else◌}
use Prim.Native.Nat.{ℕ, zero, suc, ◌+◌, ◌-◌, ◌≤◌, ◌<◌}
use mathlib.Core.Bool.{Bool, true, false, ◌&&◌}
use mathlib.Core.Path.{◌≡◌, refl, sym, ap, ap₂, ◌∙◌}
use mathlib.Core.List.{List, [], ◌∷◌, ◌++◌, append-nil}
use native.Mathlib.Decide.{dec_lt, ℕ_discrete}
use native.Mathlib.Omega.{arith}
use lib.Dec.{eqb}
use lib.ListN.{get_or}
use borrow.Author.Tests.{eq-eqb, ne_eqb, lt-ltb, le-ltb}
use Rattle.net.specs.Sizes.{link_room}
use Rattle.lists.specs.Lists.{keep, from, below}
use Rattle.lists.specs.Words.{in_word}
use Rattle.net.specs.declared.Body.TheVariants.{Request, Reply, Notice}
use Rattle.net.specs.declared.Letter.{Letter}
use Rattle.lists.proofs.Words.{zero_is_out, none_in}
use Rattle.sets.specs.Sets.{word_by, up_to}
use Rattle.sets.proofs.WordLaws.{in_by, by_same}
use Rattle.station.specs.declared.Sending.{Sending}
use Rattle.station.specs.Done.{letter, on_each, tell}
use Rattle.station.specs.Values.{members_of, parts, letters_of}

-- ---- lists of links
-- tests that agree from i on keep the same
keep_from : (p q : ℕ → Bool) (n i : ℕ) → ((t : ℕ) → i ≤ t → t < i + n → p t ≡ q t) → keep p (from i n) ≡ keep q (from i n)
keep_from p q zero i e = refl
keep_from p q (suc n) i e =
    ap₂ (λ (b : Bool) (l : List ℕ). if b then (i ∷ l) else l) (e i (omega arith) (omega arith))
    (keep_from p q n (suc i) (λ t h l. e t (omega arith) (omega arith)))

pub keep_same : (p q : ℕ → Bool) (n : ℕ) → ((t : ℕ) → t < n → p t ≡ q t) → keep p (below n) ≡ keep q (below n)
keep_same p q n e = keep_from p q n 0 (λ t h l. e t (omega arith))

keep_none : (p : ℕ → Bool) (n i : ℕ) → ((t : ℕ) → i ≤ t → t < i + n → p t ≡ false) → keep p (from i n) ≡ []
keep_none p zero i e = refl
keep_none p (suc n) i e =
    ap (λ (b : Bool). if b then (i ∷ keep p (from (suc i) n)) else keep p (from (suc i) n)) (e i (omega arith) (omega arith))
    ∙ keep_none p n (suc i) (λ t h l. e t (omega arith) (omega arith))

-- only those below m
keep_upto : (q : ℕ → Bool) (m n i : ℕ) → m ≤ i + n → i ≤ m → keep (up_to q m) (from i n) ≡ keep q (from i (m - i))
keep_upto q m zero i h l = ap (λ (x : ℕ). keep q (from i x)) {x = 0} {y = m - i} (omega arith)
keep_upto q m (suc n) i h l = go (dec_lt i m) (λ a b. keep_upto q m n (suc i) a b)
  where
    go : Dec (i < m) → (m ≤ suc i + n → suc i ≤ m → keep (up_to q m) (from (suc i) n) ≡ keep q (from (suc i) (m - suc i)))
        → keep (up_to q m) (from i (suc n)) ≡ keep q (from i (m - i))
    go (yes g) more =
        let e : suc (m - suc i) ≡ m - i = omega arith in
        ap₂ (λ (b : Bool) (r : List ℕ). if b then (i ∷ r) else r) (ap (λ (b : Bool). b && q i) (lt-ltb i m g)) (more (omega arith) g)
        ∙ ap₂ (λ (b : Bool) (x : ℕ). keep q (from i x)) (sym (lt-ltb i m g)) e
    go (no g) more =
        let e : 0 ≡ m - i = omega arith in
        keep_none (up_to q m) (suc n) i (λ t a b. ap (λ (x : Bool). x && q t) (le-ltb t m (omega arith)))
        ∙ ap (λ (x : ℕ). keep q (from i x)) e

-- the members of a word made by a test, all of them below m
pub members_upto : (q : ℕ → Bool) (m : ℕ) → m ≤ link_room → members_of (word_by (up_to q m)) ≡ keep q (below m)
unfolding members_of
members_upto q m h =
    let e : m - 0 ≡ m = omega arith in
    keep_same (in_word (word_by (up_to q m))) (up_to q m) link_room (λ t l. in_by (up_to q m) t l)
    ∙ keep_upto q m link_room 0 (omega arith) (omega arith)
    ∙ ap (λ (x : ℕ). keep q (from 0 x)) e

-- the same for a word known by its bits
pub members_by : (f q : ℕ → Bool) (m : ℕ) → m ≤ link_room → ((t : ℕ) → t < link_room → f t ≡ up_to q m t)
    → members_of (word_by f) ≡ keep q (below m)
members_by f q m h e = ap members_of (by_same f (up_to q m) e) ∙ members_upto q m h

pub members_none : members_of 0 ≡ []
unfolding members_of
members_none = refl

-- ---- one link alone
one_at : ℕ → ℕ → Bool
one_at k t = if eqb t k then true else in_word 0 t

one_off : (k t : ℕ) → (t ≡ k → ⊥) → one_at k t ≡ false
unfolding one_at
one_off k t m = ap (λ (x : Bool). if x then true else in_word 0 t) (ne_eqb t k m) ∙ zero_is_out 0 t (none_in t)

one_on : (k t : ℕ) → t ≡ k → one_at k t ≡ true
unfolding one_at
one_on k t e = ap (λ (x : Bool). if x then true else in_word 0 t) (eq-eqb t k e)

one_from : (k n i : ℕ) → i ≤ k → k < i + n → keep (one_at k) (from i n) ≡ k ∷ []
one_from k zero i a b = absurd (omega arith)
one_from k (suc n) i a b = go (ℕ_discrete i k) (λ x y. one_from k n (suc i) x y)
  where
    go : Dec (i ≡ k) → (suc i ≤ k → k < suc i + n → keep (one_at k) (from (suc i) n) ≡ k ∷ []) → keep (one_at k) (from i (suc n)) ≡ k ∷ []
    go (yes c) more =
        ap (λ (b : Bool). if b then (i ∷ keep (one_at k) (from (suc i) n)) else keep (one_at k) (from (suc i) n)) (one_on k i c)
        ∙ ap₂ (λ (x : ℕ) (l : List ℕ). x ∷ l) c (keep_none (one_at k) n (suc i) (λ t g l. one_off k t (λ m. omega arith)))
    go (no c) more =
        ap (λ (b : Bool). if b then (i ∷ keep (one_at k) (from (suc i) n)) else keep (one_at k) (from (suc i) n)) (one_off k i c)
        ∙ more (omega arith) (omega arith)

pub members_one : (k : ℕ) → k < link_room → members_of (word_by (λ t. if eqb t k then true else in_word 0 t)) ≡ k ∷ []
unfolding one_at members_of
members_one k h =
    keep_same (in_word (word_by (one_at k))) (one_at k) link_room (λ t l. in_by (one_at k) t l)
    ∙ one_from k link_room 0 (omega arith) (omega arith)

-- ---- notices depend only on the counters of their subjects
tell_from : (s : ℕ) (c d : ℕ → ℕ) (p : ℕ → Bool) (ways : List ℕ) (n i : ℕ) → ((j : ℕ) → i ≤ j → j < i + n → c j ≡ d j)
    → tell s c (keep p (from i n)) ways ≡ tell s d (keep p (from i n)) ways
tell_from s c d p ways zero i e = refl
tell_from s c d p ways (suc n) i e = go (p i) (tell_from s c d p ways n (suc i) (λ j h l. e j (omega arith) (omega arith)))
  where
    go : (b : Bool) → tell s c (keep p (from (suc i) n)) ways ≡ tell s d (keep p (from (suc i) n)) ways
        → tell s c (if b then (i ∷ keep p (from (suc i) n)) else keep p (from (suc i) n)) ways ≡ tell s d
        (if b then (i ∷ keep p (from (suc i) n)) else keep p (from (suc i) n)) ways
    go true r = ap₂ (λ (x : ℕ) (l : List Letter). on_each s (Notice i x) ways ++ l) (e i (omega arith) (omega arith)) r
    go false r = r

pub tell_same : (s : ℕ) (c d : ℕ → ℕ) (p : ℕ → Bool) (ways : List ℕ) (n : ℕ) → ((j : ℕ) → j < n → c j ≡ d j)
    → tell s c (keep p (below n)) ways ≡ tell s d (keep p (below n)) ways
tell_same s c d p ways n e = tell_from s c d p ways n 0 (λ j h l. e j (omega arith))

-- one subject alone
pub tell_one : (s : ℕ) (c : ℕ → ℕ) (k : ℕ) (ways : List ℕ) → tell s c (k ∷ []) ways ≡ on_each s (Notice k (c k)) ways
tell_one s c k ways = append-nil (on_each s (Notice k (c k)) ways)

-- ---- a sending by its parts
abbrev last_of : ℕ → Sending → Bool → List Letter
last_of s x b = if b then (letter s x.link (Reply x.reply) ∷ []) else []

module _ (s : ℕ) (told : List ℕ) (x : Sending) where
  by_parts : (ks js ways : List ℕ) (b : Bool) → members_of x.requests ≡ ks → members_of x.subjects ≡ js → members_of x.ways ≡ ways
      → x.replies ≡ b
      → letters_of s told x ≡ parts s ks (λ j. get_or told j 0) js ways (last_of s x b)
  unfolding letters_of
  by_parts ks js ways b p q w r =
      ap (λ (l : List ℕ). parts s l (λ j. get_or told j 0) (members_of x.subjects) (members_of x.ways) (last_of s x x.replies)) p
      ∙ ap₂ (λ (l m : List ℕ). parts s ks (λ j. get_or told j 0) l m (last_of s x x.replies)) q w
      ∙ ap (λ (c : Bool). parts s ks (λ j. get_or told j 0) js ways (last_of s x c)) r

  -- nothing
  pub sent_nothing : x.requests ≡ 0 → x.subjects ≡ 0 → x.replies ≡ false → letters_of s told x ≡ []
  sent_nothing p q r = by_parts [] [] (members_of x.ways) false (ap members_of p ∙ members_none) (ap members_of q ∙ members_none) refl r

  -- requests alone
  pub sent_requests : (ks : List ℕ) → members_of x.requests ≡ ks → x.subjects ≡ 0 → x.replies ≡ false
      → letters_of s told x ≡ on_each s Request ks
  sent_requests ks p q r =
      by_parts ks [] (members_of x.ways) false p (ap members_of q ∙ members_none) refl r ∙ append-nil (on_each s Request ks)

  -- notices alone
  pub sent_notices : (js ways : List ℕ) → x.requests ≡ 0 → members_of x.subjects ≡ js → members_of x.ways ≡ ways → x.replies ≡ false
      → letters_of s told x ≡ tell s (λ j. get_or told j 0) js ways
  sent_notices js ways p q w r =
      by_parts [] js ways false (ap members_of p ∙ members_none) q w r ∙ append-nil (tell s (λ j. get_or told j 0) js ways)

  -- notices, and the reply
  pub sent_reply : (js ways : List ℕ) → x.requests ≡ 0 → members_of x.subjects ≡ js → members_of x.ways ≡ ways → x.replies ≡ true
      → letters_of s told x ≡ tell s (λ j. get_or told j 0) js ways ++ (letter s x.link (Reply x.reply) ∷ [])
  sent_reply js ways p q w r = by_parts [] js ways true (ap members_of p ∙ members_none) q w r
