-- A station value that was changed at one link is its holding, changed at that link, laid over the old room.
use Rattle.std.specs.Prelude.{if◌then◌else◌}
use Prim.Native.Nat.{ℕ, ◌+◌, ◌-◌, ◌^◌, ◌≤◌, ◌<◌}
use mathlib.Core.Bool.{Bool, true, false}
use mathlib.Core.Path.{◌≡◌, refl, sym, ap, ap₂, ◌∙◌, subst}
use mathlib.Core.List.{List, ◌++◌, map}
use native.Mathlib.Decide.{dec_lt, ℕ_discrete}
use native.Mathlib.Omega.{arith}
use lib.Dec.{eqb}
use lib.ListN.{length, get_or, drop, set, length-append, length-drop, length-set, length-map, length-take, take-append-drop}
use lib.ListN.{get_or-append, get_or-map, get_or-eq_default}
use lib.Seq.{ext_get_or, get_or-append-add, get_or-drop, get_or-set_same, get_or-set_other, take-set-lt, drop-set-lt, set_out}
use borrow.Author.Tests.{eq-eqb, ne_eqb}
use Rattle.net.specs.Sizes.{link_room}
use Rattle.lists.specs.Lists.{below}
use Rattle.lists.specs.Words.{in_word, word_of}
use Rattle.lists.proofs.Numbers.{get_or_map_below, length_map_below}
use Rattle.net.specs.declared.Net.{Net}
use Rattle.net.specs.Values.{link_count}
use Rattle.reach.specs.Values.{table_of}
use Rattle.sets.specs.Sets.{word_by}
use Rattle.sets.proofs.WordLaws.{by_ext, by_same}
use Rattle.marks.specs.declared.Marks.{Marks}
use Rattle.marks.specs.declared.Words.{Words}
use Rattle.marks.specs.Marks.{marks_at, words_by, words_with}
use Rattle.station.specs.declared.Station.{Station}
use Rattle.station.proofs.Doing.{marked}
use Rattle.station.specs.Holding.{Holding, no_marks, mark, counter}
use Rattle.station.specs.Values.{holding_of, bits_of, laid_word, laid_words, laid}

-- ---- words
-- a word whose bits are those of the list, and past it those of the old word
word_laid : (n : ℕ) → n ≤ link_room → (f : ℕ → Bool) (old : ℕ) (bs : List Bool) → length bs ≡ n → ((t : ℕ) → t < n → get_or bs t false ≡ f t)
    → ((t : ℕ) → n ≤ t → t < link_room → in_word old t ≡ f t) → word_by f ≡ laid_word n old bs
unfolding word_by
word_laid n l f old bs e first rest =
    ap word_of (ext_get_or false (map f (below link_room)) (bs ++ drop n (bits_of old)) sizes
    (λ i h. at i (subst (λ (x : ℕ). i < x) (length_map_below f link_room) h) (dec_lt i n)))
  where
    sizes : length (map f (below link_room)) ≡ length (bs ++ drop n (bits_of old))
    sizes =
        length_map_below f link_room ∙ sym (length-append bs (drop n (bits_of old))
        ∙ omega (arith, e, length-drop n (bits_of old), length_map_below (in_word old) link_room))

    at : (i : ℕ) → i < link_room → Dec (i < n) → get_or (map f (below link_room)) i false ≡ get_or (bs ++ drop n (bits_of old)) i false
    at i h (yes m) =
        get_or_map_below f link_room i false h
        ∙ sym (get_or-append bs (drop n (bits_of old)) false i (omega (arith, e)) ∙ first i m)
    at i h (no m) =
        let j : ℕ = i - n in
        let q : length bs + j ≡ i = omega (arith, e) in
        let q' : n + j ≡ i = omega arith in
        get_or_map_below f link_room i false h
        ∙ sym (subst (λ (x : ℕ). get_or (bs ++ drop n (bits_of old)) x false ≡ get_or (drop n (bits_of old)) j false) q
        (get_or-append-add bs (drop n (bits_of old)) j false)
        ∙ get_or-drop n (bits_of old) j false ∙ ap (λ (x : ℕ). get_or (bits_of old) x false) q' ∙ get_or_map_below (in_word old) link_room i false h
        ∙ rest i (omega arith) h)

pub words_laid : (n : ℕ) → n ≤ link_room → (g : ℕ → Marks) (old : Words) (ms : List Marks) → length ms ≡ n
    → ((t : ℕ) → t < n → get_or ms t no_marks ≡ g t)
    → ((t : ℕ) → n ≤ t → t < link_room → marks_at old t ≡ g t) → words_by g ≡ laid_words n old ms
words_laid n l g old ms e first rest = λ i. record {
  token = one (λ m. m.token) refl old.token (λ t. refl) i;
  turn = one (λ m. m.turn) refl old.turn (λ t. refl) i;
  testing = one (λ m. m.testing) refl old.testing (λ t. refl) i;
  asked = one (λ m. m.asked) refl old.asked (λ t. refl) i;
  quiet = one (λ m. m.quiet) refl old.quiet (λ t. refl) i;
}
  where
    one : (p : Marks → Bool) → p no_marks ≡ false → (w : ℕ) → ((t : ℕ) → in_word w t ≡ p (marks_at old t))
        → word_by (λ t. p (g t)) ≡ laid_word n w (map p ms)
    one p q w r =
        word_laid n l (λ t. p (g t)) w (map p ms) (length-map ms p ∙ e)
        (λ t h. ap (get_or (map p ms) t) (sym q) ∙ get_or-map p ms t no_marks ∙ ap p (first t h))
        (λ t h m. r t ∙ ap p (rest t h m))

-- marks written for link k are the marks of every link, but of k these
with_by : (w : Words) (k : ℕ) (m : Marks) → words_with w k m ≡ words_by (λ t. if eqb t k then m else marks_at w t)
with_by w k m = λ i. record {
  token = one (λ x. x.token) i;
  turn = one (λ x. x.turn) i;
  testing = one (λ x. x.testing) i;
  asked = one (λ x. x.asked) i;
  quiet = one (λ x. x.quiet) i;
}
  where
    over : (p : Marks → Bool) (b : Bool) (x y : Marks) → (if b then p x else p y) ≡ p (if b then x else y)
    over p true x y = refl
    over p false x y = refl

    one : (p : Marks → Bool) → word_by (λ t. if eqb t k then p m else p (marks_at w t)) ≡ word_by (λ t. p (if eqb t k then m else marks_at w t))
    one p =
        by_same (λ t. if eqb t k then p m else p (marks_at w t)) (λ t. p (if eqb t k then m else marks_at w t))
        (λ t h. over p (eqb t k) m (marks_at w t))

-- every word fits its 64 bits
pub record Fit (w : Words) : Type 0 where
  pub token : w.token < 2 ^ 64
  pub turn : w.turn < 2 ^ 64
  pub testing : w.testing < 2 ^ 64
  pub asked : w.asked < 2 ^ 64
  pub quiet : w.quiet < 2 ^ 64

by_same_words : (w : Words) → Fit w → w ≡ words_by (marks_at w)
by_same_words w f = λ i. record {
  token = by_ext w.token (in_word w.token) f.token (λ t h. refl) i;
  turn = by_ext w.turn (in_word w.turn) f.turn (λ t h. refl) i;
  testing = by_ext w.testing (in_word w.testing) f.testing (λ t h. refl) i;
  asked = by_ext w.asked (in_word w.asked) f.asked (λ t h. refl) i;
  quiet = by_ext w.quiet (in_word w.quiet) f.quiet (λ t h. refl) i;
}

-- ---- what a holding has
module _ (net : Net) (st : Station) where
  pub mark_of : (k : ℕ) → k < link_count net → mark (holding_of net st) k ≡ marks_at st.marks k
  unfolding holding_of
  mark_of k h = get_or_map_below (marks_at st.marks) (link_count net) k no_marks h

  pub marks_of : (holding_of net st).marks ≡ map (marks_at st.marks) (below (link_count net))
  unfolding holding_of
  marks_of = refl

  pub table_of_lem : (holding_of net st).table ≡ table_of net st.counters
  unfolding holding_of
  table_of_lem = refl

  pub condition_of : (holding_of net st).condition ≡ st.condition
  unfolding holding_of
  condition_of = refl

  -- ---- marks of one link
  pub marks_laid : (k : ℕ) (m : Marks) → k < link_count net
      → words_with st.marks k m ≡ laid_words (link_count net) st.marks (set (map (marks_at st.marks) (below (link_count net))) k m)
  marks_laid k m h =
      with_by st.marks k m
      ∙ words_laid (link_count net) (omega arith) (λ t. if eqb t k then m else marks_at st.marks t) st.marks (set olds k m)
      (length-set olds k m ∙ length_map_below (marks_at st.marks) (link_count net)) first (λ t g l. rest t (λ q. omega arith))
    where
      olds : List Marks
      olds = map (marks_at st.marks) (below (link_count net))

      rest : (t : ℕ) → (t ≡ k → ⊥) → marks_at st.marks t ≡ (if eqb t k then m else marks_at st.marks t)
      rest t n = ap (λ (b : Bool). if b then m else marks_at st.marks t) (sym (ne_eqb t k n))

      first : (t : ℕ) → t < link_count net → get_or (set olds k m) t no_marks ≡ (if eqb t k then m else marks_at st.marks t)
      first t l = go (ℕ_discrete t k)
        where
          go : Dec (t ≡ k) → get_or (set olds k m) t no_marks ≡ (if eqb t k then m else marks_at st.marks t)
          go (yes q) =
              ap (λ (x : ℕ). get_or (set olds k m) x no_marks) q
              ∙ get_or-set_same olds k m no_marks (omega (arith, length_map_below (marks_at st.marks) (link_count net)))
              ∙ ap (λ (b : Bool). if b then m else marks_at st.marks t) (sym (eq-eqb t k q))
          go (no n) = get_or-set_other olds k t m no_marks n ∙ get_or_map_below (marks_at st.marks) (link_count net) t no_marks l ∙ rest t n

  pub same_laid : Fit st.marks → st.marks ≡ laid_words (link_count net) st.marks (map (marks_at st.marks) (below (link_count net)))
  same_laid f =
      by_same_words st.marks f
      ∙ words_laid (link_count net) (omega arith) (marks_at st.marks) st.marks (map (marks_at st.marks) (below (link_count net)))
      (length_map_below (marks_at st.marks) (link_count net)) (λ t h. get_or_map_below (marks_at st.marks) (link_count net) t no_marks h)
      (λ t g l. refl)

  -- ---- counters
  pub table_set : (k c : ℕ) → k < link_count net → table_of net (set st.counters k c) ≡ set (table_of net st.counters) k c
  table_set k c h = take-set-lt (link_count net) st.counters k c h

  pub room_set : (k c : ℕ) → k < link_count net → drop (link_count net) (set st.counters k c) ≡ drop (link_count net) st.counters
  room_set k c h = drop-set-lt (link_count net) st.counters k c h

  pub counters_same : st.counters ≡ table_of net st.counters ++ drop (link_count net) st.counters
  counters_same = sym (take-append-drop (link_count net) st.counters)

  pub counters_set : (k c : ℕ) → k < link_count net
      → set st.counters k c ≡ set (table_of net st.counters) k c ++ drop (link_count net) st.counters
  counters_set k c h =
      sym (take-append-drop (link_count net) (set st.counters k c)) ∙ ap₂ (λ (x y : List ℕ). x ++ y) (table_set k c h) (room_set k c h)

  -- ---- a station value made of parts
  pub laid_is : (r : Station) (h : Holding) → r.condition ≡ h.condition → r.counters ≡ h.table ++ drop (link_count net) st.counters
      → r.marks ≡ laid_words (link_count net) st.marks h.marks → r ≡ laid net st h
  unfolding laid
  laid_is r h p q u = λ i. record { condition = p i; counters = q i; marks = u i }

  -- nothing changed
  pub laid_same : Fit st.marks → st ≡ laid net st (holding_of net st)
  unfolding holding_of
  laid_same f = laid_is st (holding_of net st) refl counters_same (same_laid f)

  -- the marks of link k changed
  pub laid_marked : (k : ℕ) (m : Marks) → k < link_count net
      → ◌≡◌ {A = Station} (record { condition = st.condition; counters = st.counters; marks = words_with st.marks k m })
      (laid net st (marked k m (holding_of net st)))
  unfolding holding_of
  laid_marked k m h =
      laid_is (record { condition = st.condition; counters = st.counters; marks = words_with st.marks k m })
      (marked k m (holding_of net st)) refl counters_same (marks_laid k m h)

  -- a link that is not there: nothing to change
  pub marked_past : (k : ℕ) (m : Marks) → link_count net ≤ k → marked k m (holding_of net st) ≡ holding_of net st
  unfolding holding_of
  marked_past k m h =
      ap (λ (ms : List Marks). record { condition = st.condition; table = table_of net st.counters; marks = ms })
      (set_out (map (marks_at st.marks) (below (link_count net))) k m
      (omega (arith, length_map_below (marks_at st.marks) (link_count net))))

  pub mark_past : (k : ℕ) → link_count net ≤ k → mark (holding_of net st) k ≡ no_marks
  unfolding holding_of
  mark_past k h =
      get_or-eq_default (map (marks_at st.marks) (below (link_count net))) no_marks {n = k}
      (omega (arith, length_map_below (marks_at st.marks) (link_count net)))

  pub counter_past : (k : ℕ) → length st.counters ≡ link_room → link_count net ≤ k → counter (holding_of net st) k ≡ 1
  unfolding holding_of
  counter_past k e h =
      get_or-eq_default (table_of net st.counters) 1 {n = k} (omega (arith, length-take (link_count net) st.counters))
