-- Words of links as lists of links: own links with such marks, those but one, one link alone; and the links that are known.
use Rattle.std.specs.Prelude.{if◌then◌else◌}
use Prim.Native.Nat.{ℕ, ◌<◌}
use mathlib.Core.Bool.{Bool, true, false, not, ◌&&◌}
use mathlib.Core.Path.{◌≡◌, refl, sym, ap, ◌∙◌, subst}
use mathlib.Core.List.{List}
use native.Mathlib.Omega.{arith}
use lib.Dec.{T, eqb, ltb}
use lib.ListN.{length, get_or}
use Rattle.net.specs.Sizes.{link_room}
use Rattle.lists.specs.Lists.{keep, below}
use Rattle.lists.specs.Words.{in_word}
use Rattle.lists.proofs.Tests.{and_assoc}
use Rattle.lists.proofs.Kept.{keep_keep}
use Rattle.net.specs.declared.Net.{Net}
use Rattle.net.specs.Network.{Network, is_end, link_numbers}
use Rattle.net.specs.Values.{network_of, link_count}
use Rattle.net.proofs.ValueLaws.{links_of_lem}
use Rattle.reach.specs.Reach.{counter_in}
use Rattle.reach.specs.Values.{table_of}
use Rattle.reach.proofs.Tables.{counter_of_lem}
use Rattle.sets.specs.Sets.{word_by, up_to}
use Rattle.sets.proofs.WordLaws.{by_same, in_by, all_in}
use Rattle.marks.specs.declared.Marks.{Marks}
use Rattle.marks.specs.Marks.{marks_at, own_at}
use Rattle.station.specs.declared.Station.{Station}
use Rattle.station.specs.Holding.{Holding, mark}
use Rattle.station.specs.Acts.{Links, the_link, all_own, other_own}
use Rattle.station.specs.Done.{less, tell, known, own_links, links_of}
use Rattle.station.specs.Values.{holding_of, members_of}
use Rattle.station.proofs.Laid.{mark_of}
use Rattle.station.proofs.Sent.{keep_same, members_upto, members_one, tell_same}
use Rattle.station_plan.specs.Plans.{every_link, putting, links_word, known_in}

module _ (net : Net) where
  abbrev N : Network
  N = network_of net

  kept_links : (p q : ℕ → Bool) → ((j : ℕ) → j < link_count net → p j ≡ q j)
      → members_of (word_by (up_to p (link_count net))) ≡ keep q (link_numbers N)
  kept_links p q e =
      members_upto p (link_count net) (omega arith) ∙ keep_same p q (link_count net) e ∙ ap (λ (n : ℕ). keep q (below n)) (sym (links_of_lem net))

  -- a set without k, where the set is that of a test
  word_less : (p : ℕ → Bool) (v k : ℕ) → v ≡ word_by (up_to p (link_count net))
      → putting v k false ≡ word_by (up_to (λ j. p j && not (eqb j k)) (link_count net))
  word_less p v k e =
      by_same (λ t. if eqb t k then false else in_word v t) (up_to (λ j. p j && not (eqb j k)) (link_count net))
      (λ t h. ap (λ (b : Bool). if eqb t k then false else b) (ap (λ (x : ℕ). in_word x t) e ∙ in_by (up_to p (link_count net)) t h)
      ∙ table (ltb t (link_count net)) (p t) (eqb t k))
    where
      table : (a b c : Bool) → (if c then false else (a && b)) ≡ (a && (b && not c))
      table true true true = refl
      table true true false = refl
      table true false true = refl
      table true false false = refl
      table false b true = refl
      table false b false = refl

  -- ---- a station's links
  -- one link alone must be there
  abbrev pub LinksFit : Links → Type 0
  LinksFit (the_link k) = k < link_count net
  LinksFit (all_own test) = T true
  LinksFit (other_own k test) = T true

  module _ (s : ℕ) (st : Station) (own : ℕ) (eo : own ≡ word_by (own_at net s)) where
    abbrev H : Holding
    H = holding_of net st

    abbrev own_as : (Marks → Bool) → ℕ → Bool
    own_as test j = is_end N j s && test (marks_at st.marks j)

    own_word : (test : Marks → Bool) → links_word own st.marks (all_own test) ≡ word_by (up_to (own_as test) (link_count net))
    own_word test =
        by_same (λ t. in_word own t && test (marks_at st.marks t)) (up_to (own_as test) (link_count net))
        (λ t h. ap (λ (b : Bool). b && test (marks_at st.marks t)) (ap (λ (x : ℕ). in_word x t) eo ∙ in_by (own_at net s) t h)
        ∙ sym (and_assoc (ltb t (link_count net)) (is_end N t s) (test (marks_at st.marks t))))

    pub links_are : (l : Links) → LinksFit l → members_of (links_word own st.marks l) ≡ links_of N s H l
    unfolding own_links
    links_are (the_link k) h = members_one k (omega arith)
    links_are (all_own test) h =
        ap members_of (own_word test)
        ∙ kept_links (own_as test) (λ j. is_end N j s && test (mark H j))
        (λ j l. ap (λ (m : Marks). is_end N j s && test m) (sym (mark_of net st j l)))
    links_are (other_own k test) h =
        ap members_of (word_less (own_as test) (links_word own st.marks (all_own test)) k (own_word test))
        ∙ kept_links (λ j. own_as test j && not (eqb j k)) (λ j. (is_end N j s && test (mark H j)) && not (eqb j k))
        (λ j l. ap (λ (m : Marks). (is_end N j s && test m) && not (eqb j k)) (sym (mark_of net st j l)))
        ∙ sym (keep_keep (λ j. is_end N j s && test (mark H j)) (λ j. not (eqb j k)) (link_numbers N))

  -- ---- what is known of a table
  module _ (told : List ℕ) (size : length told ≡ link_room) where
    abbrev table : List ℕ
    table = table_of net told

    counter_is : (j : ℕ) → j < link_count net → get_or told j 0 ≡ counter_in table j
    counter_is j h = sym (counter_of_lem net told j size h)

    known_word : word_by (λ j. in_word every_link j && known_in (link_count net) told j) ≡ word_by (known_in (link_count net) told)
    known_word =
        by_same (λ j. in_word every_link j && known_in (link_count net) told j) (known_in (link_count net) told)
        (λ t l. ap (λ (b : Bool). b && known_in (link_count net) told t) (all_in t l))

    pub known_are : members_of (word_by (λ j. in_word every_link j && known_in (link_count net) told j)) ≡ known N table
    unfolding known
    known_are =
        ap members_of known_word
        ∙ kept_links (λ j. ltb 1 (get_or told j 0)) (λ j. ltb 1 (counter_in table j)) (λ j l. ap (ltb 1) (counter_is j l))

    -- but one
    pub known_less : (k : ℕ) → members_of (word_by (λ j. in_word (putting every_link k false) j && known_in (link_count net) told j)) ≡ less k
        (known N table)
    unfolding known
    known_less k =
        ap members_of (by_same (λ j. in_word (putting every_link k false) j && known_in (link_count net) told j)
        (up_to (λ j. ltb 1 (get_or told j 0) && not (eqb j k)) (link_count net)) same)
        ∙ kept_links (λ j. ltb 1 (get_or told j 0) && not (eqb j k)) (λ j. ltb 1 (counter_in table j) && not (eqb j k))
        (λ j l. ap (λ (n : ℕ). ltb 1 n && not (eqb j k)) (counter_is j l))
        ∙ sym (keep_keep (λ j. ltb 1 (counter_in table j)) (λ j. not (eqb j k)) (link_numbers N))
      where
        cases : (a b e : Bool) → ((if e then false else true) && (a && b)) ≡ (a && (b && not e))
        cases true true true = refl
        cases true true false = refl
        cases true false true = refl
        cases true false false = refl
        cases false b true = refl
        cases false b false = refl

        same : (t : ℕ) → t < link_room → (in_word (putting every_link k false) t && known_in (link_count net) told t) ≡ up_to
            (λ j. ltb 1 (get_or told j 0) && not (eqb j k)) (link_count net) t
        same t l =
            ap (λ (b : Bool). b && known_in (link_count net) told t)
            (in_by (λ t. if eqb t k then false else in_word every_link t) t l ∙ ap (λ (b : Bool). if eqb t k then false else b) (all_in t l))
            ∙ cases (ltb t (link_count net)) (ltb 1 (get_or told t 0)) (eqb t k)

    -- notices of known links depend only on the counters of the links that are there
    pub tell_known : (s : ℕ) (ways : List ℕ) → tell s (λ j. get_or told j 0) (known N table) ways ≡ tell s (counter_in table) (known N table)
        ways
    unfolding known
    tell_known s ways =
        tell_same s (λ j. get_or told j 0) (counter_in table) (λ j. ltb 1 (counter_in table j)) ways (length N.links)
        (λ j l. counter_is j (subst (λ (n : ℕ). j < n) (links_of_lem net) l))

    pub tell_known_less : (s k : ℕ) (ways : List ℕ)
        → tell s (λ j. get_or told j 0) (less k (known N table)) ways ≡ tell s (counter_in table) (less k (known N table)) ways
    unfolding known
    tell_known_less s k ways =
        let q : ℕ → Bool = λ j. ltb 1 (counter_in table j) && not (eqb j k) in
        let e = keep_keep (λ j. ltb 1 (counter_in table j)) (λ j. not (eqb j k)) (link_numbers N) in
        ap (λ (l : List ℕ). tell s (λ j. get_or told j 0) l ways) e
        ∙ tell_same s (λ j. get_or told j 0) (counter_in table) q ways (length N.links)
        (λ j l. counter_is j (subst (λ (n : ℕ). j < n) (links_of_lem net) l))
        ∙ ap (λ (l : List ℕ). tell s (counter_in table) l ways) (sym e)
