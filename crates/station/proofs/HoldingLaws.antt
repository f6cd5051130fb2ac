-- A well-formed holding as facts, and what keeps it well formed: marks or a counter of one link set anew, a purge, marks set at
-- every link. The letters that a station sends on its own links are good.
use Prim.Native.Nat.{ℕ, ◌<◌}
use mathlib.Core.Bool.{Bool, not, ◌&&◌}
use mathlib.Core.Path.{◌≡◌, ◌∙◌, subst⁻¹}
use mathlib.Core.Logic.{⊎_elim}
use mathlib.Core.List.{List, [], ◌∷◌, map}
use native.Mathlib.Decide.{ℕ_discrete}
use lib.Dec.{T, eqb, ltb, lt→ltb, eqb→eq}
use lib.ListN.{length, length-set}
use lib.Seq.{get_or-set_same, get_or-set_other}
use Rattle.lists.specs.Lists.{keep, every}
use Rattle.lists.proofs.Tests.{and_l, and_r, and_i, eq→eqb}
use Rattle.lists.proofs.Numbers.{below_at, at_below, get_or_map_below, length_map_below}
use Rattle.lists.proofs.Kept.{every_imp, every_both, every_joined, every_keep, every_kept, every_map}
use Rattle.net.specs.declared.Body.{Body}
use Rattle.net.specs.declared.Body.TheVariants.{Notice}
use Rattle.net.specs.Network.{Network, is_end, link_numbers}
use Rattle.net.specs.Letters.{is_counter, body_holds, letter_holds}
use Rattle.reach.specs.Reach.{counter_in}
use Rattle.marks.specs.declared.Marks.{Marks}
use Rattle.station.specs.declared.Condition.{Condition}
use Rattle.station.specs.Holding.{Holding, no_marks, counter, mark, is_live, slot_holds, holding_holds}
use Rattle.station.specs.Done.{letter, on_each, tell, less, known, own_links}
use Rattle.station.specs.Acts.{is_open}
use Rattle.station.proofs.Doing.{marked, counted, open_links, purged}
use Rattle.station.proofs.Slots.{slot_counter, slot_recount, slot_one}
use Rattle.station.proofs.Purges.{purged_length, purged_lowers}

module _ (net : Network) where
  -- a holding of the station s: a counter and marks for every link, and each link's slot holds
  pub record Formed (s : ℕ) (h : Holding) : Type 0 where
    pub table_length : length h.table ≡ length net.links
    pub marks_length : length h.marks ≡ length net.links
    pub slots : (k : ℕ) → k < length net.links → T (slot_holds h.condition (is_end net k s) (counter h k) (mark h k))

  pub formed : (s : ℕ) (h : Holding) → T (holding_holds net s h) → Formed s h
  unfolding holding_holds
  formed s h t =
      let sizes = eqb (length h.table) (length net.links) && eqb (length h.marks) (length net.links) in
      record {
        table_length = eqb→eq _ _ (and_l (eqb (length h.table) (length net.links)) _ (and_l sizes _ t));
        marks_length = eqb→eq _ _ (and_r (eqb (length h.table) (length net.links)) _ (and_l sizes _ t));
        slots = below_at (λ k. slot_holds h.condition (is_end net k s) (counter h k) (mark h k)) (length net.links) (and_r sizes _ t);
      }

  pub holds : (s : ℕ) (h : Holding) → Formed s h → T (holding_holds net s h)
  unfolding holding_holds
  holds s h f =
      let sizes = eqb (length h.table) (length net.links) && eqb (length h.marks) (length net.links) in
      and_i sizes _
      (and_i (eqb (length h.table) (length net.links)) _ (eq→eqb _ _ f.table_length) (eq→eqb _ _ f.marks_length))
      (at_below (λ k. slot_holds h.condition (is_end net k s) (counter h k) (mark h k)) (length net.links) f.slots)

  -- ---- a holding that is changed
  module _ (s : ℕ) (h : Holding) (f : Formed s h) where
    -- the marks of one link anew
    pub marked_formed : (k : ℕ) (m : Marks) → k < length net.links → T (slot_holds h.condition (is_end net k s) (counter h k) m)
        → Formed s (marked k m h)
    marked_formed k m l t =
        record {
          table_length = f.table_length;
          marks_length = length-set h.marks k m ∙ f.marks_length;
          slots = λ j i. go j i (ℕ_discrete j k);
        }
      where
        go : (j : ℕ) → j < length net.links → Dec (j ≡ k)
            → T (slot_holds h.condition (is_end net j s) (counter h j) (mark (marked k m h) j))
        go j i (yes e) = rw (e, get_or-set_same h.marks k m no_marks (subst⁻¹ (λ (n : ℕ). k < n) f.marks_length l)) t
        go j i (no e) = rw (get_or-set_other h.marks k j m no_marks e) (f.slots j i)

    -- the counter of one link anew
    pub counted_formed : (k c : ℕ) → k < length net.links → T (slot_holds h.condition (is_end net k s) c (mark h k))
        → Formed s (counted k c h)
    counted_formed k c l t =
        record {
          table_length = length-set h.table k c ∙ f.table_length;
          marks_length = f.marks_length;
          slots = λ j i. go j i (ℕ_discrete j k);
        }
      where
        go : (j : ℕ) → j < length net.links → Dec (j ≡ k)
            → T (slot_holds h.condition (is_end net j s) (counter (counted k c h) j) (mark h j))
        go j i (yes e) = rw (e, get_or-set_same h.table k c 1 (subst⁻¹ (λ (n : ℕ). k < n) f.table_length l)) t
        go j i (no e) = rw (get_or-set_other h.table k j c 1 e) (f.slots j i)

    pub recounted_formed : (k c : ℕ) → k < length net.links → T (is_live h.condition) → T (is_counter c) → Formed s (counted k c h)
    recounted_formed k c l v p =
        counted_formed k c l (slot_recount h.condition (is_end net k s) (counter h k) c (mark h k) v p (f.slots k l))

    -- a purge: it only sets counters to 1
    pub purged_formed : Formed s (purged net s h)
    purged_formed =
        record {
          table_length = purged_length net s h;
          marks_length = f.marks_length;
          slots = λ j i.
              ⊎_elim (λ e. subst⁻¹ (λ (c : ℕ). T (slot_holds h.condition (is_end net j s) c (mark h j))) e (f.slots j i))
              (λ e. subst⁻¹ (λ (c : ℕ). T (slot_holds h.condition (is_end net j s) c (mark h j))) e
              (slot_one h.condition (is_end net j s) (counter h j) (mark h j) (f.slots j i)))
              (purged_lowers net s h j);
        }

  -- a condition, a table and marks of every link anew
  pub anew_formed : (s : ℕ) (x : Condition) (table : List ℕ) (m : ℕ → Marks) → length table ≡ length net.links
      → ((k : ℕ) → k < length net.links → T (slot_holds x (is_end net k s) (counter_in table k) (m k)))
      → Formed s (record { condition = x; table = table; marks = map m (link_numbers net) })
  anew_formed s x table m e f =
      record {
        table_length = e;
        marks_length = length_map_below m (length net.links);
        slots = λ k l. rw (get_or_map_below m (length net.links) k no_marks l) (f k l);
      }

  -- ---- letters
  -- the link exists and s is an end of it
  abbrev pub own_link : ℕ → ℕ → Bool
  own_link s k = ltb k (length net.links) && is_end net k s

  -- a subject that may be told, by its counter
  abbrev pub may_tell : (ℕ → ℕ) → ℕ → Bool
  may_tell c j = ltb j (length net.links) && is_counter (c j)

  pub own_is : (s k : ℕ) → k < length net.links → T (is_end net k s) → T (own_link s k)
  own_is s k l o = and_i (ltb k (length net.links)) _ (lt→ltb k _ l) o

  kept_below : (p : ℕ → Bool) → T (every (λ k. ltb k (length net.links)) (keep p (link_numbers net)))
  kept_below p =
      every_keep (λ k. ltb k (length net.links)) p (link_numbers net)
      (at_below (λ k. ltb k (length net.links)) (length net.links) (λ k l. lt→ltb k _ l))

  -- links that are kept by a test which only own links pass
  pub own_kept : (s : ℕ) (p : ℕ → Bool) → ((k : ℕ) → T (p k) → T (is_end net k s)) → T (every (own_link s) (keep p (link_numbers net)))
  own_kept s p f =
      every_imp (λ k. ltb k (length net.links) && p k) (own_link s)
      (λ k t. and_i (ltb k (length net.links)) _ (and_l (ltb k (length net.links)) _ t)
      (f k (and_r (ltb k (length net.links)) _ t)))
      (keep p (link_numbers net))
      (every_both (λ k. ltb k (length net.links)) p (keep p (link_numbers net)) (kept_below p) (every_kept p (link_numbers net)))

  pub on_each_holds : (s : ℕ) (b : Body) (ks : List ℕ) → T (body_holds net b) → T (every (own_link s) ks)
      → T (every (letter_holds net) (on_each s b ks))
  unfolding letter_holds
  on_each_holds s b ks p t =
      every_map (letter_holds net) (λ k. letter s k b) ks
      (every_imp (own_link s) (λ k. letter_holds net (letter s k b)) (λ k q. and_i (own_link s k) _ q p) ks t)

  pub tell_holds : (s : ℕ) (c : ℕ → ℕ) (js ks : List ℕ) → T (every (may_tell c) js) → T (every (own_link s) ks)
      → T (every (letter_holds net) (tell s c js ks))
  tell_holds s c [] ks p t = tt
  tell_holds s c (j ∷ js) ks p t =
      every_joined (letter_holds net) (on_each s (Notice j (c j)) ks) (tell s c js ks)
      (on_each_holds s (Notice j (c j)) ks (and_l (may_tell c j) _ p) t)
      (tell_holds s c js ks (and_r (may_tell c j) _ p) t)

  module _ (s : ℕ) (h : Holding) where
    pub own_links_own : (test : Marks → Bool) → T (every (own_link s) (own_links net s test h))
    unfolding own_links
    own_links_own test = own_kept s (λ k. is_end net k s && test (mark h k)) (λ k t. and_l (is_end net k s) _ t)

    pub open_less_own : (k : ℕ) → T (every (own_link s) (less k (open_links net s h)))
    open_less_own k = every_keep (own_link s) (λ j. not (eqb j k)) (open_links net s h) (own_links_own is_open)

    -- every counter may be told
    pub known_tell : Formed s h → T (every (may_tell (counter h)) (known net h.table))
    unfolding known
    known_tell f =
        every_keep (may_tell (counter h)) (λ k. ltb 1 (counter h k)) (link_numbers net)
        (at_below (may_tell (counter h)) (length net.links)
        (λ k l. and_i (ltb k (length net.links)) _ (lt→ltb k _ l)
        (slot_counter h.condition (is_end net k s) (counter h k) (mark h k) (f.slots k l))))

    pub known_less_tell : Formed s h → (k : ℕ) → T (every (may_tell (counter h)) (less k (known net h.table)))
    known_less_tell f k = every_keep (may_tell (counter h)) (λ j. not (eqb j k)) (known net h.table) (known_tell f)
