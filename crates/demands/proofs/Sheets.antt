-- A sheet's numbers: each when, and only when, its reason of specs/SheetReasons.antt stands; for every answer that meets the promise of
-- the two calls.
use Rattle.std.specs.Prelude.{Result}
use Prim.Native.Nat.{ℕ, zero, suc, ◌≤◌, ◌<◌}
use mathlib.Core.Bool.{Bool, true, false, not, ◌&&◌}
use mathlib.Core.Path.{◌≡◌, refl, sym, ap, ◌∙◌, subst, subst⁻¹}
use mathlib.Core.Logic.{◌↔◌}
use mathlib.Core.List.{List, [], ◌∷◌, ◌++◌}
use native.Mathlib.Omega.{arith}
use lib.Dec.{T, eqb, leb, ltb, ltb→lt, lt→ltb, leb→le, le→leb}
use lib.ListN.{length, get_or}
use Rattle.net.specs.Sizes.{station_room, link_room}
use Rattle.lists.proofs.Tests.{T_is, T_not_is, is_T, and_l, and_r, and_i, or_left, or_right, eq→eqb}
use Rattle.lists.proofs.Fill.{by_places}
use Rattle.fields.proofs.Seen.{tag_is, size_is, empty_is}
use Rattle.fields.specs.Fields.{Field, field, first_field, write_field, is_field, is_empty, are_bytes}
use Rattle.net.specs.declared.Net.{Net}
use Rattle.net.specs.Network.{Ends, Network}
use Rattle.sheet_rules.specs.Rules.{precedes, ends_hold}
use Rattle.sheet.specs.Sheet.{Sheet, refused, sheet, stations_hold, link, link_of, no_link, judged, read_sheet, write_links}
use Rattle.sheet.specs.declared.SheetError.{SheetError}
use Rattle.sheet.specs.Values.{number_of, net_in, sheet_number, zero_net, sheet_net, Says}
use Rattle.sheet.proofs.Judged.{is_link}
use Rattle.sheet.proofs.Laws.{last_of, reads_back, one_writing, read_holds, rest_bytes}
use Rattle.sheet.proofs.ValueLaws.{zero_bad}
use Rattle.sheet.proofs.Refusals as R
use Rattle.demands.specs.Given.{BadNet}
use Rattle.demands.specs.SheetReasons as W
use Rattle.demands.specs.SheetReasons.{FirstFault, GoodEnds, After, NotAfter, LinkFront, LaterFault, SheetRead}
use Rattle.demands.proofs.Fronts.{no_test, test_no, front_cut, cut_front, ends_short, short_ends, field_no, no_field}

-- ---- the first field
count_no : (n : ℕ) → stations_hold n ≡ false → (1 ≤ n) × (n ≤ station_room) → ⊥
count_no n e p = no_test (stations_hold n) e (and_i (leb 1 n) _ (le→leb 1 n p.0) (le→leb n station_room p.1))

no_count : (n : ℕ) → ((1 ≤ n) × (n ≤ station_room) → ⊥) → stations_hold n ≡ false
no_count n f = test_no (stations_hold n) (λ h. f (leb→le 1 n (and_l (leb 1 n) _ h), leb→le n station_room (and_r (leb 1 n) _ h)))

first_told : (bytes : List ℕ) → T (are_bytes bytes) → {k : ℕ} (f : Field) → first_field bytes ≡ f → R.FirstFault f k → FirstFault bytes k
first_told bytes b f e R.cut_off = W.one (short_ends bytes e)
first_told bytes b f e (R.unfit {t} {v} {rest} p) = W.two t v rest (cut_front bytes b e) (field_no 1 1 t v p)
first_told bytes b f e (R.no_count {t} {v} {rest} p q) =
    let h = is_T _ p in
    W.three (get_or v 0 0) rest (cut_front bytes b (e ∙ (λ i. field (tag_is 1 1 t v h i) (by_places 0 1 v (size_is 1 1 t v h) i) rest)))
    (count_no (get_or v 0 0) q)

first_when : {bytes : List ℕ} {k : ℕ} → FirstFault bytes k → R.FirstFault (first_field bytes) k
first_when (W.one e) = subst⁻¹ (λ (f : Field). R.FirstFault f 1) (ends_short e) R.cut_off
first_when (W.two t v r e n) = subst⁻¹ (λ (f : Field). R.FirstFault f 2) (front_cut e) (R.unfit (no_field 1 1 t v n))
first_when (W.three c r e n) = subst⁻¹ (λ (f : Field). R.FirstFault f 3) (front_cut e) (R.no_count refl (no_count c n))

-- ---- a link's ends
ends_good : (n : ℕ) (e : Ends) → T (ends_hold n e) → GoodEnds n e
ends_good n e t = (ltb→lt e.low e.high (and_l (ltb e.low e.high) _ t), ltb→lt e.high n (and_r (ltb e.low e.high) _ t))

good_ends : (n : ℕ) (e : Ends) → GoodEnds n e → T (ends_hold n e)
good_ends n e p = and_i (ltb e.low e.high) _ (lt→ltb e.low e.high p.0) (lt→ltb e.high n p.1)

-- ---- the link before
record Snoc (es : List Ends) : Type 0 where
  pub earlier : List Ends
  pub final : Ends
  pub is : es ≡ earlier ++ (final ∷ [])

snoc : (e : Ends) (es : List Ends) → Snoc (e ∷ es)
snoc e [] = record { earlier = []; final = e; is = refl }
snoc e (x ∷ es) = let r = snoc x es in record { earlier = e ∷ r.earlier; final = r.final; is = ap (λ (l : List Ends). e ∷ l) r.is }

last_snoc : (prev : Ends) (xs : List Ends) (x : Ends) → last_of prev (xs ++ (x ∷ [])) ≡ x
last_snoc prev [] x = refl
last_snoc prev (y ∷ xs) x = last_snoc y xs x

last_is : (es xs : List Ends) (x : Ends) → es ≡ xs ++ (x ∷ []) → last_of no_link es ≡ x
last_is es xs x e = ap (last_of no_link) e ∙ last_snoc no_link xs x

-- every good link comes after none
first_after : (e : Ends) → e.low < e.high → T (precedes no_link e)
first_after e h = go e.low refl
  where
    go : (n : ℕ) → e.low ≡ n → T (precedes no_link e)
    go zero p = or_right (ltb 0 e.low) _ (and_i (eqb 0 e.low) _ (eq→eqb 0 e.low (sym p)) (lt→ltb 0 e.high (omega arith)))
    go (suc n) p = or_left (ltb 0 e.low) _ (lt→ltb 0 e.low (omega arith))

module _ (es : List Ends) (e : Ends) (h : e.low < e.high) where
  after_told : T (precedes (last_of no_link es) e) → After es e
  after_told t xs x p = subst (λ (y : Ends). T (precedes y e)) (last_is es xs x p) t

  after_when : After es e → T (precedes (last_of no_link es) e)
  after_when f = go es refl
    where
      go : (l : List Ends) → es ≡ l → T (precedes (last_of no_link es) e)
      go [] p = subst⁻¹ (λ (l : List Ends). T (precedes (last_of no_link l) e)) p (first_after e h)
      go (y ∷ l) p =
          let r = snoc y l in subst⁻¹ (λ (z : Ends). T (precedes z e)) (last_is es r.earlier r.final (p ∙ r.is))
          (f r.earlier r.final (p ∙ r.is))

  not_after_told : precedes (last_of no_link es) e ≡ false → NotAfter es e
  not_after_told q = go es refl
    where
      go : (l : List Ends) → es ≡ l → NotAfter es e
      go [] p = absurd (no_test (precedes no_link e) (ap (λ (l : List Ends). precedes (last_of no_link l) e) (sym p) ∙ q) (first_after e h))
      go (y ∷ l) p =
          let r = snoc y l in
          record {
            earlier = r.earlier;
            before = r.final;
            last = p ∙ r.is;
            equal_or_before =
                subst⁻¹ (λ (b : Bool). T (not b)) (ap (λ (z : Ends). precedes z e) (sym (last_is es r.earlier r.final (p ∙ r.is)))
                ∙ q) tt;
          }

  not_after_when : NotAfter es e → precedes (last_of no_link es) e ≡ false
  not_after_when r =
      ap (λ (z : Ends). precedes z e) (last_is es r.earlier r.before r.last)
      ∙ T_not_is (precedes r.before e) r.equal_or_before

-- ---- a later field
module _ (net : Network) where
  abbrev prev : Ends
  prev = last_of no_link net.links

  last_no : (t : ℕ) (v rest : List ℕ) → (is_field 15 0 t v && is_empty rest) ≡ false → (t ≡ 15) × (length v ≡ 0) × (rest ≡ []) → ⊥
  last_no t v rest e p =
      no_test (is_field 15 0 t v && is_empty rest) e
      (and_i (is_field 15 0 t v) _ (and_i (eqb t 15) _ (eq→eqb t 15 p.0) (eq→eqb (length v) 0 p.1))
      (subst⁻¹ (λ (l : List ℕ). T (is_empty l)) p.2 tt))

  no_last : (t : ℕ) (v rest : List ℕ) → ((t ≡ 15) × (length v ≡ 0) × (rest ≡ []) → ⊥) → (is_field 15 0 t v && is_empty rest) ≡ false
  no_last t v rest f =
      test_no (is_field 15 0 t v && is_empty rest)
      (λ h. let i = T_is (is_field 15 0 t v) (and_l (is_field 15 0 t v) _ h) in f
      (tag_is 15 0 t v (is_T _ i), size_is 15 0 t v (is_T _ i), empty_is rest (and_r (is_field 15 0 t v) _ h)))

  -- the field of a link, cut off the front
  link_front : (bytes : List ℕ) → T (are_bytes bytes) → (t : ℕ) (v rest : List ℕ) → first_field bytes ≡ field t v rest
      → is_field 2 2 t v ≡ true → LinkFront bytes (link_of v) rest
  link_front bytes b t v rest e p =
      let h = is_T _ p in
      cut_front bytes b (e ∙ (λ i. field (tag_is 2 2 t v h i) (by_places 0 2 v (size_is 2 2 t v h) i) rest))

  later_told : (bytes : List ℕ) → T (are_bytes bytes) → {k : ℕ} (f : Field) → first_field bytes ≡ f → R.Fault net.stations prev f k
      → LaterFault net bytes k
  later_told bytes b f e R.cut_short = W.one (short_ends bytes e)
  later_told bytes b f e (R.misplaced {t} {v} {rest} p q) = W.two t v rest (cut_front bytes b e) (field_no 2 2 t v p) (last_no t v rest q)
  later_told bytes b f e (R.no_ends {t} {v} {rest} p q) =
      W.three (link_of v) rest (link_front bytes b t v rest e p)
      (λ g. no_test (ends_hold net.stations (link_of v)) q (good_ends net.stations (link_of v) g))
  later_told bytes b f e (R.no_order {t} {v} {rest} p q r) =
      let g = ends_good net.stations (link_of v) (is_T (ends_hold net.stations (link_of v)) q) in
      W.four (link_of v) rest (link_front bytes b t v rest e p) g (not_after_told net.links (link_of v) g.0 r)

  full_told : (bytes : List ℕ) → T (are_bytes bytes) → (e : Ends) (more : List ℕ)
      → judged net.stations prev (first_field bytes) ≡ link e more → length net.links ≡ link_room → LaterFault net bytes 5
  full_told bytes b e more q l =
      let w = is_link net.stations prev (first_field bytes) e more q in
      let g = ends_good net.stations e w.good in
      W.five e more (cut_front bytes b (w.cut ∙ ap (λ (v : List ℕ). field 2 v more)
      (by_places 0 2 w.value w.size ∙ ap {B = List ℕ} (λ (x : Ends). x.low ∷ x.high ∷ []) w.ends))) g
      (after_told net.links e g.0 w.after) l

  judged_link : (bytes : List ℕ) (e : Ends) (rest : List ℕ) → LinkFront bytes e rest → T (ends_hold net.stations e)
      → T (precedes prev e) → judged net.stations prev (first_field bytes) ≡ link e rest
  unfolding judged
  judged_link bytes e rest p t u =
      ap (judged net.stations prev) (front_cut p) ∙ rw (T_is (ends_hold net.stations e) t, T_is (precedes prev e) u)

  later_when : (all bytes : List ℕ) → R.Begun all net bytes → {k : ℕ} → LaterFault net bytes k → R.Refused all k
  later_when all bytes b (W.one e) =
      R.later net bytes b (subst⁻¹ (λ (f : Field). R.Fault net.stations prev f 1) (ends_short e) R.cut_short)
  later_when all bytes b (W.two t v rest e n m) =
      R.later net bytes b (subst⁻¹ (λ (f : Field). R.Fault net.stations prev f 2) (front_cut e)
      (R.misplaced (no_field 2 2 t v n) (no_last t v rest m)))
  later_when all bytes b (W.three x rest e n) =
      R.later net bytes b (subst⁻¹ (λ (f : Field). R.Fault net.stations prev f 3) (front_cut e)
      (R.no_ends refl (test_no (ends_hold net.stations x) (λ h. n (ends_good net.stations x h)))))
  later_when all bytes b (W.four x rest e g n) =
      R.later net bytes b (subst⁻¹ (λ (f : Field). R.Fault net.stations prev f 4) (front_cut e)
      (R.no_order refl (T_is (ends_hold net.stations x) (good_ends net.stations x g)) (not_after_when net.links x g.0 n)))
  later_when all bytes b (W.five x rest e g a l) =
      R.full net bytes x rest b l (judged_link bytes x rest e (good_ends net.stations x g) (after_when net.links x g.0 a))

-- ---- the whole sheet
module _ (bytes : List ℕ) where
  behind : T (are_bytes bytes) → (net : Network) (rest : List ℕ) → R.Begun bytes net rest → T (are_bytes rest)
  behind b net rest g = rest_bytes bytes (write_field 1 (net.stations ∷ []) ++ write_links net.links) rest b g.front

  refused_told : T (are_bytes bytes) → {k : ℕ} → R.Refused bytes k → SheetRead bytes k
  refused_told b (R.at_first f) = W.at_first (first_told bytes b (first_field bytes) refl f)
  refused_told b (R.later net rest g f) =
      W.later net rest g.holds g.front (later_told net rest (behind b net rest g) (first_field rest) refl f)
  refused_told b (R.full net rest e more g l q) =
      W.later net rest g.holds g.front (full_told net rest (behind b net rest g) e more q l)

  read_why : T (are_bytes bytes) → (s : Sheet) → read_sheet bytes ≡ s → SheetRead bytes (sheet_number s)
  read_why b (refused k) e = refused_told b (R.refused_only bytes k b e)
  read_why b (sheet net) e = W.taken net (read_holds bytes net e) (one_writing bytes net b e)

  why_read : {k : ℕ} → SheetRead bytes k → sheet_number (read_sheet bytes) ≡ k
  why_read (W.taken net g e) = ap (λ (l : List ℕ). sheet_number (read_sheet l)) e ∙ ap sheet_number (reads_back net g)
  why_read {k} (W.at_first f) = ap sheet_number (R.refused_when bytes k (R.at_first (first_when f)))
  why_read {k} (W.later net rest g e f) =
      ap sheet_number (R.refused_when bytes k (later_when net bytes rest (record { holds = g; front = e }) f))

  -- EACH NUMBER WHEN, AND ONLY WHEN, ITS REASON STANDS: for every answer that the reading's promise allows
  pub sheet_numbers : T (are_bytes bytes) → (r : Result Net SheetError) → Says r (read_sheet bytes) → (n : ℕ)
      → (number_of r ≡ n) ↔ SheetRead bytes n
  sheet_numbers b r p n =
      ((λ e. subst (SheetRead bytes) (sym p.number ∙ e) (read_why b (read_sheet bytes) refl)), (λ w. p.number ∙ why_read w))

  -- a sheet that is taken, by its network
  taken_net : T (are_bytes bytes) → {n : ℕ} → SheetRead bytes n → n ≡ 0 → (net : Network) × (read_sheet bytes ≡ sheet net)
  taken_net b (W.taken net g e) z = (net, ap read_sheet e ∙ reads_back net g)
  taken_net b (W.at_first (W.one e)) z = absurd (omega arith)
  taken_net b (W.at_first (W.two t v r e m)) z = absurd (omega arith)
  taken_net b (W.at_first (W.three c r e m)) z = absurd (omega arith)
  taken_net b (W.later net rest g e (W.one x)) z = absurd (omega arith)
  taken_net b (W.later net rest g e (W.two t v r x m k)) z = absurd (omega arith)
  taken_net b (W.later net rest g e (W.three y r x m)) z = absurd (omega arith)
  taken_net b (W.later net rest g e (W.four y r x m k)) z = absurd (omega arith)
  taken_net b (W.later net rest g e (W.five y r x m k l)) z = absurd (omega arith)

  pub good_sheet : T (are_bytes bytes) → (r : Result Net SheetError) → Says r (read_sheet bytes) → number_of r ≡ 0
      → (net : Network) × (read_sheet bytes ≡ sheet net)
  good_sheet b r p e = taken_net b ((sheet_numbers b r p 0).0 e) refl

  -- a sheet refused gives no network: what stands beside the number is one that every call refuses with 11
  pub refused_none : T (are_bytes bytes) → (r : Result Net SheetError) → Says r (read_sheet bytes) → (number_of r ≡ 0 → ⊥)
      → (net_in r ≡ zero_net) × BadNet (net_in r)
  refused_none b r p h = go (read_sheet bytes) refl
    where
      go : (s : Sheet) → read_sheet bytes ≡ s → (net_in r ≡ zero_net) × BadNet (net_in r)
      go (refused k) e =
          let z : net_in r ≡ zero_net = p.net ∙ ap sheet_net e in (z, subst⁻¹ BadNet z (subst (λ (b : Bool). T (not b)) zero_bad tt))
      go (sheet net) e = absurd (h (p.number ∙ ap sheet_number e))
