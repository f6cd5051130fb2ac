-- What a judgement says of the field: read backwards.
use Prim.Native.Nat.{ℕ, zero, suc}
use mathlib.Core.Bool.{Bool, true, false, not, ◌&&◌}
use mathlib.Core.Path.{◌≡◌, refl, ap, subst}
use mathlib.Core.List.{List, []}
use native.Mathlib.Omega.{arith}
use lib.Dec.{T}
use lib.ListN.{length, get_or}
use Rattle.lists.proofs.Tests.{and_l, and_r, if_elim}
use Rattle.lists.proofs.Fill.{by_places}
use Rattle.fields.specs.Fields.{Field, short, field, is_field, is_empty}
use Rattle.fields.proofs.Seen.{tag_is, size_is, empty_is}
use Rattle.net.specs.Network.{Ends}
use Rattle.sheet_rules.specs.Rules.{precedes, ends_hold}
use Rattle.sheet.specs.Sheet.{refused, sheet, Opening, stations, stations_hold, opened, Verdict, wrong}
use Rattle.sheet.specs.Sheet.{link, last, link_of, judged, read_links, stations_tag, link_tag, end_tag}

not_not : (b : Bool) → T (not (not b)) → T b
not_not true t = tt
not_not false t = t

-- ---- the first field
pub record IsStations (f : Field) (n : ℕ) (rest : List ℕ) : Type 0 where
  pub value : List ℕ
  pub cut : f ≡ field stations_tag value rest
  pub size : length value ≡ 1
  pub count : get_or value 0 0 ≡ n
  pub good : T (stations_hold n)

pub is_stations : (f : Field) (n : ℕ) (rest : List ℕ) → opened f ≡ stations n rest → IsStations f n rest
unfolding opened
is_stations short n rest e = let z : ◌≡◌ {A = ℕ} 0 1 = cc in absurd (omega arith)
is_stations (field t v r) n rest e =
    if_elim (λ (x : Opening). x ≡ stations n rest → IsStations (field t v r) n rest) (not (is_field stations_tag 1 t v))
    (λ _ q. let z : ◌≡◌ {A = ℕ} 0 1 = cc in absurd (omega arith))
    (λ p. if_elim (λ (x : Opening). x ≡ stations n rest → IsStations (field t v r) n rest) (not (stations_hold (get_or v 0 0)))
    (λ _ q. let z : ◌≡◌ {A = ℕ} 0 1 = cc in absurd (omega arith))
    (λ s q.
    let h = not_not (is_field stations_tag 1 t v) p in
    let k : get_or v 0 0 ≡ n = cc in
    let w : r ≡ rest = cc in
    let g : t ≡ stations_tag = tag_is stations_tag 1 t v h in
    let o = subst (λ (y : ℕ). T (stations_hold y)) k (not_not (stations_hold (get_or v 0 0)) s) in
    record { value = v; cut = cc; size = size_is stations_tag 1 t v h; count = k; good = o })) e

-- ---- a later field
pub record IsLink (n : ℕ) (prev : Ends) (f : Field) (e : Ends) (rest : List ℕ) : Type 0 where
  pub value : List ℕ
  pub cut : f ≡ field link_tag value rest
  pub size : length value ≡ 2
  pub ends : link_of value ≡ e
  pub good : T (ends_hold n e)
  pub after : T (precedes prev e)

pub is_link : (n : ℕ) (prev : Ends) (f : Field) (e : Ends) (rest : List ℕ) → judged n prev f ≡ link e rest → IsLink n prev f e rest
unfolding judged
is_link n prev short e rest p = let z : ◌≡◌ {A = ℕ} 0 1 = cc in absurd (omega arith)
is_link n prev (field t v r) e rest p =
    if_elim P (is_field link_tag 2 t v)
    (λ h. if_elim P (not (ends_hold n (link_of v))) (λ _ q. let z : ◌≡◌ {A = ℕ} 0 1 = cc in absurd (omega arith))
    (λ a. if_elim P (not (precedes prev (link_of v))) (λ _ q. let z : ◌≡◌ {A = ℕ} 0 1 = cc in absurd (omega arith))
    (λ b q.
    let k : link_of v ≡ e = ap link_in q in
    let w : r ≡ rest = cc in
    let g : t ≡ link_tag = tag_is link_tag 2 t v h in
    record {
      value = v;
      cut = cc;
      size = size_is link_tag 2 t v h;
      ends = k;
      good = subst (λ (y : Ends). T (ends_hold n y)) k (not_not (ends_hold n (link_of v)) a);
      after = subst (λ (y : Ends). T (precedes prev y)) k (not_not (precedes prev (link_of v)) b);
    })))
    (λ _. if_elim P (is_field end_tag 0 t v && is_empty r) (λ _ q. let z : ◌≡◌ {A = ℕ} 0 1 = cc in absurd (omega arith))
    (λ _ q. let z : ◌≡◌ {A = ℕ} 0 1 = cc in absurd (omega arith))) p
  where
    P : Verdict → Type 0
    P x = x ≡ link e rest → IsLink n prev (field t v r) e rest

    link_in : Verdict → Ends
    link_in (wrong k) = record { low = 0; high = 0 }
    link_in (link y l) = y
    link_in last = record { low = 0; high = 0 }

pub is_last : (n : ℕ) (prev : Ends) (f : Field) → judged n prev f ≡ last → f ≡ field end_tag [] []
unfolding judged
is_last n prev short p = let z : ◌≡◌ {A = ℕ} 0 1 = cc in absurd (omega arith)
is_last n prev (field t v r) p =
    if_elim P (is_field link_tag 2 t v)
    (λ h. if_elim P (not (ends_hold n (link_of v))) (λ _ q. let z : ◌≡◌ {A = ℕ} 0 1 = cc in absurd (omega arith))
    (λ a. if_elim P (not (precedes prev (link_of v))) (λ _ q. let z : ◌≡◌ {A = ℕ} 0 1 = cc in absurd (omega arith))
    (λ b q. let z : ◌≡◌ {A = ℕ} 0 1 = cc in absurd (omega arith))))
    (λ _. if_elim P (is_field end_tag 0 t v && is_empty r)
    (λ h q.
    let g : t ≡ end_tag = tag_is end_tag 0 t v (and_l (is_field end_tag 0 t v) _ h) in
    let w : v ≡ [] = by_places 0 0 v (size_is end_tag 0 t v (and_l (is_field end_tag 0 t v) _ h)) in
    let u : r ≡ [] = empty_is r (and_r (is_field end_tag 0 t v) _ h) in
    cc)
    (λ _ q. let z : ◌≡◌ {A = ℕ} 0 1 = cc in absurd (omega arith))) p
  where
    P : Verdict → Type 0
    P x = x ≡ last → field t v r ≡ field end_tag [] []

-- ---- what a field that is no link leads to, whatever room is left
pub wrong_read : (room n : ℕ) (so : List Ends) (k : ℕ) → read_links room n so (wrong k) ≡ refused k
unfolding read_links
wrong_read zero n so k = refl
wrong_read (suc room) n so k = refl

pub last_read : (room n : ℕ) (so : List Ends) → read_links room n so last ≡ sheet (record { stations = n; links = so })
unfolding read_links
last_read zero n so = refl
last_read (suc room) n so = refl

-- a link for which there is no room
pub full_read : (n : ℕ) (so : List Ends) (e : Ends) (rest : List ℕ) → read_links 0 n so (link e rest) ≡ refused 5
unfolding read_links
full_read n so e rest = refl
