-- A sheet is refused with a number when, and only when, the list of numbers says so: a good beginning, then the field that is
-- at fault, judged in the order 1, 2, 3, 4, 5.
use Rattle.std.specs.Prelude.{if◌then◌else◌}
use Prim.Native.Nat.{ℕ, zero, suc, ◌-◌, ◌≤◌, ◌<◌}
use mathlib.Core.Bool.{Bool, true, false, not, ◌&&◌}
use mathlib.Core.Path.{◌≡◌, refl, sym, ap, ap₂, ◌∙◌, subst, subst⁻¹}
use mathlib.Core.Logic.{◌⊎◌, inl, inr, ⊎_elim}
use mathlib.Core.List.{List, [], ◌∷◌, ◌++◌, append_assoc}
use native.Mathlib.Omega.{arith}
use lib.Dec.{T, ltb}
use borrow.Author.Tests.{lt-ltb, ltb-true}
use lib.ListN.{length, get_or}
use Rattle.lists.proofs.Tests.{and_i}
use Rattle.fields.specs.Fields.{Field, short, field, first_field, write_field, is_field, is_empty, are_bytes}
use Rattle.fields.specs.Output.{denied, writes, fitting}
use Rattle.net.specs.declared.Net.{Net}
use Rattle.net.specs.Values.{network_of}
use Rattle.sheet_rules.specs.Values.{net_holds}
use Rattle.net.specs.Network.{Ends, Network}
use Rattle.net.specs.Sizes.{link_room}
use Rattle.sheet_rules.specs.Rules.{precedes, ends_hold, sheet_holds}
use Rattle.sheet.specs.Sheet.{refused, Opening, faulty, stations, stations_hold, opened, Verdict, wrong, link, last, link_of, no_link}
use Rattle.sheet.specs.Sheet.{judged, read_links, read_opened, read_sheet, link_bytes, write_links, write_sheet, stations_tag, link_tag}
use Rattle.sheet.specs.Sheet.{end_tag}
use Rattle.sheet.specs.Values.{writing}
use Rattle.sheet.proofs.Rising.{rising, risen_of, of_risen}
use Rattle.sheet.proofs.Judged.{is_stations, is_link, wrong_read, full_read}
use Rattle.sheet.proofs.Laws.{last_of, reads_on, stations_written, link_written, rest_bytes}

-- ---- the list of numbers
-- the first field, and its fault
pub data FirstFault : Field → ℕ → Type 0 where
  -- the bytes end inside it
  cut_off : FirstFault short 1
  -- another tag, or another length
  unfit : {t : ℕ} {v rest : List ℕ} → is_field stations_tag 1 t v ≡ false → FirstFault (field t v rest) 2
  -- not 1 to 32 stations
  no_count : {t : ℕ} {v rest : List ℕ} → is_field stations_tag 1 t v ≡ true → stations_hold (get_or v 0 0) ≡ false
      → FirstFault (field t v rest) 3

-- a later field after the link prev, and its fault
pub data Fault (n : ℕ) (prev : Ends) : Field → ℕ → Type 0 where
  -- the bytes end inside it, or there is none
  cut_short : Fault n prev short 1
  -- neither a link nor the last field with nothing after it
  misplaced : {t : ℕ} {v rest : List ℕ} → is_field link_tag 2 t v ≡ false → (is_field end_tag 0 t v && is_empty rest) ≡ false
      → Fault n prev (field t v rest) 2
  -- an end that is no station, ends equal or higher first
  no_ends : {t : ℕ} {v rest : List ℕ} → is_field link_tag 2 t v ≡ true → ends_hold n (link_of v) ≡ false → Fault n prev (field t v rest) 3
  -- equal to or before the link before it
  no_order : {t : ℕ} {v rest : List ℕ} → is_field link_tag 2 t v ≡ true → ends_hold n (link_of v) ≡ true → precedes prev (link_of v) ≡ false
      → Fault n prev (field t v rest) 4

-- a good beginning: the first field and the links of a network that keeps the rules, and then the rest
pub record Begun (bytes : List ℕ) (net : Network) (rest : List ℕ) : Type 0 where
  pub holds : T (sheet_holds net)
  pub front : bytes ≡ write_field stations_tag (net.stations ∷ []) ++ write_links net.links ++ rest

abbrev before : Network → Ends
before net = last_of no_link net.links

pub data Refused (bytes : List ℕ) : ℕ → Type 0 where
  at_first : {k : ℕ} → FirstFault (first_field bytes) k → Refused bytes k
  later : {k : ℕ} (net : Network) (rest : List ℕ) → Begun bytes net rest → Fault net.stations (before net) (first_field rest) k
      → Refused bytes k
  -- a 65th link
  full : (net : Network) (rest : List ℕ) (e : Ends) (more : List ℕ) → Begun bytes net rest → length net.links ≡ link_room
      → judged net.stations (before net) (first_field rest) ≡ link e more → Refused bytes 5

-- ---- one field
opened_only : (f : Field) (k : ℕ) → opened f ≡ faulty k → FirstFault f k
unfolding opened
opened_only short k e = subst (FirstFault short) (number e) cut_off
  where
    number : faulty 1 ≡ faulty k → 1 ≡ k
    number p = cc
opened_only (field t v rest) k e = go (is_field stations_tag 1 t v) (stations_hold (get_or v 0 0)) refl refl e
  where
    go : (a b : Bool) → is_field stations_tag 1 t v ≡ a → stations_hold (get_or v 0 0) ≡ b
        → (if not a then faulty 2 else (if not b then faulty 3 else stations (get_or v 0 0) rest)) ≡ faulty k → FirstFault (field t v rest) k
    go false b p q e = let n : 2 ≡ k = cc in subst (FirstFault (field t v rest)) n (unfit p)
    go true false p q e = let n : 3 ≡ k = cc in subst (FirstFault (field t v rest)) n (no_count p q)
    go true true p q e = let z : ◌≡◌ {A = ℕ} 0 1 = cc in absurd (omega arith)

opened_when : (f : Field) (k : ℕ) → FirstFault f k → opened f ≡ faulty k
unfolding opened
opened_when f k cut_off = refl
opened_when f k (unfit p) = rw p
opened_when f k (no_count p q) = rw (p, q)

module _ (n : ℕ) (prev : Ends) where
  judged_only : (f : Field) (k : ℕ) → judged n prev f ≡ wrong k → Fault n prev f k
  unfolding judged
  judged_only short k e = let m : 1 ≡ k = cc in subst (Fault n prev short) m cut_short
  judged_only (field t v rest) k e =
      go (is_field link_tag 2 t v) (ends_hold n (link_of v)) (precedes prev (link_of v)) (is_field end_tag 0 t v && is_empty rest) refl refl
      refl refl e
    where
      go : (a b c d : Bool) → is_field link_tag 2 t v ≡ a → ends_hold n (link_of v) ≡ b → precedes prev (link_of v) ≡ c
          → (is_field end_tag 0 t v && is_empty rest) ≡ d
          → (if a then (if not b then wrong 3 else (if not c then wrong 4 else link (link_of v) rest))
          else (if d then last else wrong 2)) ≡ wrong k → Fault n prev (field t v rest) k
      go true false c d p q r s e = let m : 3 ≡ k = cc in subst (Fault n prev (field t v rest)) m (no_ends p q)
      go true true false d p q r s e = let m : 4 ≡ k = cc in subst (Fault n prev (field t v rest)) m (no_order p q r)
      go true true true d p q r s e = let z : ◌≡◌ {A = ℕ} 0 1 = cc in absurd (omega arith)
      go false b c true p q r s e = let z : ◌≡◌ {A = ℕ} 0 1 = cc in absurd (omega arith)
      go false b c false p q r s e = let m : 2 ≡ k = cc in subst (Fault n prev (field t v rest)) m (misplaced p s)

  judged_when : (f : Field) (k : ℕ) → Fault n prev f k → judged n prev f ≡ wrong k
  unfolding judged
  judged_when f k cut_short = refl
  judged_when f k (misplaced p s) = rw (p, s)
  judged_when f k (no_ends p q) = rw (p, q)
  judged_when f k (no_order p q r) = rw (p, q, r)

-- ---- only when
-- where the links stop
record Stopped (room n : ℕ) (prev : Ends) (bytes : List ℕ) (k : ℕ) : Type 0 where
  pub es : List Ends
  pub rest : List ℕ
  pub order : T (rising n prev es)
  pub few : length es ≤ room
  pub front : bytes ≡ write_links es ++ rest
  pub why : Fault n (last_of prev es) (first_field rest) k ⊎
      ((k ≡ 5) × (length es ≡ room) × ((e : Ends) × ((more : List ℕ) × (judged n (last_of prev es) (first_field rest) ≡ link e more))))

stopped_wrong : (room n : ℕ) (prev : Ends) (so : List Ends) (bytes : List ℕ) (j k : ℕ) → judged n prev (first_field bytes) ≡ wrong j
    → read_links room n so (wrong j) ≡ refused k → Stopped room n prev bytes k
unfolding write_links
stopped_wrong room n prev so bytes j k p q =
    let e = wrong_read room n so j in
    let m : j ≡ k = cc in
    let why = judged_only n prev (first_field bytes) k (p ∙ ap wrong m) in
    record { es = []; rest = bytes; order = tt; few = omega arith; front = refl; why = inl why }

stopped_link : (room n : ℕ) (prev : Ends) (bytes : List ℕ) (k : ℕ) (x : Ends) (rest : List ℕ) → T (are_bytes bytes)
    → judged n prev (first_field bytes) ≡ link x rest → Stopped room n x rest k → Stopped (suc room) n prev bytes k
unfolding write_links
stopped_link room n prev bytes k x rest t p s =
    let w = is_link n prev (first_field bytes) x rest p in
    record {
      es = x ∷ s.es;
      rest = s.rest;
      order = and_i (ends_hold n x && precedes prev x) _ (and_i (ends_hold n x) _ w.good w.after) s.order;
      few = omega (arith, s.few);
      front =
          link_written n prev bytes x rest t p ∙ ap (λ (l : List ℕ). link_bytes x ++ l) s.front
          ∙ sym (append_assoc (link_bytes x) (write_links s.es) s.rest);
      why = ⊎_elim (λ f. inl f) (λ f. inr (f.0, ap suc f.1, f.2)) s.why;
    }

stopped : (room n : ℕ) (prev : Ends) (so : List Ends) (bytes : List ℕ) (k : ℕ) → T (are_bytes bytes)
    → read_links room n so (judged n prev (first_field bytes)) ≡ refused k → Stopped room n prev bytes k
unfolding read_links write_links
stopped zero n prev so bytes k t e = go (judged n prev (first_field bytes)) refl e
  where
    go : (v : Verdict) → judged n prev (first_field bytes) ≡ v → read_links zero n so v ≡ refused k → Stopped zero n prev bytes k
    go (wrong j) p q = stopped_wrong zero n prev so bytes j k p q
    go last p q = let z : ◌≡◌ {A = ℕ} 0 1 = cc in absurd (omega arith)
    go (link x rest) p q =
        let m : k ≡ 5 = cc in
        record { es = []; rest = bytes; order = tt; few = omega arith; front = refl; why = inr (m, refl, (x, (rest, p))) }
stopped (suc room) n prev so bytes k t e =
    go (judged n prev (first_field bytes)) refl (λ x rest u q. stopped room n x (so ++ (x ∷ [])) rest k u q) e
  where
    go : (v : Verdict) → judged n prev (first_field bytes) ≡ v
        → ((x : Ends) (rest : List ℕ) → T (are_bytes rest) → read_links room n (so ++ (x ∷ [])) (judged n x (first_field rest)) ≡ refused k
        → Stopped room n x rest k)
        → read_links (suc room) n so v ≡ refused k → Stopped (suc room) n prev bytes k
    go (wrong j) p ih q = stopped_wrong (suc room) n prev so bytes j k p q
    go last p ih q = let z : ◌≡◌ {A = ℕ} 0 1 = cc in absurd (omega arith)
    go (link x rest) p ih q =
        stopped_link room n prev bytes k x rest t p (ih x rest
        (rest_bytes bytes (link_bytes x) rest t (link_written n prev bytes x rest t p)) q)

pub refused_only : (bytes : List ℕ) (k : ℕ) → T (are_bytes bytes) → read_sheet bytes ≡ refused k → Refused bytes k
unfolding read_sheet
refused_only bytes k t e = go (opened (first_field bytes)) refl e
  where
    go : (o : Opening) → opened (first_field bytes) ≡ o → read_opened o ≡ refused k → Refused bytes k
    go (faulty j) p q = let m : j ≡ k = cc in at_first (opened_only (first_field bytes) k (p ∙ ap faulty m))
    go (stations n rest) p q =
        let f = stations_written bytes n rest t p in
        let s = stopped link_room n no_link [] rest k (rest_bytes bytes (write_field stations_tag (n ∷ [])) rest t f) q in
        let w = is_stations (first_field bytes) n rest p in
        let net : Network = record { stations = n; links = s.es } in
        let b : Begun bytes net s.rest = record {
          holds = of_risen net (record { count = w.good; few = s.few; order = s.order });
          front =
              f ∙ ap (λ (l : List ℕ). write_field stations_tag (n ∷ []) ++ l) s.front
              ∙ sym (append_assoc (write_field stations_tag (n ∷ [])) (write_links s.es) s.rest);
        } in
        ⊎_elim (λ y. later net s.rest b y)
        (λ y. subst⁻¹ (Refused bytes) y.0 (full net s.rest y.2.0 y.2.1.0 b y.1 y.2.1.1)) s.why

-- ---- when
pub refused_when : (bytes : List ℕ) (k : ℕ) → Refused bytes k → read_sheet bytes ≡ refused k
unfolding read_sheet
refused_when bytes k (at_first f) = ap read_opened (opened_when (first_field bytes) k f)
refused_when bytes k (later net rest b f) =
    ap read_sheet b.front ∙ reads_on net rest (risen_of net b.holds)
    ∙ ap (read_links (link_room - length net.links) net.stations net.links)
    (judged_when net.stations (before net) (first_field rest) k f)
    ∙ wrong_read (link_room - length net.links) net.stations net.links k
refused_when bytes k (full net rest e more b l p) =
    let z : link_room - length net.links ≡ 0 = omega arith in
    ap read_sheet b.front ∙ reads_on net rest (risen_of net b.holds)
    ∙ ap₂ (λ (m : ℕ) (v : Verdict). read_links m net.stations net.links v) z p ∙ full_read net.stations net.links e more

-- ---- writing: 11, then 10
pub data Denied (net : Net) (old : List ℕ) : ℕ → Type 0 where
  bad_network : net_holds net ≡ false → Denied net old 11
  too_short : net_holds net ≡ true → length old < length (write_sheet (network_of net)) → Denied net old 10

pub denied_only : (net : Net) (old : List ℕ) (k : ℕ) → writing net old ≡ denied k → Denied net old k
unfolding writing fitting
denied_only net old k e = go (net_holds net) (ltb (length old) (length new)) refl refl e
  where
    new : List ℕ
    new = write_sheet (network_of net)

    go : (a b : Bool) → net_holds net ≡ a → ltb (length old) (length new) ≡ b
        → (if not a then denied 11 else (if b then denied 10 else writes new)) ≡ denied k → Denied net old k
    go false b p q e = let n : 11 ≡ k = cc in subst (Denied net old) n (bad_network p)
    go true true p q e = let n : 10 ≡ k = cc in subst (Denied net old) n (too_short p (ltb-true (length old) (length new) q))
    go true false p q e = let n : ◌≡◌ {A = ℕ} 0 1 = cc in absurd (omega arith)

pub denied_when : (net : Net) (old : List ℕ) (k : ℕ) → Denied net old k → writing net old ≡ denied k
unfolding writing fitting
denied_when net old k (bad_network p) = rw p
denied_when net old k (too_short p q) = rw (p, lt-ltb (length old) (length (write_sheet (network_of net))) q)
