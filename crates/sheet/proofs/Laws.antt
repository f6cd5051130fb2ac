-- The sheet's format: what is written reads back; bytes that read to a network are exactly what writing it gives; what is
-- read keeps the sheet rules.
use Prim.Native.Nat.{ℕ, zero, suc, ◌+◌, ◌-◌, ◌≤◌}
use mathlib.Core.Bool.{◌&&◌}
use mathlib.Core.Path.{◌≡◌, refl, sym, ap, ◌∙◌, subst, subst⁻¹}
use mathlib.Core.List.{List, [], ◌∷◌, ◌++◌, append-nil, append_assoc}
use native.Mathlib.Omega.{arith}
use lib.Dec.{T, ltb, lt→ltb}
use lib.ListN.{length}
use Rattle.lists.proofs.Tests.{and_l, and_r, and_i, T_is}
use Rattle.lists.proofs.Fill.{by_places}
use Rattle.fields.specs.Fields.{first_field, write_field, are_bytes}
use Rattle.fields.proofs.Law.{cut_written, written_cut, parts_bytes, bytes_append, field_bytes}
use Rattle.net.specs.Network.{Ends, Network}
use Rattle.net.specs.Sizes.{station_room, link_room}
use Rattle.sheet_rules.specs.Rules.{precedes, ends_hold, sheet_holds}
use Rattle.sheet_rules.proofs.Rules.{lower_first, higher_there, rules_of}
use Rattle.sheet.specs.Sheet.{sheet, Opening, faulty, stations, stations_hold, opened, Verdict, wrong, link, last, no_link, judged}
use Rattle.sheet.specs.Sheet.{read_links, read_opened, read_sheet, link_bytes, write_links, write_sheet, stations_tag, link_tag, end_tag}
use Rattle.sheet.proofs.Rising.{rising, Risen, risen_of, of_risen}
use Rattle.sheet.proofs.Judged.{is_stations, is_link, is_last, last_read}

-- ---- what was written is judged good
pub open_written : (n : ℕ) (rest : List ℕ) → T (stations_hold n)
    → opened (first_field (write_field stations_tag (n ∷ []) ++ rest)) ≡ stations n rest
unfolding opened
open_written n rest t = rw (cut_written stations_tag (n ∷ []) rest, T_is (stations_hold n) t)

judge_link : (n : ℕ) (prev e : Ends) (rest : List ℕ) → T (ends_hold n e) → T (precedes prev e)
    → judged n prev (first_field (link_bytes e ++ rest)) ≡ link e rest
unfolding judged
judge_link n prev e rest t u = rw (cut_written link_tag (e.low ∷ e.high ∷ []) rest, T_is (ends_hold n e) t, T_is (precedes prev e) u)

judge_last : (n : ℕ) (prev : Ends) → judged n prev (first_field (write_field end_tag [])) ≡ last
unfolding judged
judge_last n prev =
    ap (λ (l : List ℕ). judged n prev (first_field l)) (sym (append-nil (write_field end_tag []))) ∙ rw (cut_written end_tag [] [])

-- the link that stands before what follows es
abbrev pub last_of : Ends → List Ends → Ends
last_of prev [] = prev
last_of prev (e ∷ es) = last_of e es

-- room for es and for so many more
abbrev more : List Ends → ℕ → ℕ
more [] left = left
more (e ∷ es) left = suc (more es left)

more_is : (es : List Ends) (left : ℕ) → more es left ≡ length es + left
more_is [] left = omega arith
more_is (e ∷ es) left = omega (arith, more_is es left)

-- good links that were written are read, and the reader stands after them
links_pass : (es : List Ends) (left n : ℕ) (prev : Ends) (so : List Ends) (rest : List ℕ) → T (rising n prev es)
    → read_links (more es left) n so (judged n prev (first_field (write_links es ++ rest))) ≡ read_links left n (so ++ es)
    (judged n (last_of prev es) (first_field rest))
unfolding read_links write_links
links_pass [] left n prev so rest t = ap (λ (l : List Ends). read_links left n l (judged n prev (first_field rest))) (sym (append-nil so))
links_pass (e ∷ es) left n prev so rest t =
    let u = and_l (ends_hold n e && precedes prev e) _ t in
    rw (
      append_assoc (link_bytes e) (write_links es) rest,
      judge_link n prev e (write_links es ++ rest) (and_l (ends_hold n e) _ u)
          (and_r (ends_hold n e) _ u),
    )
    (links_pass es left n e (so ++ (e ∷ [])) rest (and_r (ends_hold n e && precedes prev e) _ t)
    ∙ ap (λ (l : List Ends). read_links left n l (judged n (last_of e es) (first_field rest))) (append_assoc so (e ∷ []) es))

-- a sheet that begins with a good first field and good links
pub reads_on : (net : Network) (rest : List ℕ) → Risen net
    → read_sheet (write_field stations_tag (net.stations ∷ []) ++ write_links net.links ++ rest)
    ≡ read_links (link_room - length net.links) net.stations net.links
    (judged net.stations (last_of no_link net.links) (first_field rest))
unfolding read_sheet
reads_on net rest r =
    let n = net.stations in
    let es = net.links in
    let m : link_room ≡ more es (link_room - length es) = omega (arith, more_is es (link_room - length es), r.few) in
    ap read_sheet (append_assoc (write_field stations_tag (n ∷ [])) (write_links es) rest)
    ∙ ap read_opened (open_written n (write_links es ++ rest) r.count)
    ∙ ap (λ (k : ℕ). read_links k n [] (judged n no_link (first_field (write_links es ++ rest)))) m
    ∙ links_pass es (link_room - length es) n no_link [] rest r.order

-- ---- what was written reads back
pub reads_back : (net : Network) → T (sheet_holds net) → read_sheet (write_sheet net) ≡ sheet net
unfolding write_sheet
reads_back net t =
    reads_on net (write_field end_tag []) (risen_of net t)
    ∙ ap (read_links (link_room - length net.links) net.stations net.links) (judge_last net.stations (last_of no_link net.links))
    ∙ last_read (link_room - length net.links) net.stations net.links

-- ---- what is read was written, and is good
pub stations_written : (bytes : List ℕ) (n : ℕ) (rest : List ℕ) → T (are_bytes bytes) → opened (first_field bytes) ≡ stations n rest
    → bytes ≡ write_field stations_tag (n ∷ []) ++ rest
stations_written bytes n rest t e =
    let w = is_stations (first_field bytes) n rest e in
    written_cut bytes stations_tag w.value rest t w.cut
    ∙ ap (λ (v : List ℕ). write_field stations_tag v ++ rest) (by_places 0 1 w.value w.size
    ∙ ap {B = List ℕ} (λ (x : ℕ). x ∷ []) w.count)

pub link_written : (n : ℕ) (prev : Ends) (bytes : List ℕ) (e : Ends) (rest : List ℕ) → T (are_bytes bytes)
    → judged n prev (first_field bytes) ≡ link e rest → bytes ≡ link_bytes e ++ rest
link_written n prev bytes e rest t p =
    let w = is_link n prev (first_field bytes) e rest p in
    written_cut bytes link_tag w.value rest t w.cut
    ∙ ap (λ (v : List ℕ). write_field link_tag v ++ rest) (by_places 0 2 w.value w.size
    ∙ ap (λ (x : Ends). x.low ∷ x.high ∷ []) w.ends)

pub rest_bytes : (bytes front rest : List ℕ) → T (are_bytes bytes) → bytes ≡ front ++ rest → T (are_bytes rest)
rest_bytes bytes front rest t e = (parts_bytes front rest (subst (λ (l : List ℕ). T (are_bytes l)) e t)).1

-- the links of a sheet that was read from a later field on
record Ended (room n : ℕ) (prev : Ends) (so : List Ends) (bytes : List ℕ) (net : Network) : Type 0 where
  pub es : List Ends
  pub whole : net ≡ record { stations = n; links = so ++ es }
  pub order : T (rising n prev es)
  pub few : length es ≤ room
  pub wrote : T (are_bytes bytes) → bytes ≡ write_links es ++ write_field end_tag []

ended_last : (room n : ℕ) (prev : Ends) (so : List Ends) (bytes : List ℕ) (net : Network) → judged n prev (first_field bytes) ≡ last
    → read_links room n so last ≡ sheet net → Ended room n prev so bytes net
unfolding write_links
ended_last room n prev so bytes net p q =
    let e = last_read room n so in
    let w : net ≡ record { stations = n; links = so } = cc in
    record {
      es = [];
      whole = w ∙ ap (λ (l : List Ends). record { stations = n; links = l }) (sym (append-nil so));
      order = tt;
      few = omega arith;
      wrote = λ t. written_cut bytes end_tag [] [] t (is_last n prev (first_field bytes) p) ∙ append-nil (write_field end_tag []);
    }

ended_link : (room n : ℕ) (prev : Ends) (so : List Ends) (bytes : List ℕ) (net : Network) (x : Ends) (rest : List ℕ)
    → judged n prev (first_field bytes) ≡ link x rest → Ended room n x (so ++ (x ∷ [])) rest net → Ended (suc room) n prev so bytes net
unfolding write_links
ended_link room n prev so bytes net x rest p r =
    let w = is_link n prev (first_field bytes) x rest p in
    record {
      es = x ∷ r.es;
      whole = r.whole ∙ ap (λ (l : List Ends). record { stations = n; links = l }) (append_assoc so (x ∷ []) r.es);
      order = and_i (ends_hold n x && precedes prev x) _ (and_i (ends_hold n x) _ w.good w.after) r.order;
      few = omega (arith, r.few);
      wrote =
          λ t. let f = link_written n prev bytes x rest t p in
          f ∙ ap (λ (l : List ℕ). link_bytes x ++ l)
          (r.wrote (rest_bytes bytes (link_bytes x) rest t f))
          ∙ sym (append_assoc (link_bytes x) (write_links r.es) (write_field end_tag []));
    }

ended : (room n : ℕ) (prev : Ends) (so : List Ends) (bytes : List ℕ) (net : Network)
    → read_links room n so (judged n prev (first_field bytes)) ≡ sheet net → Ended room n prev so bytes net
unfolding read_links
ended zero n prev so bytes net e = go (judged n prev (first_field bytes)) refl e
  where
    go : (v : Verdict) → judged n prev (first_field bytes) ≡ v → read_links zero n so v ≡ sheet net → Ended zero n prev so bytes net
    go (wrong k) p q = let z : ◌≡◌ {A = ℕ} 0 1 = cc in absurd (omega arith)
    go last p q = ended_last zero n prev so bytes net p q
    go (link x rest) p q = let z : ◌≡◌ {A = ℕ} 0 1 = cc in absurd (omega arith)
ended (suc room) n prev so bytes net e =
    go (judged n prev (first_field bytes)) refl (λ x rest q. ended room n x (so ++ (x ∷ [])) rest net q) e
  where
    go : (v : Verdict) → judged n prev (first_field bytes) ≡ v
        → ((x : Ends) (rest : List ℕ) → read_links room n (so ++ (x ∷ [])) (judged n x (first_field rest)) ≡ sheet net
        → Ended room n x (so ++ (x ∷ [])) rest net)
        → read_links (suc room) n so v ≡ sheet net → Ended (suc room) n prev so bytes net
    go (wrong k) p ih q = let z : ◌≡◌ {A = ℕ} 0 1 = cc in absurd (omega arith)
    go last p ih q = ended_last (suc room) n prev so bytes net p q
    go (link x rest) p ih q = ended_link room n prev so bytes net x rest p (ih x rest q)

-- what reading a sheet shows of its bytes and of the network
record Whole (bytes : List ℕ) (net : Network) : Type 0 where
  pub rules : Risen net
  pub wrote : T (are_bytes bytes) → bytes ≡ write_sheet net

whole : (bytes : List ℕ) (net : Network) → read_sheet bytes ≡ sheet net → Whole bytes net
unfolding read_sheet write_sheet
whole bytes net e = go (opened (first_field bytes)) refl e
  where
    go : (o : Opening) → opened (first_field bytes) ≡ o → read_opened o ≡ sheet net → Whole bytes net
    go (faulty k) p q = let z : ◌≡◌ {A = ℕ} 0 1 = cc in absurd (omega arith)
    go (stations n rest) p q =
        let r = ended link_room n no_link [] rest net q in
        let w = is_stations (first_field bytes) n rest p in
        subst⁻¹ (Whole bytes) r.whole (record {
          rules = record { count = w.good; few = r.few; order = r.order };
          wrote =
              λ t. let f = stations_written bytes n rest t p in
              f ∙ ap (λ (l : List ℕ). write_field stations_tag (n ∷ []) ++ l)
              (r.wrote (rest_bytes bytes (write_field stations_tag (n ∷ [])) rest t f))
              ∙ sym (append_assoc (write_field stations_tag (n ∷ [])) (write_links r.es) (write_field end_tag []));
        })

-- what is read keeps the sheet rules
pub read_holds : (bytes : List ℕ) (net : Network) → read_sheet bytes ≡ sheet net → T (sheet_holds net)
read_holds bytes net e = of_risen net (whole bytes net e).rules

-- one writing: bytes that read to a network are exactly what writing that network gives
pub one_writing : (bytes : List ℕ) (net : Network) → T (are_bytes bytes) → read_sheet bytes ≡ sheet net → bytes ≡ write_sheet net
one_writing bytes net t e = (whole bytes net e).wrote t

-- so two byte strings never read to one network
pub same_bytes : (xs ys : List ℕ) (net : Network) → T (are_bytes xs) → T (are_bytes ys) → read_sheet xs ≡ sheet net → read_sheet ys ≡ sheet net
    → xs ≡ ys
same_bytes xs ys net t u p q = one_writing xs net t p ∙ sym (one_writing ys net u q)

-- and what is written is bytes: so a good network has exactly one writing
links_bytes : (n : ℕ) (prev : Ends) (es : List Ends) → n ≤ 256 → T (rising n prev es) → T (are_bytes (write_links es))
unfolding write_links
links_bytes n prev [] h t = tt
links_bytes n prev (e ∷ es) h t =
    let u = and_l (ends_hold n e) _ (and_l (ends_hold n e && precedes prev e) _ t) in
    let high = higher_there n e u in
    let low = lower_first n e u in
    bytes_append (link_bytes e) (write_links es)
    (field_bytes link_tag (e.low ∷ e.high ∷ []) (omega arith) (omega arith)
    (and_i (ltb e.low 256) _ (lt→ltb e.low 256 (omega arith)) (and_i (ltb e.high 256) _ (lt→ltb e.high 256 (omega arith)) tt)))
    (links_bytes n e es h (and_r (ends_hold n e && precedes prev e) _ t))

pub writes_bytes : (net : Network) → T (sheet_holds net) → T (are_bytes (write_sheet net))
unfolding write_sheet
writes_bytes net t =
    let r = risen_of net t in
    let n = net.stations in
    let few : n ≤ station_room = (rules_of net t).few_stations in
    bytes_append (write_field stations_tag (n ∷ []) ++ write_links net.links) (write_field end_tag [])
    (bytes_append (write_field stations_tag (n ∷ [])) (write_links net.links)
    (field_bytes stations_tag (n ∷ []) (omega arith) (omega arith) (and_i (ltb n 256) _ (lt→ltb n 256 (omega arith)) tt))
    (links_bytes n no_link net.links (omega arith) r.order))
    (field_bytes end_tag [] (omega arith) (omega arith) tt)
