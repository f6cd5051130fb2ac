-- A station's part, number by number, from the lines that were put.
use Prim.Native.Nat.{ℕ, zero, suc, ◌+◌, ◌*◌, ◌≤◌, ◌<◌, min}
use mathlib.Core.Bool.{Bool, true}
use mathlib.Core.Path.{◌≡◌, refl, sym, ap, ap₂, ◌∙◌}
use mathlib.Core.List.{List, ◌++◌}
use native.Mathlib.Nat.{mul-suc}
use native.Mathlib.Omega.{arith}
use lib.ListN.{length, get_or, take, length-append}
use lib.Seq.{length-take-le}
use borrow.Author.Tests.{eq-eqb, ne_eqb}
use Rattle.std.specs.Prelude.{Ok}
use Rattle.std.specs.List.{between}
use Rattle.std.proofs.lemmas.List.{get_or-take}
use Rattle.std.proofs.lemmas.List.Edits.{get_or-between, length-between}
use Rattle.lists.specs.Lists.{from, below}
use Rattle.lists.specs.Places.{collect}
use Rattle.net.specs.declared.Net.{Net}
use Rattle.net.specs.Network.{Ends, ends}
use Rattle.net.specs.Values.{network_of}
use Rattle.net.proofs.ValueLaws.{stations_of, links_of_lem, ends_of}
use Rattle.text.specs.Line.{Adds}
use Rattle.text.specs.declared.Line.{Line}
use Rattle.fields.specs.Output.{with_room, writing_output}
use Rattle.console.specs.Outputs.{wrote_by}
use Rattle.console.proofs.Puts.{line_answer, line_output}
use Rattle.page_part.specs.Texts.{still_text, reach_text, lowest_text, seen_text, link_text, stations_seen, links_seen, live_text}
use Rattle.page_part.specs.Parts.{is_there, part_text, part_most, part_writing}
use Rattle.page_part.proofs.Texts.{station_by, link_by, reach_few, lowest_few, seen_few, link_few}

-- ---- the answer and the output, for a station that is there
module _ (number : ℕ) (there : is_there number ≡ true) {text other : List ℕ} {a b : Line} (p : Adds text a b) (e : text ≡ other)
    (z : a.at ≡ 0) (few : length text ≤ part_most) (h : part_most ≤ length a.out.now) where
  pub part_answer : Ok b.at ≡ wrote_by (part_writing number other a.out.now)
  part_answer = simp there (line_answer part_most p z few h ∙ ap (λ (x : List ℕ). wrote_by (with_room part_most x a.out.now)) e)

  pub part_output : {last : List ℕ} → last ≡ b.out.now → last ≡ writing_output (part_writing number other a.out.now) a.out.now
  part_output l =
      simp there (line_output part_most p z few h l ∙ ap (λ (x : List ℕ). writing_output (with_room part_most x a.out.now) a.out.now) e)

-- ---- the text
module _ (number : ℕ) (net : Net) (s ones lowest : ℕ) (waiting : Bool) (report : List ℕ) where
  pub part_still : (number ≡ 0 → ⊥) → still_text s waiting ≡ part_text number net s ones lowest waiting report
  part_still h = simp (ne_eqb number 0 h)

  pub part_live : number ≡ 0 → live_text (network_of net) s ones lowest report ≡ part_text number net s ones lowest waiting report
  part_live e = simp (eq-eqb number 0 e)

-- ---- lines for the numbers below n
collect_from : (f g : ℕ → List ℕ) (n i : ℕ) → ((k : ℕ) → k < i + n → f k ≡ g k) → collect f (from i n) ≡ collect g (from i n)
collect_from f g zero i e = refl
collect_from f g (suc n) i e = ap₂ (λ (x y : List ℕ). x ++ y) (e i (omega arith)) (collect_from f g n (suc i) (λ k h. e k (omega arith)))

collect_same : (f g : ℕ → List ℕ) (n : ℕ) → ((k : ℕ) → k < n → f k ≡ g k) → collect f (below n) ≡ collect g (below n)
collect_same f g n e = collect_from f g n 0 (λ k h. e k (omega arith))

few_from : (f : ℕ → List ℕ) (most n i : ℕ) → ((k : ℕ) → k < i + n → length (f k) ≤ most) → length (collect f (from i n)) ≤ most * n
few_from f most zero i h = omega arith
few_from f most (suc n) i h =
    omega (
      arith,
      length-append (f i) (collect f (from (suc i) n)),
      h i (omega arith),
      few_from f most n (suc i) (λ k l. h k (omega arith)),
      mul-suc most n,
    )

collect_few : (f : ℕ → List ℕ) (most n : ℕ) → ((k : ℕ) → k < n → length (f k) ≤ most) → length (collect f (below n)) ≤ most * n
collect_few f most n h = few_from f most n 0 (λ k l. h k (omega arith))

-- ---- a live station's part: the report's first bytes are the stations', the next ones the links'
module _ (net : Net) (report : List ℕ) (n m : ℕ) (en : n ≡ min net.stations 32) (em : m ≡ min net.links 64)
    (long : 96 ≤ length report) where
  abbrev first : List ℕ
  first = take n report

  abbrev next : List ℕ
  next = between n (n + m) report

  first_size : length first ≡ n
  first_size = length-take-le n report (omega arith)

  next_size : length next ≡ m
  next_size = length-between report n (n + m) (omega arith) ∙ omega arith

  is_stations : n ≡ (network_of net).stations
  is_stations = en ∙ sym (stations_of net)

  links_are : collect (link_by net next) (below (length next)) ≡ links_seen (network_of net) report
  unfolding links_seen
  links_are =
      let g : ℕ → List ℕ = λ k. link_text k (ends (network_of net) k).low (ends (network_of net) k).high
      (get_or report ((network_of net).stations + k) 0) in
      ap (λ (j : ℕ). collect (link_by net next) (below j)) next_size
      ∙ collect_same (link_by net next) g m (λ k h. ap₂ (λ (x : Ends) (y : ℕ). link_text k x.low x.high y)
      (sym (ends_of net k (omega arith)))
      (get_or-between report n (n + m) k 0 (omega arith) ∙ ap (λ (j : ℕ). get_or report (j + k) 0) is_stations))
      ∙ ap (λ (j : ℕ). collect g (below j)) (em ∙ sym (links_of_lem net))

  stations_are_seen : collect (station_by first) (below (length first)) ≡ stations_seen (network_of net).stations report
  unfolding stations_seen
  stations_are_seen =
      ap (λ (j : ℕ). collect (station_by first) (below j)) first_size
      ∙ collect_same (station_by first) (station_by report) n (λ k h. ap (seen_text k) (get_or-take n report k 0 h))
      ∙ ap (λ (j : ℕ). collect (station_by report) (below j)) is_stations

  module _ (s ones lowest : ℕ) where
    abbrev live : List ℕ
    live =
        reach_text s ones n ++ lowest_text lowest ++ collect (station_by first) (below (length first))
        ++ collect (link_by net next) (below (length next))

    pub live_whole : live ≡ live_text (network_of net) s ones lowest report
    unfolding live_text
    live_whole =
        ap₂ (λ (x y : List ℕ). reach_text s ones n ++ lowest_text lowest ++ x ++ y) stations_are_seen links_are
        ∙ ap (λ (j : ℕ). reach_text s ones j ++ lowest_text lowest ++ stations_seen (network_of net).stations report ++ links_seen
        (network_of net) report) is_stations

    pub live_few : s < 256 → ones < 256 → lowest < 256 → ((k : ℕ) → get_or net.low k 0 < 256) → ((k : ℕ) → get_or net.high k 0 < 256)
        → length live ≤ part_most
    live_few hs ho hl low high =
        let few-n : n ≤ 32 = omega arith in
        let few-m : m ≤ 64 = omega arith in
        let of-stations : length (collect (station_by first) (below (length first))) ≤ 26 * length first =
        collect_few (station_by first) 26 (length first) (λ k h. seen_few k (get_or first k 0) (omega (arith, first_size))) in
        let of-links : length (collect (link_by net next) (below (length next))) ≤ 44 * length next =
        collect_few (link_by net next) 44 (length next) (λ k h. link_few k (get_or net.low k 0) (get_or net.high k 0) (get_or next k 0)
        (omega (arith, next_size)) (low k) (high k)) in
        simp length-append (omega (
          arith,
          reach_few s ones n hs ho (omega arith),
          lowest_few lowest hl,
          of-stations,
          of-links,
          first_size,
          next_size,
        ))
