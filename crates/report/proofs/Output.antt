-- The report's bytes as the code writes them: the stations, then the links, over the front of the lent output.
use Prim.Native.Nat.{ℕ, ◌+◌, ◌-◌, ◌≤◌, ◌<◌, min}
use mathlib.Core.Bool.{Bool, ◌||◌}
use mathlib.Core.Path.{◌≡◌, refl, sym, ap, ap₂, ◌∙◌}
use mathlib.Core.List.{List, [], ◌++◌, map, append_assoc, append-nil}
use native.Mathlib.Omega.{arith}
use lib.ListN.{length, get_or, take, drop, set, length-append, length-drop, drop_of_length-le}
use lib.Seq.{take_at, drop_at, take_all, drop-drop}
use borrow.Author.Tests.{lt-ltb, le-ltb}
use Rattle.lists.specs.Lists.{below, filled}
use Rattle.lists.specs.Words.{bit, bit_at, in_word, word_of}
use Rattle.lists.proofs.Numbers.{length_map_below}
use Rattle.lists.proofs.Words.{in_word_of, word_of_at}
use Rattle.lists.proofs.Fill.{filled_more, map_below_same}
use Rattle.net.specs.declared.Net.{Net}
use Rattle.net.specs.Network.{Ends}
use Rattle.net.specs.Values.{network_of, link_count}
use Rattle.net.specs.Sizes.{station_room}
use Rattle.net.proofs.ValueLaws.{stations_of, links_of_lem, ends_of}
use Rattle.reach.specs.Reach.{has, near, link_value, report}
use Rattle.reach.specs.Values.{reach_of}
use Rattle.fields.specs.Output.{Writing, denied, writes, fitting, writing_number, writing_output}
use Rattle.report.specs.Steps.{link_shown, report_in}

-- a turn of a loop that stores g k at place k
pub fill_turn : (g : ℕ → ℕ) (old xs : List ℕ) (k v : ℕ) → xs ≡ filled g old k → v ≡ g k → k < length old → set xs k v ≡ filled g old (k + 1)
fill_turn g old xs k v e p h = ap₂ (λ (l : List ℕ) (x : ℕ). set l k x) e p ∙ filled_more g old k h

-- ---- what each return says
-- that the answer and the output are a writing's
abbrev pub Wrote : Writing → List ℕ → ℕ → List ℕ → Type 0
Wrote w old n out = (n ≡ writing_number w) × (out ≡ writing_output w old)

-- a refusal touches no byte
pub denied_keeps : (w : Writing) (old : List ℕ) → (writing_number w ≡ 0 → ⊥) → writing_output w old ≡ old
denied_keeps (denied k) old h = refl
denied_keeps (writes new) old h = absurd (h refl)

module _ (new old : List ℕ) where
  pub too_short : length old < length new → Wrote (fitting new old) old 10 old
  unfolding fitting
  too_short h = let l = lt-ltb (length old) (length new) h in (simp l, simp l)

  pub in_room_lem : (out : List ℕ) → length new ≤ length old → out ≡ new ++ drop (length new) old → Wrote (fitting new old) old 0 out
  unfolding fitting
  in_room_lem out h p = let l = le-ltb (length old) (length new) h in (simp l, p ∙ simp l)

-- a link's byte, b being whether it works as the code has it
pub link_seen : (net : Net) (works : ℕ → Bool) (word k v : ℕ) (b : Bool)
    → v ≡ link_value (in_word word (get_or net.low k 0) || in_word word (get_or net.high k 0)) b
    → b ≡ works k → v ≡ link_shown net works word k
link_seen net works word k v b e p =
    e ∙ ap (λ (x : Bool). link_value (in_word word (get_or net.low k 0) || in_word word (get_or net.high k 0)) x) p

-- ---- the bytes over the working links
module _ (net : Net) (works : ℕ → Bool) (s : ℕ) where
  abbrev members : List Bool
  members = reach_of net works s

  abbrev station_byte : ℕ → ℕ
  station_byte t = bit (has members t)

  abbrev link_byte : ℕ → ℕ
  link_byte k = link_value (near (network_of net) (has members) k) (works k)

  parts : report_in net works s ≡ map station_byte (below (network_of net).stations) ++ map link_byte (below (length (network_of net).links))
  unfolding report_in report
  parts = refl

  pub length_in : length (report_in net works s) ≡ min net.stations station_room + link_count net
  length_in =
      ap length parts ∙ length-append (map station_byte (below (network_of net).stations))
      (map link_byte (below (length (network_of net).links)))
      ∙ omega (
        arith,
        length_map_below station_byte (network_of net).stations,
        length_map_below link_byte
            (length (network_of net).links),
        stations_of net,
        links_of_lem net,
      )

  module _ (word : ℕ) (e : word ≡ word_of members) where
    seen : (t : ℕ) → in_word word t ≡ has members t
    seen t = ap (λ (x : ℕ). in_word x t) e ∙ in_word_of members t

    one_link : (k : ℕ) → k < link_count net → link_shown net works word k ≡ link_byte k
    one_link k h =
        ap₂ (λ (x y : Bool). link_value (x || y) (works k)) (seen (get_or net.low k 0)) (seen (get_or net.high k 0))
        ∙ ap (λ (x : Ends). link_value (has members x.low || has members x.high) (works k)) (sym (ends_of net k h))

    stations_are : map (bit_at word) (below (min net.stations station_room)) ≡ map station_byte (below (network_of net).stations)
    stations_are =
        map_below_same (bit_at word) station_byte (min net.stations station_room) (λ t h. ap (λ (x : ℕ). bit_at x t) e ∙ word_of_at members t)
        ∙ ap (λ (n : ℕ). map station_byte (below n)) (sym (stations_of net))

    links_are : map (link_shown net works word) (below (link_count net)) ≡ map link_byte (below (length (network_of net).links))
    links_are =
        map_below_same (link_shown net works word) link_byte (link_count net) one_link
        ∙ ap (λ (n : ℕ). map link_byte (below n)) (sym (links_of_lem net))

    -- the output after the stations, and after the links, which are put in what is left of it
    module _ (n m : ℕ) (ne : n ≡ min net.stations station_room) (me : m ≡ link_count net) (old one part two : List ℕ)
        (room : n + m ≤ length old) (p : one ≡ filled (bit_at word) old n)
        (q : part ≡ filled (link_shown net works word) (take (length one - n) (drop n one)) m)
        (w : two ≡ take n one ++ (part ++ drop (length one - n) (drop n one))) where
      abbrev front : List ℕ
      front = map (bit_at word) (below n)

      abbrev back : List ℕ
      back = map (link_shown net works word) (below m)

      rest : drop n one ≡ drop n old
      rest = ap (drop n) p ∙ drop_at front (drop n old) n (length_map_below (bit_at word) n)

      part_is : part ≡ back ++ drop (n + m) old
      part_is =
          q ∙ ap (λ (l : List ℕ). back ++ drop m l) (take_all (length one - n) (drop n one) (omega (arith, length-drop n one)) ∙ rest)
          ∙ ap (λ (l : List ℕ). back ++ l) (drop-drop m n old)

      none_left : drop (length one - n) (drop n one) ≡ []
      none_left = drop_of_length-le (drop n one) {i = length one - n} (omega (arith, length-drop n one))

      two_is : two ≡ (front ++ back) ++ drop (n + m) old
      two_is =
          w ∙ ap₂ (λ (x y : List ℕ). x ++ y) (ap (take n) p ∙ take_at front (drop n old) n (length_map_below (bit_at word) n))
          (ap₂ (λ (x y : List ℕ). x ++ y) part_is none_left ∙ append-nil (back ++ drop (n + m) old))
          ∙ sym (append_assoc front back (drop (n + m) old))

      bytes_are : front ++ back ≡ report_in net works s
      bytes_are =
          ap₂ (λ (i j : ℕ). map (bit_at word) (below i) ++ map (link_shown net works word) (below j)) ne me
          ∙ ap₂ (λ (x y : List ℕ). x ++ y) stations_are links_are ∙ sym parts

      pub report_put : Wrote (fitting (report_in net works s) old) old 0 two
      report_put =
          let l : length (report_in net works s) ≡ n + m = length_in ∙ omega arith in
          in_room_lem (report_in net works s) old two (omega arith)
          (two_is ∙ ap₂ (λ (x : List ℕ) (k : ℕ). x ++ drop k old) bytes_are (sym l))
