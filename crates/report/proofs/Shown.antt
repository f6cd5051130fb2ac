-- What an accepted report shows, over its bytes: a station is shown as working exactly if a path of links with even counters
-- leads to it in the asker's own table. For every state, station and lent output. The reach word: WordShown.antt.
use Prim.Native.Nat.{ℕ, ◌+◌, ◌≤◌, ◌<◌}
use mathlib.Core.Path.{◌≡◌, sym, ap, ◌∙◌, subst, subst⁻¹}
use mathlib.Core.Logic.{◌⊎◌, ◌↔◌}
use mathlib.Core.List.{List, ◌++◌}
use native.Mathlib.Omega.{arith}
use lib.Dec.{T}
use lib.ListN.{length, get_or, drop, length-append, length-drop, get_or-append}
use lib.Seq.{drop_at}
use Rattle.net.specs.Network.{Network, ends}
use Rattle.net.specs.Values.{network_of}
use Rattle.counters.specs.Counters.{even, odd}
use Rattle.reach.specs.Reach.{counter_in, works_in, Reaches}
use Rattle.world.specs.World.{holding_at, report_at}
use Rattle.world.proofs.Reports as R
use Rattle.state.specs.declared.State.{State}
use Rattle.state.specs.State.{world_of}
use Rattle.report.proofs.Refusals.{Asks, net_is, table_is, stations_are, links_are}
use Rattle.report.proofs.WordShown.{own_table, PathTo}
use Rattle.report.specs.ReportsAnswers.{answer_of, output_of}
use Rattle.report.proofs.ReportsRefusals.{size, report_size_lem, accepted_when, written_is}

-- ---- the words of the theorem
module _ (s : State) (a : ℕ) where
  -- an end of the link k is reached
  abbrev pub EndReached : ℕ → Type 0
  EndReached k = PathTo s a (ends (network_of s.net) k).low ⊎ PathTo s a (ends (network_of s.net) k).high

-- what the output shows after the call, byte by byte
pub record Shown (s : State) (a : ℕ) (old out : List ℕ) : Type 0 where
  pub working : (t : ℕ) → t < s.net.stations → (get_or out t 0 ≡ 1) ↔ PathTo s a t
  pub unreachable : (t : ℕ) → t < s.net.stations → (get_or out t 0 ≡ 0) ↔ (PathTo s a t → ⊥)
  pub link_unreachable : (k : ℕ) → k < s.net.links → (get_or out (s.net.stations + k) 0 ≡ 0) ↔ (EndReached s a k → ⊥)
  pub link_working_lem : (k : ℕ) → k < s.net.links
      → (get_or out (s.net.stations + k) 0 ≡ 1) ↔ (EndReached s a k × T (even (counter_in (own_table s a) k)))
  pub link_unresponsive : (k : ℕ) → k < s.net.links
      → (get_or out (s.net.stations + k) 0 ≡ 2) ↔ (EndReached s a k × T (odd (counter_in (own_table s a) k)))
  pub tail : drop (size s) out ≡ drop (size s) old
  pub as_long : length out ≡ length old

-- ---- the report
module _ (s : State) (a : ℕ) (old : List ℕ) where
  abbrev new : List ℕ
  new = report_at (world_of s) a

  abbrev out : List ℕ
  out = output_of s a old

  module _ (q : answer_of s a old ≡ 0) where
    ask : Asks s a
    ask = ((accepted_when s a old).0 q).0

    fits : size s ≤ length old
    fits = ((accepted_when s a old).0 q).1

    long : length new ≡ size s
    long = report_size_lem s ask.good a

    stations : (network_of s.net).stations ≡ s.net.stations
    stations = stations_are s ask.good

    table : (holding_at (world_of s) a).table ≡ own_table s a
    table = table_is s a (omega (arith, stations, ask.station))

    out_is : out ≡ new ++ drop (size s) old
    out_is = written_is s a old ask fits ∙ ap (λ (n : ℕ). new ++ drop n old) long

    byte : (i : ℕ) → i < size s → get_or new i 0 ≡ get_or out i 0
    byte i h = sym (ap (λ (l : List ℕ). get_or l i 0) out_is ∙ get_or-append new (drop (size s) old) 0 i (omega (arith, long)))

    link_byte : (j : ℕ) → j < s.net.links → get_or new ((network_of s.net).stations + j) 0 ≡ get_or out (s.net.stations + j) 0
    link_byte j h = ap (λ (n : ℕ). get_or new (n + j) 0) stations ∙ byte (s.net.stations + j) (omega arith)

    -- what holds of the world's network and table holds of the state's
    here : (P : Network → List ℕ → Type 0) → P (world_of s).net (holding_at (world_of s) a).table → P (network_of s.net) (own_table s a)
    here P x =
        subst (λ (l : List ℕ). P (network_of s.net) l) table (subst (λ (n : Network). P n (holding_at (world_of s) a).table) (net_is s) x)

    abbrev Ends : Network → List ℕ → ℕ → Type 0
    Ends n l j = Reaches n (works_in l) a (ends n j).low ⊎ Reaches n (works_in l) a (ends n j).high

    station_in_lem : (t : ℕ) → t < s.net.stations → t < (world_of s).net.stations
    station_in_lem t h = subst⁻¹ (λ (n : Network). t < n.stations) (net_is s) (omega (arith, stations))

    link_in : (j : ℕ) → j < s.net.links → j < length (world_of s).net.links
    link_in j h = subst⁻¹ (λ (n : Network). j < length n.links) (net_is s) (omega (arith, links_are s ask.good))

    -- THE BYTES OF AN ACCEPTED REPORT SAY WHAT DOCUMENT 01 SAYS, station by station and link by link
    pub shown : Shown s a old out
    shown = record {
      working = λ t h.
          subst (λ (v : ℕ). (v ≡ 1) ↔ PathTo s a t) (byte t (omega arith))
          (here (λ n l. (get_or new t 0 ≡ 1) ↔ Reaches n (works_in l) a t) (R.shown_working (world_of s) a t (station_in_lem t h)));
      unreachable = λ t h.
          subst (λ (v : ℕ). (v ≡ 0) ↔ (PathTo s a t → ⊥)) (byte t (omega arith))
          (here (λ n l. (get_or new t 0 ≡ 0) ↔ (Reaches n (works_in l) a t → ⊥)) (R.shown_unreachable (world_of s) a t (station_in_lem t h)));
      link_unreachable = λ j h.
          subst (λ (v : ℕ). (v ≡ 0) ↔ (EndReached s a j → ⊥)) (link_byte j h)
          (here (λ n l. (get_or new (n.stations + j) 0 ≡ 0) ↔ (Ends n l j → ⊥)) (R.link_unreachable (world_of s) a j (link_in j h)));
      link_working_lem = λ j h.
          subst (λ (v : ℕ). (v ≡ 1) ↔ (EndReached s a j × T (even (counter_in (own_table s a) j)))) (link_byte j h)
          (here (λ n l. (get_or new (n.stations + j) 0 ≡ 1) ↔ (Ends n l j × T (even (counter_in l j))))
          (R.link_working_lem (world_of s) a j (link_in j h)));
      link_unresponsive = λ j h.
          subst (λ (v : ℕ). (v ≡ 2) ↔ (EndReached s a j × T (odd (counter_in (own_table s a) j)))) (link_byte j h)
          (here (λ n l. (get_or new (n.stations + j) 0 ≡ 2) ↔ (Ends n l j × T (odd (counter_in l j))))
          (R.link_unresponsive (world_of s) a j (link_in j h)));
      tail = ap (drop (size s)) out_is ∙ drop_at new (drop (size s) old) (size s) long;
      as_long = ap length out_is ∙ length-append new (drop (size s) old) ∙ omega (arith, long, fits, length-drop (size s) old);
    }
