-- What an accepted reach says: its word's bits say which stations a path leads to, and its two numbers are the word's. For every
-- state and station. That the report's bytes are the word's bits: SameBits.antt.
use Rattle.std.specs.Prelude.{if◌then◌else◌}
use Prim.Native.Nat.{ℕ, ◌<◌}
use mathlib.Core.Bool.{Bool}
use mathlib.Core.Path.{◌≡◌, sym, ap, ap₂, ◌∙◌, subst, subst⁻¹}
use mathlib.Core.Logic.{◌⊎◌, inl, inr, ⊎_elim, ◌↔◌}
use mathlib.Core.List.{List}
use native.Mathlib.Decide.{ℕ_discrete}
use native.Mathlib.Omega.{arith}
use borrow.Author.Tests.{eq-eqb, ne_eqb}
use Rattle.lists.specs.Words.{bit_at, word_of}
use Rattle.net.specs.Network.{Network}
use Rattle.net.specs.Values.{network_of}
use Rattle.reach.specs.Reach.{works_in, Reaches, reach, count_of, lowest_of}
use Rattle.reach.specs.Values.{table_of}
use Rattle.reach.proofs.Word.{word_bit}
use Rattle.reach.specs.declared.Reached.{Reached}
use Rattle.reach.specs.ShowingValues.{reached_of, ones_of}
use Rattle.reach.proofs.Numbers.{ones_of_reach}
use Rattle.world.specs.World.{holding_at, reach_at}
use Rattle.world.proofs.Reports as R
use Rattle.state.specs.declared.State.{State}
use Rattle.state.specs.State.{station_in, world_of}
use Rattle.report.specs.Asking.{number_of}
use Rattle.report.proofs.Refusals.{Asks, none, why_number, asks, net_is, stations_are, table_is}
use Rattle.report.specs.Answers.{Asked, no_reach, asked_of}

-- ---- the words of the theorem
module _ (s : State) (a : ℕ) where
  -- the counters that station a itself has, one for each link
  abbrev pub own_table : List ℕ
  own_table = table_of s.net (station_in s a).counters

  -- a path of links with even counters in its own table leads from a to t
  abbrev pub PathTo : ℕ → Type 0
  PathTo t = Reaches (network_of s.net) (works_in own_table) a t

-- the lowest station that no path leads to
pub record Lowest (s : State) (a z : ℕ) : Type 0 where
  pub station : z < s.net.stations
  pub missed : PathTo s a z → ⊥
  pub lower : (t : ℕ) → t < z → PathTo s a t

pub record WordShown (s : State) (a : ℕ) (r : Reached) : Type 0 where
  pub bits : (t : ℕ) → (bit_at r.word t ≡ 1) ↔ PathTo s a t
  pub ones : r.ones ≡ ones_of r.word
  pub lowest : ((r.lowest ≡ 255) × ((t : ℕ) → t < s.net.stations → PathTo s a t)) ⊎ Lowest s a r.lowest

module _ (s : State) (a : ℕ) where
  abbrev given : Asked
  given = record { answer = 0; reached = reach_at (world_of s) a }

  abbrev refused : Asked
  refused = record { answer = number_of s a; reached = no_reach }

  pub asked_zero : number_of s a ≡ 0 → asked_of s a ≡ given
  unfolding asked_of
  asked_zero p = ap (λ (b : Bool). if b then given else refused) (eq-eqb (number_of s a) 0 p)

  asked_refused : (number_of s a ≡ 0 → ⊥) → asked_of s a ≡ refused
  unfolding asked_of
  asked_refused p = ap (λ (b : Bool). if b then given else refused) (ne_eqb (number_of s a) 0 p)

  -- the answer is the number that refuses, or 0
  pub answer_number : (asked_of s a).answer ≡ number_of s a
  answer_number = go (ℕ_discrete (number_of s a) 0)
    where
      go : Dec (number_of s a ≡ 0) → (asked_of s a).answer ≡ number_of s a
      go (yes p) = ap (λ (x : Asked). x.answer) (asked_zero p) ∙ sym p
      go (no p) = ap (λ (x : Asked). x.answer) (asked_refused p)

  -- THE REACH IS GIVEN EXACTLY IF the state is well formed and the station is there and live
  pub given_when : ((asked_of s a).answer ≡ 0) ↔ Asks s a
  given_when = ((λ q. asks s a (sym answer_number ∙ q)), (λ k. answer_number ∙ why_number s a (none k)))

  module _ (q : (asked_of s a).answer ≡ 0) where
    ask : Asks s a
    ask = given_when.0 q

    table : (holding_at (world_of s) a).table ≡ own_table s a
    table = table_is s a (omega (arith, stations_are s ask.good, ask.station))

    reach_is : (asked_of s a).reached ≡ reached_of s.net (works_in (own_table s a)) a
    unfolding reach_at
    reach_is =
        ap (λ (x : Asked). x.reached) (asked_zero (sym answer_number ∙ q))
        ∙ ap₂ (λ (n : Network) (l : List ℕ). record {
          word = word_of (reach n (works_in l) a);
          ones = count_of (reach n (works_in l) a);
          lowest = lowest_of (reach n (works_in l) a);
        }) (net_is s) table

    path : (t : ℕ) → R.ReachesIn (world_of s) a t → PathTo s a t
    path t r =
        subst (λ (l : List ℕ). Reaches (network_of s.net) (works_in l) a t) table
        (subst (λ (n : Network). Reaches n (works_in (holding_at (world_of s) a).table) a t) (net_is s) r)

    path_back : (t : ℕ) → PathTo s a t → R.ReachesIn (world_of s) a t
    path_back t r =
        subst⁻¹ (λ (n : Network). Reaches n (works_in (holding_at (world_of s) a).table) a t) (net_is s)
        (subst⁻¹ (λ (l : List ℕ). Reaches (network_of s.net) (works_in l) a t) table r)

    stations : (world_of s).net.stations ≡ s.net.stations
    stations = ap (λ (n : Network). n.stations) (net_is s) ∙ stations_are s ask.good

    lowest_is : (((reach_at (world_of s) a).lowest ≡ 255) × ((t : ℕ) → t < s.net.stations → PathTo s a t)) ⊎ Lowest s a
        (reach_at (world_of s) a).lowest
    lowest_is =
        ⊎_elim
        (λ p. inl (p.0, λ t h. path t (p.1 t (omega (arith, stations)))))
        (λ p. inr (record {
          station = omega (arith, p.station, stations);
          missed = λ r. p.missed (path_back _ r);
          lower = λ t h. path t
              (p.lower t h);
        }))
        (R.lowest_is (world_of s) a)

    -- THE BITS OF THE REACH WORD SAY WHICH STATIONS A PATH LEADS TO
    pub word_shown : WordShown s a (asked_of s a).reached
    word_shown = record {
      bits =
          λ t. subst⁻¹ (λ (r : Reached). (bit_at r.word t ≡ 1) ↔ PathTo s a t) reach_is (word_bit s.net (works_in (own_table s a)) a t);
      ones = subst⁻¹ (λ (r : Reached). r.ones ≡ ones_of r.word) reach_is (sym (ones_of_reach s.net (works_in (own_table s a)) a));
      lowest =
          subst⁻¹ (λ (r : Reached). ((r.lowest ≡ 255) × ((t : ℕ) → t < s.net.stations → PathTo s a t)) ⊎ Lowest s a r.lowest)
          (ap (λ (x : Asked). x.reached) (asked_zero (sym answer_number ∙ q))) lowest_is;
    }
