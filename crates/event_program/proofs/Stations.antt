-- The lines at the end: a station's counters one after the other, and the stations.
use Prim.Native.Nat.{ℕ, suc, ◌+◌, ◌*◌, ◌≤◌, ◌<◌, min}
use mathlib.Core.Path.{◌≡◌, refl, sym, ap, ap₂, ◌∙◌, subst}
use Rattle.station.specs.declared.Station.{Station}
use mathlib.Core.List.{List, [], ◌∷◌, ◌++◌, append_assoc, append-nil}
use native.Mathlib.Numerals.{add-one}
use native.Mathlib.Omega.{arith}
use lib.ListN.{length, get_or, take, length-append}
use lib.Seq.{take-suc, get_or-take}
use Rattle.lists.specs.Lists.{below}
use Rattle.lists.specs.Places.{collect}
use Rattle.lists.proofs.Places.{collect_append}
use Rattle.text.specs.Text.{digits}
use Rattle.net.proofs.ValueLaws.{stations_of}
use Rattle.state.specs.declared.State.{State}
use Rattle.state.specs.State.{beyond}
use Rattle.console.proofs.Puts.{byte_digits, counter_digits, texts_more}
use Rattle.text.specs.declared.Line.{Line}
use Rattle.text.specs.Line.{Adds}
use Rattle.text.proofs.Lines.{adds_none, adds_more, adds_same}
use Rattle.event_program.specs.Stations.{station_text, station_line, stations_text, station_most}

-- a counter, with the space before it
abbrev pub counter_text : ℕ → List ℕ
counter_text c = 32 ∷ digits c

pub counters_more : (xs cs : List ℕ) (k : ℕ) → k < length cs
    → ((xs ++ collect counter_text (take k cs)) ++ (32 ∷ [])) ++ digits (get_or cs k 0) ≡ xs ++ collect counter_text (take (k + 1) cs)
counters_more xs cs k h =
    rw (add-one, take-suc cs k 0 h)
    (simp append_assoc (ap (λ (l : List ℕ). xs ++ l)
    (sym (collect_append counter_text (take k cs) (get_or cs k 0 ∷ [])
    ∙ ap (λ (l : List ℕ). collect counter_text (take k cs) ++ l) (append-nil (32 ∷ digits (get_or cs k 0)))))))

pub station_whole : (s : ℕ) (table : List ℕ) → (([] ++ digits s) ++ collect counter_text table) ++ (10 ∷ []) ≡ station_text s table
unfolding station_text
station_whole s table = refl

-- how long the line is
counters_few : (cs : List ℕ) → ((k : ℕ) → get_or cs k 0 < 65536) → length (collect counter_text cs) ≤ 6 * length cs
counters_few [] f = omega arith
counters_few (c ∷ cs) f =
    let first : length (digits c) ≤ 5 = counter_digits c (f 0) in
    let others : length (collect counter_text cs) ≤ 6 * length cs = counters_few cs (λ k. f (suc k)) in
    omega (arith, length-append (counter_text c) (collect counter_text cs))

pub station_few : (s : ℕ) (cs : List ℕ) → s < 256 → length cs ≤ 64 → ((k : ℕ) → get_or cs k 0 < 65536)
    → length (station_text s cs) ≤ station_most
unfolding station_text
station_few s cs h l f =
    let table : length (collect counter_text cs) ≤ 6 * length cs = counters_few cs f in
    simp length-append (omega (arith, byte_digits s h))

-- ---- one station more
pub stations_whole : (s : State) (n i : ℕ) → n ≡ min s.net.stations 32 → i ≡ n → collect (station_line s) (below i) ≡ stations_text s
unfolding stations_text
stations_whole s n i e h = ap (λ (k : ℕ). collect (station_line s) (below k)) (h ∙ e ∙ sym (stations_of s.net))

-- the code's table of one station
table_of_one : (s : State) (i n m : ℕ) → i < n → m ≡ min s.net.links 64
    → station_text i (take m (get_or (take n s.stations) i beyond).counters) ≡ station_line s i
table_of_one s i n m h e =
    ap₂ (λ (k : ℕ) (x : Station). station_text i (take k x.counters)) e (get_or-take n s.stations i beyond h)

-- the lines of the stations before i, and how long they are
pub record Lines (s : State) (i : ℕ) (a b : Line) : Type 0 where
  pub text : Adds (collect (station_line s) (below i)) a b
  pub few : length (collect (station_line s) (below i)) ≤ station_most * i

pub no_lines : (s : State) (a : Line) → Lines s 0 a a
no_lines s a = record { text = adds_none a; few = omega arith }

pub one_more : (s : State) (i n m : ℕ) (a b c : Line) → i < n → m ≡ min s.net.links 64 → Lines s i a b
    → (let text = station_text i (take m (get_or (take n s.stations) i beyond).counters) in Adds text b c × (length text ≤ station_most))
    → Lines s (i + 1) a c
one_more s i n m a b c h e l p =
    let same = table_of_one s i n m h e in
    let more = texts_more (station_line s) i in
    let few : length (station_line s i) ≤ station_most = subst (λ (x : List ℕ). length x ≤ station_most) same p.1 in
    record {
      text = adds_same more (adds_more l.text (adds_same same p.0));
      few = omega (arith, l.few, few, sym (ap length more), length-append (collect (station_line s) (below i)) (station_line s i));
    }
