-- The network value that reading hands out: it means the network that was read and keeps the rules with its unused room
-- zero; and a good value is determined by its meaning.
use Rattle.std.specs.Prelude.{if◌then◌else◌}
use Prim.Native.Nat.{ℕ, ◌-◌, ◌≤◌, ◌<◌, min}
use mathlib.Core.Bool.{false}
use mathlib.Core.Path.{◌≡◌, refl, sym, ap, ap₂, ◌∙◌, subst, subst⁻¹}
use mathlib.Core.List.{List, map}
use native.Mathlib.Omega.{arith}
use lib.Dec.{T, eqb}
use lib.ListN.{length, get_or, drop, replicate, length-append, length-map, length-replicate, get_or-replicate, get_or-append, get_or-map}
use lib.Seq.{ext_get_or, drop_at}
use Rattle.lists.specs.Lists.{every, below}
use Rattle.lists.proofs.Tests.{at_every}
use Rattle.lists.proofs.Numbers.{get_or_map_below, length_map_below}
use Rattle.net.specs.declared.Net.{Net}
use Rattle.net.specs.Network.{Ends, Network}
use Rattle.sheet_rules.specs.Rules.{sheet_holds}
use Rattle.net.specs.Values.{network_of, place_ends, link_count, is_zero}
use Rattle.net.specs.Sizes.{station_room, link_room}
use Rattle.sheet_rules.specs.Values.{net_holds}
use Rattle.sheet_rules.proofs.Rules.{Rules, rules_of}
use Rattle.sheet_rules.proofs.Good.{of_holds, sheet_good, one_value}
use Rattle.sheet_rules.proofs.Tested.{few_stations}
use Rattle.std.specs.Prelude.{Result, Ok, Err}
use Rattle.sheet.specs.declared.SheetError.{SheetError}
use Rattle.sheet.specs.declared.SheetError.TheVariants.{Short, Malformed, OutOfRange, OutOfOrder, TooManyLinks}
use Rattle.sheet.specs.declared.WriteError.{WriteError}
use Rattle.sheet.specs.declared.WriteError.TheVariants.{OutputShort, BadNetwork}
use Rattle.sheet.specs.Sheet.{Sheet, sheet, no_link, read_sheet, write_sheet}
use Rattle.sheet.specs.Values.{number_of, room_of, value_of, zero_net, sheet_number, sheet_net, net_in, Says, wrote_numbers}
use Rattle.sheet.proofs.Laws.{reads_back, read_holds}

-- ---- a room
room_at : (xs : List ℕ) (k : ℕ) → k < length xs → get_or (room_of xs) k 0 ≡ get_or xs k 0
unfolding room_of
room_at xs k h = get_or-append xs (replicate (link_room - length xs) 0) 0 k h

zeros_hold : (n : ℕ) → T (every is_zero (replicate n 0))
zeros_hold n =
    at_every is_zero (replicate n 0) 0 (λ i h. subst⁻¹ (λ (x : ℕ). T (is_zero x))
    (get_or-replicate n i 0 0 (omega (arith, h, length-replicate {A = ℕ} n 0))) tt)

room_tail : (xs : List ℕ) (m : ℕ) → length xs ≡ m → T (every is_zero (drop m (room_of xs)))
unfolding room_of
room_tail xs m e =
    subst⁻¹ (λ (l : List ℕ). T (every is_zero l)) (drop_at xs (replicate (link_room - length xs) 0) m e) (zeros_hold (link_room - length xs))

-- it has 64 places
room_long : (xs : List ℕ) → length xs ≤ link_room → length (room_of xs) ≡ link_room
unfolding room_of
room_long xs h = length-append xs (replicate (link_room - length xs) 0) ∙ omega (arith, length-replicate {A = ℕ} (link_room - length xs) 0)

-- ---- from a network to its value and back
module _ (net : Network) (t : T (sheet_holds net)) where
  rules : Rules net
  rules = rules_of net t

  m : ℕ
  m = length net.links

  pub value_means : network_of (value_of net) ≡ net
  unfolding network_of value_of m
  value_means =
      let s : min net.stations station_room ≡ net.stations = omega (arith, rules.few_stations) in
      let c : min m link_room ≡ m = omega (arith, rules.few_links) in
      (λ i. record { stations = s i; links = map (place_ends (value_of net)) (below (c i)) })
      ∙ ap (λ (l : List Ends). record { stations = net.stations; links = l })
      (ext_get_or no_link (map (place_ends (value_of net)) (below m)) net.links (length_map_below (place_ends (value_of net)) m)
      (λ i h. let g : i < m = subst (λ (x : ℕ). i < x) (length_map_below (place_ends (value_of net)) m) h in
      get_or_map_below (place_ends (value_of net)) m i no_link g
      ∙ (λ j. record {
        low =
            (room_at (map (λ e. e.low) net.links) i (subst⁻¹ (λ (x : ℕ). i < x) (length-map net.links (λ e. e.low)) g)
            ∙ get_or-map (λ e. e.low) net.links i no_link) j;
        high =
            (room_at (map (λ e. e.high) net.links) i (subst⁻¹ (λ (x : ℕ). i < x) (length-map net.links (λ e. e.high)) g)
            ∙ get_or-map (λ e. e.high) net.links i no_link) j;
      })))

  pub value_holds : T (net_holds (value_of net))
  unfolding value_of
  value_holds =
      let c : length net.links ≡ min (length net.links) link_room = omega (arith, rules.few_links) in
      of_holds (value_of net) (record {
        few_stations = rules.few_stations;
        few_links = rules.few_links;
        sheet = subst⁻¹ (λ (x : Network). T (sheet_holds x)) value_means t;
        low_zero = room_tail (map (λ e. e.low) net.links) (link_count (value_of net)) (length-map net.links (λ e. e.low) ∙ c);
        high_zero = room_tail (map (λ e. e.high) net.links) (link_count (value_of net)) (length-map net.links (λ e. e.high) ∙ c);
      })

  -- the value has its room of 64 links
  pub low_long : length (value_of net).low ≡ link_room
  unfolding value_of
  low_long = room_long (map (λ e. e.low) net.links) (omega (arith, rules.few_links, length-map net.links (λ e. e.low)))

  pub high_long : length (value_of net).high ≡ link_room
  unfolding value_of
  high_long = room_long (map (λ e. e.high) net.links) (omega (arith, rules.few_links, length-map net.links (λ e. e.high)))

-- ---- from a good value to its network and back
pub value_back : (v : Net) → T (net_holds v) → length v.low ≡ link_room → length v.high ≡ link_room → value_of (network_of v) ≡ v
value_back v t ll lh =
    let n = network_of v in
    let good = sheet_good v t in
    one_value (value_of n) v (value_holds n good) t (value_means n good) (low_long n good ∙ sym ll) (high_long n good ∙ sym lh)

-- ---- the code's answers
-- an answer is its number and its network
answer_one : (r q : Result Net SheetError) → number_of r ≡ number_of q → net_in r ≡ net_in q → r ≡ q
answer_one r q e f = sym (is r) ∙ ap₂ back e f ∙ is q
  where
    back : ℕ → Net → Result Net SheetError
    back n net =
        if eqb n 0 then Ok net else (if eqb n 1 then Err Short
        else (if eqb n 2 then Err Malformed else (if eqb n 3 then Err OutOfRange
        else (if eqb n 4 then Err OutOfOrder else Err TooManyLinks))))

    is : (x : Result Net SheetError) → back (number_of x) (net_in x) ≡ x
    is (Ok net) = refl
    is (Err Short) = refl
    is (Err Malformed) = refl
    is (Err OutOfRange) = refl
    is (Err OutOfOrder) = refl
    is (Err TooManyLinks) = refl

-- the value that stands for no network is a bad one: whatever call is given it refuses with 11
pub zero_bad : false ≡ net_holds zero_net
zero_bad = few_stations zero_net (omega arith)

-- two answers that are allowed for the same bytes are equal
pub one_answer : (r q : Result Net SheetError) (s : Sheet) → Says r s → Says q s → r ≡ q
one_answer r q s a b = answer_one r q (a.number ∙ sym b.number) (a.net ∙ sym b.net)

-- the network of a good answer means the network that the bytes give, and is a good value
pub read_value : (r : Result Net SheetError) (bytes : List ℕ) (net : Network) → Says r (read_sheet bytes) → read_sheet bytes ≡ sheet net
    → (network_of (net_in r) ≡ net) × T (net_holds (net_in r))
read_value r bytes net a e =
    let t = read_holds bytes net e in
    let v : net_in r ≡ value_of net = a.net ∙ ap sheet_net e in
    (ap network_of v ∙ value_means net t, subst⁻¹ (λ (x : Net). T (net_holds x)) v (value_holds net t))

-- reading what was written for a good value gives that very value
pub value_read : (r : Result Net SheetError) (v : Net) → T (net_holds v) → length v.low ≡ link_room → length v.high ≡ link_room
    → Says r (read_sheet (write_sheet (network_of v))) → r ≡ Ok v
value_read r v t ll lh a =
    let e = reads_back (network_of v) (sheet_good v t) in
    answer_one r (Ok v) (a.number ∙ ap sheet_number e) (a.net ∙ ap sheet_net e ∙ value_back v t ll lh)

-- and so for writing
pub one_wrote : (a b : Result ℕ WriteError) → wrote_numbers a ≡ wrote_numbers b → a ≡ b
one_wrote a b e = sym (is a) ∙ ap back e ∙ is b
  where
    back : List ℕ → Result ℕ WriteError
    back l = if eqb (get_or l 0 0) 0 then Ok (get_or l 1 0) else (if eqb (get_or l 0 0) 10 then Err OutputShort else Err BadNetwork)

    is : (x : Result ℕ WriteError) → back (wrote_numbers x) ≡ x
    is (Ok n) = refl
    is (Err OutputShort) = refl
    is (Err BadNetwork) = refl
