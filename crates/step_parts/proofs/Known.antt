-- What a step knows before it changes anything (`Seen`): what it looked at is what the event concerns, and the plan that it made is what
-- the event comes to in the world. Made.antt goes on from there.
use Rattle.std.specs.Prelude.{if◌then◌else◌}
use Prim.Native.Nat.{ℕ, ◌%◌, ◌≤◌, ◌<◌}
use mathlib.Core.Bool.{Bool, true, false, not}
use mathlib.Core.Path.{◌≡◌, refl, sym, ap, ap₂, ◌∙◌, subst, subst⁻¹}
use native.Mathlib.Decide.{dec_lt}
use native.Mathlib.Nat.{mod-eq_of_lt}
use native.Mathlib.Omega.{arith}
use borrow.Author.Tests.{lt-ltb}
use lib.Dec.{T, ltb, ltb→lt}
use lib.ListN.{length, get_or, get_or-eq_default}
use Rattle.net.specs.Sizes.{station_room, link_room, letter_room}
use Rattle.lists.proofs.Tests.{T_is, is_T, and_l}
use Rattle.net.specs.declared.Body.{Body}
use Rattle.net.specs.declared.Body.TheVariants.{Request, Reply, Notice}
use Rattle.net.specs.declared.Letter.{Letter}
use Rattle.net.specs.Network.{Network}
use Rattle.net.specs.Letters.{body_holds}
use Rattle.net.specs.Values.{network_of, link_count}
use Rattle.net.proofs.ValueLaws.{links_of_lem}
use Rattle.sets.specs.Sets.{word_by}
use Rattle.marks.specs.Marks.{own_at}
use Rattle.station.specs.declared.Kind.{Kind}
use Rattle.station.specs.declared.Kind.TheVariants.{NoSuch, Start, Stop, Recovery, IntervalEnd, TimeoutEnd, QuietEnd, Delivery, Loss}
use Rattle.station.specs.declared.Station.{Station}
use Rattle.station.specs.Holding.{Holding}
use Rattle.station.specs.Acts.{subject_of}
use Rattle.station.specs.Events.{kind_of, takes_letter, Rule, rule_at, Due, due_of, link_of}
use Rattle.station.specs.Done.{Done, done_by}
use Rattle.station.specs.Values.{holding_of}
use Rattle.station.proofs.Answers.{letter_link}
use Rattle.station.proofs.Rules as R
use Rattle.station_plan.specs.declared.Plan.{Plan}
use Rattle.station_plan.specs.Planned.{Acts, Planned}
use Rattle.station_plan.specs.Comes.{Meant, room_of, on_link}
use Rattle.world.specs.World.{World, Event, no_letter, holding_at, letter_at, exists_as, exists, concerned_by, concerned, rule, comes, done}
use Rattle.world.proofs.There.{letter_there, station_there}
use Rattle.world.proofs.Steps.{passes, absent_six}
use Rattle.world.proofs.Keeps.{Formed, Posted, meant_posted, concerned_real, names}
use Rattle.state.specs.declared.State.{State}
use Rattle.state.specs.State.{station_in, letter_in, world_of, state_holds, Sized}
use Rattle.state.proofs.Meaning as M
use Rattle.sets.specs.Rooms.{in_room}
use Rattle.step_rules.specs.Step.{event}
use Rattle.step_parts.specs.declared.Names.{Names}
use Rattle.step_parts.specs.Parts.{place_by, names_by, counter_at, PlansAt}
use Rattle.step_parts.proofs.Helpers.{Placed, placed}

-- ---- by the kind of the event
-- the link that it names is there
link_few : (net : Network) (s : ℕ) (e : Kind) (b : ℕ) (x : Letter) → R.Names net s e b x → T (on_link e) → link_of e b x < length net.links
link_few net s NoSuch b x n t = absurd t
link_few net s Start b x n t = absurd t
link_few net s Stop b x n t = absurd t
link_few net s Recovery b x n t = absurd t
link_few net s IntervalEnd b x n t = n.0
link_few net s TimeoutEnd b x n t = n.0
link_few net s QuietEnd b x n t = n.0
link_few net s Delivery b x n t = letter_link net x n.0
link_few net s Loss b x n t = absurd t

-- and only that link matters to its rule
rule_link : (s : ℕ) (e : Kind) (k b : ℕ) (x : Letter) (h : Holding) → (T (on_link e) → k ≡ link_of e b x)
    → rule_at s e k x h ≡ rule_at s e b x h
rule_link s NoSuch k b x h f = refl
rule_link s Start k b x h f = refl
rule_link s Stop k b x h f = refl
rule_link s Recovery k b x h f = refl
rule_link s IntervalEnd k b x h f = ap (λ (i : ℕ). rule_at s IntervalEnd i x h) (f tt)
rule_link s TimeoutEnd k b x h f = ap (λ (i : ℕ). rule_at s TimeoutEnd i x h) (f tt)
rule_link s QuietEnd k b x h f = ap (λ (i : ℕ). rule_at s QuietEnd i x h) (f tt)
rule_link s Delivery k b x h f = refl
rule_link s Loss k b x h f = refl

-- a letter that may travel tells of a link that is there
subject_few : (net : Network) (b : Body) → T (body_holds net b) → 0 < length net.links → subject_of b < length net.links
subject_few net Request t z = z
subject_few net (Reply c) t z = z
subject_few net (Notice j c) t z = ltb→lt j _ (and_l (ltb j (length net.links)) _ t)

-- ---- what the code looked at, and the plan: of the event kind, a, b, the kind decoded, the place that a names, what the event names, the
-- station's own links
pub record Seen (s : State) (kind a b : ℕ) (e : Kind) (place : ℕ) (n : Names) (own : ℕ) (p : Plan) : Type 0 where
  pub sized : Sized s
  pub holds : T (state_holds s)
  pub decodes : e ≡ kind_of kind
  pub at : place ≡ place_by a
  pub names : n ≡ names_by s.net s.flying e a b (letter_in s place)
  pub mine : own ≡ word_by (own_at s.net n.station)
  pub plans : PlansAt n e own (letter_in s place) (station_in s n.station) p

module _ {s : State} {kind a b : ℕ} {e : Kind} {place : ℕ} {n : Names} {own : ℕ} {p : Plan} (f : Seen s kind a b e place n own p)
  where
    abbrev pub w : World
    w = world_of s

    abbrev pub E : Event
    E = event kind a b

    abbrev pub K : Kind
    K = kind_of kind

    abbrev pub me : ℕ
    me = n.station

    abbrev pub st : Station
    st = station_in s me

    abbrev named : Bool
    named = n.there

    abbrev k : ℕ
    k = n.link

    abbrev about : ℕ
    about = n.subject

    abbrev x : Letter
    x = letter_in s place

    abbrev H : Holding
    H = holding_of s.net st

    names_are : n ≡ names_by s.net s.flying K a b x
    names_are = f.names ∙ ap (λ (e : Kind). names_by s.net s.flying e a b x) f.decodes

    places : Placed n
    places = placed s.net s.flying K a b x n names_are

    pub within : me < station_room
    within = places.station

    pub ok : Formed w
    ok = M.world_formed s f.sized f.holds

    net_is : w.net ≡ network_of s.net
    net_is = M.net_is s f.sized f.holds

    links_are : length w.net.links ≡ link_count s.net
    links_are = ap (λ (n : Network). length n.links) net_is ∙ links_of_lem s.net

    stations_are : (w.net.stations ≡ s.net.stations) × (s.net.stations ≤ station_room)
    stations_are = (ap (λ (n : Network). n.stations) net_is ∙ M.count_is s f.sized f.holds, M.few s f.sized f.holds)

    named_is : named ≡ exists w E
    unfolding exists names_by
    named_is =
        ap (λ (y : Names). y.there) names_are
        ∙ ap₂ (λ (n : Network) (m : ℕ). exists_as K n m a b) (sym net_is) (sym (M.world_flying s f.sized f.holds))

    -- ---- where there is what the event names
    module _ (q : T (exists w E)) where
      pub few_a : a < letter_room
      few_a = go (takes_letter K) refl
        where
          go : (t : Bool) → takes_letter K ≡ t → a < letter_room
          go true e = omega (arith, letter_there w E (subst⁻¹ T e tt) q, ok.room)
          go false e = omega (arith, station_there w E (subst⁻¹ (λ (t : Bool). T (not t)) e tt) q, stations_are.0, stations_are.1)

      pub place_is : place ≡ a
      place_is = f.at ∙ ap (λ (c : Bool). if c then a else 0) (lt-ltb a letter_room few_a)

      pub letter_is : x ≡ letter_at w a
      letter_is = ap (letter_in s) place_is ∙ go (dec_lt a s.flying)
        where
          go : Dec (a < s.flying) → letter_in s a ≡ letter_at w a
          go (yes l) = sym (M.world_letter s f.sized f.holds a l)
          go (no l) =
              M.letter_unused s f.sized f.holds a (omega arith) few_a
              ∙ sym (get_or-eq_default w.letters no_letter {n = a} (omega (arith, M.world_flying s f.sized f.holds, l)))

      pub me_is : me ≡ concerned w E
      unfolding concerned names_by
      me_is =
          ap (λ (y : Names). y.station) names_are
          ∙ ap₂ (λ (n : Network) (l : Letter). in_room (concerned_by K n a l)) (sym net_is) letter_is
          ∙ ap (λ (c : Bool). if c then concerned_by K w.net a (letter_at w a) else 0)
          (lt-ltb (concerned_by K w.net a (letter_at w a)) station_room
          (omega (arith, concerned_real w ok E q, stations_are.0, stations_are.1)))

      pub me_real : me < s.net.stations
      me_real = omega (arith, me_is, concerned_real w ok E q, stations_are.0)

      held_is : H ≡ holding_at w (concerned w E)
      held_is = sym (M.world_holding s f.sized f.holds me me_real) ∙ ap (holding_at w) me_is

      -- ---- the link and the subject
      mod_few : (n : ℕ) → n < length w.net.links → n % link_room ≡ n
      mod_few n h = mod-eq_of_lt (omega (arith, h, links_are))

      link_there : T (on_link K) → link_of K b x < length w.net.links
      link_there t =
          subst⁻¹ (λ (l : Letter). link_of K b l < length w.net.links) letter_is
          (link_few w.net (concerned w E) K b (letter_at w a) (names w ok E q) t)

      link_is : T (on_link K) → k ≡ link_of K b x
      unfolding names_by
      link_is t = ap (λ (y : Names). y.link) names_are ∙ mod_few (link_of K b x) (link_there t)

      posted : T (takes_letter K) → Posted w x
      posted t = subst⁻¹ (Posted w) letter_is (meant_posted w ok E q t)

      meant : Meant s.net st K k x (counter_at st about)
      unfolding names_by
      meant = record {
        link = λ t. omega (arith, link_is t, link_there t, links_are);
        letter = λ t.
            sym (ap (λ (y : Names). y.link) names_are ∙ ap (λ (c : Bool). (if c then x.link else b) % link_room) (T_is (takes_letter K) t)
            ∙ mod_few x.link (posted t).link);
        subject = λ t. omega (arith, subject_there t, links_are);
        tells = λ t.
            ap (λ (i : ℕ). get_or st.counters i 0)
            (mod-eq_of_lt places.subject ∙ ap (λ (y : Names). y.subject) names_are ∙ mod_few (subject_of x.body) (subject_there t));
      }
        where
          subject_there : T (takes_letter K) → subject_of x.body < length w.net.links
          subject_there t = let o = (posted t).link in subject_few w.net x.body (posted t).body (omega arith)

      -- ---- what it comes to
      rule_is : rule_at me K k x H ≡ rule w E
      unfolding rule
      rule_is =
          rule_link me K k b x H link_is
          ∙ ap (λ (i : ℕ). rule_at i K b x H) me_is
          ∙ ap₂ (λ (l : Letter) (h : Holding). rule_at (concerned w E) K b l h) letter_is held_is

      comes_is : due_of named (rule_at me K k x H) st.condition ≡ comes w E
      unfolding comes holding_of
      comes_is =
          ap (λ (c : Bool). due_of c (rule_at me K k x H) st.condition) named_is
          ∙ ap₂ (λ (r : Rule) (h : Holding). due_of (exists w E) r h.condition) rule_is held_is

      done_is : done_by (network_of s.net) me H (comes w E).act ≡ done w E
      unfolding done
      done_is =
          ap₂ (λ (n : Network) (i : ℕ). done_by n i H (comes w E).act) (sym net_is) me_is
          ∙ ap (λ (h : Holding). done_by w.net (concerned w E) h (comes w E).act) held_is

    -- ---- the plan is the world's
    planned : Planned s.net me st (room_of K st) (due_of named (rule_at me K k x H) st.condition) p
    planned =
        subst (λ (e : Kind). PlansAt n e own x st p) f.decodes f.plans s.net st
        (record { condition = refl; words = refl; size = (f.sized.each me within).counters }) f.mine
        (ap (λ (i : ℕ). get_or st.counters i 0) (mod-eq_of_lt places.link)) (λ t. meant (subst T named_is t))

    pub number_is : p.answer ≡ (comes w E).number
    unfolding due_of
    number_is = go (exists w E) refl
      where
        go : (c : Bool) → exists w E ≡ c → p.answer ≡ (comes w E).number
        go true e = planned.answer ∙ ap (λ (y : Due). y.number) (comes_is (is_T _ e))
        go false e =
            planned.answer ∙ ap (λ (c : Bool). (due_of c (rule_at me K k x H) st.condition).number) (named_is ∙ e)
            ∙ sym (ap (λ (y : Due). y.number) (absent_six w E (subst⁻¹ (λ (t : Bool). T (not t)) e tt)))

    -- where the plan refuses nothing
    module _ (z : (comes w E).number ≡ 0) where
      pub there : T (exists w E)
      there = (passes w E z).exists

      pub acts : Acts s.net me st (room_of K st) (done w E) (comes w E).counts p
      acts =
          subst (λ (d : Done). Acts s.net me st (room_of K st) d (comes w E).counts p) (done_is there)
          ((subst (λ (y : Due). Planned s.net me st (room_of K st) y p) (comes_is there) planned).done z)
