-- An act's plan carried out at a station value is the act carried out on what the station holds: the same station, the same letters.
use Prim.Native.Nat.{ℕ, ◌≤◌, ◌<◌}
use mathlib.Core.Bool.{Bool, true, false, ◌&&◌}
use mathlib.Core.Path.{◌≡◌, refl, sym, ap, ap₂, ◌∙◌}
use mathlib.Core.List.{List, [], ◌∷◌, ◌++◌, map}
use native.Mathlib.Omega.{arith}
use lib.Dec.{T}
use lib.ListN.{length, get_or, drop, set, replicate, length-set}
use borrow.Author.Tests.{lt-ltb, le-ltb}
use Rattle.net.specs.Sizes.{link_room}
use Rattle.lists.specs.Lists.{below}
use Rattle.lists.specs.Words.{in_word}
use Rattle.lists.proofs.Numbers.{get_or_map_below, length_map_below}
use Rattle.net.specs.declared.Body.TheVariants.{Reply, Notice}
use Rattle.net.specs.declared.Letter.{Letter}
use Rattle.net.specs.declared.Net.{Net}
use Rattle.net.specs.Network.{Network, is_end, link_numbers}
use Rattle.net.specs.Values.{network_of, link_count}
use Rattle.net.proofs.ValueLaws.{links_of_lem}
use Rattle.reach.specs.Reach.{works_in, purge}
use Rattle.reach.specs.Values.{table_of, purged_of}
use Rattle.sets.specs.Sets.{word_by}
use Rattle.sets.proofs.WordLaws.{in_by}
use Rattle.marks.specs.declared.Marks.{Marks}
use Rattle.marks.specs.declared.Words.{Words}
use Rattle.marks.specs.Marks.{marks_at, words_with, own_at}
use Rattle.station.specs.declared.Sending.{Sending}
use Rattle.station.specs.declared.Station.{Station}
use Rattle.station.specs.Holding.{Holding, no_marks, mark}
use Rattle.station.specs.Acts.{Links, Marking, as_before, on_link, on_every, Tabling, kept, ones, sets, Sends, nothing, requests, notices}
use Rattle.station.specs.Acts.{all_known, reply, Act}
use Rattle.station.specs.Done.{letter, on_each, less, known, links_of, told_table, purged_table, marks_after, sent_of, done_by}
use Rattle.station.specs.Events.{Due}
use Rattle.station.specs.Values.{holding_of, laid_words, letters_of, fresh_table}
use Rattle.station.proofs.Laid.{Fit, words_laid, laid_is, marks_laid, same_laid, marks_of, mark_of, counters_same}
use Rattle.station.proofs.Laid.{counters_set, table_set, room_set}
use Rattle.station.proofs.Sent.{members_none, members_one, tell_one, sent_nothing, sent_requests, sent_notices, sent_reply}
use Rattle.station_plan.specs.Plans.{knows_by, marks_by, sending_by, tabled_plan}
use Rattle.station_plan.specs.Plans.{plan_of, kept_by, narrowed}
use Rattle.station_plan.specs.Plans.{station_by, letters_by}
use Rattle.station_plan.specs.Planned.{Acts}
use Rattle.station_plan.proofs.Sets.{LinksFit, links_are, known_are, known_less, tell_known, tell_known_less}

module _ (net : Net) (s : ℕ) (st : Station) (own : ℕ) (eo : own ≡ word_by (own_at net s)) (fit : Fit st.marks)
    (size : length st.counters ≡ link_room) where
  abbrev H : Holding
  H = holding_of net st

  abbrev N : Network
  N = network_of net

  abbrev W : Words
  W = st.marks

  -- ---- what an act must name for its plan to say it: links that are there, and the counter that the act itself sets
  abbrev pub MarkingFits : Marking → Type 0
  MarkingFits as_before = T true
  MarkingFits (on_link k f) = k < link_count net
  MarkingFits (on_every f) = T true

  -- the counters that are told
  abbrev pub told_of : Tabling → List ℕ
  told_of kept = st.counters
  told_of ones = st.counters
  told_of (sets j c purges) = set st.counters j c

  abbrev pub SendsFit : Tabling → Sends → Type 0
  SendsFit t nothing = T true
  SendsFit t (requests ways) = LinksFit net ways
  SendsFit t (notices j c ways) = (j < link_count net) × (get_or (told_of t) j 0 ≡ c) × LinksFit net ways
  SendsFit t (all_known ways) = LinksFit net ways
  SendsFit t (reply tells k c) = k < link_count net

  -- where every counter becomes 1 nothing is sent
  abbrev pub TablingFits : Tabling → Sends → Type 0
  TablingFits kept l = T true
  TablingFits ones l = l ≡ nothing
  TablingFits (sets j c purges) l = j < link_count net

  pub record Fits (a : Act) : Type 0 where
    pub marks : MarkingFits a.marks
    pub table : TablingFits a.table a.sends
    pub sends : SendsFit a.table a.sends

  -- ---- the room that the new holding is laid over: the old one, but for marks and counters that are made anew everywhere
  abbrev pub MarksRoom : Words → Marking → Type 0
  MarksRoom old as_before = old ≡ W
  MarksRoom old (on_link k f) = old ≡ W
  MarksRoom old (on_every f) = (t : ℕ) → link_count net ≤ t → t < link_room → marks_at old t ≡ f false (marks_at W t)

  abbrev pub TableRoom : List ℕ → Tabling → Type 0
  TableRoom old kept = old ≡ st.counters
  TableRoom old ones = old ≡ replicate link_room 0
  TableRoom old (sets j c purges) = old ≡ st.counters

  -- ---- the marks
  own_in : (t : ℕ) → t < link_count net → in_word own t ≡ is_end N t s
  own_in t h =
      ap (λ (x : ℕ). in_word x t) eo ∙ in_by (own_at net s) t (omega arith) ∙ ap (λ (b : Bool). b && is_end N t s) (lt-ltb t (link_count net) h)

  own_past : (t : ℕ) → link_count net ≤ t → t < link_room → in_word own t ≡ false
  own_past t h l =
      ap (λ (x : ℕ). in_word x t) eo ∙ in_by (own_at net s) t l ∙ ap (λ (b : Bool). b && is_end N t s) (le-ltb t (link_count net) h)

  marks_are : (m : Marking) (old : Words) → MarkingFits m → MarksRoom old m
      → marks_by own W m ≡ laid_words (link_count net) old (marks_after N s H m)
  marks_are as_before old f r =
      same_laid net st fit ∙ ap₂ (λ (w : Words) (ms : List Marks). laid_words (link_count net) w ms) (sym r) (sym (marks_of net st))
  marks_are (on_link k g) old f r =
      ap (λ (m : Marks). words_with W k (g m)) (sym (mark_of net st k f)) ∙ marks_laid net st k (g (mark H k)) f
      ∙ ap₂ (λ (w : Words) (ms : List Marks). laid_words (link_count net) w (set ms k (g (mark H k)))) (sym r) (sym (marks_of net st))
  marks_are (on_every g) old f r =
      words_laid (link_count net) (omega arith) (λ t. g (in_word own t) (marks_at W t)) old (map each (below (link_count net)))
      (length_map_below each (link_count net))
      (λ t h. get_or_map_below each (link_count net) t no_marks h ∙ ap₂ g (sym (own_in t h)) (mark_of net st t h))
      (λ t h l. r t h l ∙ ap (λ (b : Bool). g b (marks_at W t)) (sym (own_past t h l)))
      ∙ ap (λ (n : ℕ). laid_words (link_count net) old (map each (below n))) (sym (links_of_lem net))
    where
      each : ℕ → Marks
      each k = g (is_end N k s) (mark H k)

  -- ---- the counters
  abbrev kept_of : Tabling → List ℕ
  kept_of kept = st.counters
  kept_of ones = fresh_table (link_count net)
  kept_of (sets j c purges) = kept_by net s false purges (set st.counters j c)

  table_are : (t : Tabling) (l : Sends) (old : List ℕ) → TablingFits t l → TableRoom old t
      → kept_of t ≡ purged_table N s (told_table N H.table t) t ++ drop (link_count net) old
  unfolding holding_of fresh_table purged_of
  table_are kept l old f r = counters_same net st ∙ ap (λ (x : List ℕ). table_of net st.counters ++ drop (link_count net) x) (sym r)
  table_are ones l old f r =
      ap₂ (λ (n : ℕ) (x : List ℕ). map (λ k. 1) (below n) ++ drop (link_count net) x) (sym (links_of_lem net)) (sym r)
  table_are (sets j c false) l old f r =
      counters_set net st j c f ∙ ap (λ (x : List ℕ). set (table_of net st.counters) j c ++ drop (link_count net) x) (sym r)
  table_are (sets j c true) l old f r =
      ap₂ (λ (t d : List ℕ). purge N (works_in t) s t ++ d) (table_set net st j c f) (room_set net st j c f)
      ∙ ap (λ (x : List ℕ). purge N (works_in (set (table_of net st.counters) j c)) s (set (table_of net st.counters) j c) ++ drop
      (link_count net) x) (sym r)

  -- ---- the letters
  told_size : (t : Tabling) → length (told_of t) ≡ link_room
  told_size kept = size
  told_size ones = size
  told_size (sets j c purges) = length-set st.counters j c ∙ size

  -- by a table of which the told one is the front
  module _ (told : List ℕ) (long : length told ≡ link_room) where
    abbrev narrow : Sends → Sending
    narrow l = narrowed (knows_by l) (link_count net) told (sending_by own W l)

    abbrev Told : Sends → Type 0
    Told l = letters_of s told (narrow l) ≡ sent_of N s H (table_of net told) l

    nothing_told : Told nothing
    nothing_told = sent_nothing s told (narrow nothing) refl refl refl

    replied : (tells : Bool) (k c : ℕ) → k < link_count net → Told (reply tells k c)
    replied true k c h =
        sent_reply s told (narrow (reply true k c)) (less k (known N (table_of net told))) (k ∷ []) refl (known_less net told long k)
        (members_one k (omega arith)) refl
        ∙ ap (λ (l : List Letter). l ++ (letter s k (Reply c) ∷ [])) (tell_known_less net told long s k (k ∷ []))
    replied false k c h = sent_reply s told (narrow (reply false k c)) [] (k ∷ []) refl members_none (members_one k (omega arith)) refl

    requested : (ways : Links) → LinksFit net ways → Told (requests ways)
    requested ways f = sent_requests s told (narrow (requests ways)) (links_of N s H ways) (links_are net s st own eo ways f) refl refl

    noticed : (j c : ℕ) (ways : Links) → j < link_count net → get_or told j 0 ≡ c → LinksFit net ways → Told (notices j c ways)
    noticed j c ways h e f =
        sent_notices s told (narrow (notices j c ways)) (j ∷ []) (links_of N s H ways) refl (members_one j (omega arith))
        (links_are net s st own eo ways f) refl
        ∙ tell_one s (λ i. get_or told i 0) j (links_of N s H ways) ∙ ap (λ (n : ℕ). on_each s (Notice j n) (links_of N s H ways)) e

    all_told : (ways : Links) → LinksFit net ways → Told (all_known ways)
    all_told ways f =
        sent_notices s told (narrow (all_known ways)) (known N (table_of net told)) (links_of N s H ways) refl (known_are net told long)
        (links_are net s st own eo ways f) refl
        ∙ tell_known net told long s (links_of N s H ways)

    sends_are : (t : Tabling) (l : Sends) → told ≡ told_of t → SendsFit t l → Told l
    sends_are t nothing e f = nothing_told
    sends_are t (requests ways) e f = requested ways f
    sends_are t (notices j c ways) e f = noticed j c ways f.0 (ap (λ (x : List ℕ). get_or x j 0) e ∙ f.1) f.2
    sends_are t (all_known ways) e f = all_told ways f
    sends_are t (reply tells k c) e f = replied tells k c f

  -- the told table, on the holding's side
  told_front : (t : Tabling) (l : Sends) → TablingFits t l
      → sent_of N s H (table_of net (told_of t)) l ≡ sent_of N s H (told_table N H.table t) l
  unfolding holding_of
  told_front kept l f = refl
  told_front ones l f = ap (sent_of N s H (table_of net st.counters)) f ∙ sym (ap (sent_of N s H (map (λ k. 1) (link_numbers N))) f)
  told_front (sets j c purges) l f = ap (λ (x : List ℕ). sent_of N s H x l) (table_set net st j c f)

  -- ---- the whole
  pub carried_out : (d : Due) (room : Station) → d.number ≡ 0 → Fits d.act → MarksRoom room.marks d.act.marks
      → TableRoom room.counters d.act.table
      → Acts net s st room (done_by N s H d.act) d.counts (plan_of own W d)
  unfolding done_by station_by letters_by
  carried_out d room z f m t =
      go d.act.table f.table t (sends_are (told_of d.act.table) (told_size d.act.table) d.act.table d.act.sends refl
      f.sends)
    where
      go : (y : Tabling) → TablingFits y d.act.sends → TableRoom room.counters y → Told (told_of y) (told_size y) d.act.sends
          → Acts net s st room (done_by N s H (record {
            condition = d.act.condition;
            marks = d.act.marks;
            table = y;
            sends = d.act.sends;
          })) d.counts (tabled_plan own W d y)
      go kept g r p =
          record {
            answer = z;
            station =
                laid_is net room _ _ refl (table_are kept d.act.sends room.counters g r)
                (marks_are d.act.marks room.marks f.marks m);
            sent = p ∙ told_front kept d.act.sends g;
            counts = refl;
          }
      go ones g r p =
          record {
            answer = z;
            station =
                laid_is net room _ _ refl (table_are ones d.act.sends room.counters g r)
                (marks_are d.act.marks room.marks f.marks m);
            sent = p ∙ told_front ones d.act.sends g;
            counts = refl;
          }
      go (sets j c purges) g r p =
          record {
            answer = z;
            station =
                laid_is net room _ _ refl (table_are (sets j c purges) d.act.sends room.counters g r)
                (marks_are d.act.marks room.marks f.marks m);
            sent = p ∙ told_front (sets j c purges) d.act.sends g;
            counts = refl;
          }
