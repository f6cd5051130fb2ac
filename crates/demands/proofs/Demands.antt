-- THE DEMANDS, one record for each: the mission's own words, then the claims that meet them, each a field; under the record its one
-- value, which is the proof. They are claimed of the eleven calls on sheets, letters and states: a sheet read and written, a letter read
-- and written, the fresh state, the step, the step that is lent a tally, the backlog's call and the run with answers (both over many
-- events: ManyEvents.antt), the reach, the report. None of them asks anything of its caller, and a claim about a call holds of EVERY
-- answer that its promise allows (specs/Calls.antt; proofs/Promised.antt: these are the promises of the code). The reasons of the numbers
-- are in the words of document 01 (specs/SheetReasons.antt, LetterReasons.antt, StateReasons.antt). What a claim takes for granted of a
-- value is what its type already says: that bytes are bytes (`are_bytes`), that a network's and a state's arrays have their sizes
-- (`Ends64`, `Sized`), that a tally's counts have 64 bits (`Fits`). `Good s`: such a state that is well formed. The rules themselves are
-- world/specs: a world is what a state means.
use Rattle.std.specs.Prelude.{Result, Ok}
use Prim.Native.Nat.{ℕ, ◌+◌, ◌*◌, ◌-◌, ◌≤◌, ◌<◌, max}
use mathlib.Core.Bool.{not}
use mathlib.Core.Path.{◌≡◌, sym, ap, ◌∙◌, subst}
use mathlib.Core.Logic.{◌↔◌}
use mathlib.Core.List.{List, [], ◌++◌}
use lib.Dec.{T}
use lib.ListN.{length, get_or, take, drop}
use Rattle.lists.specs.Lists.{sum_of, below}
use Rattle.lists.specs.Places.{largest_of}
use Rattle.lists.specs.Words.{bit_at}
use Rattle.fields.specs.Fields.{are_bytes}
use Rattle.tally.specs.declared.Tally.{Tally}
use Rattle.tally.specs.Sums.{tallied}
use Rattle.net.specs.declared.Letter.{Letter}
use Rattle.net.specs.declared.Net.{Net}
use Rattle.net.specs.Network.{Network, link_numbers}
use Rattle.net.specs.Values.{network_of}
use Rattle.sheet.specs.Sheet.{write_sheet}
use Rattle.sheet.specs.Values as SheetValues
use Rattle.letters.specs.Letters.{write_letter}
use Rattle.letters.specs.Values.{letters_of}
use Rattle.reach.specs.Reach.{works_in, Reaches}
use Rattle.station.specs.Holding.{counter, is_live}
use Rattle.station.proofs.Doing.{own}
use Rattle.world.specs.World.{World, Event, holding_at, refusal, next, after, well_formed, fresh, notices_of, report_at}
use Rattle.world.specs.History.{run, ever_settled, ever_sent, ever_delivered, ever_lost}
use Rattle.world.proofs.Steps.{Why, step_refuses}
use Rattle.world.proofs.Keeps.{step_keeps, run_well}
use Rattle.world.proofs.Ledger as Ledger
use Rattle.world.proofs.Reports as Reports
use Rattle.state.specs.declared.State.{State}
use Rattle.state.specs.State.{world_of, Ends64, Sized}
use Rattle.step_rules.specs.Step.{refusing}
use Rattle.step_rules.proofs.Bridge.{Good}
use Rattle.step_rules.specs.Counting.{tallied_by}
use Rattle.reach.specs.declared.Reached.{Reached}
use Rattle.report.specs.declared.Refusal.{Refusal}
use Rattle.report.specs.Asking.{number_in}
use Rattle.report.specs.Answers.{asked_in, no_reach}
use Rattle.report.proofs.WordShown.{PathTo, WordShown}
use Rattle.report.proofs.Shown.{Shown}
use Rattle.step_counted.proofs.Runs.{LentCalls, tally_is_history}
use Rattle.laws.specs.Flood.{only_notices, carried, highest, neighbours, share, bound}
use Rattle.laws.specs.Tallied.{ever_counted}
use Rattle.laws.proofs.Demand3 as Flood
use Rattle.laws.proofs.Neighbours.{neighbours_count}
use Rattle.tally.proofs.Sums.{Fits}
use Rattle.laws.proofs.Joined as Joined
use Rattle.laws.proofs.Joined.{Calls, Comes}
use Rattle.laws.proofs.Cases as Cases
use Rattle.demands.specs.Given.{Lawful, GoodNet, BadNet}
use Rattle.demands.specs.Calls.{ReadsSheet, WritesSheet, ReadsLetter, WritesLetter, Begins}
use Rattle.demands.specs.Calls.{Steps, StepsCounted, AsksReach, AsksReport}
use Rattle.demands.specs.Counted.{Counted}
use Rattle.demands.specs.SheetReasons as Sheet
use Rattle.demands.specs.SheetReasons.{SheetRead, SheetWritten}
use Rattle.demands.specs.LetterReasons as Letters
use Rattle.demands.specs.LetterReasons.{GoodLetter, LetterRead, LetterWritten, letters_number}
use Rattle.demands.specs.StateReasons.{BadState, GoodState, Fresh, Step, Reach, Report}
use Rattle.demands.proofs.Sheets.{sheet_numbers, refused_none}
use Rattle.demands.proofs.Letters.{letter_numbers_lem}
use Rattle.demands.proofs.Written as Written
use Rattle.demands.proofs.States as States
use Rattle.demands.proofs.Exact as Exact
use Rattle.demands.proofs.Exact.{Ruled, ruled, FreshState, fresh_state, report_after_any}
use Rattle.demands.proofs.Runs as Runs
use Rattle.demands.proofs.Runs.{IsRun, Moment, accepted_of, said}
use Rattle.demands.proofs.ManyEvents as Many
pub use Rattle.demands.proofs.Answers.{OneAnswer, one_answer}
pub use Rattle.demands.proofs.Examples.{Examples, examples}

-- DEMAND 1. "Every sheet, letter, event and state that reaches a public call is answered, never trusted. A refusal has its number from
-- the list, and the state and the lent buffers keep their contents."
pub record Demand1 : Type 0 where
  -- A sheet read has the number n exactly if document 01's list gives n for its bytes: 1, 2, 3, 4, 5 field by field, else 0.
  pub sheet_read : (bytes : List ℕ) → T (are_bytes bytes) → (c : ReadsSheet bytes) (n : ℕ)
      → (SheetValues.number_of c.answer ≡ n) ↔ SheetRead bytes n
  -- A sheet refused gives no network: the answer holds none, whatever it is; and the value that stands for none in the definitions is zero
  -- throughout, which every call refuses with 11.
  pub sheet_refused : (bytes : List ℕ) → T (are_bytes bytes) → (c : ReadsSheet bytes) → (SheetValues.number_of c.answer ≡ 0 → ⊥)
      → ((net : Net) → c.answer ≡ Ok net → ⊥)
      × (SheetValues.net_in c.answer ≡ SheetValues.zero_net) × BadNet (SheetValues.net_in c.answer)
  -- A sheet written: 11 for a network that breaks the sheet rules or has unused room not zero, 10 for a short output, else 0.
  pub sheet_written : (net : Net) (old : List ℕ) (c : WritesSheet net old) (n : ℕ)
      → (Sheet.wrote_number c.answer ≡ n) ↔ SheetWritten net old n
  -- The lent output is as it was where the writing is refused.
  pub sheet_output : (net : Net) (old : List ℕ) (c : WritesSheet net old) → (Sheet.wrote_number c.answer ≡ 0 → ⊥) → c.output ≡ old
  -- A letter read: 11 before all else, then 1, 2, 3 by its field, then 2 for bytes after it, else 0.
  pub letter_read : (net : Net) (bytes : List ℕ) → T (are_bytes bytes) → (c : ReadsLetter net bytes) (n : ℕ)
      → (letters_number (letters_of c.answer) ≡ n) ↔ LetterRead net bytes n
  -- A letter written: 11, 3 for a value outside its range, 10 for a short output, else 0.
  pub letter_written : (net : Net) (x : Letter) (old : List ℕ) (c : WritesLetter net x old) (n : ℕ)
      → (Letters.wrote_number c.answer ≡ n) ↔ LetterWritten net x old n
  -- The lent output is as it was where the writing is refused.
  pub letter_output : (net : Net) (x : Letter) (old : List ℕ) (c : WritesLetter net x old) → (Letters.wrote_number c.answer ≡ 0 → ⊥)
      → c.output ≡ old
  -- The fresh state: 11 for a bad network, else 0; and a bad network gives no state that a call would take.
  pub fresh_number : (net : Net) (c : Begins net) (n : ℕ) → (c.answer.answer ≡ n) ↔ Fresh net n
  pub fresh_refused : (net : Net) (c : Begins net) → (c.answer.answer ≡ 0 → ⊥) → BadState c.answer.state
  -- The step, for every state and event: 11, 6, 7, 8, 9 for their reasons, in this order, else 0.
  pub step_number : (s : State) (e : Event) (c : Steps s e) (n : ℕ) → (c.answer.answer ≡ n) ↔ Step s e n
  -- A refused step hands back exactly the state that it was given, and counts nothing.
  pub step_refused : (s : State) (e : Event) (c : Steps s e) → (c.answer.answer ≡ 0 → ⊥) → c.answer ≡ refusing c.answer.answer s
  -- The step that is lent a tally has the same numbers; refused, it leaves state and tally as they were.
  pub counted_number : (before : Tally) (s : State) (e : Event) (c : StepsCounted before s e) (n : ℕ) → (c.answer.answer ≡ n) ↔ Step s e n
  pub counted_refused : (before : Tally) (s : State) (e : Event) (c : StepsCounted before s e) → (c.answer.answer ≡ 0 → ⊥)
      → (c.answer ≡ refusing c.answer.answer s) × (c.tally ≡ before)
  -- The same of the two calls over many events.
  pub many_events : Many.Demand1
  -- The reach: 11, 6, 7, else 0; a refusal's answer holds no reach. It is given a copy of the state and is lent nothing.
  pub reach_number : (s : State) (a : ℕ) (c : AsksReach s a) (n : ℕ) → ((asked_in c.answer).answer ≡ n) ↔ Reach s a n
  pub reach_refused : (s : State) (a : ℕ) (c : AsksReach s a) → ((asked_in c.answer).answer ≡ 0 → ⊥)
      → ((r : Reached) → c.answer ≡ Ok r → ⊥) × ((asked_in c.answer).reached ≡ no_reach)
  -- The report, which is given a copy of the state too: 11, 6, 7, 10, else 0; a refusal touches no byte of the lent output.
  pub report_number : (s : State) (a : ℕ) (old : List ℕ) (c : AsksReport s a old) (n : ℕ) → (number_in c.answer ≡ n) ↔ Report s a old n
  pub report_refused : (s : State) (a : ℕ) (old : List ℕ) (c : AsksReport s a old) → (number_in c.answer ≡ 0 → ⊥) → c.output ≡ old
  -- In the rules themselves, for every world, well formed or not: 6, 7, 8, 9 for their reasons, and a refused event changes nothing.
  pub rules_number : (w : World) (e : Event) (n : ℕ) → (refusal w e ≡ n) ↔ Why w e n
  pub rules_refused : (w : World) (e : Event) → (refusal w e ≡ 0 → ⊥) → next w e ≡ w

pub demand1 : Demand1
demand1 =
    record {
      sheet_read = λ bytes b c. sheet_numbers bytes b c.answer c.promise;
      sheet_refused = λ bytes b c h.
          let none = refused_none bytes b c.answer c.promise h in (λ net e. h (ap SheetValues.number_of e), none.0, none.1);
      sheet_written = λ net old c. Written.sheet_write_numbers net old c.answer c.promise;
      sheet_output = λ net old c. Written.sheet_write_keeps net old c.answer c.promise c.output c.promise_output;
      letter_read = λ net bytes b c. letter_numbers_lem net bytes b c.answer c.promise;
      letter_written = λ net x old c. Written.letter_write_numbers net x old c.answer c.promise;
      letter_output = λ net x old c. Written.letter_write_keeps net x old c.answer c.promise c.output c.promise_output;
      fresh_number = λ net c. States.fresh_numbers net c.answer c.promise;
      fresh_refused = λ net c. States.fresh_none net c.answer c.promise;
      step_number = λ s e c. States.step_numbers s e.kind e.a e.b c.answer c.promise;
      step_refused = λ s e c. States.step_keeps s e.kind e.a e.b c.answer c.promise;
      counted_number = λ t s e c. States.step_numbers s e.kind e.a e.b c.answer c.promise;
      counted_refused = λ t s e c h. (
        States.step_keeps s e.kind e.a e.b c.answer c.promise h,
        States.tally_keeps s e.kind e.a e.b c.answer c.promise t c.tally c.promise_tally h,
      );
      many_events = Many.demand1;
      reach_number = λ s a c. States.reach_numbers s a (asked_in c.answer) c.promise;
      reach_refused = λ s a c h. (
        λ r e. h (ap (λ (q : Result Reached Refusal). (asked_in q).answer) e),
        States.reach_none s a (asked_in c.answer) c.promise h,
      );
      report_number = λ s a old c. States.report_numbers s a old (number_in c.answer) c.promise;
      report_refused = λ s a old c. States.report_keeps s a old (number_in c.answer) c.promise c.output c.promise_output;
      rules_number = λ w e n. States.rules_numbers w e n;
      rules_refused = step_refuses;
    }

-- DEMAND 2. "Each step is exactly the rules of our document 01, made from the published token form of Distributed Network Reachability. A
-- station is shown as working exactly if a path of links with even counters leads to it in the asker's own table. Sheets and letters
-- are written and read back to the same meaning, and each meaning has one writing."
pub record Demand2 : Type 0 where
  -- Each step is exactly the rules, for every state: one that isn't well formed is answered by 11 and handed back as it is; for any
  -- other the number, the state after it and the three counts are those of document 01's step of the world that the state means.
  pub step_exact : (s : State) → Sized s → (e : Event) (c : Steps s e) → Ruled s e c.answer
  -- The step that is lent a tally answers as the step does,
  pub counted_is_step : (before : Tally) (s : State) (e : Event) (c : StepsCounted before s e) (d : Steps s e) → c.answer ≡ d.answer
  pub counted_exact : (before : Tally) (s : State) → Sized s → (e : Event) (c : StepsCounted before s e) → Ruled s e c.answer
  -- and what an accepted one counts is added to the tally.
  pub tally_exact : (before : Tally) (s : State) (e : Event) (c : StepsCounted before s e) → c.tally ≡ tallied_by c.answer before
  -- The two calls over many events are the calls of the step one by one.
  pub many_events : Many.Demand2
  -- What a well-formed state means leaves nothing open: two that mean the same world are the same state.
  pub state_determined : (s t : State) → Good s → Good t → world_of s ≡ world_of t → s ≡ t
  -- The fresh state of a good network: well formed, every station down and no letter in flight.
  pub fresh_exact : (net : Net) → GoodNet net → Ends64 net → (c : Begins net) → FreshState net c.answer.state
  -- A station is shown as working (1) exactly if a path of links with even counters leads to it in the asker's own table: of the bytes
  -- in the lent output,
  pub shown_working : (s : State) (a : ℕ) (old : List ℕ) (c : AsksReport s a old) → number_in c.answer ≡ 0 → (t : ℕ) → t < s.net.stations
      → (get_or c.output t 0 ≡ 1) ↔ PathTo s a t
  -- with 0 for every other station, each link's byte as document 01 says, and the output's old tail;
  pub shown_all : (s : State) (a : ℕ) (old : List ℕ) (c : AsksReport s a old) → number_in c.answer ≡ 0 → Shown s a old c.output
  -- of the bits of the reach word,
  pub reach_working : (s : State) (a : ℕ) (c : AsksReach s a) (r : Reached) → c.answer ≡ Ok r → (t : ℕ)
      → (bit_at r.word t ≡ 1) ↔ PathTo s a t
  -- together with how many of them are set and the lowest station not reached, or 255;
  pub reach_all : (s : State) (a : ℕ) (c : AsksReach s a) (r : Reached) → c.answer ≡ Ok r → WordShown s a r
  -- so that the two calls never differ.
  pub same_bits : (s : State) (a : ℕ) (old : List ℕ) (c : AsksReport s a old) (d : AsksReach s a) → number_in c.answer ≡ 0 → (t : ℕ)
      → t < s.net.stations
      → get_or c.output t 0 ≡ bit_at (asked_in d.answer).reached.word t
  -- "Every event is now to be one step, with the report read from the table it leaves": whatever the state, a report made after a step
  -- shows station i what its own table says after that very event.
  pub report_after_step : (s : State) → Sized s
      → (e : Event) (c : Steps s e) (i : ℕ) (old : List ℕ) (d : AsksReport c.answer.state i old)
      → number_in d.answer ≡ 0 → (t : ℕ) → t < s.net.stations
      → (get_or d.output t 0 ≡ 1) ↔ Reaches (network_of s.net) (works_in (holding_at (next (world_of s) e) i).table) i t
  -- A sheet that is taken gives a good network, and its bytes are that network's sheet.
  pub sheet_taken : (bytes : List ℕ) → T (are_bytes bytes) → (c : ReadsSheet bytes) (net : Net) → c.answer ≡ Ok net
      → GoodNet net × (bytes ≡ write_sheet (network_of net))
  -- A sheet that was written in n bytes: the first n bytes of the output are the network's sheet, they are read back to the very
  -- network, and a longer output keeps its tail.
  pub sheet_bytes_lem : (net : Net) (old : List ℕ) (c : WritesSheet net old) (n : ℕ) → c.answer ≡ Ok n
      → take n c.output ≡ write_sheet (network_of net)
  pub sheet_back : (net : Net) → Ends64 net → (old : List ℕ) (c : WritesSheet net old) (n : ℕ) → c.answer ≡ Ok n
      → (d : ReadsSheet (take n c.output)) → d.answer ≡ Ok net
  pub sheet_tail : (net : Net) (old : List ℕ) (c : WritesSheet net old) (n : ℕ) → c.answer ≡ Ok n
      → drop n c.output ≡ drop n old
  -- Each network has one writing: sheets that are taken and mean the same are the same bytes.
  pub sheet_once : (xs ys : List ℕ) → T (are_bytes xs) → T (are_bytes ys) → (c : ReadsSheet xs) (d : ReadsSheet ys)
      → (net other : Net) → c.answer ≡ Ok net → d.answer ≡ Ok other → network_of net ≡ network_of other → xs ≡ ys
  -- The same for a letter, read and written against a network.
  pub letter_taken : (net : Net) (bytes : List ℕ) → T (are_bytes bytes) → (c : ReadsLetter net bytes) (x : Letter)
      → c.answer ≡ Ok x
      → GoodLetter net x × (bytes ≡ write_letter (network_of net) x)
  pub letter_bytes_lem : (net : Net) (x : Letter) (old : List ℕ) (c : WritesLetter net x old) (n : ℕ) → c.answer ≡ Ok n
      → take n c.output ≡ write_letter (network_of net) x
  pub letter_back : (net : Net) (x : Letter) (old : List ℕ) (c : WritesLetter net x old) (n : ℕ) → c.answer ≡ Ok n
      → (d : ReadsLetter net (take n c.output)) → d.answer ≡ Ok x
  pub letter_tail : (net : Net) (x : Letter) (old : List ℕ) (c : WritesLetter net x old) (n : ℕ) → c.answer ≡ Ok n
      → drop n c.output ≡ drop n old
  pub letter_once : (net : Net) (xs ys : List ℕ) → T (are_bytes xs) → T (are_bytes ys)
      → (c : ReadsLetter net xs) (d : ReadsLetter net ys) (x : Letter)
      → c.answer ≡ Ok x → d.answer ≡ Ok x → xs ≡ ys
  -- In the rules themselves, for every world: a station's number in the report is 1 exactly if a path leads to it.
  pub rules_shown : (w : World) (s t : ℕ) → t < w.net.stations
      → (get_or (report_at w s) t 0 ≡ 1) ↔ Reaches w.net (works_in (holding_at w s).table) s t

-- a reach that is answered
reach_shown : (s : State) (a : ℕ) (c : AsksReach s a) (r : Reached) → c.answer ≡ Ok r → WordShown s a r
reach_shown s a c r p =
    subst (λ (x : Result Reached Refusal). WordShown s a (asked_in x).reached) p
    (Exact.reach_shows s a (asked_in c.answer) c.promise (ap (λ (x : Result Reached Refusal). (asked_in x).answer) p))

pub demand2 : Demand2
demand2 =
    record {
      step_exact = λ s z e c. ruled s z e.kind e.a e.b c.answer c.promise;
      counted_is_step = λ t s e c d. c.promise ∙ sym d.promise;
      counted_exact = λ t s z e c. ruled s z e.kind e.a e.b c.answer c.promise;
      tally_exact = λ t s e c. c.promise_tally ∙ ap (λ r. tallied_by r t) (sym c.promise);
      many_events = Many.demand2;
      state_determined = Joined.determined;
      fresh_exact = λ net g d c. fresh_state net g d c.answer c.promise;
      shown_working = λ s a old c q. (Exact.report_shows s a old (number_in c.answer) c.output c.promise c.promise_output q).working;
      shown_all = λ s a old c. Exact.report_shows s a old (number_in c.answer) c.output c.promise c.promise_output;
      reach_working = λ s a c r q. (reach_shown s a c r q).bits;
      reach_all = reach_shown;
      same_bits = λ s a old c d.
          Exact.bits_same s a old (number_in c.answer) c.output c.promise c.promise_output (asked_in d.answer) d.promise;
      report_after_step = λ s z e c i old d q.
          report_after_any s e.kind e.a e.b c.answer c.promise z i old d.output (sym d.promise ∙ q)
          d.promise_output;
      sheet_taken = λ bytes a c net p. Written.sheet_taken bytes a net (said bytes c net p);
      sheet_bytes_lem = λ net old c. Written.sheet_bytes_lem net old c.answer c.promise c.output c.promise_output;
      sheet_back = λ net z old c n b d.
          Written.sheet_back net old c.answer c.promise c.output c.promise_output n b z d.answer d.promise;
      sheet_tail = λ net old c. Written.sheet_tail net old c.answer c.promise c.output c.promise_output;
      sheet_once = λ xs ys a b c d net other p q. Written.sheet_once xs ys a b net other (said xs c net p) (said ys d other q);
      letter_taken = λ net bytes a c x p. Written.letter_taken net bytes a x (sym (ap letters_of p) ∙ c.promise);
      letter_bytes_lem = λ net x old c. Written.letter_bytes_lem net x old c.answer c.promise c.output c.promise_output;
      letter_back = λ net x old c n b d.
          Written.letter_back net x old c.answer c.promise c.output c.promise_output n b d.answer d.promise;
      letter_tail = λ net x old c. Written.letter_tail net x old c.answer c.promise c.output c.promise_output;
      letter_once = λ net xs ys a b c d x p q.
          Written.letter_once net xs ys a b x (sym (ap letters_of p) ∙ c.promise) (sym (ap letters_of q) ∙ d.promise);
      rules_shown = Reports.shown_working;
    }

-- DEMAND 3. "A flood of notices dies out. Take any well-formed state and any run made only of accepted deliveries and losses of notices,
-- with no other event in it. The notices settled in it are never more than those in flight at its start, plus, for each live station,
-- the number of its neighbours less one, times the sum over all links of how far its counter lies below the highest one for that link in
-- any table or notice in flight at the start. A live station without neighbours adds nothing. No counter falls in such a run or passes
-- that highest one."
pub record Demand3 : Type 0 where
  -- THE BOUND. The notices in flight, plus what each station adds:
  pub bound_is : (w : World) → bound w ≡ notices_of w.letters + sum_of (share w) (below w.net.stations)
  -- a live one the number of its neighbours less one, times the sum over all links of how far its counter lies below the highest one for
  -- that link (a difference below 0 counts as 0: "less one" of no neighbour),
  pub live_adds : (w : World) (s : ℕ) → T (is_live (holding_at w s).condition)
      → share w s ≡ (length (neighbours w.net s) - 1) * sum_of (λ k. highest w k - counter (holding_at w s) k) (link_numbers w.net)
  -- a live station without neighbours nothing,
  pub alone_adds_nothing : (w : World) (s : ℕ) → T (is_live (holding_at w s).condition) → neighbours w.net s ≡ [] → share w s ≡ 0
  -- and one that isn't live nothing.
  pub others_add_nothing : (w : World) (s : ℕ) → T (not (is_live (holding_at w s).condition)) → share w s ≡ 0
  -- The highest one for the link k is the largest in any table, of every station, or in any notice of k in flight.
  pub highest_is : (w : World) (k : ℕ)
      → let tables = largest_of (λ s. counter (holding_at w s) k) (below w.net.stations) in
      let notices = largest_of (λ x. carried k x.body) w.letters in
      highest w k ≡ max tables notices
  -- Neighbours are counted as stations: those that some link joins to s. By the sheet rules they are as many as its own links.
  pub neighbours_counted : (net : Network) → Lawful net → (s : ℕ) → length (neighbours net s) ≡ length (own net s)
  -- A RUN OF CALLS of the step, from any well-formed state, made only of accepted deliveries and losses of notices. What is claimed
  -- holds at every moment of it: after its first events ds, however many, it has come to a state t, and the calls so far have counted m.
  pub every_moment : {s u : State} {n : Tally} (ds fs : List Event) (r : Calls s (ds ++ fs) n u) → Moment r ds
  -- The notices settled are never more than the bound.
  pub settled_bounded : {s u t : State} {es ds : List Event} {n m : Tally} → Good s → T (only_notices (world_of s) es)
      → (r : Calls s es n u) → Comes r ds m t → m.settled ≤ bound (world_of s)
  -- No counter falls, from any moment of the run to any later one,
  pub no_counter_falls : {s u t v : State} {es : List Event} {n m k : Tally} (ds fs : List Event) → Good s → T (only_notices (world_of s) es)
      → (r : Calls s es n u) → Comes r ds m t → Comes r (ds ++ fs) k v
      → (i j : ℕ) → counter (holding_at (world_of t) i) j ≤ counter (holding_at (world_of v) i) j
  -- or passes the highest one for its link at the start.
  pub none_passes : {s u t : State} {es ds : List Event} {n m : Tally} → Good s → T (only_notices (world_of s) es)
      → (r : Calls s es n u) → Comes r ds m t
      → (i j : ℕ) → i < (world_of s).net.stations → counter (holding_at (world_of t) i) j ≤ highest (world_of s) j
  -- The settled numbers that the calls answer, added up, are the count over the event history: none is made up. Each event of such a
  -- run settles one notice, so the bound is one on the events too: the flood dies out.
  pub settled_is_history : {s u : State} {es : List Event} {n : Tally} → Good s → Calls s es n u → n.settled ≡ ever_settled (world_of s) es
  pub each_settles_one : (w : World) (es : List Event) → T (only_notices w es) → ever_settled w es ≡ length es
  -- A RUN OF CALLS that are all lent a tally is, in its states, such a run of calls, and what it adds to the tally's settled count stays
  -- within the bound. A call that is refused may be left out of it.
  pub lent_is_run : {s u : State} {x y : Tally} {es : List Event} → LentCalls s x es u y → IsRun s es u
  pub lent_bounded : {s u : State} {x y : Tally} {es : List Event} → Good s → Fits x → T (only_notices (world_of s) es) → LentCalls s x es u y
      → y.settled ≤ x.settled + bound (world_of s)
  pub lent_accepted : {s u : State} {x y : Tally} {es : List Event} → Good s → LentCalls s x es u y
      → LentCalls s x (accepted_of (world_of s) es) u y
  -- THE TWO CALLS OVER MANY EVENTS are such runs, and keep within the bound.
  pub many_events : Many.Demand3
  -- IN THE RULES THEMSELVES: the same of every history from a well-formed world, at every moment of it; every beginning of a run made
  -- only of notices is one, and so is what follows it.
  pub rules_die_out : (w : World) (es : List Event) → T (well_formed w) → T (only_notices w es) → Flood.DiesOut w es
  pub beginnings : (w : World) (ds fs : List Event) → T (only_notices w (ds ++ fs)) → T (only_notices w ds)
  pub endings : (w : World) (ds fs : List Event) → T (only_notices w (ds ++ fs)) → T (only_notices (run w ds) fs)
  -- No smaller bound would do: on the line 0-1-2 of document 01's P13 it is met.
  pub bound_is_met : ever_settled Cases.flooded Cases.flood ≡ bound Cases.flooded

pub demand3 : Demand3
demand3 =
    record {
      bound_is = Runs.bound_is;
      live_adds = Runs.share_live;
      alone_adds_nothing = Flood.alone_adds_nothing;
      others_add_nothing = Runs.share_other;
      highest_is = Runs.highest_is;
      neighbours_counted = neighbours_count;
      every_moment = Runs.every_moment;
      settled_bounded = λ g o r p. (Joined.flood_dies_out g o r).settled p;
      no_counter_falls = λ ds fs g o r. (Joined.flood_dies_out g o r).no_counter_falls ds fs;
      none_passes = λ g o r p. (Joined.flood_dies_out g o r).none_passes p;
      settled_is_history = Joined.settled_is_history;
      each_settles_one = Flood.settled_is_length;
      lent_is_run = Runs.lent_is_run;
      lent_bounded = Runs.lent_settled;
      lent_accepted = Runs.lent_accepted;
      many_events = Many.demand3;
      rules_die_out = Flood.flood_of_notices_dies_out;
      beginnings = Flood.begins_only;
      endings = Flood.follows_only;
      bound_is_met = Cases.bound_is_met;
    }

-- THE COUNTS, and well-formedness for ever. Document 01: "The tally of settled notices, raised counters and dropped letters is one small
-- record which the program lends to each call to be added to." "Each accepted step keeps this." "In any run from a freshly read sheet,
-- letters ever sent, counted from the events, equal those delivered, lost and in flight."
pub record Counts : Type 0 where
  -- What an accepted call counts: the notice that it takes off the list, how many counters it leaves higher than before, over all
  -- stations and links, and the letter that it drops. A refused one counts nothing (Demand1, step-refused).
  pub step_counts : (s : State) → Sized s → GoodState s → (e : Event) (c : Steps s e) → c.answer.answer ≡ 0 → Counted s e c.answer
  pub counted_counts : (before : Tally) (s : State) → Sized s → GoodState s
      → (e : Event) (c : StepsCounted before s e) → c.answer.answer ≡ 0 → Counted s e c.answer
  -- The settled, raised and dropped numbers that the calls of a run answer, added up, are the counts over its event history.
  pub counts_are_history : {s u : State} {es : List Event} {n : Tally} → Good s → Calls s es n u → n ≡ ever_counted (world_of s) es
  -- The tally that the calls of a run are lent is then the one before with these three counts added, "each stays at its largest value once
  -- there" (`Fits`: three counts of 64 bits, as its type says).
  pub tally_is_history : {s u : State} {x y : Tally} {es : List Event} → Good s → Fits x → LentCalls s x es u y
      → y ≡ tallied x (ever_counted (world_of s) es)
  -- So too the tally lent to a call over many events; and the state that it hands back is well formed.
  pub many_events : Many.Counts
  -- The state at the end of a run means the world that the rules leave after its events.
  pub runs_mean : {s u : State} {es : List Event} {n : Tally} → Good s → Calls s es n u → world_of u ≡ run (world_of s) es
  -- Every state that a run of calls hands back is well formed, at its end and on its way, from a well-formed one and from a freshly
  -- read sheet.
  pub well_for_ever : {s u : State} {es : List Event} {n : Tally} → Good s → Calls s es n u → Good u
  pub well_on_the_way : {s u t : State} {es ds : List Event} {n m : Tally} {r : Calls s es n u} → Good s → Comes r ds m t → Good t
  pub well_from_sheet : (bytes : List ℕ) → T (are_bytes bytes) → (c : ReadsSheet bytes) (net : Net) → c.answer ≡ Ok net
      → (b : Begins net) {u : State} {es : List Event} {n : Tally} → Calls b.answer.state es n u → Good u
  -- From a freshly read sheet, letters ever sent, counted from the events, equal those delivered, lost and in flight in the state that
  -- the run hands back.
  pub letters_conserved : (bytes : List ℕ) → T (are_bytes bytes) → (c : ReadsSheet bytes) (net : Net) → c.answer ≡ Ok net
      → (b : Begins net) {u : State} {es : List Event} {n : Tally} → Calls b.answer.state es n u
      → let w = fresh (network_of net) in ever_sent w es ≡ ever_delivered w es + ever_lost w es + length (world_of u).letters
  -- In the rules themselves: an accepted step keeps well-formedness, every history from a lawful network's fresh world does, and in it
  -- letters are conserved.
  pub rules_keep : (w : World) (e : Event) → T (well_formed w) → refusal w e ≡ 0 → T (well_formed (after w e))
  pub rules_for_ever : (net : Network) (es : List Event) → Lawful net → T (well_formed (run (fresh net) es))
  pub rules_conserve : (net : Network) (es : List Event)
      → ever_sent (fresh net) es ≡ ever_delivered (fresh net) es + ever_lost (fresh net) es + length (run (fresh net) es).letters

pub counts : Counts
counts =
    record {
      step_counts = λ s z g e c q. Runs.counted s e c.answer ((demand2.step_exact s z e c).by_rules g) q;
      counted_counts = λ t s z g e c q. Runs.counted s e c.answer ((demand2.counted_exact t s z e c).by_rules g) q;
      counts_are_history = Joined.counts_are_history;
      tally_is_history = tally_is_history;
      many_events = Many.counts;
      runs_mean = Joined.calls_mean;
      well_for_ever = Joined.well_for_ever;
      well_on_the_way = Joined.well_on_the_way;
      well_from_sheet = λ bytes a c net p b r. Runs.well_from_sheet bytes a c net p b r;
      letters_conserved = λ bytes a c net p b r. Runs.letters_conserved bytes a c net p b r;
      rules_keep = step_keeps;
      rules_for_ever = run_well;
      rules_conserve = Ledger.letters_conserved;
    }
