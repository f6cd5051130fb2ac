-- P1 to P13 of document 01, and its own sample run, as one table with a single claim: each row has its number, what was got and what
-- was wanted. From P6 on every world is the line 0-1-2 with link 0 between 0 and 1 and link 1 between 1 and 2. antt computes both
-- sides.
use Rattle.std.specs.Prelude.{if◌then◌else◌}
use Prim.Native.Nat.{ℕ, ◌+◌}
use mathlib.Core.Bool.{Bool, true, false}
use mathlib.Core.Path.{◌≡◌, refl, ap₂}
use mathlib.Core.List.{List, [], ◌∷◌, ◌++◌, map}
use lib.Dec.{T}
use lib.ListN.{length, replicate}
use Rattle.lists.specs.Words.{bit, word_of}
use Rattle.lists.specs.Places.{collect}
use Rattle.lists.specs.Lists.{below}
use Rattle.fields.specs.Fields.{first_field}
use Rattle.sheet.specs.Sheet.{Sheet, refused, sheet, opened, judged, read_links, read_sheet}
use Rattle.net.specs.declared.Body.{Body}
use Rattle.net.specs.declared.Body.TheVariants.{Request, Reply, Notice}
use Rattle.net.specs.declared.Letter.{Letter}
use Rattle.net.specs.Network.{Network}
use Rattle.sheet_rules.proofs.Examples.{line_of_three_lem}
use Rattle.net.specs.Letters.{letter_holds}
use Rattle.counters.specs.Counters.{healed, healing}
use Rattle.reach.specs.Reach.{spread, within, reach, purge, report}
use Rattle.reach.proofs.Cases.{Case}
use Rattle.station.specs.declared.Condition.TheVariants.{Live}
use Rattle.station.specs.Holding.{Holding, no_marks, set_token, set_testing, holding_holds}
use Rattle.station.specs.Done.{letter, known, done_by, own_links}
use Rattle.station.proofs.Doing.{answer}
use Rattle.station.specs.Events.{due_of}
use Rattle.station.proofs.Cases.{body_numbers, letter_numbers}
use Rattle.world.specs.World.{World, Event, holding_at, exists, concerned, rule, comes, done, left, after, fits, refusal, accepted, next}
use Rattle.world.specs.World.{well_formed, fresh, settled, ask_refusal, report_at, reach_at}
use Rattle.world.specs.History.{run, total, ever_settled}
use Rattle.laws.specs.Flood.{only_notices, highest, distance, share, bound}

-- ---- a sheet that is read: the answer, and for a good sheet the numbers of stations and links
shown : Sheet → List ℕ
shown (refused k) = k ∷ []
shown (sheet net) = 0 ∷ net.stations ∷ length net.links ∷ []

reads : List ℕ → List ℕ
unfolding shown first_field opened judged read_links read_sheet
reads bytes = shown (read_sheet bytes)

-- one field of stations, of a link, and the last
stations : ℕ → List ℕ
stations n = 1 ∷ 0 ∷ 1 ∷ n ∷ []

link : ℕ → ℕ → List ℕ
link a b = 2 ∷ 0 ∷ 2 ∷ a ∷ b ∷ []

last : List ℕ
last = 15 ∷ 0 ∷ 0 ∷ []

line : Network
line = record { stations = 3; links = record { low = 0; high = 1 } ∷ record { low = 1; high = 2 } ∷ [] }

-- live, with these two counters, testing on link 0 or not
live : Bool → ℕ → ℕ → Holding
live tests a b = record { condition = Live; table = a ∷ b ∷ []; marks = set_testing tests no_marks ∷ no_marks ∷ [] }

event : ℕ → ℕ → ℕ → Event
event kind a b = record { kind = kind; a = a; b = b }

-- station 1 as given, the others live with counters 1
middle : Holding → List Letter → World
unfolding line live
middle h xs = record { net = line; holdings = live false 1 1 ∷ h ∷ live false 1 1 ∷ []; letters = xs }

-- ---- what is looked at, as numbers
-- 1 if the world before is well formed; the answer; the counters of station 1 after the event; then the letters in flight, each
-- as link, sender, tag and what it carries
seen : World → Event → List ℕ
unfolding well_formed holding_holds letter_holds refusal exists concerned rule comes done due_of left after fits answer done_by healed
    healing own_links known purge reach within spread letter_numbers body_numbers
seen w e = bit (well_formed w) ∷ refusal w e ∷ ((holding_at (next w e) 1).table ++ letter_numbers (next w e).letters)

-- station 1 times out on link 0, on which it tests
times_out : ℕ → ℕ → List ℕ
unfolding middle live seen event
times_out a b = seen (middle (live true a b) []) (event 5 1 0)

-- station 1 gets this letter from station 0 on link 0, testing there or not
gets : Bool → ℕ → ℕ → Body → List ℕ
unfolding middle live seen event
gets tests a b x = seen (middle (live tests a b) (letter 0 0 x ∷ [])) (event 7 0 0)

-- station 0, with these two counters, is asked: the answer, then the report, or the reach as word, ones and lowest not reached
asked : ℕ → ℕ → World
unfolding line live
asked a b = record { net = line; holdings = live false a b ∷ live false 1 1 ∷ live false 1 1 ∷ []; letters = [] }

reports : ℕ → ℕ → List ℕ
unfolding asked line live ask_refusal report_at report reach within spread
reports a b = ask_refusal (asked a b) 0 ∷ report_at (asked a b) 0

reaches : ℕ → ℕ → List ℕ
unfolding asked line live ask_refusal reach_at reach within spread word_of
reaches a b = ask_refusal (asked a b) 0 ∷ (reach_at (asked a b) 0).word ∷ (reach_at (asked a b) 0).ones ∷ (reach_at (asked a b) 0).lowest ∷ []

-- P13's world, and the flood in it: the one notice is delivered, then the one that station 1 passes on
pub flooded : World
unfolding line live
flooded =
    record { net = line; holdings = live false 2 1 ∷ live false 1 1 ∷ live false 1 1 ∷ []; letters = letter 0 0 (Notice 0 2) ∷ [] }

pub flood : List Event
unfolding event
flood = event 7 0 0 ∷ event 7 0 0 ∷ []

-- 1 if well formed; 1 if the run is made only of notices; the bound; how many are settled; letters in flight at the end; then
-- every table at the end
floods : List ℕ
unfolding flooded flood line live event well_formed holding_holds letter_holds refusal exists concerned rule comes done due_of left after
    fits answer done_by own_links run total only_notices highest distance share bound
floods =
    bit (well_formed flooded) ∷ bit (only_notices flooded flood) ∷ bound flooded ∷ ever_settled flooded flood ∷ length
    (run flooded flood).letters
    ∷ collect (λ s. (holding_at (run flooded flood) s).table) (below 3)

-- ---- document 01's own run: for each event the answer, letters in flight, notices settled so far; at the end each station's
-- number and counters
lines : ℕ → World → List Event → List ℕ
unfolding refusal exists concerned rule comes done due_of left after fits done_by answer healed healing
    own_links known purge reach within spread
lines n w [] = collect (λ s. s ∷ (holding_at w s).table) (below w.net.stations)
lines n w (e ∷ es) =
    let m = n + (if accepted w e then settled w e else 0) in
    refusal w e ∷ length (next w e).letters ∷ m ∷ lines m (next w e) es

sample_run : List ℕ
unfolding lines event fresh done_by
sample_run =
    lines 0 (fresh (record { stations = 2; links = record { low = 0; high = 1 } ∷ [] }))
    (event 1 0 0 ∷ event 1 1 0 ∷ event 3 0 0 ∷ event 3 1 0 ∷ event 7 0 0 ∷ event 7 0 0 ∷ event 7 0 0 ∷ event 7 0 0 ∷ event 7 0 0 ∷ [])

-- ---- the table; 0 is the sample run
reading : List Case
unfolding reads stations link last sample_run
reading =
    record {
      number = 0;
      got = sample_run;
      want =
          (0 ∷ 0 ∷ 0 ∷ []) ++ (0 ∷ 0 ∷ 0 ∷ []) ++ (0 ∷ 1 ∷ 0 ∷ []) ++ (0 ∷ 2 ∷ 0 ∷ []) ++ (0 ∷ 1 ∷ 0 ∷ []) ++ (0 ∷ 1 ∷ 0 ∷ []) ++ (0 ∷ 1 ∷
          0 ∷ [])
          ++ (0 ∷ 0 ∷ 1 ∷ []) ++ (6 ∷ 0 ∷ 1 ∷ []) ++ (0 ∷ 2 ∷ []) ++ (1 ∷ 2 ∷ []);
    }
    -- P1 the sheet of 01 gives 2 stations, 1 link
    ∷ record { number = 1; got = reads (stations 2 ++ link 0 1 ++ last); want = 0 ∷ 2 ∷ 1 ∷ [] }
    -- P2 empty bytes: 1
    ∷ record { number = 2; got = reads []; want = 1 ∷ [] }
    -- P3 link 1,1: 3
    ∷ record { number = 3; got = reads (stations 2 ++ link 1 1 ++ last); want = 3 ∷ [] }
    -- P4 the same link twice: 4
    ∷ record { number = 4; got = reads (stations 2 ++ link 0 1 ++ link 0 1 ++ last); want = 4 ∷ [] }
    -- P5 32 stations taken, 33: 3
    ∷ record { number = 5; got = reads (stations 32 ++ last); want = 0 ∷ 32 ∷ 0 ∷ [] }
    ∷ record { number = 5; got = reads (stations 33 ++ last); want = 3 ∷ [] }
    ∷ []

standing : List Case
unfolding times_out gets reports reaches floods
standing =
    -- P6 timeout at counter 2: 3, told on the other link; at 3: stays 3
    record { number = 6; got = times_out 2 4; want = 1 ∷ 0 ∷ 3 ∷ 4 ∷ (1 ∷ 1 ∷ 35 ∷ 0 ∷ 3 ∷ []) }
    ∷ record { number = 6; got = times_out 3 4; want = 1 ∷ 0 ∷ 3 ∷ 4 ∷ [] }
    -- P7 reply own 7, carried 1: 8, everything above 1 sent
    ∷ record {
      number = 7;
      got = gets true 7 4 (Reply 1);
      want =
          (1 ∷ 0 ∷ 8 ∷ 4 ∷ []) ++ (0 ∷ 1 ∷ 35 ∷ 0 ∷ 8 ∷ []) ++ (1 ∷ 1 ∷ 35 ∷ 0 ∷ 8 ∷ []) ++ (0 ∷ 1 ∷ 35 ∷ 1 ∷ 4 ∷ []) ++ (1 ∷ 1 ∷ 35 ∷ 1 ∷
          4 ∷ []);
    }
    -- P8 own 6, carried 8: 8, this link alone sent
    ∷ record {
      number = 8;
      got = gets true 6 4 (Reply 8);
      want = (1 ∷ 0 ∷ 8 ∷ 4 ∷ []) ++ (0 ∷ 1 ∷ 35 ∷ 0 ∷ 8 ∷ []) ++ (1 ∷ 1 ∷ 35 ∷ 0 ∷ 8 ∷ []);
    }
    -- P9 own 65,533, carried 1: 65,534; own 65,535: refusal 8, and the reply is still there
    ∷ record {
      number = 9;
      got = gets true 65533 1 (Reply 1);
      want = (1 ∷ 0 ∷ 65534 ∷ 1 ∷ []) ++ (0 ∷ 1 ∷ 35 ∷ 0 ∷ 65534 ∷ []) ++ (1 ∷ 1 ∷ 35 ∷ 0 ∷ 65534 ∷ []);
    }
    ∷ record { number = 9; got = gets true 65535 1 (Reply 1); want = 1 ∷ 8 ∷ 65535 ∷ 1 ∷ (0 ∷ 0 ∷ 34 ∷ 1 ∷ []) }
    -- P10 notice equal to the own counter: nothing sent
    ∷ record { number = 10; got = gets false 2 4 (Notice 0 2); want = 1 ∷ 0 ∷ 2 ∷ 4 ∷ [] }
    -- P11 seen from 0, link 0 even, link 1 odd: station 1 working, 2 unreachable, link 1 unresponsive
    ∷ record { number = 11; got = reports 2 1; want = 0 ∷ (1 ∷ 1 ∷ 0 ∷ []) ++ (1 ∷ 2 ∷ []) }
    ∷ record { number = 11; got = reaches 2 1; want = 0 ∷ 3 ∷ 2 ∷ 2 ∷ [] }
    -- P12 link 0 odd, link 1 even: link 0 unresponsive, link 1 perceived unreachable
    ∷ record { number = 12; got = reports 1 2; want = 0 ∷ (1 ∷ 0 ∷ 0 ∷ []) ++ (2 ∷ 0 ∷ []) }
    ∷ record { number = 12; got = reaches 1 2; want = 0 ∷ 1 ∷ 1 ∷ 1 ∷ [] }
    -- P13 bound 2, and 2 are settled
    ∷ record { number = 13; got = floods; want = (1 ∷ 1 ∷ []) ++ (2 ∷ 2 ∷ 0 ∷ []) ++ (2 ∷ 1 ∷ []) ++ (2 ∷ 1 ∷ []) ++ (2 ∷ 1 ∷ []) }
    ∷ []

pub table : List Case
unfolding reading standing
table = reading ++ standing

reading_hold : map (λ c. c.got) reading ≡ map (λ c. c.want) reading
unfolding reading
reading_hold = refl

standing_hold : map (λ c. c.got) standing ≡ map (λ c. c.want) standing
unfolding standing
standing_hold = rw line_of_three_lem refl

-- the single claim
pub cases_hold : map (λ c. c.got) table ≡ map (λ c. c.want) table
unfolding table
cases_hold = ap₂ ◌++◌ reading_hold standing_hold

-- ---- P13 as equations: the bound is met with equality, so no smaller one would be true
pub flooded_formed : T (well_formed flooded)
unfolding flooded line live well_formed holding_holds letter_holds
flooded_formed = rw line_of_three_lem tt

pub flood_only_notices : T (only_notices flooded flood)
unfolding flooded flood line live event refusal exists concerned rule comes done due_of left after fits answer done_by own_links only_notices
flood_only_notices = tt

pub bound_is_met : ever_settled flooded flood ≡ bound flooded
unfolding flooded flood line live event refusal exists concerned rule comes done due_of left after fits answer done_by own_links total
    highest distance share bound
bound_is_met = refl

-- ---- the edge of 9: with 4,095 letters in flight a request may still be sent, with 4,096 no more
crowded : ℕ → World
unfolding line live
crowded n =
    record {
      net = line;
      holdings = live false 1 1 ∷ record
          { condition = Live; table = 1 ∷ 1 ∷ []; marks = set_token true no_marks ∷ no_marks ∷ [] } ∷ live false 1 1 ∷ [];
      letters = replicate n
          (letter 0 0 Request);
    }

pub edge : ℕ → List ℕ
unfolding crowded line live event well_formed holding_holds letter_holds refusal exists concerned rule comes done due_of left after fits done_by
edge n = bit (well_formed (crowded n)) ∷ refusal (crowded n) (event 4 1 0) ∷ length (next (crowded n) (event 4 1 0)).letters ∷ []

pub edge_of_letters : (edge 4095 ++ edge 4096 ++ edge 4097) ≡ ((1 ∷ 0 ∷ 4096 ∷ []) ++ (1 ∷ 9 ∷ 4096 ∷ []) ++ (0 ∷ 9 ∷ 4097 ∷ []))
unfolding edge
edge_of_letters = rw line_of_three_lem refl
