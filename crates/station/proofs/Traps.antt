-- Document 01's traps at one station, and what the P cases do not tell apart: for each a case in which the wrong rule would give
-- another answer. Station 1 of a line 0-1-2-3 has the links 0 and 1 for its own; link 2 lies behind link 1. antt computes both
-- sides.
use Prim.Native.Nat.{ℕ, ◌+◌, ◌*◌}
use mathlib.Core.Bool.{true, ◌&&◌}
use mathlib.Core.Path.{◌≡◌, refl}
use mathlib.Core.List.{List, [], ◌∷◌, ◌++◌, map}
use Rattle.lists.specs.Words.{bit}
use Rattle.net.specs.declared.Body.TheVariants.{Request, Reply, Notice}
use Rattle.net.specs.declared.Letter.{Letter}
use Rattle.net.specs.Network.{Network}
use Rattle.sheet_rules.proofs.Examples.{line_of_four_lem}
use Rattle.net.specs.Letters.{letter_holds}
use Rattle.counters.specs.Counters.{healed, healing}
use Rattle.reach.specs.Reach.{purge, spread, within, reach}
use Rattle.marks.specs.declared.Marks.{Marks}
use Rattle.station.specs.declared.Condition.{Condition}
use Rattle.station.specs.declared.Condition.TheVariants.{Down, Waiting, Live}
use Rattle.station.specs.declared.Kind.{Kind}
use Rattle.station.specs.declared.Kind.TheVariants.{Start, Stop, Recovery, IntervalEnd, TimeoutEnd, QuietEnd, Delivery}
use Rattle.station.specs.Holding.{Holding, no_marks, set_token, set_turn, set_testing, set_quiet}
use Rattle.station.specs.Done.{Done, letter, known, done_by, own_links}
use Rattle.station.proofs.Doing.{answer, received}
use Rattle.station.specs.Events.{rule_at}
use Rattle.station.proofs.Cases.{body_numbers, letter_numbers, stands}

pub record Trap : Type 0 where
  pub got : List (List ℕ)
  pub want : List (List ℕ)

line : Network
line = record { stations = 4; links = record { low = 0; high = 1 } ∷ record { low = 1; high = 2 } ∷ record { low = 2; high = 3 } ∷ [] }

-- live, with these three counters and the marks of its two own links
live : ℕ → ℕ → ℕ → Marks → Marks → Holding
live a b c m n = record { condition = Live; table = a ∷ b ∷ c ∷ []; marks = m ∷ n ∷ no_marks ∷ [] }

-- token 1, turn 2, testing 4, asked 8, quiet 16
marks_number : Marks → ℕ
marks_number m = bit m.token + 2 * bit m.turn + 4 * bit m.testing + 8 * bit m.asked + 16 * bit m.quiet

-- the counters, the marks, and the letters as in Cases
seen : Done → List (List ℕ)
unfolding marks_number body_numbers letter_numbers
seen d = d.holding.table ∷ map marks_number d.holding.marks ∷ letter_numbers d.sent ∷ []

-- first: what stands before it is well formed and allows it
times_out : ℕ → Holding → List (List ℕ)
unfolding line seen stands done_by own_links purge
times_out k h =
    let r = rule_at 1 TimeoutEnd k (letter 0 0 Request) h in
    (bit (stands line 1 h && r.allowed) ∷ []) ∷ seen (done_by line 1 h r.act)

-- an event that takes no letter, with the condition after it: 0 down, 1 waiting, 2 live
condition_number : Condition → ℕ
condition_number Down = 0
condition_number Waiting = 1
condition_number Live = 2

does : Kind → ℕ → Holding → List (List ℕ)
unfolding line seen stands condition_number done_by own_links known purge
does e k h =
    let r = rule_at 1 e k (letter 0 0 Request) h in
    (bit (stands line 1 h && r.allowed) ∷ condition_number (done_by line 1 h r.act).holding.condition ∷ []) ∷ seen
    (done_by line 1 h r.act)

-- every counter 1, with the marks of its own links
quietly : Condition → Marks → Holding
quietly x m = record { condition = x; table = 1 ∷ 1 ∷ 1 ∷ []; marks = m ∷ m ∷ no_marks ∷ [] }

hears : Holding → Letter → List (List ℕ)
unfolding line seen stands letter_holds answer healed healing done_by own_links known purge
hears h x = (bit (stands line 1 h && letter_holds line x) ∷ []) ∷ seen (received line 1 x h)

-- what a letter that is delivered adds to the tally: settled, raised, dropped
tallies : Holding → Letter → List (List ℕ)
unfolding line stands letter_holds healing healed
tallies h x =
    let t = (rule_at 1 Delivery 0 x h).counts in
    (bit (stands line 1 h && letter_holds line x) ∷ []) ∷ (t.settled ∷ t.raised ∷ t.dropped ∷ []) ∷ []

testing : Marks
testing = set_testing true no_marks

pub traps : List Trap
unfolding live times_out hears testing does quietly tallies
traps =
    -- a start: waiting, token on each own link and on no other; a stop: down, no mark, counters 1
    record { got = does Start 0 (quietly Down no_marks); want = (1 ∷ 1 ∷ []) ∷ (1 ∷ 1 ∷ 1 ∷ []) ∷ (1 ∷ 1 ∷ 0 ∷ []) ∷ [] ∷ [] }
    ∷ record {
      got = does Stop 0 (live 2 2 4 testing (set_quiet true no_marks));
      want = (1 ∷ 0 ∷ []) ∷ (1 ∷ 1 ∷ 1 ∷ []) ∷ (0 ∷ 0 ∷ 0 ∷ []) ∷
          [] ∷ [];
    }
    -- the recovery wait ends: live, and a test begins on each own link
    ∷ record {
      got = does Recovery 0 (quietly Waiting (set_token true no_marks));
      want = (1 ∷ 2 ∷ []) ∷ (1 ∷ 1 ∷ 1 ∷ []) ∷ (4 ∷ 4 ∷ 0 ∷ []) ∷
          (0 ∷ 1 ∷ 33 ∷ 1 ∷ 1 ∷ 33 ∷ []) ∷ [];
    }
    -- an interval ends: with token or turn a test begins, with neither turn comes on, and only on that link
    ∷ record {
      got = does IntervalEnd 1 (live 2 2 4 no_marks (set_token true no_marks));
      want = (1 ∷ 2 ∷ []) ∷ (2 ∷ 2 ∷ 4 ∷ []) ∷
          (0 ∷ 4 ∷ 0 ∷ []) ∷ (1 ∷ 1 ∷ 33 ∷ []) ∷ [];
    }
    ∷ record {
      got = does IntervalEnd 1 (live 2 2 4 no_marks (set_turn true no_marks));
      want = (1 ∷ 2 ∷ []) ∷ (2 ∷ 2 ∷ 4 ∷ []) ∷
          (0 ∷ 4 ∷ 0 ∷ []) ∷ (1 ∷ 1 ∷ 33 ∷ []) ∷ [];
    }
    ∷ record { got = does IntervalEnd 1 (live 2 2 4 no_marks no_marks); want = (1 ∷ 2 ∷ []) ∷ (2 ∷ 2 ∷ 4 ∷ []) ∷ (0 ∷ 2 ∷ 0 ∷ []) ∷ [] ∷ [] }
    -- quiet ends: that mark alone
    ∷ record {
      got = does QuietEnd 1 (live 2 2 4 testing (set_quiet true no_marks));
      want = (1 ∷ 2 ∷ []) ∷ (2 ∷ 2 ∷ 4 ∷ []) ∷
          (4 ∷ 0 ∷ 0 ∷ []) ∷ [] ∷ [];
    }
    -- a timeout is told on no quiet link
    ∷ record {
      got = times_out 1 (live 2 2 4 (set_quiet true no_marks) testing);
      want = (1 ∷ []) ∷ (2 ∷ 3 ∷ 1 ∷ []) ∷ (16 ∷ 16 ∷ 0 ∷ []) ∷ [] ∷
          [];
    }
    -- a timeout purges, with the raised counter: behind the link that is odd now, link 2 gets 1
    ∷ record {
      got = times_out 1 (live 2 2 4 no_marks testing);
      want = (1 ∷ []) ∷ (2 ∷ 3 ∷ 1 ∷ []) ∷ (0 ∷ 16 ∷ 0 ∷ []) ∷
          (0 ∷ 1 ∷ 35 ∷ 1 ∷ 3 ∷ []) ∷ [];
    }
    -- a reply purges with the healed counter: link 2 is behind a working link now and stays
    ∷ record {
      got = hears (live 1 3 4 (set_quiet true no_marks) testing) (letter 2 1 (Reply 1));
      want = (1 ∷ []) ∷ (1 ∷ 4 ∷ 4 ∷ []) ∷ (16 ∷ 0 ∷ 0 ∷ []) ∷ ((1 ∷ 1 ∷ 35 ∷ 1 ∷ 4 ∷ []) ++ (1 ∷ 1 ∷ 35 ∷ 2 ∷ 4 ∷ [])) ∷ [];
    }
    -- it tells before the purge: link 2 gets 1, and its old counter is told
    ∷ record {
      got = hears (live 3 5 4 testing (set_quiet true no_marks)) (letter 0 0 (Reply 2));
      want =
          (1 ∷ []) ∷ (4 ∷ 5 ∷ 1 ∷ []) ∷ (0 ∷ 16 ∷ 0 ∷ []) ∷
          ((0 ∷ 1 ∷ 35 ∷ 0 ∷ 4 ∷ []) ++ (0 ∷ 1 ∷ 35 ∷ 1 ∷ 5 ∷ []) ++ (0 ∷ 1 ∷ 35 ∷ 2 ∷ 4 ∷ [])) ∷ [];
    }
    -- the tester raises from the larger counter: own 3, carried 7, so 8
    ∷ record {
      got = hears (live 3 1 1 testing (set_quiet true no_marks)) (letter 0 0 (Reply 7));
      want = (1 ∷ []) ∷ (8 ∷ 1 ∷ 1 ∷ []) ∷ (0 ∷ 16 ∷ 0 ∷ []) ∷ (0 ∷ 1 ∷ 35 ∷ 0 ∷ 8 ∷ []) ∷ [];
    }
    -- of two testers the higher-numbered only marks that it was asked
    ∷ record {
      got = hears (live 2 2 1 testing no_marks) (letter 0 0 Request);
      want = (1 ∷ []) ∷ (2 ∷ 2 ∷ 1 ∷ []) ∷ (12 ∷ 0 ∷ 0 ∷ []) ∷ [] ∷
          [];
    }
    -- the lower-numbered answers, with the counter of the link that the request came on
    ∷ record {
      got = hears (live 4 2 1 no_marks testing) (letter 2 1 Request);
      want = (1 ∷ []) ∷ (4 ∷ 2 ∷ 1 ∷ []) ∷ (0 ∷ 1 ∷ 0 ∷ []) ∷
          (1 ∷ 1 ∷ 34 ∷ 2 ∷ []) ∷ [];
    }
    -- turn goes off when a token is got; where the counter is odd the other known links are told before the reply
    ∷ record {
      got = hears (live 3 2 4 (set_turn true no_marks) no_marks) (letter 0 0 Request);
      want =
          (1 ∷ []) ∷ (3 ∷ 2 ∷ 4 ∷ []) ∷ (1 ∷ 0 ∷ 0 ∷ []) ∷
          ((0 ∷ 1 ∷ 35 ∷ 1 ∷ 2 ∷ []) ++ (0 ∷ 1 ∷ 35 ∷ 2 ∷ 4 ∷ []) ++ (0 ∷ 1 ∷ 34 ∷ 3 ∷ [])) ∷ [];
    }
    -- a notice goes on, and not back where it came from; no purge, though link 2 lies behind an odd link now
    ∷ record {
      got = hears (live 2 2 4 no_marks no_marks) (letter 0 0 (Notice 1 3));
      want = (1 ∷ []) ∷ (2 ∷ 3 ∷ 4 ∷ []) ∷ (0 ∷ 0 ∷ 0 ∷ []) ∷
          (1 ∷ 1 ∷ 35 ∷ 1 ∷ 3 ∷ []) ∷ [];
    }
    -- nor on a quiet link
    ∷ record {
      got = hears (live 2 2 4 no_marks (set_quiet true no_marks)) (letter 0 0 (Notice 2 5));
      want = (1 ∷ []) ∷ (2 ∷ 2 ∷ 5 ∷ []) ∷
          (0 ∷ 16 ∷ 0 ∷ []) ∷ [] ∷ [];
    }
    -- and a letter that comes on a quiet link is gone
    ∷ record {
      got = hears (live 2 2 4 (set_quiet true no_marks) no_marks) (letter 0 0 (Notice 2 5));
      want = (1 ∷ []) ∷ (2 ∷ 2 ∷ 4 ∷ []) ∷
          (16 ∷ 0 ∷ 0 ∷ []) ∷ [] ∷ [];
    }
    -- a notice that is taken off is settled, and nothing else is; what is taken raises one counter; what is not heard is dropped
    ∷ record { got = tallies (live 2 2 4 no_marks no_marks) (letter 0 0 (Notice 1 3)); want = (1 ∷ []) ∷ (1 ∷ 1 ∷ 0 ∷ []) ∷ [] }
    ∷ record { got = tallies (live 2 2 4 no_marks no_marks) (letter 0 0 Request); want = (1 ∷ []) ∷ (0 ∷ 0 ∷ 0 ∷ []) ∷ [] }
    ∷ record { got = tallies (live 3 2 4 testing no_marks) (letter 0 0 (Reply 2)); want = (1 ∷ []) ∷ (0 ∷ 1 ∷ 0 ∷ []) ∷ [] }
    ∷ record {
      got = tallies (live 2 2 4 (set_quiet true no_marks) no_marks) (letter 0 0 (Notice 2 5));
      want = (1 ∷ []) ∷ (1 ∷ 0 ∷ 1 ∷ []) ∷ [];
    }
    ∷ []

pub traps_hold : map (λ c. c.got) traps ≡ map (λ c. c.want) traps
unfolding traps reach within spread
traps_hold = rw line_of_four_lem refl
