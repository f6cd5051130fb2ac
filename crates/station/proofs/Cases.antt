-- P6 to P10 of document 01 at one station, as one table. The middle station of a line 0-1-2 has the two links 0 and 1 for its
-- own, and tests link 0. antt computes both sides.
use Prim.Native.Nat.{ℕ}
use mathlib.Core.Bool.{Bool, true, false, ◌&&◌}
use mathlib.Core.Path.{◌≡◌, refl}
use mathlib.Core.List.{List, [], ◌∷◌, ◌++◌, map}
use Rattle.lists.specs.Words.{bit}
use Rattle.net.specs.declared.Body.{Body}
use Rattle.net.specs.declared.Body.TheVariants.{Request, Reply, Notice}
use Rattle.net.specs.declared.Letter.{Letter}
use Rattle.net.specs.Network.{Network}
use Rattle.net.specs.Letters.{letter_holds}
use Rattle.counters.specs.Counters.{healed, healing}
use Rattle.reach.specs.Reach.{purge, spread, within, reach}
use Rattle.reach.proofs.Cases.{Case}
use Rattle.sheet_rules.specs.Rules.{sheet_holds}
use Rattle.sheet_rules.proofs.Examples.{line_of_three_lem}
use Rattle.station.specs.declared.Condition.TheVariants.{Live}
use Rattle.station.specs.declared.Kind.TheVariants.{TimeoutEnd}
use Rattle.station.specs.Holding.{Holding, no_marks, counter, set_testing, holding_holds}
use Rattle.station.specs.Done.{Done, letter, known, done_by, own_links}
use Rattle.station.proofs.Doing.{answer, received}
use Rattle.station.specs.Events.{rule_at}
use Rattle.station.specs.Numbers.{heard_numbers}

line : Network
line = record { stations = 3; links = record { low = 0; high = 1 } ∷ record { low = 1; high = 2 } ∷ [] }

-- live, with these two counters, testing on link 0 or not
live : Bool → ℕ → ℕ → Holding
live tests a b = record { condition = Live; table = a ∷ b ∷ []; marks = set_testing tests no_marks ∷ no_marks ∷ [] }

-- ---- what is looked at, as numbers
-- the tag of document 01's bytes, and what the letter carries
unfoldable pub body_numbers : Body → List ℕ
body_numbers Request = 33 ∷ []
body_numbers (Reply c) = 34 ∷ c ∷ []
body_numbers (Notice j c) = 35 ∷ j ∷ c ∷ []

unfoldable pub letter_numbers : List Letter → List ℕ
unfolding body_numbers
letter_numbers [] = []
letter_numbers (x ∷ xs) = (x.link ∷ x.sender ∷ body_numbers x.body) ++ letter_numbers xs

-- the counter of link 0 after the act, then the letters sent, each as link, sender, tag and what it carries
seen : Done → List ℕ
unfolding letter_numbers
seen d = counter d.holding 0 ∷ letter_numbers d.sent

-- what stands at the station s before it is well formed, and so is the network
unfoldable pub stands : Network → ℕ → Holding → Bool
unfolding holding_holds
stands net s h = sheet_holds net && holding_holds net s h

-- a timeout on link 0: 1 if what stands before it is well formed and allows it
times_out : Holding → List ℕ
unfolding line seen stands done_by own_links purge
times_out h =
    let r = rule_at 1 TimeoutEnd 0 (letter 0 0 Request) h in
    bit (stands line 1 h && r.allowed) ∷ seen (done_by line 1 h r.act)

-- a letter from station 0 on link 0: the same, then the paper's number and whether the letter is dropped, and what it does
hears : Holding → Body → List ℕ
unfolding line seen stands letter_holds answer healed healing done_by own_links known purge
hears h b =
    bit (stands line 1 h && letter_holds line (letter 0 0 b)) ∷ heard_numbers (answer 1 (letter 0 0 b) h) ++ seen
    (received line 1 (letter 0 0 b) h)

pub table : List Case
unfolding live times_out hears
table =
    -- P6 timeout at counter 2: 3, told on the other link; at 3: stays 3
    record { number = 6; got = times_out (live true 2 4); want = 1 ∷ 3 ∷ 1 ∷ 1 ∷ 35 ∷ 0 ∷ 3 ∷ [] }
    ∷ record { number = 6; got = times_out (live true 3 4); want = 1 ∷ 3 ∷ [] }
    -- P7 reply own 7, carried 1: 8, a healing (2), and everything above 1 is sent on both links
    ∷ record {
      number = 7;
      got = hears (live true 7 4) (Reply 1);
      want =
          (1 ∷ 0 ∷ 0 ∷ 2 ∷ 8 ∷ 8 ∷ []) ++ (0 ∷ 1 ∷ 35 ∷ 0 ∷ 8 ∷ []) ++ (1 ∷ 1 ∷ 35 ∷ 0 ∷ 8 ∷ []) ++ (0 ∷ 1 ∷ 35 ∷ 1 ∷ 4 ∷ []) ++ (1 ∷ 1 ∷
          35 ∷ 1 ∷ 4 ∷ []);
    }
    -- P8 own 6, carried 8: 8, a level (3), and this link alone is sent
    ∷ record {
      number = 8;
      got = hears (live true 6 4) (Reply 8);
      want = (1 ∷ 0 ∷ 0 ∷ 3 ∷ 8 ∷ 8 ∷ []) ++ (0 ∷ 1 ∷ 35 ∷ 0 ∷ 8 ∷ []) ++ (1 ∷ 1 ∷ 35 ∷ 0 ∷ 8 ∷ []);
    }
    -- P9 own 65,533, carried 1: 65,534; own 65,535: refusal 8, and nothing happens
    ∷ record {
      number = 9;
      got = hears (live true 65533 1) (Reply 1);
      want = (1 ∷ 0 ∷ 0 ∷ 2 ∷ 65534 ∷ 65534 ∷ []) ++ (0 ∷ 1 ∷ 35 ∷ 0 ∷ 65534 ∷ []) ++ (1 ∷ 1 ∷ 35 ∷ 0 ∷ 65534 ∷ []);
    }
    ∷ record { number = 9; got = hears (live true 65535 1) (Reply 1); want = 1 ∷ 8 ∷ 0 ∷ 65535 ∷ [] }
    -- P10 notice equal to the own counter: nothing sent; one more: taken (5) and sent on
    ∷ record { number = 10; got = hears (live false 2 4) (Notice 0 2); want = 1 ∷ 0 ∷ 0 ∷ 2 ∷ [] }
    ∷ record {
      number = 10;
      got = hears (live false 2 4) (Notice 0 3);
      want = (1 ∷ 0 ∷ 0 ∷ 5 ∷ 0 ∷ 3 ∷ 3 ∷ []) ++ (1 ∷ 1 ∷ 35 ∷ 0 ∷ 3 ∷ []);
    }
    ∷ []

-- the single claim
pub cases_hold : map (λ c. c.got) table ≡ map (λ c. c.want) table
unfolding table reach within spread
cases_hold = rw line_of_three_lem refl
