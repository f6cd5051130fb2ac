-- P11 and P12 of document 01: a line 0-1-2 seen from station 0. antt computes both sides.
use Prim.Native.Nat.{ℕ}
use mathlib.Core.Path.{◌≡◌, refl}
use mathlib.Core.List.{List, [], ◌∷◌, ◌++◌, map}
use Rattle.net.specs.Network.{Network}
use Rattle.reach.specs.Reach.{works_in, spread, within, reach, report}

pub record Case : Type 0 where
  pub number : ℕ
  pub got : List ℕ
  pub want : List ℕ

line : Network
line = record { stations = 3; links = record { low = 0; high = 1 } ∷ record { low = 1; high = 2 } ∷ [] }

-- the stations 0, 1, 2 (0 unreachable, 1 working), then the links 0, 1 (0 perceived unreachable, 1 working, 2 unresponsive)
pub table : List Case
unfolding line report
table =
    record { number = 11; got = report line (works_in (2 ∷ 1 ∷ [])) 0; want = (1 ∷ 1 ∷ 0 ∷ []) ++ (1 ∷ 2 ∷ []) }
    ∷ record { number = 12; got = report line (works_in (1 ∷ 2 ∷ [])) 0; want = (1 ∷ 0 ∷ 0 ∷ []) ++ (2 ∷ 0 ∷ []) }
    ∷ []

pub cases_hold : map (λ c. c.got) table ≡ map (λ c. c.want) table
unfolding table reach within spread
cases_hold = refl
