-- The bound is met with equality: three stations in a line, of which the middle one passes on a notice to the last.
-- So no smaller bound would be true.
use Rattle.std.specs.Prelude.{if◌then◌else◌}
use Prim.Native.Nat.{ℕ, ◌≤◌, ◌<◌}
use mathlib.Core.Bool.{◌&&◌}
use mathlib.Core.Path.{◌≡◌, refl, ap, subst⁻¹}
use mathlib.Core.Logic.{inr}
use mathlib.Core.List.Memᴰ
use mathlib.Core.List.{List, [], ◌∷◌}
use native.Mathlib.Decide.{ℕ_discrete}
use native.Mathlib.Nat.{le_refl}
use native.Mathlib.Omega.{arith}
use borrow.Author.Tests.{ne_eqb}
use lib.Dec.{eqb, eqb_refl}
use lib.ListN.{length}
use Rattle.lists.proofs.Tests.{and_no, T_is}
use Rattle.ranks.specs.Flood.{Notice, Flood, Site, ◌∈◌, Taken, Run, none, more}
use Rattle.ranks.specs.Bound.{highest, distance, share, potential, bound}

-- a table with the rank r for the link k at the station s
abbrev put : ℕ → ℕ → ℕ → (ℕ → ℕ → ℕ) → ℕ → ℕ → ℕ
put s k r table t j = if eqb t s && eqb j k then r else table t j

put_others : (s k r : ℕ) (table : ℕ → ℕ → ℕ) (t j : ℕ) → ((t ≡ s) × (j ≡ k) → ⊥) → put s k r table t j ≡ table t j
put_others s k r table t j h = go (ℕ_discrete t s) (ℕ_discrete j k)
  where
    go : Dec (t ≡ s) → Dec (j ≡ k) → put s k r table t j ≡ table t j
    go (no p) q = simp (ne_eqb t s p)
    go (yes p) (no q) = simp (ne_eqb j k q, and_no (eqb t s))
    go (yes p) (yes q) = absurd (h (p, q))

-- 0 - 1 - 2, joined by the links 0 and 1: a weight is the number of neighbours less one
abbrev pub line : Site
line = record { stations = 3; links = 2; weight = λ s. if eqb s 1 then 1 else 0 }

-- of the link 0, with rank 2, over the link k from s to t
abbrev news : ℕ → ℕ → ℕ → Notice
news k s t = record { over = k; sender = s; receiver = t; subject = 0; rank = 2 }

abbrev ones : ℕ → ℕ → ℕ
ones s k = 1

-- station 0 has rank 2 for the link 0, everything else is 1, and the notice is on its way to station 1
abbrev pub start : Flood
start = record { rank = put 0 0 2 ones; flying = news 0 0 1 ∷ [] }

abbrev passed : Flood
passed = record { rank = put 1 0 2 (put 0 0 2 ones); flying = news 1 1 2 ∷ [] }

abbrev pub end : Flood
end = record { rank = put 2 0 2 (put 1 0 2 (put 0 0 2 ones)); flying = [] }

pub bound_is_two : bound line start ≡ 2
unfolding bound potential share distance highest
bound_is_two = refl

-- the only notice in flight is taken, and the copies are all that is in flight then
takes_it : (table : ℕ → ℕ → ℕ) (it : Notice) (copies : List Notice) → it.receiver < 3 → it.subject < 2
    → table it.receiver it.subject < it.rank → length copies ≤ line.weight it.receiver
    → ((y : Notice) → y ∈ copies → (y.subject ≡ it.subject) × (y.rank ≡ it.rank))
    → Taken line (record { rank = table; flying = it ∷ [] })
    (record { rank = put it.receiver it.subject it.rank table; flying = copies })
takes_it table it copies station link newer few alike = record {
  before = [];
  it = it;
  after = [];
  copies = copies;
  was = refl;
  now = refl;
  station = station;
  link = link;
  newer = newer;
  takes =
      simp (
        T_is (eqb it.receiver it.receiver) (eqb_refl it.receiver),
        T_is (eqb it.subject it.subject)
            (eqb_refl it.subject),
      );
  others = put_others it.receiver it.subject it.rank table;
  few = few;
  alike = alike;
}

-- 1 takes it and passes it on to 2
first : Taken line start passed
first =
    takes_it start.rank (news 0 0 1) passed.flying (omega arith) (omega arith) (omega arith) (le_refl 1)
    (λ y m. let e = Memᴰ.eq_of_singleton m in (ap (λ (z : Notice). z.subject) e, ap (λ (z : Notice). z.rank) e))

-- 2 takes it, and has nobody to pass it on to
second : Taken line passed end
second = takes_it passed.rank (news 1 1 2) [] (omega arith) (omega arith) (omega arith) (le_refl 0) (λ y m. absurd (Memᴰ.not-nil m))

pub two_are_settled : Run line start 2 end
two_are_settled = more (inr first) (more (inr second) none)

-- as many as the bound allows
pub bound_is_met : Run line start (bound line start) end
bound_is_met = subst⁻¹ (λ (n : ℕ). Run line start n end) bound_is_two two_are_settled
