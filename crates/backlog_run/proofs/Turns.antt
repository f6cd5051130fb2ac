-- What a turn of the loop does by a test of its own, where the step goes through a function: a table with no counter set, a sending that is
-- not narrowed, a table that is kept as it is told.
use Prim.Native.Nat.{ℕ}
use mathlib.Core.Bool.{Bool, false}
use mathlib.Core.Path.{◌≡◌, sym, ap, ap₂}
use mathlib.Core.List.{List}
use Rattle.net.specs.declared.Net.{Net}
use Rattle.station.specs.declared.Sending.{Sending}
use Rattle.station_plan.specs.Carrying.{told_by, kept_by, narrowed}

pub told_same : (sets : Bool) (at c : ℕ) (table : List ℕ) → sets ≡ false → table ≡ told_by sets at c table
told_same sets at c table e = sym (ap (λ (b : Bool). told_by b at c table) e)

pub sent_same : (knows : Bool) (n : ℕ) (table : List ℕ) (x : Sending) → knows ≡ false → x ≡ narrowed knows n table x
sent_same knows n table x e = sym (ap (λ (b : Bool). narrowed b n table x) e)

pub kept_same : (net : Net) (s : ℕ) (resets purges : Bool) (table : List ℕ) → resets ≡ false → purges ≡ false
    → table ≡ kept_by net s resets purges table
kept_same net s resets purges table e f = sym (ap₂ (λ (a b : Bool). kept_by net s a b table) e f)
