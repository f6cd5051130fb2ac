-- What the private steps of the code answer.
use Rattle.std.specs.Prelude.{ℕ, Bool, true, ◌&&◌, ◌||◌, Option, None, Some, eqb, ltb, if◌then◌else◌}
use Prim.Native.Nat.{zero, suc}
use lib.ListN.{get_or}
use Rattle.net.specs.declared.Net.{Net}

-- the ends of the link before place k, if there is one
abbrev pub before_at : Net → ℕ → Option (ℕ × ℕ)
before_at net zero = None
before_at net (suc k) = Some (get_or net.low k 0, get_or net.high k 0)

-- ends that come after those of the link before, if there is one
abbrev pub rises : Option (ℕ × ℕ) → ℕ → ℕ → Bool
rises None low high = true
rises (Some e) low high = ltb e.0 low || (eqb e.0 low && ltb e.1 high)

-- good ends that come after those of the link before
abbrev pub follows : ℕ → Option (ℕ × ℕ) → ℕ → ℕ → Bool
follows stations before low high = (ltb low high && ltb high stations) && rises before low high

-- place k of the room: a good link, or unused and zero
abbrev pub place_test : ℕ → ℕ → ℕ → Option (ℕ × ℕ) → ℕ → ℕ → Bool
place_test links stations k before low high =
    if ltb k links then follows stations before low high else (eqb low 0 && eqb high 0)
