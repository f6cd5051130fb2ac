-- The networks that other rooms' cases are played on keep the sheet rules.
use mathlib.Core.Bool.{true}
use mathlib.Core.Path.{◌≡◌, refl}
use mathlib.Core.List.{[], ◌∷◌}
use Rattle.net.specs.Network.{Network}
use Rattle.sheet_rules.specs.Rules.{sheet_holds}

-- the line 0-1-2
abbrev pub line_of_three : Network
line_of_three = record { stations = 3; links = record { low = 0; high = 1 } ∷ record { low = 1; high = 2 } ∷ [] }

pub line_of_three_lem : sheet_holds line_of_three ≡ true
unfolding sheet_holds
line_of_three_lem = refl

-- the line 0-1-2-3
abbrev pub line_of_four : Network
line_of_four =
    record { stations = 4; links = record { low = 0; high = 1 } ∷ record { low = 1; high = 2 } ∷ record { low = 2; high = 3 } ∷ [] }

pub line_of_four_lem : sheet_holds line_of_four ≡ true
unfolding sheet_holds
line_of_four_lem = refl
