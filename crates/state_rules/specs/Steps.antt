-- What the private steps of the code answer.
use Rattle.std.specs.Prelude.{ℕ, Bool, true, ◌&&◌, ◌||◌, eqb, if◌then◌else◌}
use Rattle.lists.specs.Lists.{every, below}
use Rattle.net.specs.Letters.{is_counter}
use Rattle.net.specs.Values.{is_zero}
use Rattle.net.specs.Sizes.{link_room}
use Rattle.marks.specs.declared.Marks.{Marks}
use Rattle.station.specs.declared.Condition.{Condition}
use Rattle.station.specs.declared.Condition.TheVariants.{Down, Waiting, Live}
use Rattle.station.specs.Holding.{implies, together, is_off, is_token_alone}

-- the test passes at each of the 64 places
unfoldable pub every_place : (ℕ → Bool) → Bool
every_place p = every p (below link_room)

-- a place of the counters: 1 at a station that isn't live; 0 where there is no link
abbrev pub counter_test : Bool → Bool → ℕ → Bool
counter_test there live c = if there then (is_counter c && (live || eqb c 1)) else is_zero c

-- a mark other than token
abbrev pub beside_token : Marks → Bool
beside_token m = (m.turn || m.testing) || (m.asked || m.quiet)

-- the marks of one link, by the station's condition and whether the link is an own one
abbrev pub condition_marks : Condition → Bool → Marks → Bool
condition_marks Down own m = is_off m
condition_marks Waiting own m = implies own (is_token_alone m)
condition_marks Live own m = true

abbrev pub marks_test : Condition → Bool → Marks → Bool
marks_test x own m = (together m && (own || is_off m)) && condition_marks x own m
