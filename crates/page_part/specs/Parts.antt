-- A station's part of the page as the code writes it, by the reach's number: the numbers that say no are those of the reach.
use Rattle.std.specs.Prelude.{ℕ, Bool, ◌||◌, List, eqb, if◌then◌else◌}
use Rattle.net.specs.declared.Net.{Net}
use Rattle.net.specs.Values.{network_of}
use Rattle.fields.specs.Output.{Writing, denied, with_room}
use Rattle.page_part.specs.Texts.{still_text, live_text}

-- a station is there: live (0) or not (7)
abbrev pub is_there : ℕ → Bool
is_there number = eqb number 0 || eqb number 7

abbrev pub part_text : ℕ → Net → ℕ → ℕ → ℕ → Bool → List ℕ → List ℕ
part_text number net s ones lowest waiting report =
    if eqb number 0 then live_text (network_of net) s ones lowest report else still_text s waiting

-- no part is longer
abbrev pub part_most : ℕ
part_most = 4096

-- refusals in their order: 11, 6, 10
abbrev pub part_writing : ℕ → List ℕ → List ℕ → Writing
part_writing number text old = if is_there number then with_room part_most text old else denied number
