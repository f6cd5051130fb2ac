-- The paper's number and values of the receiver's answer to a letter: the number, whether the letter is dropped, and what it does.
use Rattle.std.specs.Prelude.{ℕ, List, [], ◌∷◌}
use Rattle.station.specs.declared.Effect.{Effect}
use Rattle.station.specs.declared.Effect.TheVariants.{Defers, Answers, Heals, Levels, Equal, Takes}
use Rattle.station.specs.declared.Heard.{Heard}
use Rattle.station.specs.declared.Heard.TheVariants.{Gone, Nothing, Overflows, Does}

-- 0 a request put off, 1 one answered, 2 and the new counter a healing, 3 and the new counter a level, 4 an equal reply, 5 with subject
-- and counter a notice taken
abbrev pub effect_numbers : Effect → List ℕ
effect_numbers Defers = 0 ∷ []
effect_numbers Answers = 1 ∷ []
effect_numbers (Heals c) = 2 ∷ c ∷ []
effect_numbers (Levels c) = 3 ∷ c ∷ []
effect_numbers Equal = 4 ∷ []
effect_numbers (Takes j c) = 5 ∷ j ∷ c ∷ []

abbrev pub heard_numbers : Heard → List ℕ
heard_numbers Gone = 0 ∷ 1 ∷ []
heard_numbers Nothing = 0 ∷ 0 ∷ []
heard_numbers Overflows = 8 ∷ 0 ∷ []
heard_numbers (Does e) = 0 ∷ 0 ∷ effect_numbers e
