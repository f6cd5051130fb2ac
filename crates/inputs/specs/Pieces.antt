-- What a caller is handed of an input that is read a piece at a time: the pieces, one after the other, are what is gone of it.
use Rattle.std.specs.Prelude.{◌≡◌, ℕ, ◌-◌, ◌^◌, List, [], ◌∷◌, ◌++◌, length, take, Ok, OnOk}
use Rattle.std.specs.List.{FoldsTo}
use Rattle.std.specs.Io.KnownBytes.{Consumes}
use Rattle.std.specs.declared.result.Result.{Result}
use Rattle.std.specs.declared.option.Option.{Option}
use Rattle.std.specs.declared.ops.ControlFlow.{ControlFlow}
use Rattle.std.specs.declared.ops.ControlFlow.TheVariants.{Break}

abbrev pub Answer : Type 0 → Type 0
Answer E = Result (ControlFlow (Unit {0}) (Unit {0})) E

-- a turn: the bytes that were handed on, and what the caller said of them
pub record Turn (E : Type 0) : Type 0 where
  pub piece : List ℕ
  pub answer : Answer E

unfoldable pub bytes_of : {E : Type 0} → List (Turn E) → List ℕ
bytes_of [] = []
bytes_of (t ∷ turns) = t.piece ++ bytes_of turns

-- the last turn gave no byte, or the caller said that it is enough; or there were as many turns as are counted
pub data IsOver {E : Type 0} (turns : List (Turn E)) : Type 0 where
  ended : (before : List (Turn E)) (t : Turn E) → turns ≡ before ++ t ∷ [] → t.piece ≡ [] → IsOver turns
  told : (before : List (Turn E)) (t : Turn E) → turns ≡ before ++ t ∷ [] → t.answer ≡ Ok (Break tt) → IsOver turns
  counted : length turns ≡ 2 ^ 64 - 1 → IsOver turns

module _ {F E : Type 0} (step : F → ℕ → List ℕ → Answer E → List ℕ → F → Type 0) where
  -- a call in the state f: the piece stood at the room's front
  pub record Takes (f : F) (t : Turn E) (g : F) : Type 0 where
    pub count : ℕ
    pub room : List ℕ
    pub left : List ℕ
    pub front : t.piece ≡ take count room
    pub called : step f count room t.answer left g

  -- from the state f to the state g
  pub record HandsOn (f g : F) (old new : Option (List ℕ)) (result : Result (Unit {0}) E) : Type 0 where
    pub turns : List (Turn E)
    pub calls : FoldsTo Takes f turns g
    pub bytes : Consumes old new (bytes_of turns)
    pub over : OnOk result (IsOver turns)
