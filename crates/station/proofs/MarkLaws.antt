-- One link's marks after an interval, by the test that the code asks first.
use Rattle.std.specs.Prelude.{if◌then◌else◌}
use mathlib.Core.Bool.{Bool, true, false}
use mathlib.Core.Path.{◌≡◌, sym, ap, ◌∙◌}
use Rattle.marks.specs.declared.Marks.{Marks}
use Rattle.station.specs.Holding.{set_token, set_turn, set_testing}
use Rattle.station.specs.Acts.{interval_marks}

-- a choice by two tests
chosen : (a b : Bool) (x y z : Marks) → a ≡ false → b ≡ true → y ≡ (if a then x else (if b then y else z))
chosen a b x y z p q = ap (λ (c : Bool). if c then y else z) (sym q) ∙ ap (λ (c : Bool). if c then x else (if b then y else z)) (sym p)

left_over : (a b : Bool) (x y z : Marks) → a ≡ false → b ≡ false → z ≡ (if a then x else (if b then y else z))
left_over a b x y z p q = ap (λ (c : Bool). if c then y else z) (sym q) ∙ ap (λ (c : Bool). if c then x else (if b then y else z)) (sym p)

pub interval_turn : (m : Marks) → m.token ≡ false → m.turn ≡ true → set_testing true (set_turn false m) ≡ interval_marks m
interval_turn m p q =
    chosen m.token m.turn (set_testing true (set_token false m)) (set_testing true (set_turn false m)) (set_turn true m) p q

pub interval_neither : (m : Marks) → m.token ≡ false → m.turn ≡ false → set_turn true m ≡ interval_marks m
interval_neither m p q =
    left_over m.token m.turn (set_testing true (set_token false m)) (set_testing true (set_turn false m)) (set_turn true m) p q
