-- The line that answers an event: three numbers, with a byte stored behind each.
use Prim.Native.Nat.{ℕ, ◌+◌, ◌≤◌, ◌<◌, ◌^◌}
use mathlib.Core.Path.{◌≡◌}
use mathlib.Core.List.{List, [], ◌∷◌, ◌++◌, append_assoc}
use native.Mathlib.Omega.{arith}
use lib.ListN.{length, set, length-append}
use Rattle.text.specs.Text.{digits, place_after, put_at}
use Rattle.text.proofs.Chains.{Chain, chain_none, chain_next, chain_room, chain_stored}
use Rattle.console.specs.Outputs.{Put}
use Rattle.console.proofs.Puts.{count_digits, put_done, put_same}
use Rattle.event_program.specs.Events.{answer_text}

-- what stands there before each of these bytes, and the whole
abbrev pub first_part : ℕ → List ℕ
first_part answer = [] ++ digits answer

abbrev pub second_part : ℕ → ℕ → List ℕ
second_part answer flying = (first_part answer ++ (32 ∷ [])) ++ digits flying

abbrev pub third_part : ℕ → ℕ → ℕ → List ℕ
third_part answer flying settled = (second_part answer flying ++ (32 ∷ [])) ++ digits settled

abbrev pub answer_parts : ℕ → ℕ → ℕ → List ℕ
answer_parts answer flying settled = third_part answer flying settled ++ (10 ∷ [])

pub answer_whole : (answer flying settled : ℕ) → answer_parts answer flying settled ≡ answer_text answer flying settled
unfolding answer_text
answer_whole answer flying settled = simp append_assoc

pub answer_few : (answer flying settled : ℕ) → answer < 2 ^ 64 → flying < 2 ^ 64 → settled < 2 ^ 64
    → length (answer_parts answer flying settled) ≤ 63
answer_few answer flying settled a b c =
    simp length-append (omega (arith, count_digits answer a, count_digits flying b, count_digits settled c))

-- each of them has room for one byte more
pub record Roomy (answer flying settled at : ℕ) (old : List ℕ) : Type 0 where
  pub first : at + length (first_part answer) < length old
  pub second : at + length (second_part answer flying) < length old
  pub third : at + length (third_part answer flying settled) < length old

pub answer_room : (answer flying settled at : ℕ) (old : List ℕ) → length (answer_parts answer flying settled) ≤ 63 → at + 63 ≤ length old
    → Roomy answer flying settled at old
answer_room answer flying settled at old few room =
    let one = first_part answer in
    let two = second_part answer flying in
    let three = third_part answer flying settled in
    let third : at + length three < length old = omega (arith, length-append three (10 ∷ [])) in
    let second : at + length two < length old =
    omega (arith, length-append (two ++ (32 ∷ [])) (digits settled), length-append two (32 ∷ [])) in
    record {
      first = omega (arith, length-append (one ++ (32 ∷ [])) (digits flying), length-append one (32 ∷ []));
      second = second;
      third = third;
    }

-- ---- the line, number by number, each put behind the byte before it
module _ (answer flying settled at : ℕ) (old : List ℕ) (a64 : answer < 2 ^ 64) (f64 : flying < 2 ^ 64) (s64 : settled < 2 ^ 64)
    (h : at + 63 ≤ length old) where
  few : length (answer_parts answer flying settled) ≤ 63
  few = answer_few answer flying settled a64 f64 s64

  room : Roomy answer flying settled at old
  room = answer_room answer flying settled at old few h

  module _ (a : ℕ) (one : List ℕ) (here : a ≡ place_after (digits answer) at old) (put : one ≡ put_at (digits answer) at old) where
    first_put : Chain (first_part answer) at old a one
    first_put = chain_next (digits answer) (chain_none at old (omega arith)) (here, put)

    pub first_room : (a < length one) × (length one ≡ length old)
    first_room = (chain_room first_put room.first, first_put.size)

    module _ (c : ℕ) (two : List ℕ)
        (here₂ : c ≡ place_after (digits flying) (a + 1) (set one a 32)) (put₂ : two ≡ put_at (digits flying) (a + 1) (set one a 32)) where
      second_put : Chain (second_part answer flying) at old c two
      second_put = chain_next (digits flying) (chain_stored first_put room.first 32) (here₂, put₂)

      pub second_room : (c < length two) × (length two ≡ length old)
      second_room = (chain_room second_put room.second, second_put.size)

      module _ (e : ℕ) (three : List ℕ)
          (here₃ : e ≡ place_after (digits settled) (c + 1) (set two c 32)) (put₃ : three ≡ put_at (digits settled) (c + 1) (set two c 32))
        where
          third_put : Chain (third_part answer flying settled) at old e three
          third_put = chain_next (digits settled) (chain_stored second_put room.second 32) (here₃, put₃)

          pub third_room : (e < length three) × (length three ≡ length old)
          third_room = (chain_room third_put room.third, third_put.size)

          pub line_put : Put (answer_text answer flying settled) 63 at old (e + 1) (set three e 10)
          line_put =
              put_same _ _ 63 at old _ _ (answer_whole answer flying settled)
              (put_done _ 63 at old _ _ (chain_stored third_put room.third 10) few h)
