-- The first line as the code puts it, part by part, and how long it is.
use Prim.Native.Nat.{ℕ, ◌≤◌, ◌<◌, ◌^◌}
use mathlib.Core.Path.{◌≡◌}
use mathlib.Core.List.{[], ◌∷◌, ◌++◌, append_assoc}
use native.Mathlib.Omega.{arith}
use lib.ListN.{length, length-append}
use Rattle.text.specs.Text.{digits}
use Rattle.text.specs.Parts.{field_text}
use Rattle.console.proofs.Puts.{byte_digits, counter_digits, count_digits}
use Rattle.event_program.specs.Events.{answer_text}
use Rattle.backlog_program.specs.Backlog.{first_text, first_most}

pub first_whole : (taken answer flying settled : ℕ)
    → ((((digits taken ++ (32 ∷ [])) ++ field_text answer) ++ field_text flying) ++ digits settled) ++ (10 ∷ [])
    ≡ first_text taken answer flying settled
unfolding first_text answer_text field_text
first_whole taken answer flying settled = simp append_assoc

pub first_few : (taken answer flying settled : ℕ) → taken < 2 ^ 64 → answer < 256 → flying < 65536 → settled < 2 ^ 64
    → length (first_text taken answer flying settled) ≤ first_most
unfolding first_text answer_text
first_few taken answer flying settled t a f s =
    simp length-append (omega (arith, count_digits taken t, byte_digits answer a, counter_digits flying f, count_digits settled s))
