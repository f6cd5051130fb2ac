-- Document 02, L1: "One call for the morning's backlog." The call over a list of events, three numbers an event, is the calls of the step
-- one by one, each given the state that the one before it handed back and lent the same tally. It "stops at the first refused event, and
-- hands back the state after those taken, how many, and the refusal's number".
use Rattle.std.specs.Prelude.{ℕ, ◌+◌, List, [], ◌∷◌, eqb, if◌then◌else◌}
use Rattle.tally.specs.declared.Tally.{Tally}
use Rattle.state.specs.declared.State.{State}
use Rattle.state.specs.State.{state_holds}
use Rattle.step_rules.specs.Step.{stepped_of}
use Rattle.step_rules.specs.Counting.{tallied_by}
use Rattle.backlog_rules.specs.declared.Taken.{Taken}

-- no event more is taken: the number that says why (0: there is none), with the tally and the state as they stand
abbrev pub stopping : ℕ → Tally → State → Taken
stopping n t s = record { answer = n; taken = 0; tally = t; state = s }

-- so many events were taken before
abbrev pub and_before : ℕ → Taken → Taken
and_before n r = record { answer = r.answer; taken = n + r.taken; tally = r.tally; state = r.state }

-- the calls one by one; "one or two left over count as an event refused as 6"
unfoldable pub calls : State → Tally → List ℕ → Taken
calls s t [] = stopping 0 t s
calls s t (kind ∷ []) = stopping 6 t s
calls s t (kind ∷ a ∷ []) = stopping 6 t s
calls s t (kind ∷ a ∷ b ∷ events) =
    let r = stepped_of s kind a b in
    if eqb r.answer 0 then and_before 1 (calls r.state (tallied_by r t) events) else stopping r.answer t s

-- "A bad state is 11, even for an empty list": nothing is taken
unfoldable pub backlog_of : State → Tally → List ℕ → Taken
backlog_of s t events = if state_holds s then calls s t events else stopping 11 t s
