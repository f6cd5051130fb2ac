-- The rules of document 01, "The eight events" and the three kinds of letter, each said once: what an event does at the one station that
-- it concerns, as an act. An act is carried out on what a station holds (Done.antt), and the code's plan is the same act in words
-- (station_plan). Which event does which act, and when it may: Events.antt.
use Rattle.std.specs.Prelude.{ℕ, Bool, true, false, not, ◌&&◌, ◌||◌, eqb, ltb, if◌then◌else◌, Option, Some, None}
use Rattle.net.specs.declared.Body.{Body}
use Rattle.net.specs.declared.Body.TheVariants.{Request, Reply, Notice}
use Rattle.net.specs.declared.Letter.{Letter}
use Rattle.counters.specs.Counters.{even, odd, timed_out, healing, newer}
use Rattle.marks.specs.declared.Marks.{Marks}
use Rattle.station.specs.declared.Condition.{Condition}
use Rattle.station.specs.declared.Condition.TheVariants.{Down, Waiting, Live}
use Rattle.station.specs.declared.Effect.{Effect}
use Rattle.station.specs.declared.Effect.TheVariants.{Defers, Answers, Heals, Levels, Equal, Takes}
use Rattle.station.specs.declared.Heard.{Heard}
use Rattle.station.specs.declared.Heard.TheVariants.{Gone, Nothing, Overflows, Does}
use Rattle.station.specs.Holding.{no_marks, is_live, set_token, set_turn, set_testing, set_asked, set_quiet}

-- ---- what an act says
-- some of a station's links: one; its own links with such marks; those but one
pub data Links : Type 0 where
  the_link : ℕ → Links
  all_own : (Marks → Bool) → Links
  other_own : ℕ → (Marks → Bool) → Links

-- the marks: as they were; anew on one link; anew on every link, by whether it is an own one
pub data Marking : Type 0 where
  as_before : Marking
  on_link : ℕ → (Marks → Marks) → Marking
  on_every : (Bool → Marks → Marks) → Marking

-- the counters: kept; all 1; one set, and then a purge or none
pub data Tabling : Type 0 where
  kept : Tabling
  ones : Tabling
  sets : ℕ → ℕ → Bool → Tabling

-- the letters: none; a request on each of some links; a notice of one link with its counter on each; a notice of everything that is
-- known on each; on one link the reply with a counter, and before it, if so, everything else that is known
pub data Sends : Type 0 where
  nothing : Sends
  requests : Links → Sends
  notices : ℕ → ℕ → Links → Sends
  all_known : Links → Sends
  reply : Bool → ℕ → ℕ → Sends

pub record Act : Type 0 where
  pub condition : Condition
  pub marks : Marking
  pub table : Tabling
  pub sends : Sends

abbrev pub act : Condition → Marking → Tabling → Sends → Act
act x m t l = record { condition = x; marks = m; table = t; sends = l }

-- nothing is done
abbrev pub idle : Condition → Act
idle x = act x as_before kept nothing

-- ---- one link's marks
-- an interval ends where the station is live and the link neither tests nor is quiet
abbrev pub may_end : Condition → Marks → Bool
may_end x m = is_live x && (not m.testing && not m.quiet)

-- with token or turn a test begins, with neither turn comes on
abbrev pub interval_tests : Marks → Bool
interval_tests m = m.token || m.turn

abbrev pub interval_marks : Marks → Marks
interval_marks m =
    if m.token then set_testing true (set_token false m)
    else (if m.turn then set_testing true (set_turn false m)
    else set_turn true m)

-- a timeout's end: testing off; if asked, asked off and token on
abbrev pub test_ended : Marks → Marks
test_ended m = if m.asked then set_token true (set_asked false (set_testing false m)) else set_testing false m

-- a request that is answered: testing and asked off, token on, turn off
abbrev pub requested_marks : Marks → Marks
requested_marks m = set_turn false (set_token true (set_asked false (set_testing false m)))

-- a reply to a test: testing and asked off
abbrev pub replied_marks : Marks → Marks
replied_marks m = set_asked false (set_testing false m)

-- a link that isn't quiet
abbrev pub is_open : Marks → Bool
is_open m = not m.quiet

-- ---- 1. Start: it becomes waiting, token on for each own link
abbrev pub start_act : Act
start_act = act Waiting (on_every (λ mine m. if mine then set_token true no_marks else no_marks)) kept nothing

-- ---- 2. Stop: down, marks off, counters 1
abbrev pub stop_act : Act
stop_act = act Down (on_every (λ mine m. no_marks)) ones nothing

-- ---- 3. Recovery wait ends: live, and event 4's work on each own link, by number
abbrev pub recovery_act : Act
recovery_act = act Live (on_every (λ mine m. if mine then interval_marks m else m)) kept (requests (all_own interval_tests))

-- ---- in the condition x, on link k
module _ (x : Condition) (k : ℕ) where
  -- ---- 4. Interval ends, by the link's marks
  abbrev pub interval_act : Marks → Act
  interval_act m = act x (on_link k interval_marks) kept (if interval_tests m then requests (the_link k) else nothing)

  -- ---- 6. Quiet ends
  abbrev pub quiet_act : Act
  quiet_act = act x (on_link k (set_quiet false)) kept nothing

  -- by the link's counter c
  module _ (c : ℕ) where
    -- ---- 5. Timeout ends. A link that worked is raised, told of on every other open link, and kept quiet; what is then out of reach is
    -- purged
    abbrev pub timeout_act : Act
    timeout_act =
        if even c then act x (on_link k (λ m. set_quiet true (test_ended m))) (sets k (timed_out c) true)
        (notices k (timed_out c) (other_own k is_open))
        else act x (on_link k test_ended) kept nothing

    -- ---- 7. A letter that is heard, by what it does. A request: the higher-numbered of two testers only marks it; else all that is known
    -- is told over a link that was down, and last comes the reply. A reply: one that heals tells all that is known, by the counters
    -- after the raise and before the purge; one that levels tells this link. A notice goes on, not back
    abbrev pub effect_act : Effect → Act
    effect_act Defers = act x (on_link k (set_asked true)) kept nothing
    effect_act Answers = act x (on_link k requested_marks) kept (reply (odd c) k c)
    effect_act (Heals new) = act x (on_link k replied_marks) (sets k new true) (all_known (all_own is_open))
    effect_act (Levels new) = act x (on_link k replied_marks) (sets k new false) (notices k new (all_own is_open))
    effect_act Equal = act x (on_link k replied_marks) kept nothing
    effect_act (Takes j new) = act x as_before (sets j new false) (notices j new (other_own k is_open))

-- ---- the receiver's answer to a letter
-- a reply with c to a test at this own counter, by the new counter: if either of the two was odd it heals
abbrev pub replied_by : ℕ → ℕ → Option ℕ → Heard
replied_by own c None = Overflows
replied_by own c (Some new) = if odd own || odd c then Does (Heals new) else (if eqb own c then Does Equal else Does (Levels new))

-- at the station s, from the station p, by the marks and the counter of the link and the counter of the link that is told of: the
-- higher-numbered of two testers puts a request off
abbrev pub body_answer : ℕ → ℕ → Marks → ℕ → ℕ → Body → Heard
body_answer s p m own told Request = if m.testing && ltb p s then Does Defers else Does Answers
body_answer s p m own told (Reply c) = if m.testing then replied_by own c (healing own c) else Nothing
body_answer s p m own told (Notice j c) = if newer told c then Does (Takes j c) else Nothing

-- a letter is gone where the receiver isn't live or is quiet there
abbrev pub hears : Condition → Marks → Bool
hears x m = is_live x && is_open m

abbrev pub answer_by : ℕ → Condition → Marks → ℕ → ℕ → Letter → Heard
answer_by s x m own told l = if hears x m then body_answer s l.sender m own told l.body else Gone

-- the link that a notice tells of
abbrev pub subject_of : Body → ℕ
subject_of Request = 0
subject_of (Reply c) = 0
subject_of (Notice j c) = j
