-- The records of specs/Calls.antt say no more than the code promises: what a caller learns of each call by its contract (the module `Reads`
-- that the prover makes of the function's clauses; a: the arguments, z: the result, e: the arguments at exit) makes such a record, with
-- that answer and that output.
use mathlib.Core.Path.{◌≡◌, refl}
use contract.Lifetimes.{Lfts}
use denote.Triple.Clauses.{AtExit}
use denote.Triple.Entry.{Args, Res}
use seplogic.Ra.Ura.{Ura}
use base.Logic.{SProp}
use prog.Memory.{Memory}
use prog.Routine.{Routine}
use types.Logic.{Logic}
use contract.Monad.{Fun, fact}
use borrow.Fn.Kinds.{Dens, res_t, ended_of}
use Rattle.sheet.proofs.read.Kinds as SheetReadKinds
use Rattle.sheet.proofs.read.Reads as SheetRead
use Rattle.sheet.proofs.write.Kinds as SheetWriteKinds
use Rattle.sheet.proofs.write.Reads as SheetWrite
use Rattle.letters.proofs.read.Kinds as LetterReadKinds
use Rattle.letters.proofs.read.Reads as LetterRead
use Rattle.letters.proofs.write.Kinds as LetterWriteKinds
use Rattle.letters.proofs.write.Reads as LetterWrite
use Rattle.state.proofs.fresh.Kinds as FreshKinds
use Rattle.state.proofs.fresh.Reads as Fresh
use Rattle.step.proofs.step.Kinds as StepKinds
use Rattle.step.proofs.step.Reads as Step
use Rattle.report.proofs.reach.Kinds as ReachKinds
use Rattle.report.proofs.reach.Reads as Reach
use Rattle.report.proofs.report.Kinds as ReportKinds
use Rattle.report.proofs.report.Reads as Report
use Rattle.step_counted.specs.contracts.step_counted as Counted
use Rattle.backlog_counted.specs.contracts.backlog as Backlog
use Rattle.backlog_counted.specs.contracts.run as Run
use Rattle.step_rules.specs.Counting.{tallied_by}
use Rattle.step_rules.specs.Step.{event, stepped_of}
use Rattle.backlog_rules.specs.Backlog.{backlog_of}
use Rattle.backlog_rules.specs.Answers.{tracing, answered_by}
use Rattle.fields.specs.Output.{writing_output}
use Rattle.demands.specs.Calls.{ReadsSheet, WritesSheet, ReadsLetter, WritesLetter, Begins, Steps, AsksReach, AsksReport}

-- sheet::read(bytes)
pub sheet_read : (κs : Lfts 1) (a : Dens κs SheetReadKinds.ps) (z : (res_t SheetReadKinds.r κs).Denot)
    (e : AtExit (ended_of 1 SheetReadKinds.ps SheetReadKinds.r) κs) → SheetRead.Learnt κs a z e
    → (c : ReadsSheet a.0.now) × (c.answer ≡ z)
sheet_read κs a z e p = (record { answer = z; promise = p }, refl)

-- sheet::write(net, out)
pub sheet_write : (κs : Lfts 1) (a : Dens κs SheetWriteKinds.ps) (z : (res_t SheetWriteKinds.r κs).Denot)
    (e : AtExit (ended_of 1 SheetWriteKinds.ps SheetWriteKinds.r) κs) → SheetWrite.Learnt κs a z e
    → (c : WritesSheet a.0 a.1.0.now) × ((c.answer ≡ z) × (c.output ≡ e.1.0.now))
sheet_write κs a z e p = (record { answer = z; output = e.1.0.now; promise = p.0; promise_output = p.1 }, (refl, refl))

-- letters::read(net, bytes)
pub letter_read : (κs : Lfts 1) (a : Dens κs LetterReadKinds.ps) (z : (res_t LetterReadKinds.r κs).Denot)
    (e : AtExit (ended_of 1 LetterReadKinds.ps LetterReadKinds.r) κs) → LetterRead.Learnt κs a z e
    → (c : ReadsLetter a.0 a.1.0.now) × (c.answer ≡ z)
letter_read κs a z e p = (record { answer = z; promise = p }, refl)

-- letters::write(net, letter, out)
pub letter_write : (κs : Lfts 1) (a : Dens κs LetterWriteKinds.ps) (z : (res_t LetterWriteKinds.r κs).Denot)
    (e : AtExit (ended_of 1 LetterWriteKinds.ps LetterWriteKinds.r) κs) → LetterWrite.Learnt κs a z e
    → (c : WritesLetter a.0 a.1.0 a.1.1.0.now) × ((c.answer ≡ z) × (c.output ≡ e.1.1.0.now))
letter_write κs a z e p = (record { answer = z; output = e.1.1.0.now; promise = p.0; promise_output = p.1 }, (refl, refl))

-- beginning::fresh(net)
pub fresh : (κs : Lfts 0) (a : Dens κs FreshKinds.ps) (z : (res_t FreshKinds.r κs).Denot)
    (e : AtExit (ended_of 0 FreshKinds.ps FreshKinds.r) κs) → Fresh.Learnt κs a z e
    → (c : Begins a.0) × (c.answer ≡ z)
fresh κs a z e p = (record { answer = z; promise = p }, refl)

-- network::step(s, kind, a, b)
pub step : (κs : Lfts 0) (a : Dens κs StepKinds.ps) (z : (res_t StepKinds.r κs).Denot) (e : AtExit (ended_of 0 StepKinds.ps StepKinds.r) κs)
    → Step.Learnt κs a z e
    → (c : Steps a.0 (event a.1.0 a.1.1.0 a.1.1.1.0)) × (c.answer ≡ z)
step κs a z e p = (record { answer = z; promise = p }, refl)

-- report::reach(s, a)
pub reach : (κs : Lfts 0) (a : Dens κs ReachKinds.ps) (z : (res_t ReachKinds.r κs).Denot)
    (e : AtExit (ended_of 0 ReachKinds.ps ReachKinds.r) κs) → Reach.Learnt κs a z e
    → (c : AsksReach a.0 a.1.0) × (c.answer ≡ z)
reach κs a z e p = (record { answer = z; promise = p }, refl)

-- report::report(s, a, out)
pub report : (κs : Lfts 1) (a : Dens κs ReportKinds.ps) (z : (res_t ReportKinds.r κs).Denot)
    (e : AtExit (ended_of 1 ReportKinds.ps ReportKinds.r) κs) → Report.Learnt κs a z e
    → (c : AsksReport a.0 a.1.0 a.1.1.0.now) × ((c.answer ≡ z) × (c.output ≡ e.1.1.0.now))
report κs a z e p = (record { answer = z; output = e.1.1.0.now; promise = p.0; promise_output = p.1 }, (refl, refl))

-- counting::step_counted(&mut tally, s, kind, a, b), which is proved by a walk of its own: its one clause is the record's two promises
pub step_counted : {M : Type 1} {𝓤 : Ura M} (𝓛 : Logic 𝓤) (mem : Memory → SProp 𝓤) (run : Routine → Fun 𝓤) (κs : Lfts 1)
    (a : Args Counted.signature κs) (z : Res Counted.signature κs) (e : AtExit Counted.ended κs)
    → (Counted.clauses 𝓛 mem run κs a).ensures tt z e
    ≡ fact 𝓤 ((z ≡ stepped_of a.1.0 a.1.1.0 a.1.1.1.0 a.1.1.1.1.0)
    × (e.0.now ≡ tallied_by (stepped_of a.1.0 a.1.1.0 a.1.1.1.0 a.1.1.1.1.0) a.0.now))
step_counted 𝓛 mem run κs a z e = refl

-- backlog_counted::backlog(&mut tally, s, events), proved in the same way
pub backlog : {M : Type 1} {𝓤 : Ura M} (𝓛 : Logic 𝓤) (mem : Memory → SProp 𝓤) (run : Routine → Fun 𝓤) (κs : Lfts 2)
    (a : Args Backlog.signature κs) (z : Res Backlog.signature κs) (e : AtExit Backlog.ended κs)
    → (Backlog.clauses 𝓛 mem run κs a).ensures tt z e
    ≡ fact 𝓤 ((z ≡ backlog_of a.1.0 a.0.now a.1.1.0.now)
    × (e.0.now ≡ (backlog_of a.1.0 a.0.now a.1.1.0.now).tally))
backlog 𝓛 mem run κs a z e = refl

-- backlog_counted::run(&mut tally, s, events, &mut trace), too: its one clause is the record's three promises
pub run : {M : Type 1} {𝓤 : Ura M} (𝓛 : Logic 𝓤) (mem : Memory → SProp 𝓤) (calls : Routine → Fun 𝓤) (κs : Lfts 3)
    (a : Args Run.signature κs) (z : Res Run.signature κs) (e : AtExit Run.ended κs)
    → let before = a.0.now in let s = a.1.0 in let events = a.1.1.0.now in let old = a.1.1.1.0.now in
    (Run.clauses 𝓛 mem calls κs a).ensures tt z e
    ≡ fact 𝓤 ((z ≡ answered_by (tracing s before events old) s before events)
    × (e.0.now ≡ (answered_by (tracing s before events old) s before events).tally)
    × (e.1.1.1.0.now ≡ writing_output (tracing s before events old) old))
run 𝓛 mem calls κs a z e = refl
