-- The refusals by number and what they report, and chains of checks. (01, 'When the desk says no'; 02, L2)
use Rattle.std.specs.Prelude.{ℕ, Bool, ◌&&◌, not, cond, eqb, Result, Ok, Err, is_ok}
use Rattle.model.specs.Kinds.{is_read}
use Rattle.model.specs.declared.Operation.{Operation}
use Rattle.model.specs.declared.Refusal.TheVariants.{Invalid, Disabled, Uninitialised, Busy, Malformed, ShortBuffer, OutOfRange, CrossesWindow, Denied, QueueEmpty, QueueFull, Unexpected, BadSetting}
use Rattle.model.specs.declared.Decider.{Decider}
use Rattle.model.specs.declared.Decider.TheVariants as decider
use Rattle.model.specs.declared.Refusal.{Refusal}
use Rattle.model.specs.declared.Controller.{Controller}
use Rattle.model.specs.declared.Outcome.{Outcome}
use Rattle.model.specs.declared.Phase.{Phase}
use Rattle.model.specs.declared.Phase.TheVariants as phase

-- A call's answer: accepted, or the refusal.
abbrev pub Answer : Type 0
Answer = Result Unit Refusal

abbrev pub accepted : Answer
accepted = Ok tt

-- A refusal's number in 01.
abbrev pub refusal_number : Refusal → ℕ
refusal_number Invalid = 1
refusal_number Disabled = 2
refusal_number Uninitialised = 3
refusal_number Busy = 4
refusal_number Malformed = 5
refusal_number ShortBuffer = 6
refusal_number OutOfRange = 7
refusal_number CrossesWindow = 8
refusal_number (Denied by) = 9
refusal_number QueueEmpty = 10
refusal_number QueueFull = 11
refusal_number Unexpected = 12
refusal_number BadSetting = 13

-- The number of an answer: 0 if nothing was refused, else the refusal's.
abbrev pub number_of : Answer → ℕ
number_of (Ok done) = 0
number_of (Err r) = refusal_number r

-- The number of a decider: 0 to 7 a region's own, 8 the default (02, L14); the others are house.
abbrev pub decider_number : Decider → ℕ
decider_number (decider.Region i) = i
decider_number decider.Default = 8
decider_number decider.PageSetting = 9
decider_number decider.SeedLock = 10
decider_number decider.BankPermission = 11

-- What an answer reports: refusal 9 who decided, every other answer nobody.
abbrev pub no_decider : ℕ
no_decider = 255

abbrev pub decider_told : Refusal → ℕ
decider_told (Denied by) = decider_number by
decider_told r = no_decider

abbrev pub reported : Answer → ℕ
reported (Ok done) = no_decider
reported (Err r) = decider_told r

abbrev pub accepts : Answer → Bool
accepts a = is_ok a

abbrev pub is_denied : Answer → Bool
is_denied a = eqb (number_of a) 9

-- A denied read, by its answer's number: it is refused and still starts. (01, 9)
abbrev pub is_denied_read : Operation → ℕ → Bool
is_denied_read o n = is_read o && eqb n 9

-- A check: the refusal if its test holds.
abbrev pub check : Bool → Answer → Answer
check test a = cond test a accepted

-- The first check that applies answers.
abbrev pub or_else : Answer → Answer → Answer
or_else a b = cond (accepts a) b a

-- Refusal 2 if disabled (01: shut), 3 if uninitialised (01: still fresh).
abbrev pub phase_answer : Phase → Answer
phase_answer phase.Uninitialised = Err Uninitialised
phase_answer phase.Ready = accepted
phase_answer phase.Disabled = Err Disabled

-- Checks 1, 2 and 3, with which start, push, step, host read, view and whole operations begin.
abbrev pub ready_answer : Bool → Phase → Answer
ready_answer valid p = or_else (check (not valid) (Err Invalid)) (phase_answer p)

-- A refusal that leaves the state as it was.
abbrev pub refused : Controller → Answer → Outcome
refused c a = record { controller = c; answer = a }

-- What a call leaves: the next state if it accepts, else the state as it was.
abbrev pub settle : Controller → Controller → Answer → Outcome
settle c next a = record { controller = cond (accepts a) next c; answer = a }
