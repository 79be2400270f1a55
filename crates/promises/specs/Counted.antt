-- Exactly its words: an operation needs exactly as many moving steps as it has words.
use Rattle.std.specs.Prelude.{None, Some, Option}
use Rattle.std.specs.Prelude.{ℕ, ◌+◌, ◌-◌, ◌≡◌, Bool, true, false, ◌&&◌, List, [], ◌∷◌, eqb, ltb}
use Rattle.model.specs.Places.{total_words}
use Rattle.model.specs.Steps.{stalls}
use Rattle.model.specs.Valid.{valid_with}
use Rattle.model.specs.declared.Movement.{Movement}
use Rattle.model.specs.declared.Movement.TheVariants.{Moved, Finished, Stalled}
use Rattle.model.specs.declared.Work.{Work}
use Rattle.model.specs.declared.Work.TheVariants.{Read, Program, Erase}
use Rattle.model.specs.State.{Progress}
use Rattle.model.specs.declared.Controller.{Controller}
use Rattle.model.specs.Rounds.{HostRequest}
use Rattle.promises.specs.Calls.{Call, State, Reply, Shaped, Step, Push, Pop, Round, perform, replies}

-- The words that what is in progress has left to move.
abbrev pub left_of : ℕ → Progress → ℕ
left_of d None = 0
left_of d (Some (Read o k readable)) = total_words d o - k
left_of d (Some (Program o k)) = total_words d o - k
left_of d (Some (Erase o k)) = total_words d o - k

abbrev pub words_left : Controller → ℕ
words_left c = left_of c.setup.pages c.progress

-- Steps, pushes, pops and rounds, in any order.
pub data Driving : List Call → Type 0 where
  done : Driving []
  step : {ks : List Call} → Driving ks → Driving (Step ∷ ks)
  push : {w : ℕ} {ks : List Call} → Driving ks → Driving (Push w ∷ ks)
  pop : {ks : List Call} → Driving ks → Driving (Pop ∷ ks)
  round : {h : HostRequest} {b : Bool} {ks : List Call} → Driving ks → Driving (Round h b ∷ ks)

-- With w words left, the w-th moving step answers finished and none before it does; after it none moves.
abbrev pub counted_by : ℕ → Option Movement → Bool → Bool
counted_by w None rest = rest
counted_by w (Some Moved) rest = ltb 1 w && rest
counted_by w (Some Finished) rest = eqb w 1 && rest
counted_by w (Some Stalled) rest = rest

abbrev pub left_after : ℕ → Option Movement → ℕ
left_after w None = w
left_after w (Some Moved) = w - 1
left_after w (Some Finished) = w - 1
left_after w (Some Stalled) = w

abbrev pub counted : ℕ → List Reply → Bool
counted w [] = true
counted w (r ∷ rs) = counted_by w r.movement (counted (left_after w r.movement) rs)

abbrev pub ExactlyItsWords : Type 0
ExactlyItsWords =
    (s : State) (ks : List Call) → Shaped s.controller → valid_with s.controller s.flash ≡ true → Driving ks
    → counted (words_left s.controller) (replies s ks) ≡ true

-- A step moves whenever the read queue has room, or the program queue a word; an erase always. A waiting step changes nothing.
abbrev pub MovesOrWaits : Type 0
MovesOrWaits =
    (s : State) (w : Work) → Shaped s.controller → valid_with s.controller s.flash ≡ true
    → s.controller.progress ≡ Some w
    → (stalls s.controller.queues w ≡ false
    → ((perform s Step).reply.answer ≡ 0) × (words_left (perform s Step).state.controller + 1 ≡ words_left s.controller))
    × (stalls s.controller.queues w ≡ true
    → ((perform s Step).state ≡ s) × ((perform s Step).reply.answer ≡ 0) × ((perform s Step).reply.movement ≡ Some Stalled))
