-- Fair turns: a step that could move a word waits for at most five rounds, and a host read for at most one in its bank. (02, L1)
use Rattle.std.specs.Prelude.{None, Some, Option}
use Rattle.std.specs.Prelude.{ℕ, ◌+◌, ◌≤◌, ◌≡◌, Bool, true, false, ◌&&◌, ◌||◌, not, cond, List, [], ◌∷◌}
use Rattle.model.specs.Geometry.{pages_fit}
use Rattle.model.specs.State.{reset_physical}
use Rattle.model.specs.Valid.{lost_limit}
use Rattle.model.specs.Host.{host_read}
use Rattle.model.specs.Rounds.{would_move, next_bank, host_bank, competes, lost_in, host_served}
use Rattle.model.specs.declared.ByteAddress.{ByteAddress}
use Rattle.model.specs.declared.Movement.{Movement}
use Rattle.model.specs.declared.Movement.TheVariants.{Moved, Finished, Stalled}
use Rattle.model.specs.declared.Turn.TheVariants.{Waiting, Served}
use Rattle.model.specs.declared.Controller.{Controller}
use Rattle.promises.specs.Calls.{Call, State, Reply, Shaped, Reset, SetInputs, SetRegion, SetDefault, SetInfo, SetErase, Initialise, Start, Step, Push, Pop, Whole, HostRead, ViewPage, Clear, Rma, Round, with_turns, perform, run, replies}

-- ---- 'each call gets controller and flash as the one before left them': any calls but reset

abbrev pub is_reset : Call → Bool
is_reset (Reset d) = true
is_reset (SetInputs i) = false
is_reset (SetRegion n g) = false
is_reset (SetDefault r) = false
is_reset (SetInfo bank t page p) = false
is_reset (SetErase bank on) = false
is_reset Initialise = false
is_reset (Start o) = false
is_reset Step = false
is_reset (Push w) = false
is_reset Pop = false
is_reset (Whole o b) = false
is_reset (HostRead a) = false
is_reset (ViewPage p) = false
is_reset Clear = false
is_reset Rma = false
is_reset (Round h b) = false

abbrev pub no_reset : List Call → Bool
no_reset [] = true
no_reset (k ∷ ks) = not (is_reset k) && no_reset ks

-- ---- 'a controller step that could move a word and stays waiting is served by the sixth of its bank's rounds at latest'

-- The rounds that ask the step, whatever the host asks in them, and how many a list has.
abbrev pub asks_step : Call → Bool
asks_step (Reset d) = false
asks_step (SetInputs i) = false
asks_step (SetRegion n g) = false
asks_step (SetDefault r) = false
asks_step (SetInfo bank t page p) = false
asks_step (SetErase bank on) = false
asks_step Initialise = false
asks_step (Start o) = false
asks_step Step = false
asks_step (Push w) = false
asks_step Pop = false
asks_step (Whole o b) = false
asks_step (HostRead a) = false
asks_step (ViewPage p) = false
asks_step Clear = false
asks_step Rma = false
asks_step (Round h b) = b

abbrev pub asked_by : Call → ℕ
asked_by k = cond (asks_step k) 1 0

abbrev pub asked : List Call → ℕ
asked [] = 0
asked (k ∷ ks) = asked_by k + asked ks

-- A step tells that a word moved, and one of a list of replies does.
abbrev pub moves : Option Movement → Bool
moves None = false
moves (Some Moved) = true
moves (Some Finished) = true
moves (Some Stalled) = false

abbrev pub moves_in : List Reply → Bool
moves_in [] = false
moves_in (r ∷ rs) = moves r.movement || moves_in rs

-- How often the next word's bank has lost its turn already.
abbrev pub lost_turns : Controller → ℕ
lost_turns c = lost_in c (next_bank c)

-- One round more than the turns that are left to lose suffices, wherever in the list these rounds stand.
abbrev pub FairTurns : Type 0
FairTurns =
    (s : State) (ks : List Call) → Shaped s.controller → would_move s.controller s.flash ≡ true → no_reset ks ≡ true
    → lost_limit + 1 ≤ asked ks + lost_turns s.controller → moves_in (replies s ks) ≡ true

-- So six always do,
abbrev pub BySixth : Type 0
BySixth =
    (s : State) (ks : List Call) → Shaped s.controller → would_move s.controller s.flash ≡ true → no_reset ks ≡ true
    → 6 ≤ asked ks → moves_in (replies s ks) ≡ true

-- and it is the word that waited: until one moves, the same word is the next, in the same flash, and could move.
pub record Waits (s n : State) : Type 0 where
  pub progress : n.controller.progress ≡ s.controller.progress
  pub bank : next_bank n.controller ≡ next_bank s.controller
  pub flash : n.flash ≡ s.flash
  pub could : would_move n.controller n.flash ≡ true

abbrev pub SameWord : Type 0
SameWord =
    (s : State) (ks : List Call) → Shaped s.controller → would_move s.controller s.flash ≡ true → no_reset ks ≡ true
    → moves_in (replies s ks) ≡ false → Waits s (run s ks)

-- ---- 'counts start at 0 at reset', and a round with only one waiting 'leaves the count'

abbrev pub StartsAtZero : Type 0
StartsAtZero = (s : State) (d : ℕ) → pages_fit d ≡ true → (perform s (Reset d)).state.controller.physical ≡ reset_physical

-- Nothing but reset and a round that asks the step changes a count.
abbrev pub CountsStay : Type 0
CountsStay =
    (s : State) (k : Call) → is_reset k ≡ false → asks_step k ≡ false → (perform s k).state.controller.physical ≡ s.controller.physical

-- ---- 'in different banks both are served, host first', and so are they if the step would wait or be refused

-- As by a host read and then a step; the lost counts stay.
pub record ServesBoth (s : State) (a : ByteAddress) : Type 0 where
  pub reply : (perform s (Round (Some a) true)).reply
      ≡ with_turns (perform (perform s (HostRead a)).state Step).reply Served (host_served (host_read s.controller s.flash a))
  pub state : (perform s (Round (Some a) true)).state ≡ (perform (perform s (HostRead a)).state Step).state
  pub counts : (perform s (Round (Some a) true)).state.controller.physical ≡ s.controller.physical

abbrev pub BothServed : Type 0
BothServed = (s : State) (a : ByteAddress) → competes s.controller s.flash a ≡ false → ServesBoth s a

-- ---- 'once the count is 5, the controller goes instead and the count returns to 0': the host waits once

-- A host read that waits is served in the next round if it asks in the same bank, whether the step is asked or not. Asking in
-- the other bank it may wait again: with both counts at 5, a read over the border of the banks takes a turn of each.
abbrev pub HostOnce : Type 0
HostOnce =
    (s : State) (a next : ByteAddress) (b again : Bool) → (perform s (Round (Some a) b)).reply.host.turn ≡ Waiting
    → host_bank s.controller.setup.pages next ≡ host_bank s.controller.setup.pages a
    → (perform (perform s (Round (Some a) b)).state (Round (Some next) again)).reply.host.turn ≡ Served
