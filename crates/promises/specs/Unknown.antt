-- Denied words stay unknown: what a refused call tells and leaves depends on no word of the flash but the true words of a denied
-- read, which lie before its first denied page; and past them a read depends on none. (02, L3)
use Rattle.std.specs.Prelude.{Some}
use Rattle.std.specs.Prelude.{ℕ, ◌≤◌, ◌≡◌, Bool, cond, List, [], length}
use Rattle.model.specs.State.{Flash}
use Rattle.model.specs.Refusals.{number_of, is_denied_read}
use Rattle.model.specs.Rounds.{host_unserved}
use Rattle.model.specs.declared.BusWord.{BusWord}
use Rattle.model.specs.declared.Operation.{Operation}
use Rattle.model.specs.declared.Work.TheVariants.{Read}
use Rattle.model.specs.declared.Controller.{Controller}
use Rattle.model.specs.Rounds.{HostRequest}
use Rattle.model.specs.declared.Turn.TheVariants.{Unasked}
use Rattle.plans.specs.Plan.{true_places, words_at}
use Rattle.promises.specs.Calls.{Call, State, Reply, Reset, SetInputs, SetRegion, SetDefault, SetInfo, SetErase, Initialise, Start, Step, Push, Pop, Whole, HostRead, ViewPage, Clear, Rma, Round, with_turns, perform}

abbrev pub state_of : Controller → Flash → State
state_of c f = record { controller = c; flash = f }

-- A reply without what a round tells the host, whose read may be accepted beside a refused step. Of any other call it is the
-- whole reply.
abbrev pub step_side : Reply → Reply
step_side r = with_turns r r.turn (host_unserved Unasked)

-- A call tells the same and leaves the same controller on both images.
pub record Alike (c : Controller) (f g : Flash) (k : Call) : Type 0 where
  pub reply : step_side (perform (state_of c f) k).reply ≡ step_side (perform (state_of c g) k).reply
  pub controller : (perform (state_of c f) k).state.controller ≡ (perform (state_of c g) k).state.controller

-- The places that refusal n of a call may tell of: those of a denied whole read's true words.
abbrev pub told_places : Controller → Call → ℕ → List BusWord
told_places c (Reset d) n = []
told_places c (SetInputs i) n = []
told_places c (SetRegion k g) n = []
told_places c (SetDefault r) n = []
told_places c (SetInfo bank t page p) n = []
told_places c (SetErase bank on) n = []
told_places c Initialise n = []
told_places c (Start o) n = []
told_places c Step n = []
told_places c (Push w) n = []
told_places c Pop n = []
told_places c (Whole o b) n = cond (is_denied_read o n) (true_places c.setup o) []
told_places c (HostRead a) n = []
told_places c (ViewPage p) n = []
told_places c Clear n = []
told_places c Rma n = []
told_places c (Round h b) n = []

-- A refused call tells and leaves the same on two images of one length that agree there.
abbrev pub RefusedUnknown : Type 0
RefusedUnknown =
    (c : Controller) (f g : Flash) (k : Call) → length f.words ≡ length g.words
    → words_at f (told_places c k (perform (state_of c f) k).reply.answer)
    ≡ words_at g (told_places c k (perform (state_of c f) k).reply.answer)
    → ((perform (state_of c f) k).reply.answer ≡ 0 → ⊥) → Alike c f g k

-- A refused host read of a round tells the host the same on both images.
abbrev pub RefusedHostUnknown : Type 0
RefusedHostUnknown =
    (c : Controller) (f g : Flash) (h : HostRequest) (b : Bool) → length f.words ≡ length g.words
    → (number_of (perform (state_of c f) (Round h b)).reply.host.answer ≡ 0 → ⊥)
    → (perform (state_of c f) (Round h b)).reply.host ≡ (perform (state_of c g) (Round h b)).reply.host

-- Once a read's true words have moved none of its steps tells of the flash, nor a round with one.
abbrev pub PastUnknown : Type 0
PastUnknown =
    (c : Controller) (f g : Flash) (o : Operation) (moved readable : ℕ) → length f.words ≡ length g.words
    → c.progress ≡ Some (Read o moved readable) → readable ≤ moved
    → Alike c f g Step × ((h : HostRequest) (b : Bool) → Alike c f g (Round h b))
