-- The order of refusals, as a reader may hold it against 01: groups of calls that one refusal answers. What a refused call
-- leaves is said of every refusal at once, in promises/specs/Refused.antt.
-- (01, 'When the desk says no': the orders of checks under the table)
use Rattle.std.specs.Prelude.{ℕ, ◌≡◌, Bool, List}
use Rattle.model.specs.State.{Flash}
use Rattle.model.specs.Refusals.{number_of}
use Rattle.model.specs.Errors.{clear}
use Rattle.model.specs.Settings.{set_inputs, set_region, set_default, set_info, set_erase}
use Rattle.model.specs.Lifecycle.{initialise, rma}
use Rattle.model.specs.Steps.{start, push, pop, step}
use Rattle.model.specs.Host.{host_read, view}
use Rattle.model.specs.Whole.{whole}
use Rattle.model.specs.declared.Page.{Page}
use Rattle.model.specs.declared.ByteAddress.{ByteAddress}
use Rattle.model.specs.declared.Inputs.{Inputs}
use Rattle.model.specs.declared.Region.{Region}
use Rattle.model.specs.declared.PageSetting.{PageSetting}
use Rattle.model.specs.declared.Operation.{Operation}
use Rattle.model.specs.declared.Controller.{Controller}
use Rattle.model.specs.Refusals.{Answer}

-- The calls that are lent the flash and need a ready controller: step, whole operation, host read and view.
pub record FlashCallsRefuse (c : Controller) (f : Flash) (a : Answer) : Type 0 where
  pub steps : (step c f).result.answer ≡ a
  pub wholes : (o : Operation) (b : List ℕ) → (whole c f o b).result.answer ≡ a
  pub host_reads : (at : ByteAddress) → (host_read c f at).answer ≡ a
  pub views : (p : Page) → (view c f p).number ≡ number_of a

-- The calls on the controller alone that need it ready: start and push.
pub record ReadyCallsRefuse (c : Controller) (a : Answer) : Type 0 where
  pub starts : (o : Operation) → (start c o).answer ≡ a
  pub pushes : (w : ℕ) → (push c w).answer ≡ a

-- Initialise and RMA.
pub record PhaseCallsRefuse (c : Controller) (f : Flash) (a : Answer) : Type 0 where
  pub initialises : (initialise c f).answer ≡ a
  pub rmas : (rma c f).result.answer ≡ a

-- The inputs and the settings.
pub record SettingsRefuse (c : Controller) (a : Answer) : Type 0 where
  pub inputs : (i : Inputs) → (set_inputs c i).answer ≡ a
  pub regions : (n : ℕ) (g : Region) → (set_region c n g).answer ≡ a
  pub defaults : (r : ℕ) → (set_default c r).answer ≡ a
  pub pages : (bank t page : ℕ) (s : PageSetting) → (set_info c bank t page s).answer ≡ a
  pub erases : (bank : ℕ) (on : Bool) → (set_erase c bank on).answer ≡ a

-- Pop and clear.
pub record RecordCallsRefuse (c : Controller) (a : Answer) : Type 0 where
  pub pops : (pop c).answer ≡ a
  pub clears : (clear c).answer ≡ a
