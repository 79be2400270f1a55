-- A denied call names who decided: 'The look-up of rights must answer the rights and who decided. Its users pass it along;
-- refusal 9 reports it.' (02, L2)
use Rattle.std.specs.Prelude.{Some}
use Rattle.std.specs.Prelude.{ℕ, ◌<◌, ◌≡◌, Bool, true, false, get_or}
use Rattle.model.specs.Geometry.{page_of, bank_of}
use Rattle.model.specs.Kinds.{is_information, is_bank_erase, read_right}
use Rattle.model.specs.Places.{span_words, span_address}
use Rattle.model.specs.Rights.{grants, ruling_at, page_grants}
use Rattle.model.specs.Refusals.{number_of, decider_number, no_decider, reported}
use Rattle.model.specs.declared.Page.{Page}
use Rattle.model.specs.declared.ByteAddress.{ByteAddress}
use Rattle.model.specs.declared.Operation.{Operation}
use Rattle.model.specs.declared.Setup.{Setup}
use Rattle.model.specs.declared.Decider.TheVariants.{BankPermission}
use Rattle.model.specs.Rounds.{HostRequest}
use Rattle.promises.specs.Calls.{Call, State, Reset, SetInputs, SetRegion, SetDefault, SetInfo, SetErase, Initialise, Start, Step, Push, Pop, Whole, HostRead, ViewPage, Clear, Rma, Round, perform}

-- 'It's the decider at the first denied page': word k is the first of the operation's on a page without the right that it
-- needs, and `by` is the number of whoever decides that page.
pub record DecidedAt (s : Setup) (o : Operation) (by k : ℕ) : Type 0 where
  pub within : k < span_words o
  pub lacks : page_grants s o (page_of (span_address o k)) ≡ false
  pub before : (j : ℕ) → j < k → page_grants s o (page_of (span_address o j)) ≡ true
  pub named : by ≡ decider_number (ruling_at s (is_information o) o.info (page_of (span_address o k))).decider

-- 'For a bank erase, the bank's permission is named', and it is off.
pub record BankLacks (s : Setup) (o : Operation) (by : ℕ) : Type 0 where
  pub lacks : get_or s.settings.erase (bank_of s.pages (page_of o.address)) false ≡ false
  pub named : by ≡ decider_number BankPermission

-- A denied operation names one of these.
pub record OperationNames (s : Setup) (o : Operation) (by : ℕ) : Type 0 where
  pub bank : is_bank_erase o ≡ true → BankLacks s o by
  pub page : is_bank_erase o ≡ false → (k : ℕ) × DecidedAt s o by k

-- A denied host read or view names whoever decides its data page, which lacks the read right.
pub record PageNames (s : Setup) (p : Page) (by : ℕ) : Type 0 where
  pub lacks : grants (ruling_at s false 0 p).rights read_right ≡ false
  pub named : by ≡ decider_number (ruling_at s false 0 p).decider

-- What a call that answers 9 says by reporting `by`. No other call answers 9.
abbrev pub Names : State → Call → ℕ → Type 0
Names s (Reset d) by = ⊥
Names s (SetInputs i) by = ⊥
Names s (SetRegion n g) by = ⊥
Names s (SetDefault r) by = ⊥
Names s (SetInfo bank t page p) by = ⊥
Names s (SetErase bank on) by = ⊥
Names s Initialise by = ⊥
Names s (Start o) by = OperationNames s.controller.setup o by
Names s Step by = ⊥
Names s (Push w) by = ⊥
Names s Pop by = ⊥
Names s (Whole o b) by = OperationNames s.controller.setup o by
Names s (HostRead a) by = PageNames s.controller.setup (page_of a) by
Names s (ViewPage p) by = PageNames s.controller.setup p by
Names s Clear by = ⊥
Names s Rma by = ⊥
Names s (Round h b) by = ⊥

-- Whoever is answered 9 is told who decided,
abbrev pub NamesDecider : Type 0
NamesDecider = (s : State) (k : Call) → (perform s k).reply.answer ≡ 9 → Names s k (perform s k).reply.decider

-- and every other answer reports none.
abbrev pub NoneElse : Type 0
NoneElse = (s : State) (k : Call) → ((perform s k).reply.answer ≡ 9 → ⊥) → (perform s k).reply.decider ≡ no_decider

-- So is the host in a round: denied, it is told as by its own call, and otherwise none.
abbrev pub HostNames : Type 0
HostNames =
    (s : State) (a : ByteAddress) (b : Bool) → number_of (perform s (Round (Some a) b)).reply.host.answer ≡ 9
    → Names s (HostRead a) (reported (perform s (Round (Some a) b)).reply.host.answer)

abbrev pub HostNoneElse : Type 0
HostNoneElse =
    (s : State) (h : HostRequest) (b : Bool) → (number_of (perform s (Round h b)).reply.host.answer ≡ 9 → ⊥)
    → reported (perform s (Round h b)).reply.host.answer ≡ no_decider
