-- The error record, and the call that clears it. (01, 'When the desk says no'; 02, L3)
use Rattle.std.specs.Prelude.{ℕ, Bool, ◌||◌, not, cond, eqb, Err}
use Rattle.model.specs.Places.{span_address}
use Rattle.model.specs.State.{with_errors, no_errors}
use Rattle.model.specs.Rights.{readable_words}
use Rattle.model.specs.Refusals.{is_denied_read, check, settle}
use Rattle.model.specs.Valid.{valid}
use Rattle.model.specs.declared.ByteAddress.{ByteAddress}
use Rattle.model.specs.declared.Errors.{Errors}
use Rattle.model.specs.declared.Operation.{Operation}
use Rattle.model.specs.declared.Setup.{Setup}
use Rattle.model.specs.declared.Controller.{Controller}
use Rattle.model.specs.declared.Outcome.{Outcome}
use Rattle.model.specs.declared.Refusal.TheVariants.{Invalid}

-- Refusals 5, 7, 8 and 9 of an operation are recorded.
abbrev pub is_recorded : ℕ → Bool
is_recorded n = eqb n 5 || (eqb n 7 || (eqb n 8 || eqb n 9))

-- The refusal's kind joins the recorded kinds, and its address becomes the last one.
abbrev pub joined : ℕ → ByteAddress → Errors → Errors
joined n a e = record {
  malformed = e.malformed || eqb n 5;
  range = e.range || eqb n 7;
  window = e.window || eqb n 8;
  denied = e.denied || eqb n 9;
  address = a;
}

-- The record after an answer, by its number (01: recorded): any other answer leaves it as it was.
unfoldable pub recorded : ℕ → ByteAddress → Errors → Errors
recorded n a e = cond (is_recorded n) (joined n a e) e

-- The address that an operation's refusal records is its own; of a denied read it is 'that of the first denied word'. (02, L3)
unfoldable pub error_address : Setup → ℕ → Operation → ByteAddress
error_address s n o = cond (is_denied_read o n) (span_address o (readable_words s o)) o.address

-- The controller after an operation's answer, before anything starts.
abbrev pub with_recorded : Controller → ℕ → Operation → Controller
with_recorded c n o = with_errors c (recorded n (error_address c.setup n o) c.errors)

-- Clearing checks 1 only. It leaves no kinds and a last address of 0.
unfoldable pub clear : Controller → Outcome
clear c = settle c (with_errors c no_errors) (check (not (valid c)) (Err Invalid))
