-- Host read and view: reads past the queues, allowed during an operation and never recorded.
-- (01, 'Who may touch which page' and 'When the desk says no')
use Rattle.std.specs.Prelude.{ℕ, Bool, false, not, cond, List, [], leb, take, drop, Err}
use Rattle.model.specs.Geometry.{data_pages, page_words, page_of, image_page, first_word, word_at}
use Rattle.model.specs.Kinds.{read_right}
use Rattle.model.specs.State.{Flash}
use Rattle.model.specs.Rights.{grants, ruling_at}
use Rattle.model.specs.Refusals.{accepts, number_of, reported, check, or_else, ready_answer}
use Rattle.model.specs.Checks.{unaligned, past_data}
use Rattle.model.specs.Valid.{valid_with}
use Rattle.model.specs.Steps.{delivered}
use Rattle.model.specs.declared.Page.{Page}
use Rattle.model.specs.declared.BusWord.{BusWord}
use Rattle.model.specs.declared.ByteAddress.{ByteAddress}
use Rattle.model.specs.declared.Setup.{Setup}
use Rattle.model.specs.declared.Controller.{Controller}
use Rattle.model.specs.declared.Fetched.{Fetched}
use Rattle.model.specs.Refusals.{Answer}
use Rattle.model.specs.declared.Refusal.TheVariants.{Malformed, OutOfRange, Denied}

-- A host read or page view needs the read right on its data page. Denied, it names who decided.
abbrev pub unreadable : Setup → Page → Bool
unreadable s p = not (grants (ruling_at s false 0 p).rights read_right)

abbrev pub read_answer : Setup → Page → Answer
read_answer s p = check (unreadable s p) (Err (Denied (ruling_at s false 0 p).decider))

-- ---- host read: checks 1, 2, 3, 5, 7 and 9

unfoldable pub host_answer : Controller → Flash → ByteAddress → Answer
host_answer c f a =
    or_else (ready_answer (valid_with c f) c.phase)
    (or_else (check (unaligned a) (Err Malformed))
    (or_else (check (past_data c.setup.pages a) (Err OutOfRange))
    (read_answer c.setup (page_of a))))

unfoldable pub host_read : Controller → Flash → ByteAddress → Fetched
host_read c f a = record {
  controller = c;
  answer = host_answer c f a;
  word = cond (accepts (host_answer c f a)) (delivered f (word_at c.setup.pages false 0 a)) 0;
}

-- ---- view: checks 1, 2, 3, 7 and 9; a page number past 2D - 1 is 7

unfoldable pub view_answer : Controller → Flash → Page → Answer
view_answer c f p =
    or_else (ready_answer (valid_with c f) c.phase)
    (or_else (check (leb (data_pages c.setup.pages) p.0) (Err OutOfRange))
    (read_answer c.setup p))

-- A view is the page's own 256 words inside the lent image: its number, what it reports, where it starts in the image, and its
-- words.
-- Refused, it is empty, and starts where the image does.
pub record View : Type 0 where
  pub number : ℕ
  pub decider : ℕ
  pub start : BusWord
  pub words : List ℕ

abbrev pub view_of : Controller → Flash → Page → Answer → View
view_of c f p a = record {
  number = number_of a;
  decider = reported a;
  start = cond (accepts a) (first_word (image_page c.setup.pages false 0 p)) (record { 0 = 0 });
  words = cond (accepts a) (take page_words (drop (first_word (image_page c.setup.pages false 0 p)).0 f.words)) [];
}

unfoldable pub view : Controller → Flash → Page → View
view c f p = view_of c f p (view_answer c f p)
