-- A whole operation for at most so many steps: start, then for each word in order its step, with a push before it or a pop after
-- it. Where the steps do not reach, the operation stays in progress. (02, L11: 'Cut the power between any two steps')
use Rattle.std.specs.Prelude.{ℕ, ◌≤◌, min, ◌≡◌, cond, List, Err}
use Rattle.model.specs.Places.{total_words}
use Rattle.model.specs.State.{Flash}
use Rattle.model.specs.Refusals.{accepts}
use Rattle.model.specs.Steps.{starts, start}
use Rattle.model.specs.Whole.{WholeLeaves, leaving, completed, turns, whole_answer, short_buffer, whole}
use Rattle.model.specs.declared.Operation.{Operation}
use Rattle.model.specs.declared.Controller.{Controller}
use Rattle.model.specs.declared.Outcome.{Outcome}
use Rattle.model.specs.declared.Refusal.TheVariants.{ShortBuffer}

-- An operation that starts makes the turns of its first words, as many as there are steps.
unfoldable pub driven_from : ℕ → ℕ → Operation → Outcome → Flash → List ℕ → WholeLeaves
driven_from steps d o s f b =
    cond (starts o s.answer)
    (completed s.answer
    (turns o (min steps (total_words d o)) (record { controller = s.controller; flash = f; buffer = b; bits = 0 })))
    (leaving s.controller s.answer 0 f b)

unfoldable pub driven : ℕ → Controller → Flash → Operation → List ℕ → WholeLeaves
driven steps c f o b =
    cond (accepts (whole_answer c f))
    (cond (short_buffer o b) (leaving c (Err ShortBuffer) 0 f b) (driven_from steps c.setup.pages o (start c o) f b))
    (leaving c (whole_answer c f) 0 f b)

-- With a step for each of its words it is the whole operation.
abbrev pub DrivenToItsEnd : Type 0
DrivenToItsEnd =
    (steps : ℕ) (c : Controller) (f : Flash) (o : Operation) (b : List ℕ) → total_words c.setup.pages o ≤ steps
    → driven steps c f o b ≡ whole c f o b
