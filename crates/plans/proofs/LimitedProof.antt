-- With a step for each of its words, an operation that is driven by its calls is the whole operation. Assumes nothing.
use Rattle.std.specs.Prelude.{Err}
use Prim.Native.Nat.{ℕ, min}
use native.Mathlib.Omega.{arith}
use mathlib.Core.Path.{◌≡◌, ap}
use mathlib.Core.Bool.{cond}
use Rattle.model.specs.Places.{total_words}
use Rattle.model.specs.Refusals.{accepts}
use Rattle.model.specs.Steps.{starts, start}
use Rattle.model.specs.Whole.{leaving, completed, turns, whole_answer, short_buffer, drive, whole}
use Rattle.model.specs.declared.Refusal.TheVariants.{ShortBuffer}
use Rattle.plans.specs.Limited.{driven_from, driven, DrivenToItsEnd}

pub driven_to_its_end : DrivenToItsEnd
unfolding driven driven_from whole drive
driven_to_its_end steps c f o b h =
    let begun = start c o in
    let all : min steps (total_words c.setup.pages o) ≡ total_words c.setup.pages o = omega arith in
    ap
    (λ (n : ℕ). cond (accepts (whole_answer c f))
    (cond (short_buffer o b) (leaving c (Err ShortBuffer) 0 f b)
    (cond (starts o begun.answer)
    (completed begun.answer (turns o n (record { controller = begun.controller; flash = f; buffer = b; bits = 0 })))
    (leaving begun.controller begun.answer 0 f b)))
    (leaving c (whole_answer c f) 0 f b))
    all
