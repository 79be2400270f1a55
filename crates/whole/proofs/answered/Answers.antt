-- `whole::answered` meets its contract. Assumes nothing.
use Rattle.std.proofs.Common.{◌≡◌, true, Err, refl, sym, ◌∙◌}
use mathlib.Core.Path.{subst}
use Rattle.model.specs.State.{flash}
use Rattle.model.specs.Kinds.{is_read}
use Rattle.model.specs.Refusals.{Answer}
use Rattle.model.specs.Checks.{operation_answer}
use Rattle.model.specs.Steps.{starts}
use Rattle.model.proofs.Bool.{and_left}
use Rattle.model.proofs.Order.{pages_bound}
use Rattle.model.proofs.Free.{whole_free}
use Rattle.registers.specs.Registers.{setup_of, stands_for}
use Rattle.whole.proofs.Checked.{placed, read_room}
use Rattle.whole.proofs.Completed.{left_recorded, left_denied}
use Rattle.whole.proofs.answered.Goals as goal

pub started-requires : goal.started-requires
started-requires c = (c.requires.0, rw (sym c.requires.1 ∙ c.in-Ok.is))

pub returns-in-Ok-clause-left : goal.returns-in-Ok-clause-left
returns-in-Ok-clause-left c = rw c.in-Ok.is c.started.ensures

pub recorded-errors-requires : goal.recorded-errors-requires
unfolding stands_for
recorded-errors-requires c = record {
  answered = sym c.in-Err.is ∙ c.requires.1;
  pages = pages_bound (stands_for c.args.s.now) (whole_free _ _ c.requires.0.free).fits;
}

pub readable-readable-requires : goal.readable-readable-requires
unfolding stands_for
readable-readable-requires c = sym c.in-Err.is ∙ c.requires.1

pub read-requires : goal.read-requires
unfolding stands_for
read-requires c =
    let d = sym c.is_denied_read.ensures ∙ c.if-is_denied_read.true in
    let h = c.requires.0 in
    let at = stands_for c.args.s.now in
    let goes : starts c.args.o (operation_answer (setup_of c.args.s.now) c.args.o) ≡ true =
    subst (λ (x : Answer). starts c.args.o x ≡ true) (sym c.in-Err.is ∙ c.requires.1) d in
    (placed at _ c.args.o h.free goes, read_room at _ c.args.o h.free c.args.buffer.now h.room goes (and_left (is_read c.args.o) _ d))

pub returns-then-is_denied_read-clause-left : goal.returns-then-is_denied_read-clause-left
unfolding stands_for
returns-then-is_denied_read-clause-left c =
    let d = sym c.is_denied_read.ensures ∙ c.if-is_denied_read.true in
    let shown = rw d at c.readable-readable.ensures in
    rw (
      c.in-Err.is,
      c.put_errors.ensures,
      c.read.ensures.registers,
      c.read.ensures.buffer,
      c.recorded-errors.ensures,
      d,
      and_left (is_read c.args.o) _ d,
      ← shown,
    )
    (left_denied _ (flash c.args.image.now) c.args.o c.args.buffer.now c.requires.0.encodes (Err c.in-Err.refusal) (sym c.in-Err.is ∙ c.requires.1) refl _ _)

pub returns-else-is_denied_read-clause-left : goal.returns-else-is_denied_read-clause-left
returns-else-is_denied_read-clause-left c =
    let other = sym c.is_denied_read.ensures ∙ c.if-is_denied_read.false in
    rw (c.in-Err.is, c.put_errors-in-Err.ensures, c.recorded-errors.ensures, other)
    (left_recorded _ (flash c.args.image.now) c.args.o c.args.buffer.now c.requires.0.encodes (Err c.in-Err.refusal) (sym c.in-Err.is ∙ c.requires.1) refl)
