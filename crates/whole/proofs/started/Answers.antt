-- `whole::started` meets its contract. Assumes nothing.
use Rattle.std.proofs.Common.{sym, ◌∙◌}
use Rattle.model.specs.State.{flash}
use Rattle.model.proofs.DeniedReads.{accepted_readable}
use Rattle.registers.specs.Registers.{stands_for}
use Rattle.whole.proofs.Checked.{placed, read_room, program_room}
use Rattle.whole.proofs.Completed.{left_read, left_program, left_erase}
use Rattle.whole.proofs.started.Goals as goal

pub read-requires : goal.read-requires
unfolding stands_for
read-requires c =
    let h = c.requires.0 in
    let r = sym c.is_read.ensures ∙ c.if-is_read.true in
    let at = stands_for c.args.s.now in
    (placed at _ c.args.o h.free (rw c.requires.1), read_room at _ c.args.o h.free c.args.buffer.now h.room (rw c.requires.1) r)

pub returns-then-is_read : goal.returns-then-is_read
unfolding stands_for
returns-then-is_read c =
    let r = sym c.is_read.ensures ∙ c.if-is_read.true in
    rw (
      c.read.ensures.registers,
      c.read.ensures.buffer,
      r,
      ← accepted_readable _ c.args.o r c.requires.1,
    )
    (left_read _ (flash c.args.image.now) c.args.o c.args.buffer.now c.requires.0.encodes _ _)

pub program-bits-requires : goal.program-bits-requires
unfolding stands_for
program-bits-requires c =
    let h = c.requires.0 in
    let r = sym c.is_program.ensures ∙ c.if-is_program.true in
    let at = stands_for c.args.s.now in
    (placed at _ c.args.o h.free (rw c.requires.1), program_room at _ c.args.o h.free c.args.buffer.now h.room (rw c.requires.1) r)

pub returns-then-is_program : goal.returns-then-is_program
returns-then-is_program c =
    rw (
      c.put_programs.ensures,
      c.empty.ensures,
      c.program-bits.ensures.value,
      c.program-bits.ensures.image_after,
      sym c.is_program.ensures ∙ c.if-is_program.true,
      sym c.is_read.ensures ∙ c.if-is_read.false,
    )
    (left_program _ (flash c.args.image.now) c.args.o c.args.buffer.now c.requires.0.encodes _)

pub erase-requires : goal.erase-requires
unfolding stands_for
erase-requires c = placed (stands_for c.args.s.now) _ c.args.o c.requires.0.free (rw c.requires.1)

pub returns : goal.returns
returns c =
    rw (
      c.erase.ensures.value,
      c.erase.ensures.image_after,
      sym c.is_program.ensures ∙ c.if-is_program.false,
      sym c.is_read.ensures ∙ c.if-is_read.false,
    )
    (left_erase _ (flash c.args.image.now) c.args.o c.args.buffer.now c.requires.0.encodes _)
