-- `driving::drive` meets its contract. Assumes nothing.
use Rattle.std.proofs.Common.{sym, ◌∙◌, arith}
use Rattle.model.specs.State.{flash}
use Rattle.driving.proofs.Driving.{drive_refused, drive_short, drive_stops, drive_goes, few_total, has_room}
use Rattle.driving.proofs.drive.Goals as goal

pub returns-then-not-accepts : goal.returns-then-not-accepts
returns-then-not-accepts c =
    let a = c.args in
    rw c.unmoved.ensures
    (drive_refused a.steps a.s.now (flash a.image.now) a.o a.buffer.now _ c.whole_answer-first.ensures
    (sym c.accepts.ensures ∙ c.if-not-accepts.true))

pub returns-then-short_buffer : goal.returns-then-short_buffer
returns-then-short_buffer c =
    let a = c.args in
    let free = rw c.whole_answer-first.ensures at (sym c.accepts.ensures ∙ c.if-not-accepts.false) in
    rw c.unmoved-then-short_buffer.ensures
    (drive_short a.steps a.s.now (flash a.image.now) a.o a.buffer.now free (sym c.short_buffer.ensures ∙ c.if-short_buffer.true))

pub returns-then-not-starts : goal.returns-then-not-starts
returns-then-not-starts c =
    let a = c.args in
    let free = rw c.whole_answer-first.ensures at (sym c.accepts.ensures ∙ c.if-not-accepts.false) in
    let room = sym c.short_buffer.ensures ∙ c.if-short_buffer.false in
    rw c.unmoved-then-not-starts.ensures
    (drive_stops a.steps a.s.now (flash a.image.now) a.o a.buffer.now free room _ c.start-answer.ensures.left (sym c.starts.ensures ∙ c.if-not-starts.true))

pub overflow_cast-total : goal.overflow_cast-total
overflow_cast-total c =
    let a = c.args in
    let free = rw c.whole_answer-first.ensures at (sym c.accepts.ensures ∙ c.if-not-accepts.false) in
    let room = sym c.short_buffer.ensures ∙ c.if-short_buffer.false in
    let go = sym c.starts.ensures ∙ c.if-not-starts.false in
    let all = rw c.pages-d.ensures at c.total_words-total.ensures in
    omega (arith, few_total a.steps a.s.now (flash a.image.now) a.o a.buffer.now free room _ c.start-answer.ensures.left go _ all)

pub turns-bits-requires : goal.turns-bits-requires
turns-bits-requires c =
    let a = c.args in
    let free = rw c.whole_answer-first.ensures at (sym c.accepts.ensures ∙ c.if-not-accepts.false) in
    let room = sym c.short_buffer.ensures ∙ c.if-short_buffer.false in
    let go = sym c.starts.ensures ∙ c.if-not-starts.false in
    let all = rw c.pages-d.ensures at c.total_words-total.ensures in (
      has_room a.steps a.s.now (flash a.image.now) a.o a.buffer.now free room _ c.start-answer.ensures.left go _ all _ (omega (arith, c.min-n.ensures)),
      omega (arith, c.min-n.ensures, few_total a.steps a.s.now (flash a.image.now) a.o a.buffer.now free room _ c.start-answer.ensures.left go _ all),
    )

pub returns : goal.returns
returns c =
    let a = c.args in
    let free = rw c.whole_answer-first.ensures at (sym c.accepts.ensures ∙ c.if-not-accepts.false) in
    let room = sym c.short_buffer.ensures ∙ c.if-short_buffer.false in
    let go = sym c.starts.ensures ∙ c.if-not-starts.false in
    let all = rw c.pages-d.ensures at c.total_words-total.ensures in
    rw (c.flag_of.ensures.0, c.from-told.ensures)
    (drive_goes a.steps a.s.now (flash a.image.now) a.o a.buffer.now free room _ c.start-answer.ensures.left go _ all _ c.min-n.ensures
    (record {
      registers = c.turns-bits.new.s;
      flash = flash c.turns-bits.new.image;
      buffer = c.turns-bits.new.buffer;
      bits = c.turns-bits.result;
    }) c.turns-bits.ensures)
