-- The slot at the next lower place is seen after those above it.
use Rattle.std.proofs.Common.{ℕ, ◌+◌, ◌-◌, ◌*◌, sym, ap, ◌∙◌, arith}
use Rattle.scan_queue.specs.Slots.{Slot, slot_at}
use Rattle.slots.specs.Code.{payload_bytes}
use Rattle.survey.specs.Survey.{saw}
use Rattle.survey.proofs.Surveying.{all_seen, one_seen, saw_same}
use Rattle.survey.proofs.survey_page.Goals as goal

pub loop-j-init : goal.loop-j-init
loop-j-init c = sym (all_seen _ _ _)

pub loop-j-preserved : goal.loop-j-preserved
loop-j-preserved c =
    let a = c.args in
    let t = c.loop-j.t in
    let p : ℕ = a.q + 16 * (c.loop-j.j - 1) in
    c.saw_class-t.ensures ∙ saw_same p (payload_bytes a.image.now p) c.slot_at.result t
    ∙ ap (λ (x : Slot). saw p x t) c.slot_at.ensures ∙ ap (saw p (slot_at a.image.now p)) c.loop-j.invariant
    ∙ sym (one_seen a.image.now a.q (c.loop-j.j - 1) c.loop-j.j a.s (omega arith) (omega arith))
