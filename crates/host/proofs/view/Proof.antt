-- `host::view` meets its contract. Assumes nothing.
use Prim.Native.Nat.{ℕ}
use mathlib.Core.Path.{◌≡◌, ap, sym, ◌∙◌}
use mathlib.Core.Bool.{true, false}
use native.Mathlib.Nat.{add-sub_cancel_left}
use borrow.Author.Rules.{rules}
use Rattle.model.specs.Geometry.{first_word, image_page}
use Rattle.model.specs.State.{flash}
use Rattle.model.specs.Refusals.{accepts, number_of, reported}
use Rattle.model.specs.Host.{view_answer, view}
use Rattle.registers.specs.Registers.{decode}
use Rattle.host.proofs.Hosted.{view_inside, view_pages}
use Rattle.host.proofs.view.Statement.{statement}
use Rattle.host.proofs.view.Tie as tie

-- Whether the checks accepted.
asked : (d : tie.After-accepts-accepted) →
    let v = d.before.before.before.args in
    d.accepts-accepted.result ≡ accepts (view_answer (decode v.s.now) (flash v.image.now) v.p)
asked d = rw d.before.view_answer-answer.ensures at d.accepts-accepted.ensures

-- In the branch that shows the page, they did,
granted : (d : tie.Then-accepted) →
    let v = d.before.before.before.before.before.before.args in
    accepts (view_answer (decode v.s.now) (flash v.image.now) v.p) ≡ true
granted d = sym (asked d.before.before.before) ∙ d.if-accepted.true

-- and it starts where the controller's D puts it.
found : (d : tie.After-page_start-start) →
    let v = d.before.before.before.before.before.before.before.args in
    d.page_start-start.result ≡ (first_word (image_page (decode v.s.now).setup.pages false 0 v.p)).0
found d =
    let v = d.before.before.before.before.before.before.before.args in
    d.page_start-start.ensures ∙ ap (λ (n : ℕ). (first_word (image_page n false 0 v.p)).0) (view_pages _ _ _ (granted d.before))

-- The number that is written is the answer's.
told : (d : tie.After-number_of-number) →
    let v = d.before.before.before.before.args in
    d.number_of-number.result ≡ number_of (view_answer (decode v.s.now) (flash v.image.now) v.p)
told d = rw d.before.before.view_answer-answer.ensures at d.number_of-number.ensures

-- and so is what it reports.
named : (d : tie.After-reported-by) →
    let v = d.before.before.before.before.before.args in
    d.reported-by.result ≡ reported (view_answer (decode v.s.now) (flash v.image.now) v.p)
named d = rw d.before.before.before.view_answer-answer.ensures at d.reported-by.ensures

pub view_spec : {M : Type 1} → statement M
unfolding view
view_spec =
    tie.close (tie.spec
    (λ c κs. tt)
    (λ c κs. tt)
    (λ c κs. tt)
    (λ c κs. tt)
    (λ c κs. let h = view_inside _ _ _ (granted c) in (h.0, h.1))
    (λ c. search rules)
    (λ c. search rules)
    (λ c. search rules)
    (λ c. search rules)
    (λ c. search rules)
    (λ c. rw c.page_start-start.ensures (view_inside _ _ _ (granted c.before)).2)
    (λ c. let h = granted c.before.before in let e = found c.before in (simp (h, e, add-sub_cancel_left), (simp (h, e), (told c.before.before.before.before, named c.before.before.before))))
    (λ c. search rules)
    (λ c. search rules)
    (λ c. search rules)
    (λ c. let h = sym (asked c.before.before.before.before) ∙ c.before.if-accepted.false in (simp h, (simp h, (told c.before.before.before, named c.before.before)))))
