-- When a step would move a word, the lost counts, and what a round of both leaves. Assumes nothing.
use Rattle.std.specs.Prelude.{None, Some}
use Prim.Native.Nat.{ℕ, zero, suc, ◌+◌, ◌*◌, ◌≤◌, ◌<◌, ◌/◌, ◌-◌, ◌%◌}
use native.Mathlib.Omega.{arith}
use mathlib.Core.Path.{◌≡◌, refl, sym, ap, ◌∙◌}
use mathlib.Core.Bool.{true, false, true≢false, Bool, cond}
use mathlib.Core.List.{List, [], ◌∷◌}
use lib.Dec.{ltb, leb}
use lib.ListN.{length, get_or, set}
use lib.Seq.{get_or-set_same, get_or-set_other}
use borrow.Author.Tests.{leb-true, le-ltb, ltb-true, ltb-false, eqb-true, not-true, lt-ltb}
use Rattle.model.specs.Geometry.{bank_pages, page_words, page_of, bank_of, bank_of_page, bank_of_word, image_page_of, image_words, word_at, image_page, first_word, special_page, creator_page}
use Rattle.model.specs.Places.{place_of}
use Rattle.model.specs.State.{Flash, Leaves, operation_of, moved_of}
use Rattle.model.specs.Refusals.{accepts, ready_answer}
use Rattle.model.specs.Valid.{all, lost_limit, physical_fits, valid, valid_with}
use Rattle.model.specs.Steps.{stalls, advance, step}
use Rattle.model.specs.Host.{host_read}
use Rattle.model.specs.Rounds.{goes, would_move, progress_bank, next_bank, host_bank, competes, lost_in, host_goes, step_goes, contest, both_go, round, host_served, step_served}
use Rattle.model.specs.declared.Page.{Page}
use Rattle.model.specs.declared.ByteAddress.{ByteAddress}
use Rattle.model.specs.declared.Work.{Work}
use Rattle.model.specs.declared.Work.TheVariants.{Read, Program, Erase}
use Rattle.model.specs.State.{Progress}
use Rattle.model.specs.declared.Controller.{Controller}
use Rattle.model.specs.declared.Stepped.{Stepped}
use Rattle.model.specs.Refusals.{accepted}
use Rattle.model.specs.declared.BusWord.{BusWord}
use Rattle.model.proofs.Bool.{and_left, and_right, by_test}
use Rattle.model.proofs.Valid.{valid_parts}
use Rattle.model.proofs.StepLaws.{advance_accepts, by_step}
use Rattle.model.proofs.Accepting.{step_advances}
use Rattle.model.proofs.Geometry.{quotient}

-- ---- a step that would move a word

-- Checks 1 to 3 accept, and the work in progress does not wait.
pub record Goes (c : Controller) (f : Flash) : Type 0 where
  pub work : Work
  pub ready : accepts (ready_answer (valid_with c f) c.phase) ≡ true
  pub running : c.progress ≡ Some work
  pub flows : stalls c.queues work ≡ false

module _ (c : Controller) (f : Flash) where
  progress_goes : (p : Progress) → c.progress ≡ p → accepts (ready_answer (valid_with c f) c.phase) ≡ true
      → goes c.queues p ≡ true → Goes c f
  progress_goes None e r g = absurd (true≢false (sym g))
  progress_goes (Some w) e r g = record { work = w; ready = r; running = e; flows = not-true _ g }

  pub would_go : would_move c f ≡ true → Goes c f
  unfolding would_move
  would_go h =
      let r = and_left (accepts (ready_answer (valid_with c f) c.phase)) _ h in
      progress_goes c.progress refl r (and_right (accepts (ready_answer (valid_with c f) c.phase)) _ h)

  pub goes_would : Goes c f → would_move c f ≡ true
  unfolding would_move
  goes_would g = rw (g.ready, g.running, g.flows)

  -- It moves one, accepted.
  pub goes_moves : (g : Goes c f) → step c f ≡ advance c f g.work
  goes_moves g = sym (step_advances c f g.work g.ready g.running g.flows)

  pub goes_accepted : Goes c f → (step c f).result.answer ≡ accepted
  goes_accepted g = rw (goes_moves g) (advance_accepts c f g.work)

-- ---- what a step leaves alone

-- A step leaves the setup and the lost counts: of work in progress,
advance_leaves : (c : Controller) (f : Flash) (w : Work)
    → ((advance c f w).result.controller.setup ≡ c.setup) × ((advance c f w).result.controller.physical ≡ c.physical)
unfolding advance
advance_leaves c f (Read o k readable) = (refl, refl)
advance_leaves c f (Program o k) = (refl, refl)
advance_leaves c f (Erase o k) = (refl, refl)

-- and so any step.
pub step_leaves_alone : (c : Controller) (f : Flash)
    → ((step c f).result.controller.setup ≡ c.setup) × ((step c f).result.controller.physical ≡ c.physical)
step_leaves_alone c f =
    by_step c f (λ (l : Leaves Stepped). (l.result.controller.setup ≡ c.setup) × (l.result.controller.physical ≡ c.physical))
    (λ a h. (refl, refl)) (refl, refl) (advance_leaves c f)

-- ---- lost counts

-- Each of a list of counts that fit is at most 5,
each_fits : (l : List ℕ) (i : ℕ) → all (λ n. leb n lost_limit) l ≡ true → get_or l i 0 ≤ lost_limit
each_fits [] i h = omega arith
each_fits (n ∷ l) zero h = leb-true n lost_limit (and_left (leb n lost_limit) _ h)
each_fits (n ∷ l) (suc i) h = each_fits l i (and_right (leb n lost_limit) _ h)

-- so those of a valid state are.
pub lost_fits : (c : Controller) (bank : ℕ) → valid c ≡ true → lost_in c bank ≤ lost_limit
unfolding physical_fits
lost_fits c bank h = each_fits c.physical.lost bank (valid_parts c h).physical

-- There are two banks.
either_bank : (b : Bool) → cond b 0 1 < 2
either_bank true = omega arith
either_bank false = omega arith

pub next_bank_lem : (c : Controller) → next_bank c < 2
unfolding next_bank
next_bank_lem c = of c.progress
  where
    of : (p : Progress) → progress_bank c.setup.pages p < 2
    of None = omega arith
    of (Some w) = either_bank (ltb (place_of c.setup.pages (operation_of w) (moved_of w)).0 _)

-- A count that returns to 0 is 0.
returned : (l : List ℕ) (i : ℕ) → get_or (set l i 0) i 0 ≡ 0
returned [] i = refl
returned (n ∷ l) zero = refl
returned (n ∷ l) (suc i) = returned l i

module _ (c : Controller) (f : Flash) where
  -- Where the host goes first, the bank's count rises by one;
  pub host_goes_counts : (a : ByteAddress) → length c.physical.lost ≡ 2
      → lost_in (host_goes c f a).result.controller (next_bank c) ≡ lost_in c (next_bank c) + 1
  unfolding host_read
  host_goes_counts a h = let bank : next_bank c < length c.physical.lost = rw h (next_bank_lem c) in rw get_or-set_same

  -- where the controller goes instead, it returns to 0;
  pub step_goes_counts : lost_in (step_goes c f).result.controller (next_bank c) ≡ 0
  step_goes_counts = returned (step c f).result.controller.physical.lost (next_bank c)

  -- and the other bank's stays.
  pub other_counts : (a : ByteAddress) (bank : ℕ) → (bank ≡ next_bank c → ⊥)
      → (lost_in (host_goes c f a).result.controller bank ≡ lost_in c bank) × (lost_in (step_goes c f).result.controller bank ≡ lost_in c bank)
  unfolding host_read
  other_counts a bank other = (rw get_or-set_other, rw (get_or-set_other, (step_leaves_alone c f).1))

-- While the count is 4 the host goes; once it is 5, the controller does.
pub host_at_4 : (c : Controller) (f : Flash) (a : ByteAddress) → lost_in c (next_bank c) ≡ 4 → contest c f a ≡ host_goes c f a
host_at_4 c f a h = rw h

pub controller_at_5 : (c : Controller) (f : Flash) (a : ByteAddress) → lost_in c (next_bank c) ≡ 5 → contest c f a ≡ step_goes c f
controller_at_5 c f a h = rw h

-- A host address past 2D pages counts as bank 1.
past_in_bank : (d : ℕ) (p : Page) → 2 * d ≤ p.0 → bank_of d p ≡ 1
past_in_bank d p h = rw (le-ltb p.0 d (omega arith))

pub past_in_bank_1 : (d : ℕ) (a : ByteAddress) → 2 * d ≤ (page_of a).0 → host_bank d a ≡ 1
unfolding host_bank
past_in_bank_1 d a h = past_in_bank d (page_of a) h

-- The information pages of bank 0 lie in bank 0: its creator page does.
creator_in_bank_0 : bank_of_word 16 (first_word (special_page 16 creator_page)) ≡ 0
creator_in_bank_0 = refl

-- The bank of a bus word is that of its page,
pub word_in_its_bank : (d : ℕ) (w : BusWord) → w.0 < image_words d → bank_of_page d (image_page_of w) ≡ bank_of_word d w
word_in_its_bank d w h =
    by_test (ltb w.0 (bank_pages d * page_words))
    (λ t.
    let low : w.0 < (d + 13) * 256 = ltb-true _ _ t in
    let e : w.0 / 256 ≡ 0 * (d + 13) + w.0 / 256 = omega arith in
    rw t (ap (λ (q : ℕ). q / (d + 13)) e ∙ quotient (d + 13) 0 (w.0 / 256) (omega arith)))
    (λ t.
    let high : (d + 13) * 256 ≤ w.0 = ltb-false _ _ t in
    let e : w.0 / 256 ≡ 1 * (d + 13) + (w.0 / 256 - (d + 13)) = omega arith in
    rw t (ap (λ (q : ℕ). q / (d + 13)) e ∙ quotient (d + 13) 1 (w.0 / 256 - (d + 13)) (omega arith)))

-- and that of a host address the bank in which its word lies.
pub host_in_its_bank : (d : ℕ) (a : ByteAddress) → bank_of_word d (word_at d false 0 a) ≡ host_bank d a
unfolding host_bank word_at image_page
host_in_its_bank d a =
    let inside : a.0 % 1024 / 4 < 256 = omega arith in
    by_test (ltb (page_of a).0 d)
    (λ t.
    let low : a.0 / 1024 < d = ltb-true _ _ t in
    rw (t, lt-ltb ((0 * (d + 13) + a.0 / 1024) * 256 + a.0 % 1024 / 4) ((d + 13) * 256) (omega arith)))
    (λ t.
    let high : d ≤ a.0 / 1024 = ltb-false _ _ t in
    rw (t, le-ltb ((1 * (d + 13) + (a.0 / 1024 - d)) * 256 + a.0 % 1024 / 4) ((d + 13) * 256) (omega arith)))

-- ---- a round of one

-- The step alone, or the host alone, is served and leaves the counts.
pub step_alone_served : (c : Controller) (f : Flash)
    → ((round c f None true).result.step ≡ step_served (step c f).result) × ((round c f None true).result.controller.physical ≡ c.physical)
unfolding round
step_alone_served c f = (refl, (step_leaves_alone c f).1)

pub host_alone_served : (c : Controller) (f : Flash) (a : ByteAddress)
    → ((round c f (Some a) false).result.host ≡ host_served (host_read c f a)) × ((round c f (Some a) false).result.controller.physical ≡ c.physical)
unfolding round host_read
host_alone_served c f a = (refl, refl)

-- ---- a round of both

module _ (c : Controller) (f : Flash) (a : ByteAddress) (h : competes c f a ≡ true) where
  -- A step that competes would move a word,
  pub competes_goes : Goes c f
  unfolding competes
  competes_goes = would_go c f (and_left (would_move c f) _ h)

  -- in the bank of the host read.
  pub one_bank : host_bank c.setup.pages a ≡ next_bank c
  unfolding competes
  one_bank = eqb-true _ _ (and_right (would_move c f) _ h)

-- The host goes, the step goes instead, or both do.
pub data BothAsked (c : Controller) (f : Flash) (a : ByteAddress) : Type 0 where
  host : competes c f a ≡ true → lost_in c (next_bank c) < lost_limit → round c f (Some a) true ≡ host_goes c f a → BothAsked c f a
  instead : competes c f a ≡ true → lost_limit ≤ lost_in c (next_bank c) → round c f (Some a) true ≡ step_goes c f → BothAsked c f a
  both : competes c f a ≡ false → round c f (Some a) true ≡ both_go c f a → BothAsked c f a

pub both_asked : (c : Controller) (f : Flash) (a : ByteAddress) → BothAsked c f a
unfolding round
both_asked c f a =
    by_test (competes c f a)
    (λ t.
    by_test (ltb (lost_in c (next_bank c)) lost_limit)
    (λ u. host t (ltb-true _ _ u) (rw (t, u)))
    (λ u. instead t (ltb-false _ _ u) (rw (t, u))))
    (λ t. both t (rw t))
