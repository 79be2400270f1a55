-- Wherever the power is cut, the waiting list is the one before the call or the one after it. Assumes nothing.
use Prim.Native.Nat.{ℕ, zero, suc, ◌≤◌}
use native.Mathlib.Omega.{arith}
use mathlib.Core.Path.{◌≡◌, refl, ap, subst, ◌∙◌}
use mathlib.Core.Bool.{true, false, not}
use mathlib.Core.Logic.{inl, inr, ⊎_elim}
use mathlib.Core.List.{List, [], ◌∷◌}
use lib.Dec.{ltb, eqb}
use lib.ListN.{length, take}
use borrow.Author.Tests.{ltb-true, eqb-true}
use Rattle.model.specs.Geometry.{data_pages}
use Rattle.model.specs.State.{Flash}
use Rattle.model.proofs.Bool.{which, and_left, and_right}
use Rattle.registers.specs.Layout.{register_count}
use Rattle.registers.specs.Registers.{setup_of, decode}
use Rattle.scan_queue.specs.Slots.{Pages, Entry, places, queue, waiting_list}
use Rattle.scan_queue.specs.Decisions.{Decision, write, taking, take_oldest}
use Rattle.scan_queue.specs.Cuts.{Step, run, plan, steps_of, Write, Take, after, cut}
use Rattle.scan_queue.proofs.Encoding.{Below}
use Rattle.scan_queue.proofs.PowerCut.{call_done, power_cut}
use Rattle.scan_pages.specs.Pages.{page_word, lower, higher, allows, pages_serve, pages_answer}
use Rattle.scan_pages.proofs.Accepted.{Serves}
use Rattle.scans.specs.Jobs.{jobs, jobs_in}
use Rattle.scans.specs.Scans.{write_done, write_in, take_done, waiting, take_in}
use Rattle.scans.proofs.Passed.{accepted, served, pages_same, both_pages}
use Rattle.scan_promises.specs.PowerCut.{low_word, high_word, listed, WriteCut, TakeCut, PowerCut}
use Rattle.scan_promises.proofs.Runs.{Good}
use Rattle.scan_promises.proofs.Jobs.{jobs_run}
use Rattle.scan_promises.proofs.Placed.{Sits, all_run, most, steps_few, write_sits, take_sits}

take_over : (l : List Step) (n : ℕ) → length l ≤ n → take n l ≡ l
take_over [] zero h = refl
take_over [] (suc n) h = refl
take_over (x ∷ l) zero h = absurd (omega arith)
take_over (x ∷ l) (suc n) h = ap (λ (k : List Step). x ∷ k) (take_over l n (omega arith))

-- Past refusals 1 to 4 and 16:
module _ (s : List ℕ) (f : Flash) (a b : ℕ) (size : length s ≡ register_count) (ok : pages_answer (decode s) f a b ≡ 0) where
  pub good : Good (decode s).setup s f
  good = record { long = record { size = size }; free = accepted s f a b _ refl ok; setup = refl }

  both_serve : Serves (decode s).setup a × Serves (decode s).setup b
  unfolding pages_serve
  both_serve =
      let all = served s f a b _ refl ok in
      let r1 = and_right (ltb a (data_pages (decode s).setup.pages)) _ all in
      let r2 = and_right (ltb b (data_pages (decode s).setup.pages)) _ r1 in
      let r3 = and_right (not (eqb a b)) _ r2 in (
        record {
          there = ltb-true a (data_pages (decode s).setup.pages) (and_left (ltb a (data_pages (decode s).setup.pages)) _ all);
          rights = eqb-true _ 7 (and_left (allows (decode s).setup a) _ r3);
        },
        record {
          there = ltb-true b (data_pages (decode s).setup.pages) (and_left (ltb b (data_pages (decode s).setup.pages)) _ r1);
          rights = eqb-true _ 7 (and_right (allows (decode s).setup a) _ r3);
        },
      )

  pub in_order : Serves (decode s).setup (lower a b) × Serves (decode s).setup (higher a b)
  in_order =
      ⊎_elim (λ (e : ltb a b ≡ true). rw e both_serve) (λ (e : ltb a b ≡ false). rw e (both_serve.1, both_serve.0)) (which (ltb a b))

  pages : Pages f.words (low_word s a b) (high_word s a b)
  pages = both_pages s f a b _ refl ok

  -- A decision that sits in the pages, cut after n steps.
  cut_words : (n : ℕ) (x : ℕ → Decision) → Sits (decode s).setup (x (decode s).setup.pages)
      → (jobs_in n s f (jobs (setup_of s).pages (x (setup_of s).pages))).flash.words ≡ run (take n (steps_of (plan (x (setup_of s).pages)))) f.words
  cut_words n x h =
      subst (λ (d : ℕ). (jobs_in n s f (jobs d (x d))).flash.words ≡ run (take n (steps_of (plan (x d)))) f.words) (pages_same s f a b _ refl ok)
      (jobs_run (decode s).setup _ _ (all_run (decode s).setup (x (decode s).setup.pages) h) n s f good)

  few : (x : ℕ → Decision) → Sits (decode s).setup (x (decode s).setup.pages) → length (steps_of (plan (x (setup_of s).pages))) ≤ most (x (setup_of s).pages)
  few x h =
      subst (λ (d : ℕ). length (steps_of (plan (x d))) ≤ most (x d)) (pages_same s f a b _ refl ok) (steps_few (decode s).setup (x (decode s).setup.pages) h)

  -- ---- a write

  module _ (bytes : List ℕ) (are : Below 256 bytes) where
    wrote : ℕ → Decision
    wrote d = write f.words (page_word d (lower a b)) (page_word d (higher a b)) bytes

    sits : Sits (decode s).setup (wrote (decode s).setup.pages)
    unfolding wrote
    sits = write_sits (decode s).setup (lower a b) (higher a b) in_order.0 in_order.1 f.words bytes are

    pub write_words : (n : ℕ) → (write_in n s f a b bytes).flash.words ≡ cut n f.words (low_word s a b) (high_word s a b) (Write bytes)
    unfolding write_in write_done cut wrote
    write_words n = rw ok (cut_words n wrote sits)

    write_list : (n : ℕ) → listed s (write_in n s f a b bytes).flash a b ≡ waiting_list (cut n f.words (low_word s a b) (high_word s a b) (Write bytes)) (places (low_word s a b) (high_word s a b))
    write_list n = ap (λ (m : List ℕ). waiting_list m (places (low_word s a b) (high_word s a b))) (write_words n)

    write_most : (x : Decision) → most x ≤ 271
    write_most (Decision.Refused k) = omega arith
    write_most (Decision.Puts p t) = omega arith
    write_most (Decision.Erases q t) = omega arith
    write_most (Decision.Marks p) = omega arith

    pub write_cut : (n : ℕ) → WriteCut n s f a b bytes
    unfolding cut after wrote
    write_cut n = record {
      cut =
          ⊎_elim (λ e. inl (write_list n ∙ e))
          (λ e. inr (write_list n ∙ e ∙ call_done f.words (low_word s a b) (high_word s a b) (Write bytes) pages are))
          (power_cut f.words (low_word s a b) (high_word s a b) (Write bytes) n pages are);
      done = λ h.
          let all : take n (steps_of (plan (wrote (setup_of s).pages))) ≡ steps_of (plan (wrote (setup_of s).pages))
          = take_over (steps_of (plan (wrote (setup_of s).pages))) n (omega (arith, few wrote sits, write_most (wrote (setup_of s).pages))) in
          write_list n ∙ ap (λ (l : List Step). waiting_list (run l f.words) (places (low_word s a b) (high_word s a b))) all
          ∙ call_done f.words (low_word s a b) (high_word s a b) (Write bytes) pages are;
    }

  -- ---- a take

  unfoldable pub taken : ℕ → Decision
  taken d = take_oldest f.words (page_word d (lower a b)) (page_word d (higher a b))

  pub take_sat : Sits (decode s).setup (taken (decode s).setup.pages)
  unfolding taken
  take_sat = take_sits (decode s).setup (lower a b) (higher a b) in_order.0 in_order.1 f.words

  handing : (n : ℕ) (q : List Entry) → (take_done n s f q).flash.words ≡ (jobs_in n s f (jobs (setup_of s).pages (taking q))).flash.words
  unfolding take_done jobs jobs_in
  handing n [] = refl
  handing n (e ∷ l) = refl

  pub take_words : (n : ℕ) → (take_in n s f a b).flash.words ≡ cut n f.words (low_word s a b) (high_word s a b) Take
  unfolding take_in cut taken take_oldest
  take_words n = rw ok (handing n (waiting s f a b) ∙ cut_words n taken take_sat)

  take_list : (n : ℕ) → listed s (take_in n s f a b).flash a b ≡ waiting_list (cut n f.words (low_word s a b) (high_word s a b) Take) (places (low_word s a b) (high_word s a b))
  take_list n = ap (λ (m : List ℕ). waiting_list m (places (low_word s a b) (high_word s a b))) (take_words n)

  one_step : (q : List Entry) → most (taking q) ≤ 1
  one_step [] = omega arith
  one_step (e ∷ l) = omega arith

  take_most : most (taken (setup_of s).pages) ≤ 1
  unfolding taken take_oldest
  take_most = one_step (queue f.words (places (low_word s a b) (high_word s a b)))

  pub take_cut : (n : ℕ) → TakeCut n s f a b
  unfolding cut after taken
  take_cut n = record {
    cut =
        ⊎_elim (λ e. inl (take_list n ∙ e))
        (λ e. inr (take_list n ∙ e ∙ call_done f.words (low_word s a b) (high_word s a b) Take pages tt))
        (power_cut f.words (low_word s a b) (high_word s a b) Take n pages tt);
    done = λ h.
        let all : take n (steps_of (plan (taken (setup_of s).pages))) ≡ steps_of (plan (taken (setup_of s).pages))
        = take_over (steps_of (plan (taken (setup_of s).pages))) n (omega (arith, few taken take_sat, take_most)) in
        take_list n ∙ ap (λ (l : List Step). waiting_list (run l f.words) (places (low_word s a b) (high_word s a b))) all
        ∙ call_done f.words (low_word s a b) (high_word s a b) Take pages tt;
  }

pub power_cut_holds : PowerCut
power_cut_holds = record {
  writes = λ n s f a b bytes size are ok. write_cut s f a b size ok bytes are n;
  takes = λ n s f a b size ok. take_cut s f a b size ok n;
}
