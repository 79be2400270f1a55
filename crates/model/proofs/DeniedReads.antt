-- Denied reads (02, L3): cases computed, and which words of a read are readable, by its pages and by the answer of its checks.
-- Assumes nothing.
use Rattle.std.specs.Prelude.{Err}
use Prim.Native.Nat.{ℕ, ◌≤◌, ◌<◌}
use native.Mathlib.Omega.{arith}
use mathlib.Core.Path.{◌≡◌, refl, sym, ◌∙◌}
use mathlib.Core.Bool.{Bool, true, false, ◌&&◌, ◌||◌, not, cond, or-true, or-false, false≢true}
use borrow.Author.Tests.{eqb-true, ltb-true}
use Rattle.model.specs.Kinds.{is_read, is_program, is_bank_erase, max_count}
use Rattle.model.specs.Places.{span_words, span_address, total_words, place_of}
use Rattle.model.specs.Geometry.{page_of, image_page, word_at}
use Rattle.model.specs.Queue.{held, queue_of, pushed, oldest, popped}
use Rattle.model.specs.State.{flash_fits}
use Rattle.model.specs.Rights.{data_ruling, seed_closed, info_ruling, ruling_at, leading, allowed_words, denied, first_denied, decider_of, readable_words}
use Rattle.model.specs.Refusals.{number_of, accepts, is_denied, is_denied_read, check, or_else}
use Rattle.model.specs.Checks.{malformed, out_of_range, crosses_window, operation_answer}
use Rattle.model.specs.Valid.{all, settings_fit, work_fits, running_fits, physical_fits, valid, valid_with}
use Rattle.model.specs.Errors.{recorded, error_address}
use Rattle.model.specs.Settings.{set_inputs, configured, set_region, set_default, set_info, set_erase}
use Rattle.model.specs.Lifecycle.{reset, initialise_answer, initialise}
use Rattle.model.specs.Steps.{starts, start_answer, start, pop_answer, pop, stalls, delivered, read_word, advance, step_progress, step}
use Rattle.model.specs.Whole.{turn, turns, whole_answer, drive, whole}
use Rattle.model.specs.Bench.{open_pages, all_rights, bench, seeds_locked, nothing_given, held_twice, first_off, second_bank_closed, cut_reads, holds}
use Rattle.model.specs.declared.Operation.{Operation}
use Rattle.model.specs.declared.Setup.{Setup}
use Rattle.model.specs.Refusals.{Answer}
use Rattle.model.specs.Refusals.{accepted}
use Rattle.model.specs.declared.Refusal.TheVariants.{Malformed, OutOfRange, CrossesWindow, Denied}
use Rattle.model.specs.declared.Decider.{Decider}
use Rattle.model.proofs.Bool.{and_left, and_right, by_test}
use Rattle.model.proofs.Places.{span_fits}
use Rattle.model.proofs.Checks.{span_words_le}
use Rattle.model.proofs.Rights.{before_denied, allowed_le, allowed_all}
use Rattle.model.proofs.Answers.{accepted_is, asked_in_range, answer_named}

-- ---- settled by one computed statement

pub cut_reads_lem : all holds cut_reads ≡ true
unfolding image_page word_at total_words place_of held queue_of pushed oldest popped data_ruling seed_closed info_ruling ruling_at leading allowed_words denied decider_of readable_words malformed out_of_range crosses_window operation_answer settings_fit work_fits running_fits physical_fits valid flash_fits valid_with recorded error_address set_inputs configured set_region set_default set_info set_erase reset initialise_answer initialise start_answer start pop_answer pop stalls delivered read_word advance step_progress step turn turns whole_answer drive whole open_pages all_rights bench seeds_locked nothing_given held_twice first_off second_bank_closed cut_reads
cut_reads_lem = refl

-- ---- which words are readable

module _ (s : Setup) (o : Operation) (r : is_read o ≡ true) where
  -- A read is no bank erase, and its span has its n words.
  not_bank : is_bank_erase o ≡ false
  not_bank = rw (eqb-true o.kind 0 r)

  pub read_span : span_words o ≡ o.count
  read_span = rw (eqb-true o.kind 0 r)

  -- The readable words of a denied read are those before its first denied page; no later one is, even on an allowed page.
  pub readable_before : denied s o ≡ true → (k : ℕ)
      → (k < readable_words s o → (page_of (span_address o k)).0 < (first_denied s o).0)
      × ((page_of (span_address o k)).0 < (first_denied s o).0 → k < readable_words s o)
  unfolding denied readable_words
  readable_before d k = before_denied s o k (ltb-true _ _ (rw not_bank at d))

  -- No more words of a read are readable than it has.
  pub readable_le : readable_words s o ≤ o.count
  unfolding readable_words
  readable_le = rw read_span at (allowed_le s o)

  -- Of a read that is accepted or denied, only a denied one is to be looked at: all words of the other are readable.
  pub readable_by_answer : (accepts (operation_answer s o) || is_denied (operation_answer s o)) ≡ true
      → cond (is_denied_read o (number_of (operation_answer s o))) (readable_words s o) o.count ≡ readable_words s o
  unfolding readable_words
  readable_by_answer h =
      by_test (is_denied (operation_answer s o)) (λ d. rw (r, d))
      (λ d. rw (r, d) (sym read_span ∙ sym (allowed_all s o not_bank ((asked_in_range s o h).2 ∙ d))))

either : (x y z : Bool) → (x || (y && z)) ≡ true → (x || z) ≡ true
either true y z h = refl
either false true z h = h
either false false z h = absurd (false≢true h)

-- What starts was accepted or denied.
pub started_asked : (s : Setup) (o : Operation) → starts o (operation_answer s o) ≡ true
    → (accepts (operation_answer s o) || is_denied (operation_answer s o)) ≡ true
started_asked s o h = either (accepts (operation_answer s o)) (is_read o) (is_denied (operation_answer s o)) h

-- What is accepted is told so.
pub accepted_told : (s : Setup) (o : Operation) → accepts (operation_answer s o) ≡ true → operation_answer s o ≡ accepted
accepted_told s o h = accepted_is (operation_answer s o) h

-- So all words of an accepted read are readable.
pub accepted_readable : (s : Setup) (o : Operation) → is_read o ≡ true → accepts (operation_answer s o) ≡ true → o.count ≡ readable_words s o
accepted_readable s o r h = rw (r, accepted_told s o h) at (readable_by_answer s o r (rw h))

-- Of the operations that start only a read may be denied: any other is accepted.
module _ (s : Setup) (o : Operation) (r : is_read o ≡ false) (h : starts o (operation_answer s o) ≡ true) where
  pub others_accepted : accepts (operation_answer s o) ≡ true
  others_accepted = sym (or-false _) ∙ (rw r at h)

  pub others_told : operation_answer s o ≡ accepted
  others_told = accepted_told s o others_accepted

-- A read has no window to cross: it is accepted or denied if it passes 5 and 7.
asked_by : (m r d : Bool) (by : Decider)
    → (accepts (or_else (check m (Err Malformed)) (or_else (check r (Err OutOfRange)) (or_else (check false (Err CrossesWindow)) (check d (Err (Denied by))))))
    || is_denied (or_else (check m (Err Malformed)) (or_else (check r (Err OutOfRange)) (or_else (check false (Err CrossesWindow)) (check d (Err (Denied by)))))))
    ≡ (not m && not r)
asked_by true r d by = refl
asked_by false true d by = refl
asked_by false false true by = refl
asked_by false false false by = refl

pub read_asked : (s : Setup) (o : Operation) → is_read o ≡ true
    → (accepts (operation_answer s o) || is_denied (operation_answer s o)) ≡ (not (malformed o) && not (out_of_range s.pages o))
unfolding operation_answer crosses_window
read_asked s o r =
    let other : is_program o ≡ false = rw (eqb-true o.kind 0 r) in
    rw other (asked_by (malformed o) (out_of_range s.pages o) (denied s o) (decider_of s o))

-- ---- a denied read, by its answer

module _ (s : Setup) (o : Operation) {a : Answer} (e : a ≡ operation_answer s o) (d : is_denied_read o (number_of a) ≡ true) where
  denied_read : is_read o ≡ true
  denied_read = and_left (is_read o) _ d

  denied_asked : (malformed o ≡ false) × (out_of_range s.pages o ≡ false) × (denied s o ≡ is_denied (operation_answer s o))
  denied_asked =
      let told : is_denied (operation_answer s o) ≡ true = rw e at (and_right (is_read o) _ d) in
      asked_in_range s o (rw (told, or-true))

  -- It is well formed, so that its span is short,
  pub denied_read_span : span_words o ≤ max_count
  denied_read_span = span_words_le o denied_asked.0 (not_bank s o denied_read)

  -- and in range, so that the address of its first denied word fits 32 bits.
  pub denied_read_address : 10 ≤ s.pages → s.pages ≤ 256 → (span_address o (readable_words s o)).0 ≤ 524288
  denied_read_address g h =
      let span = span_fits s.pages o g h denied_asked.1 (not_bank s o denied_read) in
      let few : readable_words s o ≤ span_words o = rw (read_span s o denied_read) (readable_le s o denied_read) in
      omega arith
