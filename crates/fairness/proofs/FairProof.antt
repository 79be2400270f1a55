-- A step that could move a word moves it by the sixth round that asks it. Assumes nothing.
use Prim.Native.Nat.{◌+◌, ◌≤◌}
use native.Mathlib.Omega.{arith}
use mathlib.Core.Path.{◌≡◌, refl, sym, ◌∙◌}
use mathlib.Core.Bool.{true, false, not, or-true, true≢false}
use mathlib.Core.List.{List, [], ◌∷◌}
use borrow.Author.Tests.{not-true}
use Rattle.model.specs.Valid.{lost_limit}
use Rattle.model.specs.Rounds.{would_move, next_bank}
use Rattle.model.proofs.Bool.{and_left, and_right, or_left, or_right}
use Rattle.model.proofs.Rounds.{lost_fits}
use Rattle.promises.specs.Calls.{Call, State, perform, run, replies}
use Rattle.promises.proofs.Validity.{call_keeps}
use Rattle.fairness.specs.Fair.{is_reset, no_reset, asked, moves, moves_in, lost_turns, FairTurns, BySixth, Waits, SameWord}
use Rattle.fairness.proofs.Kept.{After, moved, kept, is_valid, after}

module _ (s : State) (k : Call) (ks : List Call) where
  -- What a list of calls begins with is no reset, nor does the rest have one.
  first_clean : no_reset (k ∷ ks) ≡ true → is_reset k ≡ false
  first_clean h = not-true _ (and_left (not (is_reset k)) _ h)

  rest_clean : no_reset (k ∷ ks) ≡ true → no_reset ks ≡ true
  rest_clean h = and_right (not (is_reset k)) _ h

  -- One call more, before a list in which a word moves,
  one_more : After s k → lost_limit + 1 ≤ asked (k ∷ ks) + lost_turns s.controller
      → ((n : State) → n ≡ (perform s k).state → would_move n.controller n.flash ≡ true → lost_limit + 1 ≤ asked ks + lost_turns n.controller
      → moves_in (replies n ks) ≡ true) → moves_in (replies s (k ∷ ks)) ≡ true
  one_more (moved e) enough rest = rw e
  one_more (kept x) enough rest =
      rw (rest (perform s k).state refl x.waits.could (omega (arith, x.lost))) (or-true (moves (perform s k).reply.movement))

  -- or in which none does.
  still_waits : After s k → moves_in (replies s (k ∷ ks)) ≡ false
      → ((n : State) → n ≡ (perform s k).state → would_move n.controller n.flash ≡ true → Waits n (run n ks)) → Waits s (run s (k ∷ ks))
  still_waits (moved e) none rest = absurd (true≢false (sym e ∙ or_left (moves (perform s k).reply.movement) _ none))
  still_waits (kept x) none rest =
      let y = rest (perform s k).state refl x.waits.could in
      record {
        progress = y.progress ∙ x.waits.progress;
        bank = y.bank ∙ x.waits.bank;
        flash = y.flash ∙ x.waits.flash;
        could = y.could;
      }

-- Call by call; a valid state has lost no more than five turns.
pub fair_turns : FairTurns
fair_turns s [] shaped could clean enough = absurd (omega (arith, lost_fits s.controller (next_bank s.controller) (is_valid s shaped could)))
fair_turns s (k ∷ ks) shaped could clean enough =
    let next = call_keeps s k shaped (is_valid s shaped could) in
    one_more s k ks (after s shaped could k (first_clean s k ks clean)) enough
    (λ n e c few. fair_turns n ks (rw e next.0) c (rest_clean s k ks clean) few)

pub by_sixth : BySixth
by_sixth s ks shaped could clean six = fair_turns s ks shaped could clean (omega arith)

pub same_word : SameWord
same_word s [] shaped could clean none = record { progress = refl; bank = refl; flash = refl; could = could }
same_word s (k ∷ ks) shaped could clean none =
    let next = call_keeps s k shaped (is_valid s shaped could) in
    still_waits s k ks (after s shaped could k (first_clean s k ks clean)) none
    (λ n e c. same_word n ks (rw e next.0) c (rest_clean s k ks clean) (rw e (or_right (moves (perform s k).reply.movement) _ none)))
