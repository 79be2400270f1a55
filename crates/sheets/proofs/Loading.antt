-- The words that an entry carries, stored one by one. Assumes nothing.
use mathlib.Core.Path.{◌≡◌, refl, sym, ap, ◌∙◌}
use mathlib.Core.Bool.{false, ◌&&◌}
use mathlib.Core.List.{List, [], ◌∷◌, ◌++◌, append-nil}
use Prim.Native.Nat.{ℕ, zero, suc, ◌+◌, ◌≤◌}
use native.Mathlib.Omega.{arith}
use native.Mathlib.Numerals.{add-one}
use native.Mathlib.Nat.{add-zero}
use Rattle.std.proofs.lemmas.List.{length-take-le}
use lib.ListN.{length, set, take, drop, replicate, length-replicate, drop_of_length-le}
use lib.Seq.{sets, sets-eq, length-sets}
use lib.Dec.{leb}
use borrow.Author.Tests.{leb-true, ltb-true, le-ltb}
use Rattle.model.specs.Kinds.{is_program, uses_count, max_count}
use Rattle.model.specs.Checks.{malformed}
use Rattle.model.specs.Whole.{short_buffer}
use Rattle.model.specs.declared.Operation.{Operation}
use Rattle.model.proofs.Bool.{by_test, and_right}
use Rattle.model.proofs.Checks.{count_bound}
use Rattle.std.proofs.Common.{Ok}
use Rattle.numbers.specs.Number.{Parsed, largest, then_number, then_numbers, value_of}
use Rattle.numbers.proofs.Laws.{numbers_none, numbers_more}
use Rattle.sheets.specs.Sheet.{carried, words_from, loaded}

-- Words stored after others are stored with them.
pub sets_append : (row : List ℕ) (i : ℕ) (ws vs : List ℕ) → sets (sets row i ws) (i + length ws) vs ≡ sets row i (ws ++ vs)
sets_append row i [] vs = rw add-zero refl
sets_append row i (w ∷ ws) vs =
    let e : i + suc (length ws) ≡ suc i + length ws = omega arith in
    rw e (sets_append (set row i w) (suc i) ws vs)

-- Words stored at the front of a row come before the rest of it.
at_front : (row ws : List ℕ) → length ws ≤ length row → sets row 0 ws ≡ ws ++ drop (length ws) row
at_front row ws h =
    let z : 0 + length ws ≡ length ws = omega arith in
    sets-eq ws row 0 (omega arith) ∙ rw z refl

-- The words that an entry carries, the last one after the others.
words_length : (s : List ℕ) (k : ℕ) (r : Parsed) → length (words_from s k r) ≡ k
unfolding words_from
words_length s zero r = refl
words_length s (suc k) r = ap suc (words_length s k (then_number s largest r))

words_more : (s : List ℕ) (k : ℕ) (r : Parsed) → words_from s (k + 1) r ≡ words_from s k r ++ (value_of (then_numbers s (k + 1) r) ∷ [])
unfolding words_from then_numbers
words_more s zero r = refl
words_more s (suc k) r =
    let e = rw add-one at (words_more s k (then_number s largest r)) in
    rw (add-one (suc k)) (ap (λ (l : List ℕ). value_of (then_number s largest r) ∷ l) e)

-- Where they are read from.
abbrev pub from : ℕ → Parsed
from at = Ok (record { value = 0; next = at })

-- The first k words stand at the front of the row, and `last` is where they end.
pub record Loading (s row : List ℕ) (at k : ℕ) (last : Parsed) (words : List ℕ) : Type 0 where
  pub read : last ≡ then_numbers s k (from at)
  pub front : words ≡ sets row 0 (words_from s k (from at))

module _ {s row : List ℕ} {at : ℕ} where
  pub loading_none : Loading s row at 0 (from at) row
  unfolding words_from
  loading_none = record { read = numbers_none s (from at); front = refl }

  pub loading_more : {k : ℕ} {last : Parsed} {words : List ℕ} → Loading s row at k last words
      → {next : Parsed} {w : ℕ} → next ≡ then_number s largest last → w ≡ value_of next → Loading s row at (k + 1) next (set words k w)
  loading_more {k} l {next} {w} e v =
      let n : next ≡ then_numbers s (k + 1) (from at) = e ∙ rw l.read (numbers_more s k (from at)) in
      let m : k ≡ 0 + length (words_from s k (from at)) = rw (words_length s k (from at)) (omega arith) in
      let o : set (sets row 0 (words_from s k (from at))) k w ≡ sets row 0 (words_from s k (from at) ++ (w ∷ []))
      = ap (λ (j : ℕ). set (sets row 0 (words_from s k (from at))) j w) m ∙ sets_append row 0 (words_from s k (from at)) (w ∷ []) in
      record { read = n; front = rw l.front (o ∙ rw (words_more, v, n) refl) }

  -- The row is full.
  pub loading_all : {k : ℕ} {last : Parsed} {words : List ℕ} → k ≡ length row → Loading s row at k last words → words ≡ words_from s (length row) (from at)
  loading_all {k} e l =
      let ws : List ℕ = words_from s (length row) (from at) in
      let n : length ws ≡ length row = words_length s (length row) (from at) in
      l.front ∙ rw e (at_front row ws (omega arith) ∙ rw (n, drop_of_length-le row {i = length row} (omega arith)) (append-nil ws))

-- Sixteen at most.
pub carried_few : (o : Operation) → carried o ≤ 16
unfolding carried
carried_few o =
    by_test (is_program o && leb o.count 16) (λ e. rw e (leb-true _ _ (and_right (is_program o) _ e))) (λ e. rw e (omega arith))

-- ---- the buffer

-- The words that an entry carries are read into the front of the buffer.
module _ (o : Operation) (n : ℕ) (e : n ≡ carried o) where
  pub front_length : n ≡ length (take n (replicate {A = ℕ} max_count 0))
  front_length = let h = carried_few o in sym (length-take-le n _ (rw length-replicate (omega arith)))

  pub front_loaded : (s : List ℕ) (at : ℕ) {words : List ℕ} → words ≡ words_from s (length (take n (replicate {A = ℕ} max_count 0))) (from at)
      → words ++ drop n (replicate max_count 0) ≡ loaded s o at
  unfolding loaded
  front_loaded s at r =
      let h = carried_few o in
      let w : length (words_from s n (from at)) ≡ n = words_length s n (from at) in
      rw (← e, r, ← front_length, at_front (replicate max_count 0) (words_from s n (from at)) (rw (w, length-replicate) (omega arith)), w) refl

loaded_length : (s : List ℕ) (o : Operation) (at : ℕ) → length (loaded s o at) ≡ max_count
unfolding loaded
loaded_length s o at = length-sets (replicate max_count 0) 0 (words_from s (carried o) (from at)) ∙ length-replicate {A = ℕ} max_count 0

-- It is long enough for every operation: 6 never answers.
pub never_short : (s : List ℕ) (o : Operation) (at : ℕ) → short_buffer o (loaded s o at) ≡ false
never_short s o at =
    rw loaded_length (
    by_test (malformed o) (λ e. rw e refl)
    (λ e.
    by_test (uses_count o)
    (λ u. rw (e, u, le-ltb max_count o.count (count_bound o e (ltb-true o.kind 2 u)).1) refl)
    (λ u. rw (e, u) refl)))
