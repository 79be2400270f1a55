-- Queues by the words that they hold. Assumes nothing.
use Prim.Native.Nat.{ℕ, zero, suc, ◌<◌}
use native.Mathlib.Omega.{arith}
use mathlib.Core.Path.{◌≡◌, refl, ap}
use mathlib.Core.Bool.{true}
use mathlib.Core.List.{List, [], ◌∷◌, ◌++◌}
use lib.ListN.{length, get_or, drop}
use borrow.Author.Tests.{eqb-true}
use Rattle.model.specs.Queue.{held, queue_of, empty_queue, is_empty, pushed, oldest, popped}
use Rattle.model.specs.declared.Queue.{Queue}
use Rattle.model.proofs.QueueLaws.{holds_what_it_is_made_of}

-- A queue holds these words, whatever stands in its places after them.
pub record Holds (q : Queue) (ws : List ℕ) : Type 0 where
  pub words : held q ≡ ws
  pub size : q.len ≡ length ws

-- An empty queue holds none,
pub holds_none : (q : Queue) → is_empty q ≡ true → Holds q []
unfolding held
holds_none q h = let e : q.len ≡ 0 = eqb-true q.len 0 h in record { words = rw e; size = e }

-- and one that is made of words holds these.
pub holds_made : (ws : List ℕ) → Holds (queue_of ws) ws
unfolding queue_of
holds_made ws = record { words = holds_what_it_is_made_of ws; size = refl }

-- Of a queue that holds words:
module _ {q : Queue} {ws : List ℕ} (h : Holds q ws) where
  -- A push makes a queue with one more word at the end,
  pub pushed_made : (w : ℕ) → pushed q w ≡ queue_of (ws ++ (w ∷ []))
  unfolding pushed
  pushed_made w = ap (λ (l : List ℕ). queue_of (l ++ (w ∷ []))) h.words

  -- and a pop one without the first word,
  pub popped_made : popped q ≡ queue_of (drop 1 ws)
  unfolding popped
  popped_made = ap (λ (l : List ℕ). queue_of (drop 1 l)) h.words

  -- which is the oldest.
  pub oldest_first : oldest q ≡ get_or ws 0 0
  unfolding oldest
  oldest_first = ap (λ (l : List ℕ). get_or l 0 0) h.words

-- The queue after k words went through, each alone.
unfoldable pub drained : ℕ → Queue → Queue
drained zero q = q
drained (suc k) q = empty_queue

-- It holds none,
pub drained_holds : (k : ℕ) (q : Queue) → is_empty q ≡ true → Holds (drained k q) []
unfolding drained
drained_holds zero q h = holds_none q h
drained_holds (suc k) q h = holds_made []

-- and has zeros in its places if a word went through.
pub drained_some : (k : ℕ) (q : Queue) → 0 < k → drained k q ≡ empty_queue
unfolding drained
drained_some zero q h = absurd (omega arith)
drained_some (suc k) q h = refl
