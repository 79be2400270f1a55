-- Laws of the queue: what was pushed first is popped first, and the array behind it keeps its 16 places. Assumes nothing.
use mathlib.Core.Path.{◌≡◌, ap, ◌∙◌}
use mathlib.Core.List.{List, [], ◌∷◌, ◌++◌}
use Prim.Native.Nat.{ℕ, ◌+◌, ◌-◌, ◌<◌, ◌≤◌}
use native.Mathlib.Omega.{arith}
use lib.ListN.{get_or-append, length, drop, length-append, length-drop, length-replicate}
use lib.Seq.{take-append_seam, drop-append-le, length-take-le}
use Rattle.model.specs.declared.Queue.{Queue}
use Rattle.model.specs.Queue.{held, queue_of, empty_queue, pushed, oldest, popped}

-- A queue made of words holds these words.
pub holds_what_it_is_made_of : (ws : List ℕ) → held (queue_of ws) ≡ ws
unfolding held queue_of
holds_what_it_is_made_of ws = take-append_seam ws _

-- A queue made of at most 16 words has 16 places.
pub keeps_its_places : (ws : List ℕ) → length ws ≤ 16 → length (queue_of ws).words ≡ 16
unfolding queue_of
keeps_its_places ws h = rw (length-append, length-replicate) (omega arith)

-- A queue holds as many words as its length says.
pub held_length : (q : Queue) → q.len ≤ 16 → length q.words ≡ 16 → length (held q) ≡ q.len
unfolding held
held_length q h e = length-take-le q.len q.words (omega arith)

-- A pushed word joins at the end.
pub push_joins_the_end : (q : Queue) (w : ℕ) → held (pushed q w) ≡ held q ++ (w ∷ [])
unfolding pushed
push_joins_the_end q w = holds_what_it_is_made_of _

-- A push makes a queue one word longer.
pub push_adds_one : (q : Queue) (w : ℕ) → q.len < 16 → length q.words ≡ 16 → (pushed q w).len ≡ q.len + 1
unfolding pushed queue_of
push_adds_one q w h e = omega (arith, length-append (held q) (w ∷ []), held_length q (omega arith) e)

-- A push leaves 16 places.
pub push_keeps_its_places : (q : Queue) (w : ℕ) → q.len < 16 → length q.words ≡ 16 → length (pushed q w).words ≡ 16
unfolding pushed
push_keeps_its_places q w h e =
    keeps_its_places _ (omega (arith, length-append (held q) (w ∷ []), held_length q (omega arith) e))

-- A pop takes the oldest word away.
pub pop_drops_the_oldest : (q : Queue) → held (popped q) ≡ drop 1 (held q)
unfolding popped
pop_drops_the_oldest q = holds_what_it_is_made_of _

-- A pop makes a queue one word shorter.
pub pop_takes_one : (q : Queue) → q.len ≤ 16 → length q.words ≡ 16 → (popped q).len ≡ q.len - 1
unfolding popped queue_of
pop_takes_one q h e = length-drop 1 (held q) ∙ ap (λ (n : ℕ). n - 1) (held_length q h e)

-- A pop leaves 16 places.
pub pop_keeps_its_places : (q : Queue) → q.len ≤ 16 → length q.words ≡ 16 → length (popped q).words ≡ 16
unfolding popped
pop_keeps_its_places q h e =
    keeps_its_places _ (omega (arith, length-drop 1 (held q), held_length q h e))

-- A word pushed onto an empty queue is its oldest.
pub first_in : (w : ℕ) → oldest (pushed empty_queue w) ≡ w
unfolding oldest pushed
first_in w = simp holds_what_it_is_made_of

-- And it leaves an empty queue behind.
pub first_out : (w : ℕ) → popped (pushed empty_queue w) ≡ empty_queue
unfolding popped pushed
first_out w = simp holds_what_it_is_made_of

-- Of a queue that is not empty:
module _ (q : Queue) (w : ℕ) (some : 0 < q.len) (fits : q.len ≤ 16) (places : length q.words ≡ 16) where
  -- it holds a word;
  held_some : 1 ≤ length (held q)
  held_some = rw (held_length q fits places) some

  -- what is pushed does not overtake its oldest word;
  pub oldest_stays : oldest (pushed q w) ≡ oldest q
  unfolding oldest
  oldest_stays = rw push_joins_the_end (get_or-append (held q) (w ∷ []) 0 0 held_some)

  -- and a pop and a push come to the same in either order.
  pub pop_and_push_in_either_order : popped (pushed q w) ≡ pushed (popped q) w
  unfolding popped pushed
  pop_and_push_in_either_order = simp holds_what_it_is_made_of (ap queue_of (drop-append-le 1 (held q) (w ∷ []) held_some))
