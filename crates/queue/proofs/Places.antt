-- The queue's array: some words, and zeros up to its 16 places. Assumes nothing.
use mathlib.Core.Path.{◌≡◌, sym, ◌∙◌}
use mathlib.Core.List.{List, [], ◌∷◌, ◌++◌}
use Prim.Native.Nat.{ℕ, suc, ◌+◌, ◌-◌, ◌<◌, ◌≤◌}
use native.Mathlib.Omega.{arith}
use lib.ListN.{length, take, drop, set, replicate}
use Rattle.std.proofs.lemmas.Slice.{between_is}
use lib.Seq.{append_snoc, set_at}
use Rattle.model.specs.declared.Queue.{Queue}
use Rattle.model.specs.Queue.{held, queue_of, pushed, popped}
use Rattle.model.proofs.QueueLaws.{held_length, push_adds_one, pop_takes_one}

-- A word stored in the first place after some words.
pub stored_behind : (ws : List ℕ) (n w : ℕ) → length ws ≡ n → n < 16 → set (ws ++ replicate (16 - n) 0) n w ≡ (ws ++ (w ∷ [])) ++ replicate (16 - (n + 1)) 0
stored_behind ws n w e h =
    let one : 16 - n ≡ suc (16 - (n + 1)) = omega arith in
    rw one (set_at ws 0 (replicate (16 - (n + 1)) 0) w n e ∙ sym (append_snoc ws w _))

-- A word stored behind the words that a queue holds is pushed.
pub stored_is_pushed : (q : Queue) (w : ℕ) (words : List ℕ) → length q.words ≡ 16 → q.len < 16
    → words ≡ take q.len q.words ++ replicate (16 - q.len) 0 → record { words = set words q.len w; len = q.len + 1 } ≡ pushed q w
unfolding pushed queue_of held
stored_is_pushed q w words e h is =
    let one : length (held q ++ (w ∷ [])) ≡ q.len + 1 = push_adds_one q w h e in
    rw (is, one, stored_behind (held q) q.len w (held_length q (omega arith) e) h)

-- The words after the first are what a pop leaves.
pub kept_is_popped : (q : Queue) (words : List ℕ) → length q.words ≡ 16 → q.len ≤ 16
    → words ≡ take (q.len - 1) (drop 1 q.words) ++ replicate (16 - (q.len - 1)) 0 → record { words = words; len = q.len - 1 } ≡ popped q
unfolding popped queue_of held
kept_is_popped q words e h is =
    let one : length (drop 1 (held q)) ≡ q.len - 1 = pop_takes_one q h e in
    rw (is, one, between_is)
