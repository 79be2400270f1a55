-- A queue of 16 bus words: its value is the list of the words it holds, oldest first. (01, 'Steps')
use Rattle.std.specs.Prelude.{ℕ, ◌-◌, Bool, List, [], ◌∷◌, ◌++◌, leb, eqb, length, get_or, take, drop, replicate}
use Rattle.model.specs.declared.Queue.{Queue}

-- Both queues hold 16 bus words.
abbrev pub queue_words : ℕ
queue_words = 16

-- The words that a queue holds. The places after them are no part of it.
unfoldable pub held : Queue → List ℕ
held q = take q.len q.words

-- The queue that holds the given words, with zeros in the places after them.
unfoldable pub queue_of : List ℕ → Queue
queue_of ws = record { words = ws ++ replicate (queue_words - length ws) 0; len = length ws }

abbrev pub empty_queue : Queue
empty_queue = queue_of []

abbrev pub is_empty : Queue → Bool
is_empty q = eqb q.len 0

abbrev pub is_full : Queue → Bool
is_full q = leb queue_words q.len

-- A word joins at the end; the oldest is looked at, and leaves.
unfoldable pub pushed : Queue → ℕ → Queue
pushed q w = queue_of (held q ++ (w ∷ []))

unfoldable pub oldest : Queue → ℕ
oldest q = get_or (held q) 0 0

unfoldable pub popped : Queue → Queue
popped q = queue_of (drop 1 (held q))
