-- Numbers in bytes: groups of seven bits, low group first, top bit set on all but the last, shortest form only, below 2^32.
-- (02, L4)
use Rattle.std.specs.Prelude.{ℕ, zero, suc, ◌+◌, ◌*◌, ◌-◌, ◌%◌, List, [], ◌∷◌, Bool, cond, ◌&&◌, ◌||◌, length, get_or, drop, leb, ltb, Result, Ok, Err}
use Rattle.numbers.specs.declared.Numeral.{Numeral}

-- What stands at a place: a number, or the place that is bad.
abbrev pub Parsed : Type 0
Parsed = Result Numeral ℕ

-- 2^32 - 1.
abbrev pub largest : ℕ
largest = 4294967295

-- Top bit set on all but the last group: how many bytes at the front have it.
unfoldable pub continued : List ℕ → ℕ
continued [] = 0
continued (b ∷ t) = cond (ltb b 128) 0 (suc (continued t))

-- The place of the last group of the number that begins at a place; the length or more if the bytes end before it.
unfoldable pub last_group : List ℕ → ℕ → ℕ
last_group s at = at + continued (drop at s)

-- Groups of seven bits, low group first: the value of k of them.
unfoldable pub groups_value : List ℕ → ℕ → ℕ → ℕ
groups_value s at zero = 0
groups_value s at (suc k) = get_or s at 0 % 128 + 128 * groups_value s (at + 1) k

-- Shortest form: one group alone, or a last group that is not 0.
unfoldable pub shortest : List ℕ → ℕ → ℕ → Bool
shortest s at end = leb end at || ltb 0 (get_or s end 0)

-- The number whose first and last groups stand at these places, with the place after it. If the bytes end inside it, however
-- many it has, it is bad at the length; if it is not the shortest form or too large, where it begins.
unfoldable pub number_between : List ℕ → ℕ → ℕ → Parsed
number_between s at end =
    cond (leb (length s) end) (Err (length s))
    (cond (shortest s at end && leb (groups_value s at (end - at + 1)) largest)
    (Ok (record { value = groups_value s at (end - at + 1); next = end + 1 }))
    (Err at))

unfoldable pub number_at : List ℕ → ℕ → Parsed
number_at s at = number_between s at (last_group s at)

-- A number that may be `max` at most: a larger one can't stand there, so that it is bad where it begins.
unfoldable pub limited : ℕ → ℕ → Parsed → Parsed
limited max at (Ok n) = cond (leb n.value max) (Ok n) (Err at)
limited max at (Err p) = Err p

unfoldable pub number_to : List ℕ → ℕ → ℕ → Parsed
number_to s max at = limited max at (number_at s at)

-- One number more, after what stood before: the first fault decides.
unfoldable pub then_number : List ℕ → ℕ → Parsed → Parsed
then_number s max (Ok n) = number_to s max n.next
then_number s max (Err p) = Err p

-- k numbers more, of any value: the last of them, or what stood before if k is 0.
unfoldable pub then_numbers : List ℕ → ℕ → Parsed → Parsed
then_numbers s zero r = r
then_numbers s (suc k) r = then_numbers s k (then_number s largest r)

-- The value, 0 where there is none; the place after it, or the fault's.
abbrev pub value_of : Parsed → ℕ
value_of (Ok n) = n.value
value_of (Err p) = 0

abbrev pub next_of : Parsed → ℕ
next_of (Ok n) = n.next
next_of (Err p) = p
