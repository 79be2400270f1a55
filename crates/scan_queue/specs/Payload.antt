-- Words 2 to 15 of a slot: 'a serial below 2^28 and a length, both as seven-bit groups as in L4, then 1 to 48 bytes, the rest
-- ones, lowest byte of a word first'. (02, L11)
use Rattle.std.specs.Prelude.{ℕ, zero, suc, ◌+◌, ◌*◌, ◌-◌, ◌/◌, ◌%◌, ◌<◌, Bool, cond, ◌&&◌, List, [], ◌∷◌, ◌++◌, ltb, leb, eqb, length, take, drop, replicate, Option, None, Some, Ok, Err}
use Rattle.std.specs.List.{list_all}
use Rattle.numbers.specs.Number.{Parsed, number_to, then_number, value_of}

-- A scan: its serial, and its bytes, which are as many as its length says.
pub record Scan : Type 0 where
  pub serial : ℕ
  pub bytes : List ℕ

-- A serial is below 2^28, a scan has at most 48 bytes, and the 14 words have 56.
abbrev pub max_serial : ℕ
max_serial = 268435455

abbrev pub max_length : ℕ
max_length = 48

abbrev pub payload_length : ℕ
payload_length = 56

-- Every number of a list is below n: bytes are below 256, words below 2^32.
abbrev pub Below : ℕ → List ℕ → Type 0
Below n [] = Unit {0}
Below n (b ∷ l) = (b < n) × Below n l

-- ---- bytes and words: 'lowest byte of a word first'

unfoldable pub bytes_of : List ℕ → List ℕ
bytes_of [] = []
bytes_of (w ∷ ws) = w % 256 ∷ w / 256 % 256 ∷ w / 65536 % 256 ∷ w / 16777216 % 256 ∷ bytes_of ws

-- Of bytes whose number is a multiple of 4.
unfoldable pub words_of : List ℕ → List ℕ
words_of [] = []
words_of (a ∷ []) = []
words_of (a ∷ b ∷ []) = []
words_of (a ∷ b ∷ c ∷ []) = []
words_of (a ∷ b ∷ c ∷ d ∷ l) = (a + 256 * b + 65536 * c + 16777216 * d) ∷ words_of l

-- ---- what bytes hold: a scan, or `None` where they are malformed

-- Every number of a list is x.
unfoldable pub all : ℕ → List ℕ → Bool
all x l = list_all (λ b. eqb b x) l

-- 'A serial below 2^28 and a length, both as seven-bit groups as in L4': so in shortest form.
unfoldable pub serial_in : List ℕ → Parsed
serial_in l = number_to l max_serial 0

unfoldable pub length_in : List ℕ → Parsed
length_in l = then_number l max_length (serial_in l)

-- 'Then 1 to 48 bytes, the rest ones', to the end of word 15.
unfoldable pub body_of : List ℕ → ℕ → Parsed → Option Scan
body_of l serial (Ok n) =
    cond (leb 1 n.value && (leb (n.next + n.value) (length l) && all 255 (drop (n.next + n.value) l)))
    (Some (record { serial = serial; bytes = take n.value (drop n.next l) }))
    None
body_of l serial (Err p) = None

unfoldable pub payload_of : List ℕ → Option Scan
payload_of l = body_of l (value_of (serial_in l)) (length_in l)

-- ---- what a write puts there

-- The groups of a number that has at most k: low group first, top bit set on all but the last, no more than it needs.
unfoldable pub groups : ℕ → ℕ → List ℕ
groups zero v = []
groups (suc k) v = cond (ltb v 128) (v ∷ []) ((v % 128 + 128) ∷ groups k (v / 128))

abbrev pub filled : List ℕ → List ℕ
filled l = l ++ replicate (payload_length - length l) 255

unfoldable pub written : Scan → List ℕ
written s = filled (groups 4 s.serial ++ groups 4 (length s.bytes) ++ s.bytes)
