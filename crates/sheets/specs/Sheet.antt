-- Bench sheets: what the bytes of a sheet mean, and its verdict. (02, L4: shift sheets)
use Rattle.std.specs.Prelude.{ℕ, zero, suc, ◌+◌, List, [], ◌∷◌, ◌++◌, cond, ◌&&◌, length, replicate, leb, ltb, eqb, Result, Ok, Err}
use Rattle.std.proofs.lemmas.List.Edits.{sets}
use Rattle.model.specs.Kinds.{is_program, max_count}
use Rattle.model.specs.declared.Operation.{Operation}
use Rattle.numbers.specs.Number.{Parsed, largest, number_at, number_to, then_number, then_numbers, value_of, next_of}
use Rattle.sheets.specs.declared.Stated.{Stated}
use Rattle.sheets.specs.declared.Request.{Request}
use Rattle.sheets.specs.declared.Request.TheVariants.{Whole, Rights}

-- ---- entry 1

-- Kind, partition and type, each at most 255, address and n follow its tag.
unfoldable pub kind_at : List ℕ → ℕ → Parsed
kind_at s at = number_to s 255 at

unfoldable pub partition_at : List ℕ → ℕ → Parsed
partition_at s at = then_number s 255 (kind_at s at)

unfoldable pub type_at : List ℕ → ℕ → Parsed
type_at s at = then_number s 255 (partition_at s at)

unfoldable pub address_at : List ℕ → ℕ → Parsed
address_at s at = then_number s largest (type_at s at)

unfoldable pub count_at : List ℕ → ℕ → Parsed
count_at s at = then_number s largest (address_at s at)

unfoldable pub operation_at : List ℕ → ℕ → Operation
operation_at s at = record {
  kind = value_of (kind_at s at);
  partition = value_of (partition_at s at);
  info = value_of (type_at s at);
  address = record { 0 = value_of (address_at s at) };
  count = value_of (count_at s at);
}

-- Then, for kind 1 and n up to 16, that many words; a larger n carries none.
unfoldable pub carried : Operation → ℕ
carried o = cond (is_program o && leb o.count 16) o.count 0

-- The whole entry: the operation, the place of the first word that it carries, and its last number.
unfoldable pub stated_at : List ℕ → ℕ → Stated
stated_at s at = record {
  op = operation_at s at;
  words = next_of (count_at s at);
  end = then_numbers s (carried (operation_at s at)) (count_at s at);
}

-- ---- entries and blocks

-- What a block or an entry means: the places of the tags of entries 1 and 3 in the order in which they run, and the place after
-- it; or the place of its first fault.
pub data Meaning : Type 0 where
  Runs : List ℕ → ℕ → Meaning
  Fault : ℕ → Meaning

-- A number, and what follows from its value and the place after it.
abbrev pub after : Parsed → (ℕ → ℕ → Meaning) → Meaning
after (Ok r) f = f r.value r.next
after (Err p) f = Fault p

-- An entry that runs once, whose last number this is.
abbrev pub once : ℕ → Parsed → Meaning
once at (Ok r) = Runs (at ∷ []) r.next
once at (Err p) = Fault p

-- A block that runs k times.
abbrev pub copies : ℕ → List ℕ → List ℕ
copies zero ps = []
copies (suc k) ps = ps ++ copies k ps

abbrev pub repeated : ℕ → Meaning → Meaning
repeated k (Runs ps n) = Runs (copies k ps) n
repeated k (Fault p) = Fault p

-- An entry, and what follows from the place after it.
abbrev pub before : List ℕ → Meaning → Meaning
before ps (Runs qs n) = Runs (ps ++ qs) n
before ps (Fault p) = Fault p

abbrev pub followed : Meaning → (ℕ → Meaning) → Meaning
followed (Runs ps n) f = before ps (f n)
followed (Fault p) f = Fault p

-- Entry 2 is a repeat count from 1 to 255, then a block: a 0 can't stand there.
abbrev pub repeat_at : List ℕ → (ℕ → Meaning) → ℕ → Meaning
repeat_at s block at = after (number_to s 255 at) (λ k n. cond (eqb k 0) (Fault at) (repeated k (block n)))

-- An entry whose tag stands at `at`, the rest from `next` on; `depth` repeats are around it, and `block` says what a block in it
-- means. Entry 3 is default rights, 0 to 7. Repeats are at most 8 deep: the tag of a ninth can't stand there, nor a tag from 4 on.
unfoldable pub entry_with : List ℕ → (ℕ → Meaning) → ℕ → ℕ → ℕ → ℕ → Meaning
entry_with s block at next tag depth =
    cond (eqb tag 1) (once at (stated_at s next).end)
    (cond (eqb tag 3) (once at (number_to s 7 next))
    (cond (eqb tag 2 && ltb depth 8) (repeat_at s block next)
    (Fault at)))

-- A block is entries up to a 0. `fuel` bounds how often a block is entered or goes on: each time the place moves on, so that the
-- sheet's length is enough, and the bound never shows (law `block_is`).
unfoldable pub block_with : ℕ → List ℕ → ℕ → ℕ → Meaning
block_with zero s at depth = Fault (length s)
block_with (suc fuel) s at depth =
    after (number_at s at) (λ tag next.
    cond (eqb tag 0) (Runs [] next)
    (followed (entry_with s (λ n. block_with fuel s n (depth + 1)) at next tag depth) (λ n. block_with fuel s n depth)))

unfoldable pub block_at : List ℕ → ℕ → ℕ → Meaning
block_at s at depth = block_with (suc (length s)) s at depth

unfoldable pub entry_at : List ℕ → ℕ → ℕ → ℕ → ℕ → Meaning
entry_at s at next tag depth = entry_with s (λ n. block_at s n (depth + 1)) at next tag depth

abbrev pub places_of : Meaning → List ℕ
places_of (Runs ps n) = ps
places_of (Fault p) = []

-- ---- the sheet

-- Good, with the number of entries that run, or refused, with the place where it is bad.
abbrev pub Verdict : Type 0
Verdict = Result ℕ ℕ

-- The sheet is one block with nothing after it: what follows is bad at its first byte. Entries 1 and 3 after expansion are at most
-- 4,096: if only they are too many, the place is 0.
abbrev pub judged : List ℕ → Meaning → Verdict
judged s (Runs ps n) = cond (ltb n (length s)) (Err n) (cond (leb (length ps) 4096) (Ok (length ps)) (Err 0))
judged s (Fault p) = Err p

-- A sheet is at most 4,096 bytes: a longer one is bad at 4,096, whatever it holds.
unfoldable pub verdict_of : List ℕ → Verdict
verdict_of s = cond (leb (length s) 4096) (judged s (block_at s 0 0)) (Err 4096)

-- The places of the tags that a good sheet runs, in order; of a bad one none.
abbrev pub run_of : Verdict → List ℕ → List ℕ
run_of (Ok n) ps = ps
run_of (Err p) ps = []

unfoldable pub expanded : List ℕ → List ℕ
expanded s = run_of (verdict_of s) (places_of (block_at s 0 0))

-- ---- what the entry at a place asks for

abbrev pub asking : Stated → Request
asking e = Whole e.op e.words

unfoldable pub request_at : List ℕ → ℕ → Request
request_at s at =
    cond (eqb (value_of (number_at s at)) 3)
    (Rights (value_of (number_to s 7 (next_of (number_at s at)))))
    (asking (stated_at s (next_of (number_at s at))))

-- The next k words from a place on.
unfoldable pub words_from : List ℕ → ℕ → Parsed → List ℕ
words_from s zero r = []
words_from s (suc k) r = value_of (then_number s largest r) ∷ words_from s k (then_number s largest r)

-- The buffer of an operation: the words that its entry carries and then zeros, long enough for the largest n.
unfoldable pub loaded : List ℕ → Operation → ℕ → List ℕ
loaded s o at = sets (replicate max_count 0) 0 (words_from s (carried o) (Ok (record { value = 0; next = at })))
