-- Laws of sets of kinds. Assumes nothing.
use mathlib.Core.Path.{◌≡◌, refl, sym}
use mathlib.Core.Bool.{Bool, true, false, ◌||◌, or_comm, or_self, or-false}
use Rattle.shuffles.specs.Shuffle.{Kinds, union}

-- Sets are equal kind by kind.
kinds_ext : (j k : Kinds) → j.malformed ≡ k.malformed → j.range ≡ k.range → j.window ≡ k.window → j.denied ≡ k.denied
    → j ≡ k
kinds_ext j k m r w d = λ i. record { malformed = m i; range = r i; window = w i; denied = d i }

-- A union is the same either way,
pub union_comm : (j k : Kinds) → union j k ≡ union k j
union_comm j k =
    kinds_ext (union j k) (union k j) (or_comm j.malformed _) (or_comm j.range _) (or_comm j.window _) (or_comm j.denied _)

-- of a set with itself it is that set,
pub union_self : (k : Kinds) → k ≡ union k k
union_self k =
    kinds_ext k (union k k) (sym (or_self k.malformed)) (sym (or_self k.range)) (sym (or_self k.window))
    (sym (or_self k.denied))

-- with no kinds too,
abbrev pub no_kinds : Kinds
no_kinds = record { malformed = false; range = false; window = false; denied = false }

pub union_none : (k : Kinds) → k ≡ union k no_kinds
union_none k =
    kinds_ext k (union k no_kinds) (sym (or-false k.malformed)) (sym (or-false k.range)) (sym (or-false k.window))
    (sym (or-false k.denied))

-- and what is added may be added first.
or_add : (a b d : Bool) → ((a || b) || d) ≡ ((a || d) || b)
or_add true b d = refl
or_add false b d = or_comm b d

pub union_add : (i j k : Kinds) → union (union i j) k ≡ union (union i k) j
union_add i j k =
    kinds_ext (union (union i j) k) (union (union i k) j)
    (or_add i.malformed j.malformed k.malformed) (or_add i.range j.range k.range)
    (or_add i.window j.window k.window) (or_add i.denied j.denied k.denied)
