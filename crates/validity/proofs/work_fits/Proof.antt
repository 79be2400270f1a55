-- `validity::work_fits` meets its contract. Assumes nothing.
use Prim.Native.Nat.{ℕ, ◌+◌}
use mathlib.Core.Path.{◌≡◌, refl, sym}
use mathlib.Core.Bool.{Bool, true, false, ◌&&◌, ◌||◌, and_assoc, and-false}
use lib.Dec.{ltb, leb, eqb}
use borrow.Author.Rules.{rules}
use Rattle.model.specs.Kinds.{is_read, is_program}
use Rattle.model.specs.Places.{total_words}
use Rattle.model.specs.Queue.{is_empty}
use Rattle.model.specs.Rights.{readable_words}
use Rattle.model.specs.Refusals.{accepts, is_denied}
use Rattle.model.specs.Checks.{operation_answer}
use Rattle.model.specs.Valid.{work_fits}
use Rattle.model.specs.declared.Queue.{Queue}
use Rattle.model.specs.declared.Operation.{Operation}
use Rattle.model.specs.declared.Setup.{Setup}
use Rattle.model.specs.declared.Work.TheVariants.{Read, Program}
use Rattle.registers.specs.Registers.{stands_for}
use Rattle.validity.proofs.work_fits.Statement.{statement}
use Rattle.validity.proofs.work_fits.Tie as tie

-- What is asked of a read, in the definition's order.
arranged : (k l a e n : Bool) → ((k && (a && e)) && (l && n)) ≡ (k && (l && (a && (e && n))))
arranged false l a e n = refl
arranged true true a e n = and_assoc a e n
arranged true false a e n = and-false (a && e)

read_asked : (s : Setup) (q : Queue) (o : Operation) (moved readable : ℕ)
    → work_fits s q (Read o moved readable)
    ≡ ((is_read o && ((accepts (operation_answer s o) || is_denied (operation_answer s o)) && eqb readable (readable_words s o)))
    && (ltb moved (total_words s.pages o) && is_empty q))
unfolding work_fits
read_asked s q o moved readable =
    sym (arranged (is_read o) (ltb moved (total_words s.pages o)) (accepts (operation_answer s o) || is_denied (operation_answer s o)) (eqb readable (readable_words s o)) (is_empty q))

returns : tie.Need-returns-in-Read
unfolding stands_for
returns c =
    rw (
      c.read_fits-fits.ensures,
      c.total_words.ensures,
      c.in-Read.is,
      c.program_count-queued.ensures,
      c.pages-d.ensures,
      read_asked,
    )

-- What is asked of a program, in the definition's order.
regrouped : (k l a p : Bool) → ((k && a) && (l && p)) ≡ (k && (l && (a && p)))
regrouped false l a p = refl
regrouped true true a p = refl
regrouped true false a p = and-false a

program_asked : (s : Setup) (q : Queue) (o : Operation) (moved : ℕ)
    → work_fits s q (Program o moved)
    ≡ ((is_program o && accepts (operation_answer s o)) && (ltb moved (total_words s.pages o) && leb (moved + q.len) o.count))
unfolding work_fits
program_asked s q o moved =
    sym (regrouped (is_program o) (ltb moved (total_words s.pages o)) (accepts (operation_answer s o)) (leb (moved + q.len) o.count))

returns_2 : tie.Need-returns-in-Program
unfolding stands_for
returns_2 c =
    rw (
      c.pushed_fits-pushed.ensures,
      c.program_fits-fits.ensures,
      c.total_words-in-Program.ensures,
      c.in-Program.is,
      c.program_count-queued.ensures,
      c.pages-d.ensures,
      program_asked,
    )

pub work_fits_spec : {M : Type 1} → statement M
unfolding work_fits stands_for
work_fits_spec =
    tie.close (tie.spec
    (λ c κs. tt)
    (λ c κs. tt)
    (λ c. search rules)
    (λ c. search rules)
    (λ c κs. tt)
    (λ c κs. tt)
    (λ c. search rules)
    (λ c. search rules)
    (λ c κs. tt)
    (λ c κs. tt)
    (λ c κs. tt)
    (λ c. search rules)
    (λ c κs. tt)
    (λ c κs. tt)
    (λ c. search rules)
    (λ c κs. tt)
    (λ c κs. tt)
    (λ c κs. tt)
    returns
    returns_2
    (λ c. rw (
      c.accepts-accepted.ensures,
      c.operation_answer.ensures,
      c.total_words-in-Erase.ensures,
      c.is_bank_erase-bank.ensures,
      c.is_page_erase-page.ensures,
      c.in-Erase.is,
      c.program_count-queued.ensures,
      c.pages-d.ensures,
    )))
