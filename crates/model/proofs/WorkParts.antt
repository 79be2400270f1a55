-- What an operation in progress needs, part by part. Assumes nothing.
use Prim.Native.Nat.{ℕ, ◌+◌, ◌<◌}
use mathlib.Core.Path.{◌≡◌, refl}
use mathlib.Core.Bool.{Bool, true, ◌&&◌, ◌||◌}
use lib.Dec.{ltb, leb, eqb}
use borrow.Author.Tests.{ltb-true, lt-ltb}
use Rattle.model.specs.Kinds.{is_read, is_program, is_page_erase, is_bank_erase}
use Rattle.model.specs.Places.{total_words}
use Rattle.model.specs.Queue.{is_empty}
use Rattle.model.specs.State.{operation_of, moved_of}
use Rattle.model.specs.Rights.{readable_words}
use Rattle.model.specs.Refusals.{accepts, is_denied}
use Rattle.model.specs.Checks.{operation_answer}
use Rattle.model.specs.Valid.{work_fits}
use Rattle.model.specs.declared.Queue.{Queue}
use Rattle.model.specs.declared.Work.{Work}
use Rattle.model.specs.declared.Work.TheVariants.{Read, Program, Erase}
use Rattle.model.specs.declared.Setup.{Setup}
use Rattle.model.proofs.Bool.{and_left, and_right}

-- The work with another number of words moved.
abbrev pub at_word : Work → ℕ → Work
at_word (Read o k r) n = Read o n r
at_word (Program o k) n = Program o n
at_word (Erase o k) n = Erase o n

-- The operation is of the work's kind;
abbrev pub kind_fits : Work → Bool
kind_fits (Read o k r) = is_read o
kind_fits (Program o k) = is_program o
kind_fits (Erase o k) = is_page_erase o || is_bank_erase o

-- it passes 5, 7, 8 and 9, or is a read that 9 denies;
abbrev pub asked_fits : Setup → Work → Bool
asked_fits s (Read o k r) = accepts (operation_answer s o) || is_denied (operation_answer s o)
asked_fits s (Program o k) = accepts (operation_answer s o)
asked_fits s (Erase o k) = accepts (operation_answer s o)

-- a read has exactly its true words readable;
abbrev pub readable_fits : Setup → Work → Bool
readable_fits s (Read o k r) = eqb r (readable_words s o)
readable_fits s (Program o k) = true
readable_fits s (Erase o k) = true

-- and the program queue holds words of a program only, at most n pushed in all.
abbrev pub queued_fits : Queue → Work → Bool
queued_fits q (Read o k r) = is_empty q
queued_fits q (Program o k) = leb (k + q.len) o.count
queued_fits q (Erase o k) = is_empty q

pub record WorkParts (s : Setup) (programs : Queue) (w : Work) : Type 0 where
  pub kind : kind_fits w ≡ true
  pub left : moved_of w < total_words s.pages (operation_of w)
  pub asked : asked_fits s w ≡ true
  pub readable : readable_fits s w ≡ true
  pub queued : queued_fits programs w ≡ true

module _ (s : Setup) (programs : Queue) where
  -- Work fits if each part does, whatever its kind.
  each_part : (w : Work)
      → work_fits s programs w
      ≡ (kind_fits w
      && (ltb (moved_of w) (total_words s.pages (operation_of w))
      && (asked_fits s w && (readable_fits s w && queued_fits programs w))))
  unfolding work_fits
  each_part (Read o k r) = refl
  each_part (Program o k) = refl
  each_part (Erase o k) = refl

  -- So work that fits has each part,
  pub work_parts : (w : Work) → work_fits s programs w ≡ true → WorkParts s programs w
  work_parts w h =
      let h₁ = and_right (kind_fits w) _ (rw each_part at h) in
      let h₂ = and_right (ltb (moved_of w) (total_words s.pages (operation_of w))) _ h₁ in
      let h₃ = and_right (asked_fits s w) _ h₂ in
      record {
        kind = and_left (kind_fits w) _ (rw each_part at h);
        left = ltb-true _ _ (and_left (ltb (moved_of w) (total_words s.pages (operation_of w))) _ h₁);
        asked = and_left (asked_fits s w) _ h₂;
        readable = and_left (readable_fits s w) _ h₃;
        queued = and_right (readable_fits s w) _ h₃;
      }

  -- and work with each part fits.
  pub work_together : (w : Work) → WorkParts s programs w → work_fits s programs w ≡ true
  work_together w p = rw (each_part, p.kind, lt-ltb (moved_of w) _ p.left, p.asked, p.readable, p.queued)

-- Work that fits does so at another of its words and with other words queued, if the program queue fits it then.
pub other_word : (s : Setup) (p q : Queue) (w : Work) (n : ℕ) → work_fits s p w ≡ true → n < total_words s.pages (operation_of w)
    → queued_fits q (at_word w n) ≡ true → work_fits s q (at_word w n) ≡ true
other_word s p q (Read o k r) n h l e =
    let w = work_parts s p (Read o k r) h in
    work_together s q (Read o n r) (record { kind = w.kind; left = l; asked = w.asked; readable = w.readable; queued = e })
other_word s p q (Program o k) n h l e =
    let w = work_parts s p (Program o k) h in
    work_together s q (Program o n) (record { kind = w.kind; left = l; asked = w.asked; readable = refl; queued = e })
other_word s p q (Erase o k) n h l e =
    let w = work_parts s p (Erase o k) h in
    work_together s q (Erase o n) (record { kind = w.kind; left = l; asked = w.asked; readable = refl; queued = e })
