-- Any driver of an operation leaves what the whole operation does. Assumes nothing.
use Prim.Native.Nat.{ℕ, ◌<◌, ◌≤◌}
use native.Mathlib.Omega.{arith}
use mathlib.Core.Path.{◌≡◌, refl, sym, ap, ◌∙◌}
use mathlib.Core.Bool.{true, false, cond}
use mathlib.Core.Logic.{⊎_elim}
use mathlib.Core.List.{List, [], ◌++◌, append-nil}
use lib.ListN.{length, drop, drop_of_length-le, take-append-drop}
use borrow.Author.Tests.{eqb-true}
use Rattle.model.specs.Kinds.{is_read, is_program}
use Rattle.model.specs.Places.{total_words}
use Rattle.model.specs.Queue.{empty_queue}
use Rattle.model.specs.State.{Flash, with_reads, with_programs, operation_of}
use Rattle.model.specs.Rights.{readable_words}
use Rattle.model.specs.Refusals.{accepts, number_of}
use Rattle.model.specs.Checks.{operation_answer}
use Rattle.model.specs.Steps.{work_of, starts, start}
use Rattle.model.specs.Whole.{whole_answer, short_buffer, whole, leaving}
use Rattle.model.specs.declared.Operation.{Operation}
use Rattle.model.specs.declared.Work.{Work}
use Rattle.model.specs.declared.Work.TheVariants.{Read, Program, Erase}
use Rattle.model.specs.declared.Controller.{Controller}
use Rattle.model.specs.Refusals.{Answer}
use Rattle.model.proofs.Bool.{which}
use Rattle.model.proofs.Places.{moving_words}
use Rattle.model.proofs.WorkParts.{at_word}
use Rattle.model.proofs.Free.{whole_free, whole_fits, free_start}
use Rattle.model.specs.Errors.{with_recorded}
use Rattle.plans.specs.Plan.{programming, erasing, reads_drained, programs_drained}
use Rattle.plans.specs.Driver.{Drive, Driven, stepping, pushing, popping, drives, begun, Ended, SameAs, AnyDriver}
use Rattle.plans.proofs.Holding.{holds_none}
use Rattle.plans.proofs.Running.{state_at, recorded_by, at_end, idle_all}
use Rattle.plans.proofs.Firsts.{read_first, read_length, stored_first, changed_first}
use Rattle.plans.proofs.Moves.{program_words}
use Rattle.plans.proofs.Wholes.{some, begins, read_begun, program_begun, erase_begun, whole_read, whole_program, whole_erase}
use Rattle.plans.proofs.Drives.{seen, drives_keep}
use Rattle.plans.proofs.DrivenReads.{read_seen, ReadDriven, read_driven, read_stepping, read_pushing, read_popping}
use Rattle.plans.proofs.DrivenPrograms.{program_seen, ProgramDriven, program_driven, program_stepping, program_pushing, program_popping}
use Rattle.plans.proofs.DrivenErases.{erase_seen, EraseDriven, erase_driven, erase_stepping, erase_pushing, erase_popping}

-- What was seen agrees with what is left, field by field.
agrees : (o : Operation) (b : List ℕ) (c : Controller) (a : Answer) (bits : ℕ) (f : Flash) (given taken buffer : List ℕ)
    → buffer ≡ taken ++ drop (length taken) b → length taken ≡ cond (is_read o) o.count 0
    → SameAs o b (leaving c a bits f buffer) (seen c f given taken bits)
agrees o b c a bits f given taken buffer e n =
    record { controller = refl; flash = refl; bits = refl; words = e; popped = n }

-- Where a driver comes to from the start.
abbrev end_of : Controller → Flash → Operation → List Drive → Driven
end_of c f o ks = drives (begun (start c o).controller f) ks

module _ (c : Controller) (f : Flash) (o : Operation) (b : List ℕ) (free : accepts (whole_answer c f) ≡ true)
    (room : short_buffer o b ≡ false) (s : starts o (operation_answer c.setup o) ≡ true) where
  -- ---- where a driver that ended has come to

  -- of a read,
  read_ended : (r : Driven) → ReadDriven c (recorded_by c o) o f (readable_words c.setup o) r → Ended b r
      → r
      ≡ seen (reads_drained (with_recorded c (number_of (operation_answer c.setup o)) o)) f []
      (read_first f c.setup.pages o (readable_words c.setup o) (total_words c.setup.pages o)) 0
  unfolding read_seen state_at
  read_ended r h ended =
      let e : Ended b (read_seen c (recorded_by c o) o f (readable_words c.setup o) h.k h.queue h.taken) = rw h.is at ended in
      let all : h.k ≡ total_words c.setup.pages o = idle_all c (recorded_by c o) (Read o 0 (readable_words c.setup o)) h.k (with_reads c.queues h.queue) e.idle in
      let none : h.queued ≡ [] = sym h.holds.words ∙ (holds_none h.queue e.drained).words in
      let empty : h.queue ≡ empty_queue = h.made (rw all (some c f o b free room s)) ∙ rw none in
      let taken : h.taken ≡ read_first f c.setup.pages o (readable_words c.setup o) (total_words c.setup.pages o) =
      sym (append-nil h.taken) ∙ rw (← none, ← all) h.order in
      h.is ∙ rw (empty, all, taken, at_end c (recorded_by c o) (Read o 0 (readable_words c.setup o)) _ (whole_free c f free))

  -- of a program,
  program_ended : (r : Driven) → ProgramDriven c (recorded_by c o) o f r → Ended b r → is_read o ≡ false → is_program o ≡ true
      → r
      ≡ seen (programs_drained (with_recorded c (number_of (operation_answer c.setup o)) o))
      (stored_first c.setup.pages o (programming b) (total_words c.setup.pages o) f) r.given []
      (changed_first c.setup o (programming b) (total_words c.setup.pages o) f)
  unfolding program_seen state_at
  program_ended r h ended other kind =
      let e : Ended b (program_seen c (recorded_by c o) o h.k h.queue h.given h.flash h.bits) = rw h.is at ended in
      let all : h.k ≡ total_words c.setup.pages o =
      idle_all c (recorded_by c o) (Program o 0) h.k (with_programs c.queues h.queue) e.idle in
      let n = program_words (program_begun c f o b free room s other kind) in
      let more : 0 < total_words c.setup.pages o = some c f o b free room s in
      let past : length h.given ≤ h.k = omega (arith, h.most) in
      let none : drop h.k h.given ≡ [] = drop_of_length-le h.given past in
      let empty : h.queue ≡ empty_queue = h.made (omega (arith, h.upto)) ∙ rw none in
      let prefix : h.given ++ drop (length h.given) b ≡ b =
      ap (λ (l : List ℕ). l ++ drop (length h.given) b) e.in_order ∙ take-append-drop (length h.given) b in
      let given : r.given ≡ h.given = rw h.is in
      let stored : h.flash ≡ stored_first c.setup.pages o (programming b) (total_words c.setup.pages o) f =
      rw (prefix, all) at (h.stores (drop (length h.given) b)) in
      let bits : h.bits ≡ changed_first c.setup o (programming b) (total_words c.setup.pages o) f =
      rw (prefix, all) at (h.counts (drop (length h.given) b)) in
      h.is ∙ rw (given, empty, all, stored, bits, at_end c (recorded_by c o) (Program o 0) _ (whole_free c f free))

  -- and of an erase.
  erase_ended : (r : Driven) → EraseDriven c (recorded_by c o) o f r → Ended b r
      → r
      ≡ seen (with_recorded c (number_of (operation_answer c.setup o)) o) (stored_first c.setup.pages o erasing (total_words c.setup.pages o) f) [] []
      (changed_first c.setup o erasing (total_words c.setup.pages o) f)
  unfolding erase_seen
  erase_ended r h ended =
      let e : Ended b (erase_seen c (recorded_by c o) o f h.k) = rw h.is at ended in
      let all : h.k ≡ total_words c.setup.pages o = idle_all c (recorded_by c o) (Erase o 0) h.k c.queues e.idle in
      h.is ∙ rw (all, at_end c (recorded_by c o) (Erase o 0) c.queues (whole_free c f free))

  -- ---- from the start to the end

  module _ (ks : List Drive) (ended : Ended b (end_of c f o ks)) where
    -- What holds after the start, and is kept by each call, holds at the end.
    came : (P : Driven → Type 0) (w : Work) → work_of c.setup o ≡ w → operation_of w ≡ o → at_word w 0 ≡ w
        → P (seen (state_at c (recorded_by c o) w 0 c.queues) f [] [] 0) → ((r : Driven) → P r → P (stepping r))
        → ((r : Driven) → P r → (v : ℕ) → P (pushing v r)) → ((r : Driven) → P r → P (popping r)) → P (end_of c f o ks)
    came P w e p a h step push pop = drives_keep P step push pop ks _ (rw (begins c f o b free room s w e p a) h)

    -- So a driven read is the whole one,
    read_same : is_read o ≡ true → SameAs o b (whole c f o b) (end_of c f o ks)
    read_same r =
        let readable : ℕ = readable_words c.setup o in
        let l = whole_fits c f free in
        let h = read_begun c f o b free room s r in
        let last : ReadDriven c (recorded_by c o) o f readable (end_of c f o ks) =
        came (ReadDriven c (recorded_by c o) o f readable) (Read o 0 readable) (rw r) refl refl (read_driven c (recorded_by c o) o f readable h l)
        (read_stepping c (recorded_by c o) o f readable h l) (read_pushing c (recorded_by c o) o f readable h l) (read_popping c (recorded_by c o) o f readable h l) in
        rw (whole_read c f o b free room s r, read_ended _ last ended)
        (agrees o b _ _ _ f [] (read_first f c.setup.pages o readable (total_words c.setup.pages o)) _ (rw read_length)
        (rw (r, read_length) (moving_words c.setup.pages o (omega (arith, eqb-true o.kind 0 r)))))

    -- a driven program,
    program_same : is_read o ≡ false → is_program o ≡ true → SameAs o b (whole c f o b) (end_of c f o ks)
    program_same r p =
        let l = whole_fits c f free in
        let h = program_begun c f o b free room s r p in
        let last : ProgramDriven c (recorded_by c o) o f (end_of c f o ks) =
        came (ProgramDriven c (recorded_by c o) o f) (Program o 0) (rw (r, p)) refl refl (program_driven c (recorded_by c o) o f h l)
        (program_stepping c (recorded_by c o) o f h l) (program_pushing c (recorded_by c o) o f h l) (program_popping c (recorded_by c o) o f h l) in
        rw (whole_program c f o b free room s r p, program_ended _ last ended r p)
        (agrees o b _ _ _ _ (end_of c f o ks).given [] b refl (rw r))

    -- and a driven erase.
    erase_same : is_read o ≡ false → is_program o ≡ false → SameAs o b (whole c f o b) (end_of c f o ks)
    erase_same r p =
        let l = whole_fits c f free in
        let h = erase_begun c f o b free room s r p in
        let last : EraseDriven c (recorded_by c o) o f (end_of c f o ks) =
        came (EraseDriven c (recorded_by c o) o f) (Erase o 0) (rw (r, p)) refl refl (erase_driven c (recorded_by c o) o f h l)
        (erase_stepping c (recorded_by c o) o f h l) (λ x d. erase_pushing c (recorded_by c o) o f h l x d p) (erase_popping c (recorded_by c o) o f h l) in
        rw (whole_erase c f o b free room s r p, erase_ended _ last ended) (agrees o b _ _ _ _ [] [] b refl (rw r))

-- Whatever calls drive it to its end.
pub any_driver : AnyDriver
any_driver c f o b ks free room s ended =
    let told : starts o (operation_answer c.setup o) ≡ true = rw (free_start c o (whole_free c f free)) at s in
    ⊎_elim (read_same c f o b free room told ks ended)
    (λ r. ⊎_elim (program_same c f o b free room told ks ended r) (erase_same c f o b free room told ks ended r) (which (is_program o)))
    (which (is_read o))
