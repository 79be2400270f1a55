-- A first write to blank pages of a fresh controller, cut before its seal and after it: what is found after power on. Assumes nothing.
use Prim.Native.Nat.{ℕ}
use native.Mathlib.Omega.{arith}
use mathlib.Core.Path.{◌≡◌, refl, sym, ap, ◌∙◌}
use mathlib.Core.List.{List, [], ◌∷◌}
use lib.ListN.{length, take}
use Rattle.model.specs.Geometry.{image_page}
use Rattle.model.specs.State.{Flash}
use Rattle.registers.specs.Layout.{register_count}
use Rattle.registers.specs.Registers.{setup_of, decode}
use Rattle.scan_queue.specs.Payload.{Below, Scan, groups, words_of, all, written}
use Rattle.scan_queue.specs.Slots.{words_at, slot_at, slots_from, places, entries, insert, sorted, queue, scans, waiting_list, highest}
use Rattle.scan_queue.specs.Decisions.{first_unused, write}
use Rattle.scan_queue.specs.Cuts.{Step, run, programs, plan_of, steps_of, Write, after, cut, list_after}
use Rattle.scan_queue.proofs.PowerCut.{call_done}
use Rattle.scan_pages.specs.Pages.{pages_answer}
use Rattle.scans.specs.Scans.{write_in}
use Rattle.scans.proofs.Passed.{pages_same}
use Rattle.scan_promises.specs.PowerCut.{low_word, high_word, listed}
use Rattle.scan_promises.specs.Reboots.{powered_on, RebootsOn}
use Rattle.scan_promises.specs.Outlives.{Serving, Finds, FoundAgain}
use Rattle.scan_promises.proofs.Instances.{image, settings, zeros, fresh, serve}
use Rattle.scan_promises.proofs.PowerCutProof.{write_words}
use Rattle.scan_promises.proofs.RebootsProof.{reboots_hold}
use Rattle.scan_promises.proofs.OutlivesProof.{found, write_long, outlives}

on : RebootsOn 10 settings zeros image
on = reboots_hold 10 settings zeros image refl refl refl

-- The premises are met.
serving : (a b : ℕ) → pages_answer (decode fresh) image a b ≡ 0 → Serving 10 settings fresh image a b
serving a b ok = record { pages = refl; settings = refl; size = on.size; setup = on.same fresh image on.size; serves = ok }

abbrev bytes : List ℕ
bytes = 7 ∷ 8 ∷ 9 ∷ []

are : Below 256 bytes
are = (omega arith, (omega arith, (omega arith, tt)))

-- Pages 0 and 19, in both banks, and any number of steps: the list before is found, or the one after.
pub either : (n : ℕ) (t : List ℕ) → length t ≡ register_count
    → FoundAgain 271 n (powered_on 10 settings t (write_in n fresh image 19 0 bytes).flash) (write_in n fresh image 19 0 bytes).flash 19 0
    (listed fresh image 19 0) (list_after image.words (low_word fresh 19 0) (high_word fresh 19 0) (Write bytes))
either n t size = outlives.writes 10 settings fresh image 19 0 (serving 19 0 serve.1) n bytes t are size

-- ---- which of them: pages 0 and 1, whose words are worked out quickly

abbrev m : List ℕ
m = image.words

-- Words 2 to 15 are there, and not yet the seal.
unsealed : waiting_list (cut 14 m 0 256 (Write bytes)) (places 0 256) ≡ []
unfolding words_at slot_at slots_from places entries insert sorted queue scans waiting_list highest run programs first_unused write cut groups words_of all written
unsealed = refl

-- The seal is the last step.
sealed : take 15 (steps_of (plan_of m 0 256 (Write bytes))) ≡ steps_of (plan_of m 0 256 (Write bytes))
unfolding words_at slot_at slots_from places highest programs first_unused write groups words_of all written
sealed = refl

abbrev scan : Scan
scan = record { serial = 1; bytes = bytes }

then : list_after m 0 256 (Write bytes) ≡ scan ∷ []
unfolding words_at slot_at slots_from places entries insert sorted queue scans waiting_list highest first_unused write all
then = refl

abbrev cut_at : ℕ → Flash
cut_at n = (write_in n fresh image 1 0 bytes).flash

pages_are : (setup_of fresh).pages ≡ 10
pages_are = sym (pages_same fresh image 1 0 _ refl serve.2) ∙ on.pages

list_of : (n : ℕ) → listed fresh (cut_at n) 1 0 ≡ waiting_list (cut n m 0 256 (Write bytes)) (places 0 256)
unfolding image_page
list_of n = rw (write_words fresh image 1 0 on.size serve.2 bytes are n, pages_are) refl

finds : (n : ℕ) (l : List Scan) → waiting_list (cut n m 0 256 (Write bytes)) (places 0 256) ≡ l → (t : List ℕ) → length t ≡ register_count
    → Finds (powered_on 10 settings t (cut_at n)) (cut_at n) 1 0 l
finds n l e t size =
    let near = serving 1 0 serve.2 in
    found 10 settings fresh image 1 0 near t size (cut_at n) (write_long 10 settings fresh image 1 0 near n bytes are) l (list_of n ∙ e)

-- Cut after 14 steps nothing waits; with 15 the scan does.
pub after_14 : (t : List ℕ) → length t ≡ register_count → Finds (powered_on 10 settings t (cut_at 14)) (cut_at 14) 1 0 []
after_14 = finds 14 [] unsealed

pub after_15 : (t : List ℕ) → length t ≡ register_count → Finds (powered_on 10 settings t (cut_at 15)) (cut_at 15) 1 0 (scan ∷ [])
unfolding cut after
after_15 =
    finds 15 (scan ∷ [])
    (ap (λ (l : List Step). waiting_list (run l m) (places 0 256)) sealed
    ∙ call_done m 0 256 (Write bytes) (record { apart = omega arith; inside = omega arith }) are ∙ then)
