-- The first words that an operation stores in one page are the first steps of a scan call. Assumes nothing.
use Prim.Native.Nat.{ℕ, zero, suc, ◌+◌, ◌*◌, ◌/◌, ◌<◌, ◌≤◌}
use native.Mathlib.Omega.{arith}
use mathlib.Core.Path.{◌≡◌, refl, sym, ap, ◌∙◌}
use mathlib.Core.List.{List, [], ◌∷◌, ◌++◌}
use lib.ListN.{length, get_or, take}
use Rattle.model.specs.Words.{programmed}
use Rattle.model.specs.Places.{place_of}
use Rattle.model.specs.State.{Flash}
use Rattle.plans.specs.Plan.{programming, erasing}
use Rattle.plans.proofs.Firsts.{stored_first}
use Rattle.scan_queue.specs.Cuts.{Step, Erase, Program, does, run, erases, programs}
use Rattle.scan_queue.proofs.Words.{run_append}
use Rattle.scan_pages.specs.Pages.{page_word}
use Rattle.scan_pages.proofs.Places.{word_of}
use Rattle.scan_pages.proofs.Accepted.{program_at, erase_at}

-- ---- one step more

programs_next : (ws : List ℕ) (q j : ℕ) → j < length ws
    → take (suc j) (programs ws q) ≡ take j (programs ws q) ++ (Program (q + j) (get_or ws j 0) ∷ [])
unfolding programs
programs_next [] q j h = absurd (omega arith)
programs_next (w ∷ ws) q zero h = ap (λ (k : ℕ). Program k w ∷ []) (omega arith)
programs_next (w ∷ ws) q (suc j) h =
    ap (λ (l : List Step). Program q w ∷ l)
    (programs_next ws (suc q) j (omega arith) ∙ ap (λ (k : ℕ). take j (programs ws (suc q)) ++ (Program k (get_or ws j 0) ∷ [])) (omega arith))

erases_next : (n q j : ℕ) → j < n → take (suc j) (erases n q) ≡ take j (erases n q) ++ (Erase (q + j) ∷ [])
unfolding erases
erases_next zero q j h = absurd (omega arith)
erases_next (suc n) q zero h = ap (λ (k : ℕ). Erase k ∷ []) (omega arith)
erases_next (suc n) q (suc j) h =
    ap (λ (l : List Step). Erase q ∷ l)
    (erases_next n (suc q) j (omega arith) ∙ ap (λ (k : ℕ). take j (erases n (suc q)) ++ (Erase k ∷ [])) (omega arith))

one_more : (ss : List Step) (s : Step) (m : List ℕ) → run (ss ++ (s ∷ [])) m ≡ does s (run ss m)
unfolding run
one_more ss s m = run_append ss (s ∷ []) m

-- ---- the places

program_place : (d p k n j : ℕ) → k + j < 256 → (place_of d (program_at p k n) j).0 ≡ page_word d p + (k + j)
unfolding place_of
program_place d p k n j h =
    let at : 1024 * p + 4 * k + 4 * j ≡ 1024 * p + 4 * (k + j) = omega arith in
    rw at (word_of d p (k + j) h)

erase_place : (d p j : ℕ) → j < 256 → (place_of d (erase_at p) j).0 ≡ page_word d p + j
unfolding place_of
erase_place d p j h =
    let at : 1024 * p / 1024 * 1024 + 4 * j ≡ 1024 * p + 4 * j = omega arith in
    rw at (word_of d p j h)

-- ---- the words

pub programmed_first : (d p k : ℕ) (ws : List ℕ) (f : Flash) → k + length ws ≤ 256 → (j : ℕ) → j ≤ length ws
    → (stored_first d (program_at p k (length ws)) (programming ws) j f).words ≡ run (take j (programs ws (page_word d p + k))) f.words
unfolding stored_first run programmed
programmed_first d p k ws f h zero l = refl
programmed_first d p k ws f h (suc j) l =
    let q : ℕ = page_word d p + k in
    let before = programmed_first d p k ws f h j (omega arith) in
    let at : (place_of d (program_at p k (length ws)) j).0 ≡ page_word d p + k + j = program_place d p k (length ws) j (omega arith) ∙ omega arith in
    rw (at, before) (sym (ap (λ (ss : List Step). run ss f.words) (programs_next ws (page_word d p + k) j l)
    ∙ one_more (take j (programs ws (page_word d p + k))) (Program (page_word d p + k + j) (get_or ws j 0)) f.words))

pub erased_first : (d p : ℕ) (f : Flash) (j : ℕ) → j ≤ 256
    → (stored_first d (erase_at p) erasing j f).words ≡ run (take j (erases 256 (page_word d p))) f.words
unfolding stored_first run
erased_first d p f zero l = refl
erased_first d p f (suc j) l =
    let before = erased_first d p f j (omega arith) in
    let at : (place_of d (erase_at p) j).0 ≡ page_word d p + j = erase_place d p j l in
    rw (at, before) (sym (ap (λ (ss : List Step). run ss f.words) (erases_next 256 (page_word d p) j l)
    ∙ one_more (take j (erases 256 (page_word d p))) (Erase (page_word d p + j)) f.words))
