-- The waiting list outlives a cut and a reboot: power cut, the same setup, and what takes find, together. Assumes nothing.
use Prim.Native.Nat.{ℕ, ◌≤◌}
use mathlib.Core.Path.{◌≡◌, refl, sym, ap, subst, ◌∙◌}
use mathlib.Core.Bool.{true}
use mathlib.Core.Logic.{◌⊎◌, inl, inr, ⊎_elim}
use mathlib.Core.List.{List}
use lib.ListN.{length, take}
use Rattle.model.specs.State.{Flash, flash_fits}
use Rattle.model.specs.declared.Setup.{Setup}
use Rattle.model.proofs.Flashes.{same_fits}
use Rattle.model.proofs.Free.{whole_fits}
use Rattle.promises.specs.Calls.{Call}
use Rattle.registers.specs.Layout.{register_count}
use Rattle.registers.specs.Registers.{decode}
use Rattle.scan_queue.specs.Payload.{Below, Scan}
use Rattle.scan_queue.specs.Cuts.{steps_of, ScanCall, Write, Take, plan_of, cut}
use Rattle.scan_queue.proofs.Words.{run_length}
use Rattle.scans.specs.Scans.{write_in, take_in}
use Rattle.scans.proofs.Passed.{accepted}
use Rattle.scan_promises.specs.PowerCut.{low_word, high_word, listed, SameFound}
use Rattle.scan_promises.specs.Reboots.{powered_on}
use Rattle.scan_promises.specs.Outlives.{Serving, Finds, FoundAgain, Outlives}
use Rattle.scan_promises.proofs.PowerCutProof.{write_words, write_cut, take_words, take_cut}
use Rattle.scan_promises.proofs.FoundProof.{same_setup, found_holds}
use Rattle.scan_promises.proofs.RebootsProof.{reboots_hold}

-- A cut call leaves as many words.
cut_length : (n : ℕ) (m : List ℕ) (a b : ℕ) (c : ScanCall) → length (cut n m a b c) ≡ length m
unfolding cut
cut_length n m a b c = run_length (take n (steps_of (plan_of m a b c))) m

module _ (d : ℕ) (ks : List Call) (s : List ℕ) (f : Flash) (a b : ℕ) (h : Serving d ks s f a b) where
  fits : flash_fits d f ≡ true
  fits =
      let same : (decode s).setup.pages ≡ d = ap (λ (x : Setup). x.pages) h.setup ∙ (reboots_hold d ks s f h.pages h.settings h.size).pages in
      subst (λ (x : ℕ). flash_fits x f ≡ true) same (whole_fits (decode s) f (accepted s f a b _ refl h.serves))

  -- Powered on, whatever the registers held, on a flash with as many words:
  module _ (t : List ℕ) (size : length t ≡ register_count) (g : Flash) (long : length g.words ≡ length f.words) where
    same : SameFound s (powered_on d ks t g) g a b
    same =
        let on = reboots_hold d ks t g h.pages h.settings size in
        same_setup s (powered_on d ks t g) f g a b h.size h.serves (on.free (same_fits d g f long ∙ fits)) (on.same s f h.size ∙ sym h.setup)

    -- takes find the list that is there.
    pub found : (l : List Scan) → listed s g a b ≡ l → Finds (powered_on d ks t g) g a b l
    found l e =
        let on = reboots_hold d ks t g h.pages h.settings size in
        subst (Finds (powered_on d ks t g) g a b) (same.list ∙ e) (found_holds (powered_on d ks t g) g a b on.size same.serves).all

    again : (enough n : ℕ) (before after : List Scan) → (listed s g a b ≡ before) ⊎ (listed s g a b ≡ after)
        → (enough ≤ n → listed s g a b ≡ after) → FoundAgain enough n (powered_on d ks t g) g a b before after
    again enough n before after either done = record {
      serves = same.serves;
      finds = ⊎_elim (λ e. inl (found before e)) (λ e. inr (found after e)) either;
      done = λ all. found after (done all);
    }

  pub write_long : (n : ℕ) (bytes : List ℕ) → Below 256 bytes → length (write_in n s f a b bytes).flash.words ≡ length f.words
  write_long n bytes are =
      ap length (write_words s f a b h.size h.serves bytes are n) ∙ cut_length n f.words (low_word s a b) (high_word s a b) (Write bytes)

  take_long : (n : ℕ) → length (take_in n s f a b).flash.words ≡ length f.words
  take_long n =
      ap length (take_words s f a b h.size h.serves n) ∙ cut_length n f.words (low_word s a b) (high_word s a b) Take

pub outlives : Outlives
outlives = record {
  writes = λ d ks s f a b h n bytes t are size.
      let c = write_cut s f a b h.size h.serves bytes are n in
      again d ks s f a b h t size (write_in n s f a b bytes).flash (write_long d ks s f a b h n bytes are) 271 n _ _ c.cut c.done;
  takes = λ d ks s f a b h n t size.
      let c = take_cut s f a b h.size h.serves n in
      again d ks s f a b h t size (take_in n s f a b).flash (take_long d ks s f a b h n) 1 n _ _ c.cut c.done;
}
