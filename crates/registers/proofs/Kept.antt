-- What the numbers stand for, put into numbers that hold it already, changes nothing. Assumes nothing.
use Prim.Native.Nat.{ℕ, zero, suc, ◌+◌, ◌*◌, ◌%◌, ◌<◌, ◌≤◌}
use native.Mathlib.Nat.{eq-or-lt_of_le, not-suc-le-zero, le_of_suc-le-suc}
use native.Mathlib.Omega.{arith}
use mathlib.Core.Path.{◌≡◌, refl, ap, sym, ◌∙◌}
use mathlib.Core.Logic.{⊎_elim}
use mathlib.Core.Bool.{Bool, true, false, ◌&&◌, cond}
use mathlib.Core.List.{List, [], ◌∷◌}
use lib.Dec.{leb, eqb}
use lib.ListN.{length, get_or, set}
use lib.Seq.{sets, set-get_or, get_or-set_other}
use borrow.Author.Tests.{leb-true, eqb-true}
use Rattle.model.specs.State.{reset_controller}
use Rattle.model.specs.Valid.{all, valid}
use Rattle.model.specs.declared.Controller.{Controller}
use Rattle.model.proofs.Bool.{and_left, and_right, by_test}
use Rattle.registers.specs.Registers.{is_flag, is_on, flag_of, mask_of, phase_of, phase_number, listed, every, encoded, decode, plain_encoded, progress_encoded, region_encoded, setting_encoded}
use Rattle.registers.specs.Registers.{stands_for, regions_of, info_of, region_at, setting_at, queue_at, errors_at, progress_at, operation_at, put_queue, put_errors, put_inputs, put_progress, put_running, put_region}
use Rattle.registers.specs.Registers.{put_setting, put_erase, put_all, put_from_physical, put_from_errors, put_from_programs, put_from_reads, put_from_progress, put_from_erase, put_from_info, put_from_regions, put_from_inputs, put}
use Rattle.registers.proofs.Listed.{sets_same}

-- ---- numbers that stand for something are what they are put as

pub flag_back : (x : ℕ) → is_flag x ≡ true → flag_of (is_on x) ≡ x
flag_back x h =
    ⊎_elim (λ (e : x ≡ 1). rw e) (λ (l : x < 1). let e : x ≡ 0 = omega arith in rw e) (eq-or-lt_of_le (leb-true _ _ h))

phase_back : (n : ℕ) → leb n 2 ≡ true → phase_number (phase_of n) ≡ n
phase_back n h =
    ⊎_elim (λ (e : n ≡ 2). rw e)
    (λ (l : n < 2).
    ⊎_elim (λ (e : n ≡ 1). rw e) (λ (m : n < 1). let e : n ≡ 0 = omega arith in rw e) (eq-or-lt_of_le (omega arith)))
    (eq-or-lt_of_le (leb-true _ _ h))

pub byte_back : (x : ℕ) → leb x 255 ≡ true → x % 256 ≡ x
byte_back x h = let small : x ≤ 255 = leb-true _ _ h in omega arith

-- A number that a place holds, stored there.
pub held : (t : List ℕ) (i : ℕ) {x : ℕ} → get_or t i 0 ≡ x → set t i x ≡ t
held t i e = ap (set t i) (sym e) ∙ set-get_or t i 0

-- ---- numbers that are alike from a place on

pub record Alike (t s : List ℕ) (from : ℕ) : Type 0 where
  pub same : (k : ℕ) → from ≤ k → get_or t k 0 ≡ get_or s k 0

pub itself : {s : List ℕ} {from : ℕ} → Alike s s from
itself = record { same = λ k h. refl }

pub later : {t s : List ℕ} {i j : ℕ} → i ≤ j → Alike t s i → Alike t s j
later {i = i} {j = j} l a = record { same = λ k h. a.same k (omega arith) }

pub alike_set : {t s : List ℕ} {j : ℕ} (i v : ℕ) → i < j → Alike t s j → Alike (set t i v) s j
alike_set {t = t} {s = s} {j = j} i v l a = record {
  same = λ k h.
      let ne : k ≡ i → ⊥ = λ e. omega arith in
      get_or-set_other t i k v 0 ne ∙ a.same k h;
}

pub alike_sets : {t s : List ℕ} {j : ℕ} (i : ℕ) (vs : List ℕ) → i + length vs ≤ j → Alike t s j → Alike (sets t i vs) s j
alike_sets i [] l a = a
alike_sets i (v ∷ vs) l a = alike_sets (suc i) vs (omega arith) (alike_set i v (omega arith) a)

-- ---- each part

listed_alike : {t s : List ℕ} (i n : ℕ) → Alike t s i → listed (λ k. get_or t k 0) i n ≡ listed (λ k. get_or s k 0) i n
listed_alike i zero a = refl
listed_alike i (suc n) a = rw (a.same i (omega arith), listed_alike (i + 1) n (later (omega arith) a))

pub words_kept : {t s : List ℕ} (at n : ℕ) → Alike t s at → sets t at (listed (λ k. get_or s k 0) at n) ≡ t
words_kept {t = t} at n a = ap (sets t at) (sym (listed_alike at n a)) ∙ sets_same t at n

pub queue_kept : {t s : List ℕ} (at : ℕ) → Alike t s at → put_queue t at (queue_at s at) ≡ t
queue_kept {t = t} at a = rw (words_kept {t = t} at 16 a) (held t (at + 16) (a.same (at + 16) (omega arith)))

-- Elements one by one: if each stays as it is where it is put, so do all.
pub all_kept : {A : Type 0} (one : List ℕ → ℕ → A → List ℕ) (f : ℕ → A) (test : ℕ → Bool) (t : List ℕ) (i n : ℕ)
    → ((k : ℕ) → i ≤ k → test k ≡ true → one t k (f k) ≡ t) → all (λ b. b) (listed test i n) ≡ true
    → put_all one t i (listed f i n) ≡ t
all_kept one f test t i zero same h = refl
all_kept one f test t i (suc n) same h =
    ap (λ (l : List ℕ). put_all one l (i + 1) (listed f (i + 1) n)) (same i (omega arith) (and_left (test i) _ h))
    ∙ all_kept one f test t (i + 1) n (λ k l. same k (omega arith)) (and_right (test i) _ h)

-- One of them is another: that one is put.
pub all_but_one : {A : Type 0} (one : List ℕ → ℕ → A → List ℕ) (f : ℕ → A) (test : ℕ → Bool) (t : List ℕ) (m : ℕ) (x : A) (i j n : ℕ)
    → i + j ≡ m → j < n
    → ((k : ℕ) → test k ≡ true → one t k (f k) ≡ t)
    → ((k : ℕ) → m < k → test k ≡ true → one (one t m x) k (f k) ≡ one t m x)
    → all (λ b. b) (listed test i n) ≡ true → put_all one t i (set (listed f i n) j x) ≡ one t m x
all_but_one one f test t m x i j zero at l before after h = absurd (not-suc-le-zero l)
all_but_one one f test t m x i zero (suc n) at l before after h =
    let here : i ≡ m = omega arith in
    ap (λ (k : ℕ). put_all one (one t k x) (i + 1) (listed f (i + 1) n)) here
    ∙ all_kept one f test (one t m x) (i + 1) n (λ k b. after k (omega arith)) (and_right (test i) _ h)
all_but_one one f test t m x i (suc j) (suc n) at l before after h =
    ap (λ (u : List ℕ). put_all one u (i + 1) (set (listed f (i + 1) n) j x)) (before i (and_left (test i) _ h))
    ∙ all_but_one one f test t m x (i + 1) j n (omega arith) (le_of_suc-le-suc l) before after (and_right (test i) _ h)

module _ {t s : List ℕ} where
  pub region_kept : (i : ℕ) → Alike t s (5 + 4 * i) → region_encoded s i ≡ true → put_region t i (region_at s i) ≡ t
  region_kept i a h =
      let flag = flag_back (get_or s (5 + 4 * i + 2) 0) (and_left (is_flag (get_or s (5 + 4 * i + 2) 0)) _ h) in
      let byte = byte_back (get_or s (5 + 4 * i + 3) 0) (and_right (is_flag (get_or s (5 + 4 * i + 2) 0)) _ h) in
      rw (
        flag,
        byte,
        held t (5 + 4 * i) (a.same (5 + 4 * i) (omega arith)),
        held t (5 + 4 * i + 1) (a.same (5 + 4 * i + 1) (omega arith)),
        held t (5 + 4 * i + 2) (a.same (5 + 4 * i + 2) (omega arith)),
      )
      (held t (5 + 4 * i + 3) (a.same (5 + 4 * i + 3) (omega arith)))

  pub setting_kept : (i : ℕ) → Alike t s (37 + 2 * i) → setting_encoded s i ≡ true → put_setting t i (setting_at s i) ≡ t
  setting_kept i a h =
      let flag = flag_back (get_or s (37 + 2 * i) 0) (and_left (is_flag (get_or s (37 + 2 * i) 0)) _ h) in
      let byte = byte_back (get_or s (37 + 2 * i + 1) 0) (and_right (is_flag (get_or s (37 + 2 * i) 0)) _ h) in
      rw (flag, byte, held t (37 + 2 * i) (a.same (37 + 2 * i) (omega arith)))
      (held t (37 + 2 * i + 1) (a.same (37 + 2 * i + 1) (omega arith)))

-- ---- numbers that encode a state, part by part

pub record Parts (s : List ℕ) : Type 0 where
  pub phase : leb (get_or s 1 0) 2 ≡ true
  pub provision : is_flag (get_or s 2 0) ≡ true
  pub locked : is_flag (get_or s 3 0) ≡ true
  pub rights : leb (get_or s 4 0) 255 ≡ true
  pub first : is_flag (get_or s 89 0) ≡ true
  pub second : is_flag (get_or s 90 0) ≡ true
  pub mask : mask_of (errors_at s) ≡ get_or s 133 0
  pub progress : progress_encoded s ≡ true
  pub regions : every (region_encoded s) 8 ≡ true
  pub info : every (setting_encoded s) 26 ≡ true

pub parts : (s : List ℕ) → encoded s ≡ true → Parts s
unfolding encoded
parts s h =
    let h₀ = and_left (plain_encoded s) _ h in
    let h₁ = and_right (leb (get_or s 1 0) 2) _ h₀ in
    let h₂ = and_right (is_flag (get_or s 2 0)) _ h₁ in
    let h₃ = and_right (is_flag (get_or s 3 0)) _ h₂ in
    let h₄ = and_right (leb (get_or s 4 0) 255) _ h₃ in
    let h₅ = and_right (is_flag (get_or s 89 0)) _ h₄ in
    let r₁ = and_right (plain_encoded s) _ h in
    let r₂ = and_right (progress_encoded s) _ r₁ in
    record {
      phase = and_left (leb (get_or s 1 0) 2) _ h₀;
      provision = and_left (is_flag (get_or s 2 0)) _ h₁;
      locked = and_left (is_flag (get_or s 3 0)) _ h₂;
      rights = and_left (leb (get_or s 4 0) 255) _ h₃;
      first = and_left (is_flag (get_or s 89 0)) _ h₄;
      second = and_left (is_flag (get_or s 90 0)) _ h₅;
      mask = eqb-true _ _ (and_right (is_flag (get_or s 90 0)) _ h₅);
      progress = and_left (progress_encoded s) _ r₁;
      regions = and_left (every (region_encoded s) 8) _ r₂;
      info = and_right (every (region_encoded s) 8) _ r₂;
    }

-- ---- the operation in progress

module _ {t s : List ℕ} (a : Alike t s 91) where
  running_kept : (readable : ℕ) → leb (get_or s 93 0) 3 ≡ true → leb (get_or s 94 0) 255 ≡ true → leb (get_or s 95 0) 255 ≡ true
      → get_or s 97 0 ≡ readable → 1 ≡ get_or s 98 0 → put_running t (operation_at s) (get_or s 96 0) readable ≡ t
  running_kept readable kind partition info r one =
      let small : get_or s 93 0 ≤ 3 = leb-true _ _ kind in
      let byte : get_or s 93 0 % 256 ≡ get_or s 93 0 = omega arith in
      rw (
        byte,
        byte_back (get_or s 94 0) partition,
        byte_back (get_or s 95 0) info,
        held t 91 (a.same 91 (omega arith)),
        held t 92 (a.same 92 (omega arith)),
        held t 93 (a.same 93 (omega arith)),
        held t 94 (a.same 94 (omega arith)),
        held t 95 (a.same 95 (omega arith)),
        held t 96 (a.same 96 (omega arith)),
        held t 97 (a.same 97 (omega arith) ∙ r),
      )
      (held t 98 (a.same 98 (omega arith) ∙ sym one))

  pub progress_kept : progress_encoded s ≡ true → put_progress t (progress_at s) ≡ t
  unfolding progress_at
  progress_kept h =
      let flag : flag_of (is_on (get_or s 98 0)) ≡ get_or s 98 0 = flag_back _ (and_left (is_flag (get_or s 98 0)) _ h) in
      let rest = and_right (is_flag (get_or s 98 0)) _ h in
      by_test (is_on (get_or s 98 0))
      (λ on.
      let one : 1 ≡ get_or s 98 0 = rw on at flag in
      let bytes : (leb (get_or s 93 0) 3 && (leb (get_or s 94 0) 255 && leb (get_or s 95 0) 255)) ≡ true = rw on at rest in
      let ons : is_on (get_or t 98 0) ≡ true = rw (a.same 98 (omega arith)) on in
      let kind = and_left (leb (get_or s 93 0) 3) _ bytes in
      let others = and_right (leb (get_or s 93 0) 3) _ bytes in
      let partition = and_left (leb (get_or s 94 0) 255) _ others in
      let info = and_right (leb (get_or s 94 0) 255) _ others in
      let kept : (readable : ℕ) → get_or s 97 0 ≡ readable → put_running t (operation_at s) (get_or s 96 0) readable ≡ t =
      λ readable r. running_kept readable kind partition info r one in
      by_test (eqb (get_or s 93 0 % 256) 0)
      (λ read. rw (on, read) (kept (get_or s 97 0) refl))
      (λ other.
      by_test (eqb (get_or s 93 0 % 256) 1)
      (λ program. rw (on, other, program, ons) (kept (get_or t 97 0) (sym (a.same 97 (omega arith)))))
      (λ erase. rw (on, other, erase, ons) (kept (get_or t 97 0) (sym (a.same 97 (omega arith)))))))
      (λ off.
      let offs : is_on (get_or t 98 0) ≡ false = rw (a.same 98 (omega arith)) off in
      rw (off, offs))

-- ---- from each place on, and all

module _ {s : List ℕ} (p : Parts s) where
  pub from_physical : {t : List ℕ} → Alike t s 135 → put_from_physical t (stands_for s) ≡ t
  unfolding put_from_physical stands_for
  from_physical a = words_kept 135 2 a

  errors_kept : {t : List ℕ} → Alike t s 133 → put_errors t (stands_for s).errors ≡ t
  unfolding stands_for
  errors_kept {t = t} a = rw (p.mask, held t 133 (a.same 133 (omega arith))) (held t 134 (a.same 134 (omega arith)))

  pub from_errors : {t : List ℕ} → Alike t s 133 → put_from_errors t (stands_for s) ≡ t
  unfolding put_from_errors
  from_errors {t = t} a = ap (λ (l : List ℕ). put_from_physical l (stands_for s)) (errors_kept a) ∙ from_physical (later (omega arith) a)

  pub from_programs : {t : List ℕ} → Alike t s 116 → put_from_programs t (stands_for s) ≡ t
  unfolding put_from_programs stands_for
  from_programs {t = t} a = ap (λ (l : List ℕ). put_from_errors l (stands_for s)) (queue_kept 116 a) ∙ from_errors (later (omega arith) a)

  pub from_reads : {t : List ℕ} → Alike t s 99 → put_from_reads t (stands_for s) ≡ t
  unfolding put_from_reads stands_for
  from_reads {t = t} a = ap (λ (l : List ℕ). put_from_programs l (stands_for s)) (queue_kept 99 a) ∙ from_programs (later (omega arith) a)

  pub from_progress : {t : List ℕ} → Alike t s 91 → put_from_progress t (stands_for s) ≡ t
  unfolding put_from_progress stands_for
  from_progress {t = t} a = ap (λ (l : List ℕ). put_from_reads l (stands_for s)) (progress_kept a p.progress) ∙ from_reads (later (omega arith) a)

  pub erase_kept : {t : List ℕ} → Alike t s 89 → put_all put_erase t 0 (stands_for s).setup.settings.erase ≡ t
  unfolding stands_for
  erase_kept {t = t} a =
      rw (flag_back (get_or s 89 0) p.first, flag_back (get_or s 90 0) p.second, held t 89 (a.same 89 (omega arith)))
      (held t 90 (a.same 90 (omega arith)))

  pub from_erase : {t : List ℕ} → Alike t s 89 → put_from_erase t (stands_for s) ≡ t
  unfolding put_from_erase
  from_erase {t = t} a = ap (λ (l : List ℕ). put_from_progress l (stands_for s)) (erase_kept a) ∙ from_progress (later (omega arith) a)

  pub info_kept : {t : List ℕ} → Alike t s 37 → put_all put_setting t 0 (stands_for s).setup.settings.info ≡ t
  unfolding stands_for info_of
  info_kept {t = t} a = all_kept put_setting (setting_at s) (setting_encoded s) t 0 26 (λ i b h. setting_kept i (later (omega arith) a) h) p.info

  pub from_info : {t : List ℕ} → Alike t s 37 → put_from_info t (stands_for s) ≡ t
  unfolding put_from_info
  from_info {t = t} a = ap (λ (l : List ℕ). put_from_erase l (stands_for s)) (info_kept a) ∙ from_erase (later (omega arith) a)

  pub regions_kept : {t : List ℕ} → Alike t s 5 → put_all put_region t 0 (stands_for s).setup.settings.regions ≡ t
  unfolding stands_for regions_of
  regions_kept {t = t} a = all_kept put_region (region_at s) (region_encoded s) t 0 8 (λ i b h. region_kept i (later (omega arith) a) h) p.regions

  pub from_regions : {t : List ℕ} → Alike t s 5 → put_from_regions t (stands_for s) ≡ t
  unfolding put_from_regions
  from_regions {t = t} a = ap (λ (l : List ℕ). put_from_info l (stands_for s)) (regions_kept a) ∙ from_info (later (omega arith) a)

  pub inputs_kept : {t : List ℕ} → Alike t s 2 → put_inputs t (stands_for s).setup.inputs ≡ t
  unfolding stands_for
  inputs_kept {t = t} a =
      rw (flag_back (get_or s 2 0) p.provision, flag_back (get_or s 3 0) p.locked, held t 2 (a.same 2 (omega arith)))
      (held t 3 (a.same 3 (omega arith)))

  pub rights_kept : {t : List ℕ} → Alike t s 4 → set t 4 (stands_for s).setup.settings.default_rights ≡ t
  unfolding stands_for
  rights_kept {t = t} a = rw (byte_back (get_or s 4 0) p.rights) (held t 4 (a.same 4 (omega arith)))

  pub plain_kept : {t : List ℕ} → Alike t s 2 → set (put_inputs t (stands_for s).setup.inputs) 4 (stands_for s).setup.settings.default_rights ≡ t
  plain_kept {t = t} a = ap (λ (l : List ℕ). set l 4 (stands_for s).setup.settings.default_rights) (inputs_kept a) ∙ rights_kept (later (omega arith) a)

  pub from_inputs : {t : List ℕ} → Alike t s 2 → put_from_inputs t (stands_for s) ≡ t
  unfolding put_from_inputs
  from_inputs {t = t} a = ap (λ (l : List ℕ). put_from_regions l (stands_for s)) (plain_kept a) ∙ from_regions (later (omega arith) a)

  pub head_kept : set (set s 0 (stands_for s).setup.pages) 1 (phase_number (stands_for s).phase) ≡ s
  unfolding stands_for
  head_kept = rw (phase_back (get_or s 1 0) p.phase, held s 0 refl) (held s 1 refl)

-- Numbers that stand for a valid state encode it.
either : (b : Bool) (c : Controller) → valid (cond b c (reset_controller 0)) ≡ true → b ≡ true
unfolding valid
either true c h = refl
either false c h = h

pub valid_encoded : (s : List ℕ) → valid (decode s) ≡ true → encoded s ≡ true
unfolding decode
valid_encoded s h = either (encoded s) (stands_for s) h

-- Numbers that encode a state stay as they are where that state is put into them.
pub put_back : (s : List ℕ) → encoded s ≡ true → put s (stands_for s) ≡ s
unfolding put
put_back s h =
    let p = parts s h in
    ap (λ (l : List ℕ). put_from_inputs l (stands_for s)) (head_kept p) ∙ from_inputs p itself
