-- What is put into the registers stands where it was put, and is read again as it was. Assumes nothing.
use Rattle.std.specs.Prelude.{None, Some}
use Prim.Native.Nat.{ℕ, zero, suc, ◌+◌, ◌*◌, ◌/◌, ◌%◌, ◌<◌, ◌≤◌}
use native.Mathlib.Nat.{add-zero, not-suc-le-zero, le_of_suc-le-suc}
use native.Mathlib.Omega.{arith}
use mathlib.Core.Path.{◌≡◌, refl, sym, subst, ◌∙◌}
use mathlib.Core.Bool.{Bool, true, false, ◌&&◌, ◌||◌, cond, true≢false}
use mathlib.Core.List.{List, [], ◌∷◌}
use lib.Dec.{leb, eqb}
use lib.ListN.{length, get_or, set, length-set}
use lib.Seq.{sets, get_or-set_same, get_or-set_other, ext_get_or}
use borrow.Author.Tests.{leb-true, le-leb, eqb-true, ne_eqb}
use Rattle.model.specs.Kinds.{is_read, is_program, is_page_erase, is_bank_erase}
use Rattle.model.specs.Valid.{all, work_fits, running_fits, rights_fit, page_fits}
use Rattle.model.specs.declared.Phase.{Phase}
use Rattle.model.specs.declared.Phase.TheVariants.{Uninitialised, Ready, Disabled}
use Rattle.model.specs.declared.Region.{Region}
use Rattle.model.specs.declared.PageSetting.{PageSetting}
use Rattle.model.specs.declared.Errors.{Errors}
use Rattle.model.specs.declared.Operation.{Operation}
use Rattle.model.specs.declared.Queue.{Queue}
use Rattle.model.specs.declared.Work.TheVariants.{Read, Program, Erase}
use Rattle.model.specs.State.{Progress}
use Rattle.model.specs.declared.Controller.{Controller}
use Rattle.model.proofs.Bool.{and_left, and_right, by_test}
use Rattle.registers.specs.Registers.{is_flag, is_on, flag_of, mask_of, phase_of, phase_number, listed, every, progress_encoded, region_encoded, setting_encoded, region_at, setting_at, queue_at, errors_at}
use Rattle.registers.specs.Registers.{progress_at, operation_at, put_queue, readable_kept, put_progress, put_running, put_region, put_setting, put_erase, put_all, put_from_physical, put_from_errors, put_from_programs}
use Rattle.registers.specs.Registers.{put_from_reads, put_from_progress, put_from_erase, put_from_info, put_from_regions, put_from_inputs}
use Rattle.registers.proofs.Listed.{listed_length, listed_at, listed_same}

-- ---- one number

pub record Long (t : List ℕ) : Type 0 where
  pub size : length t ≡ 137

pub record At (t : List ℕ) (i v : ℕ) : Type 0 where
  pub is : get_or t i 0 ≡ v

pub long_set : {t : List ℕ} (i v : ℕ) → Long t → Long (set t i v)
long_set {t = t} i v l = record { size = length-set t i v ∙ l.size }

pub there : {t : List ℕ} (i v : ℕ) → i < 137 → Long t → At (set t i v) i v
there {t = t} i v b l = record { is = get_or-set_same t i v 0 (rw l.size b) }

pub over : {t : List ℕ} {k v : ℕ} (i w : ℕ) → k < i → At t k v → At (set t i w) k v
over {t = t} {k = k} i w b a =
    let ne : k ≡ i → ⊥ = λ e. omega arith in
    record { is = get_or-set_other t i k w 0 ne ∙ a.is }

-- ---- a run of numbers

pub long_sets : {t : List ℕ} (i : ℕ) (vs : List ℕ) → Long t → Long (sets t i vs)
long_sets i [] l = l
long_sets i (v ∷ vs) l = long_sets (suc i) vs (long_set i v l)

pub over_sets : {t : List ℕ} {k v : ℕ} (i : ℕ) (vs : List ℕ) → k < i → At t k v → At (sets t i vs) k v
over_sets i [] b a = a
over_sets i (w ∷ vs) b a = over_sets (suc i) vs (omega arith) (over i w b a)

pub there_sets : {t : List ℕ} (i : ℕ) (vs : List ℕ) (j : ℕ) → i + length vs ≤ 137 → j < length vs → Long t → At (sets t i vs) (i + j) (get_or vs j 0)
there_sets i [] j b h l = absurd (not-suc-le-zero h)
there_sets i (v ∷ vs) zero b h l = rw (add-zero i) (over_sets (suc i) vs (omega arith) (there i v (omega arith) l))
there_sets i (v ∷ vs) (suc j) b h l =
    let next : suc i + j ≡ i + suc j = omega arith in
    rw (← next) (there_sets (suc i) vs j (omega arith) (le_of_suc-le-suc h) (long_set i v l))

-- ---- elements one by one

module _ {A : Type 0} (one : List ℕ → ℕ → A → List ℕ) where
  pub long_all : ((t : List ℕ) (k : ℕ) (x : A) → Long t → Long (one t k x)) → (t : List ℕ) (i : ℕ) (xs : List A) → Long t → Long (put_all one t i xs)
  long_all long t i [] l = l
  long_all long t i (x ∷ xs) l = long_all long (one t i x) (i + 1) xs (long t i x l)

  pub over_all : {k v : ℕ} → ((t : List ℕ) (m : ℕ) (x : A) → At t k v → At (one t m x) k v) → (t : List ℕ) (i : ℕ) (xs : List A)
      → At t k v → At (put_all one t i xs) k v
  over_all keep t i [] a = a
  over_all keep t i (x ∷ xs) a = over_all keep (one t i x) (i + 1) xs (keep t i x a)

  module _
      (Q : List ℕ → ℕ → A → Type 0) (bound : ℕ) (d : A)
      (puts : (t : List ℕ) (k : ℕ) (x : A) → k < bound → Long t → Q (one t k x) k x)
      (keeps : (t : List ℕ) (k m : ℕ) (x y : A) → k < m → Q t k x → Q (one t m y) k x)
      (long : (t : List ℕ) (k : ℕ) (x : A) → Long t → Long (one t k x)) where
    stays : (t : List ℕ) (k : ℕ) (x : A) (i : ℕ) (xs : List A) → k < i → Q t k x → Q (put_all one t i xs) k x
    stays t k x i [] b q = q
    stays t k x i (y ∷ xs) b q = stays (one t i y) k x (i + 1) xs (omega arith) (keeps t k i x y b q)

    pub all_there : (t : List ℕ) (i : ℕ) (xs : List A) → i + length xs ≤ bound → Long t → (j : ℕ) → j < length xs → Q (put_all one t i xs) (i + j) (get_or xs j d)
    all_there t i [] b l j h = absurd (not-suc-le-zero h)
    all_there t i (x ∷ xs) b l zero h =
        subst (λ (k : ℕ). Q (put_all one t i (x ∷ xs)) k x) (sym (add-zero i)) (stays (one t i x) i x (i + 1) xs (omega arith) (puts t i x (omega arith) l))
    all_there t i (x ∷ xs) b l (suc j) h =
        let next : (i + 1) + j ≡ i + suc j = omega arith in
        subst (λ (k : ℕ). Q (put_all one t i (x ∷ xs)) k (get_or xs j d)) next (all_there (one t i x) (i + 1) xs (omega arith) (long t i x l) j (le_of_suc-le-suc h))

pub listed_is : {A : Type 0} (f : ℕ → A) (n : ℕ) (d : A) (xs : List A) → length xs ≡ n → ((k : ℕ) → k < n → f k ≡ get_or xs k d) → listed f 0 n ≡ xs
listed_is f n d xs e same =
    ext_get_or d (listed f 0 n) xs (listed_length f 0 n ∙ sym e) (λ k h. let b : k < n = rw (listed_length f 0 n) at h in listed_at f n k d b ∙ same k b)

pub every_from : (test : ℕ → Bool) (i n : ℕ) → ((k : ℕ) → k < i + n → test k ≡ true) → all (λ b. b) (listed test i n) ≡ true
every_from test i zero h = refl
every_from test i (suc n) h = rw (h i (omega arith)) (every_from test (i + 1) n (λ k b. h k (omega arith)))

pub every_true : (test : ℕ → Bool) (n : ℕ) → ((k : ℕ) → k < n → test k ≡ true) → every test n ≡ true
every_true test n h = every_from test 0 n (λ k b. h k (omega arith))

pub all_at : {A : Type 0} (test : A → Bool) (xs : List A) (k : ℕ) (d : A) → all test xs ≡ true → k < length xs → test (get_or xs k d) ≡ true
all_at test [] k d h b = absurd (not-suc-le-zero b)
all_at test (x ∷ xs) zero d h b = and_left (test x) _ h
all_at test (x ∷ xs) (suc k) d h b = all_at test xs k d (and_right (test x) _ h) (le_of_suc-le-suc b)

-- ---- each part where it was put

pub record RegionAt (t : List ℕ) (k : ℕ) (g : Region) : Type 0 where
  pub first : At t (5 + 4 * k) g.first.0
  pub count : At t (5 + 4 * k + 1) g.count
  pub on : At t (5 + 4 * k + 2) (flag_of g.on)
  pub rights : At t (5 + 4 * k + 3) g.rights

pub under_region : (t : List ℕ) {k v : ℕ} (m : ℕ) (g : Region) → k < 5 + 4 * m → At t k v → At (put_region t m g) k v
under_region t m g b a =
    over (5 + 4 * m + 3) g.rights (omega arith) (over (5 + 4 * m + 2) _ (omega arith) (over (5 + 4 * m + 1) g.count (omega arith) (over (5 + 4 * m) g.first.0 b a)))

pub long_region : (t : List ℕ) (k : ℕ) (g : Region) → Long t → Long (put_region t k g)
long_region t k g l = long_set _ _ (long_set _ _ (long_set _ _ (long_set _ _ l)))

pub region_put : (t : List ℕ) (k : ℕ) (g : Region) → k < 8 → Long t → RegionAt (put_region t k g) k g
region_put t k g b l =
    record {
      first = over (5 + 4 * k + 3) _ (omega arith) (over (5 + 4 * k + 2) _ (omega arith) (over (5 + 4 * k + 1) _ (omega arith) (there (5 + 4 * k) _ (omega arith) l)));
      count = over (5 + 4 * k + 3) _ (omega arith) (over (5 + 4 * k + 2) _ (omega arith) (there (5 + 4 * k + 1) _ (omega arith) (long_set _ _ l)));
      on = over (5 + 4 * k + 3) _ (omega arith) (there (5 + 4 * k + 2) _ (omega arith) (long_set _ _ (long_set _ _ l)));
      rights = there (5 + 4 * k + 3) _ (omega arith) (long_set _ _ (long_set _ _ (long_set _ _ l)));
    }

pub region_keeps : (t : List ℕ) (k m : ℕ) (g y : Region) → k < m → RegionAt t k g → RegionAt (put_region t m y) k g
region_keeps t k m g y b q = record {
  first = under_region t m y (omega arith) q.first;
  count = under_region t m y (omega arith) q.count;
  on = under_region t m y (omega arith) q.on;
  rights = under_region t m y (omega arith) q.rights;
}

pub record SettingAt (t : List ℕ) (k : ℕ) (x : PageSetting) : Type 0 where
  pub on : At t (37 + 2 * k) (flag_of x.on)
  pub rights : At t (37 + 2 * k + 1) x.rights

pub under_setting : (t : List ℕ) {k v : ℕ} (m : ℕ) (x : PageSetting) → k < 37 + 2 * m → At t k v → At (put_setting t m x) k v
under_setting t m x b a = over (37 + 2 * m + 1) x.rights (omega arith) (over (37 + 2 * m) _ b a)

pub long_setting : (t : List ℕ) (k : ℕ) (x : PageSetting) → Long t → Long (put_setting t k x)
long_setting t k x l = long_set _ _ (long_set _ _ l)

pub setting_put : (t : List ℕ) (k : ℕ) (x : PageSetting) → k < 26 → Long t → SettingAt (put_setting t k x) k x
setting_put t k x b l = record {
  on = over (37 + 2 * k + 1) _ (omega arith) (there (37 + 2 * k) _ (omega arith) l);
  rights = there (37 + 2 * k + 1) _ (omega arith) (long_set _ _ l);
}

pub setting_keeps : (t : List ℕ) (k m : ℕ) (x y : PageSetting) → k < m → SettingAt t k x → SettingAt (put_setting t m y) k x
setting_keeps t k m x y b q = record { on = under_setting t m y (omega arith) q.on; rights = under_setting t m y (omega arith) q.rights }

pub record EraseAt (t : List ℕ) (k : ℕ) (b : Bool) : Type 0 where
  pub on : At t (89 + k) (flag_of b)

pub under_erase : (t : List ℕ) {k v : ℕ} (m : ℕ) (b : Bool) → k < 89 + m → At t k v → At (put_erase t m b) k v
under_erase t m b l a = over (89 + m) _ l a

pub long_erase : (t : List ℕ) (k : ℕ) (b : Bool) → Long t → Long (put_erase t k b)
long_erase t k b l = long_set _ _ l

pub erase_put : (t : List ℕ) (k : ℕ) (b : Bool) → k < 2 → Long t → EraseAt (put_erase t k b) k b
erase_put t k b h l = record { on = there (89 + k) _ (omega arith) l }

pub erase_keeps : (t : List ℕ) (k m : ℕ) (x y : Bool) → k < m → EraseAt t k x → EraseAt (put_erase t m y) k x
erase_keeps t k m x y b q = record { on = under_erase t m y (omega arith) q.on }

-- The operation in progress.
pub record RunningAt (t : List ℕ) (o : Operation) (moved readable : ℕ) : Type 0 where
  pub address : At t 91 o.address.0
  pub count : At t 92 o.count
  pub kind : At t 93 o.kind
  pub partition : At t 94 o.partition
  pub info : At t 95 o.info
  pub moves : At t 96 moved
  pub reads : At t 97 readable
  pub on : At t 98 1

abbrev pub eight : Operation → ℕ → ℕ → List ℕ
eight o moved readable = o.address.0 ∷ o.count ∷ o.kind ∷ o.partition ∷ o.info ∷ moved ∷ readable ∷ 1 ∷ []

pub running_put : (t : List ℕ) (o : Operation) (moved readable : ℕ) → Long t → RunningAt (put_running t o moved readable) o moved readable
running_put t o moved readable l =
    let at : (j : ℕ) → j < 8 → At (put_running t o moved readable) (91 + j) (get_or (eight o moved readable) j 0) =
    λ j b. there_sets 91 (eight o moved readable) j (omega arith) b l in
    record {
      address = at 0 (omega arith);
      count = at 1 (omega arith);
      kind = at 2 (omega arith);
      partition = at 3 (omega arith);
      info = at 4 (omega arith);
      moves = at 5 (omega arith);
      reads = at 6 (omega arith);
      on = at 7 (omega arith);
    }

abbrev pub zeros : List ℕ
zeros = 0 ∷ 0 ∷ 0 ∷ 0 ∷ 0 ∷ 0 ∷ 0 ∷ 0 ∷ []

pub cond_at : {t u : List ℕ} {k v : ℕ} (b : Bool) → At t k v → At u k v → At (cond b t u) k v
cond_at true x y = x
cond_at false x y = y

pub cond_long : {t u : List ℕ} (b : Bool) → Long t → Long u → Long (cond b t u)
cond_long true x y = x
cond_long false x y = y

pub under_progress : (t : List ℕ) {k v : ℕ} (r : Progress) → k < 91 → At t k v → At (put_progress t r) k v
under_progress t None b a = cond_at (is_on (get_or t 98 0)) (over_sets 91 zeros b a) a
under_progress t (Some (Read o moved readable)) b a = over_sets 91 (eight o moved readable) b a
under_progress t (Some (Program o moved)) b a = over_sets 91 (eight o moved (readable_kept t)) b a
under_progress t (Some (Erase o moved)) b a = over_sets 91 (eight o moved (readable_kept t)) b a

pub long_progress : (t : List ℕ) (r : Progress) → Long t → Long (put_progress t r)
long_progress t None l = cond_long (is_on (get_or t 98 0)) (long_sets 91 zeros l) l
long_progress t (Some (Read o moved readable)) l = long_sets 91 (eight o moved readable) l
long_progress t (Some (Program o moved)) l = long_sets 91 (eight o moved (readable_kept t)) l
long_progress t (Some (Erase o moved)) l = long_sets 91 (eight o moved (readable_kept t)) l

pub off_is_zero : (x : ℕ) → is_on x ≡ false → x ≡ 0
off_is_zero x off = by_test (eqb x 0) (λ zero. eqb-true x 0 zero) (λ other. absurd (true≢false (rw other at off)))

pub idle_put : (t : List ℕ) → Long t → At (put_progress t None) 98 0
idle_put t l =
    by_test (is_on (get_or t 98 0)) (λ on. rw on (there_sets 91 zeros 7 (omega arith) (omega arith) l))
    (λ off. rw off (record { is = off_is_zero (get_or t 98 0) off }))

-- The queues.
pub under_queue : (t : List ℕ) {k v : ℕ} (at : ℕ) (q : Queue) → k < at → At t k v → At (put_queue t at q) k v
under_queue t at q b a = over (at + 16) q.len (omega arith) (over_sets at q.words b a)

pub long_queue : (t : List ℕ) (at : ℕ) (q : Queue) → Long t → Long (put_queue t at q)
long_queue t at q l = long_set _ _ (long_sets at q.words l)

pub record QueueAt (t : List ℕ) (at : ℕ) (q : Queue) : Type 0 where
  pub word : (j : ℕ) → j < 16 → At t (at + j) (get_or q.words j 0)
  pub len : At t (at + 16) q.len

pub queue_put : (t : List ℕ) (at : ℕ) (q : Queue) → at + 17 ≤ 137 → length q.words ≡ 16 → Long t → QueueAt (put_queue t at q) at q
queue_put t at q b e l = record {
  word = λ j h. over (at + 16) q.len (omega arith) (there_sets at q.words j (omega arith) (omega arith) l);
  len = there (at + 16) q.len (omega arith) (long_sets at q.words l);
}

pub queue_is : {t : List ℕ} {at : ℕ} {q : Queue} → length q.words ≡ 16 → QueueAt t at q → queue_at t at ≡ q
queue_is {t = t} {at = at} {q = q} e h =
    rw (← listed_same (λ k. get_or t k 0) at 16 q.words e (λ k b. sym (h.word k b).is), h.len.is)

-- ---- what is put later leaves what was put before

module _ (c : Controller) {k v : ℕ} where
  pub later_physical : (t : List ℕ) → k < 135 → At t k v → At (put_from_physical t c) k v
  unfolding put_from_physical
  later_physical t b a = over_sets 135 c.physical.lost b a

  pub later_errors : (t : List ℕ) → k < 133 → At t k v → At (put_from_errors t c) k v
  unfolding put_from_errors
  later_errors t b a = later_physical _ (omega arith) (over 134 _ (omega arith) (over 133 _ b a))

  pub later_programs : (t : List ℕ) → k < 116 → At t k v → At (put_from_programs t c) k v
  unfolding put_from_programs
  later_programs t b a = later_errors _ (omega arith) (under_queue t 116 c.queues.programs b a)

  pub later_reads : (t : List ℕ) → k < 99 → At t k v → At (put_from_reads t c) k v
  unfolding put_from_reads
  later_reads t b a = later_programs _ (omega arith) (under_queue t 99 c.queues.reads b a)

  pub later_progress : (t : List ℕ) → k < 91 → At t k v → At (put_from_progress t c) k v
  unfolding put_from_progress
  later_progress t b a = later_reads _ (omega arith) (under_progress t c.progress b a)

  pub later_erase : (t : List ℕ) → k < 89 → At t k v → At (put_from_erase t c) k v
  unfolding put_from_erase
  later_erase t b a = later_progress _ (omega arith) (over_all put_erase (λ u m x. under_erase u m x (omega arith)) t 0 c.setup.settings.erase a)

  pub later_info : (t : List ℕ) → k < 37 → At t k v → At (put_from_info t c) k v
  unfolding put_from_info
  later_info t b a = later_erase _ (omega arith) (over_all put_setting (λ u m x. under_setting u m x (omega arith)) t 0 c.setup.settings.info a)

  pub later_regions : (t : List ℕ) → k < 5 → At t k v → At (put_from_regions t c) k v
  unfolding put_from_regions
  later_regions t b a = later_info _ (omega arith) (over_all put_region (λ u m x. under_region u m x (omega arith)) t 0 c.setup.settings.regions a)

  pub later_inputs : (t : List ℕ) → k < 2 → At t k v → At (put_from_inputs t c) k v
  unfolding put_from_inputs
  later_inputs t b a = later_regions _ (omega arith) (over 4 _ (omega arith) (over 3 _ (omega arith) (over 2 _ b a)))

-- ---- flags, phases and the mask are what they are put as

pub on_flag : (b : Bool) → is_on (flag_of b) ≡ b
on_flag true = refl
on_flag false = refl

pub flag_is_flag : (b : Bool) → is_flag (flag_of b) ≡ true
flag_is_flag true = refl
flag_is_flag false = refl

pub phase_of_number : (f : Phase) → phase_of (phase_number f) ≡ f
phase_of_number Uninitialised = refl
phase_of_number Ready = refl
phase_of_number Disabled = refl

pub number_is_phase : (f : Phase) → leb (phase_number f) 2 ≡ true
number_is_phase Uninitialised = refl
number_is_phase Ready = refl
number_is_phase Disabled = refl

pub bit_of_flag : (b : Bool) → eqb (flag_of b) 1 ≡ b
bit_of_flag true = refl
bit_of_flag false = refl

pub flag_small : (b : Bool) → flag_of b ≤ 1
flag_small true = omega arith
flag_small false = omega arith

pub low_bit : (b : Bool) (rest : ℕ) → (flag_of b + 2 * rest) % 2 ≡ flag_of b
low_bit b rest = let small = flag_small b in omega arith

pub bit : (m : ℕ) (b : Bool) (rest : ℕ) → m ≡ flag_of b + 2 * rest → eqb (m % 2) 1 ≡ b
bit m b rest e = rw (e, low_bit b rest, bit_of_flag b)

pub errors_is : (t : List ℕ) (e : Errors) → At t 133 (mask_of e) → At t 134 e.address.0 → errors_at t ≡ e
errors_is t e mask address =
    let a = flag_small e.malformed in
    let b = flag_small e.range in
    let c = flag_small e.window in
    let d = flag_small e.denied in
    let above₅ : ℕ = 2 * flag_of e.range + 4 * flag_of e.window + 8 * flag_of e.denied in
    let above₇ : ℕ = flag_of e.window + 2 * flag_of e.denied in
    rw (
      mask.is,
      address.is,
      bit (mask_of e / 32) e.malformed above₅ (omega arith),
      bit (mask_of e / 128) e.range above₇ (omega arith),
      bit (mask_of e / 256) e.window (flag_of e.denied) (omega arith),
      bit (mask_of e / 512) e.denied 0 (omega arith),
    )

-- ---- a region and a page as they are read

pub byte : (x : ℕ) → x ≤ 255 → x % 256 ≡ x
byte x h = omega arith

pub region_is : {t : List ℕ} {k : ℕ} {g : Region} → rights_fit g.rights ≡ true → RegionAt t k g → region_at t k ≡ g
region_is {g = g} fits q =
    let small : g.rights ≤ 7 = leb-true _ _ fits in
    rw (q.first.is, q.count.is, q.on.is, q.rights.is, on_flag g.on, byte g.rights (omega arith))

pub region_encoded_lem : {t : List ℕ} {k : ℕ} {g : Region} → rights_fit g.rights ≡ true → RegionAt t k g → region_encoded t k ≡ true
region_encoded_lem {g = g} fits q =
    let small : g.rights ≤ 7 = leb-true _ _ fits in
    rw (q.on.is, q.rights.is, flag_is_flag g.on) (le-leb g.rights 255 (omega arith))

pub setting_is : {t : List ℕ} {k : ℕ} {x : PageSetting} → page_fits x ≡ true → SettingAt t k x → setting_at t k ≡ x
setting_is {x = x} fits q =
    let small : x.rights ≤ 7 = leb-true _ _ fits in
    rw (q.on.is, q.rights.is, on_flag x.on, byte x.rights (omega arith))

pub setting_encoded_lem : {t : List ℕ} {k : ℕ} {x : PageSetting} → page_fits x ≡ true → SettingAt t k x → setting_encoded t k ≡ true
setting_encoded_lem {x = x} fits q =
    let small : x.rights ≤ 7 = leb-true _ _ fits in
    rw (q.on.is, q.rights.is, flag_is_flag x.on) (le-leb x.rights 255 (omega arith))

-- ---- what is in progress as it is read

-- The operation's partition and information type are bytes.
abbrev pub bytes : Operation → Bool
bytes o = leb o.partition 255 && leb o.info 255

abbrev pub as_bytes : Progress → Bool
as_bytes None = true
as_bytes (Some (Read o moved readable)) = bytes o
as_bytes (Some (Program o moved)) = bytes o
as_bytes (Some (Erase o moved)) = bytes o

pub operation_is : {t : List ℕ} {o : Operation} {moved readable : ℕ} → bytes o ≡ true → o.kind ≤ 3 → RunningAt t o moved readable → operation_at t ≡ o
operation_is {o = o} h small q =
    let partition : o.partition ≤ 255 = leb-true _ _ (and_left (leb o.partition 255) _ h) in
    let info : o.info ≤ 255 = leb-true _ _ (and_right (leb o.partition 255) _ h) in
    rw (q.address.is, q.count.is, q.kind.is, q.partition.is, q.info.is, byte o.kind (omega arith), byte o.partition partition, byte o.info info)

pub running_encoded : {t : List ℕ} {o : Operation} {moved readable : ℕ} → bytes o ≡ true → o.kind ≤ 3 → RunningAt t o moved readable → progress_encoded t ≡ true
running_encoded {o = o} h small q =
    rw (q.on.is, q.kind.is, q.partition.is, q.info.is, le-leb o.kind 3 small) h

pub erase_kind : (o : Operation) → (is_page_erase o || is_bank_erase o) ≡ true → (2 ≤ o.kind) × (o.kind ≤ 3)
erase_kind o h =
    by_test (is_page_erase o)
    (λ page. let two : o.kind ≡ 2 = eqb-true o.kind 2 page in (omega arith, omega arith))
    (λ other. let bank : is_bank_erase o ≡ true = rw other at h in let three : o.kind ≡ 3 = eqb-true o.kind 3 bank in (omega arith, omega arith))

pub record ProgressAt (t : List ℕ) (r : Progress) : Type 0 where
  pub reads : progress_at t ≡ r
  pub encodes : progress_encoded t ≡ true

module _ (c : Controller) {t : List ℕ} {o : Operation} {moved readable : ℕ} (h : bytes o ≡ true) (q : RunningAt t o moved readable) where
  pub read_is : work_fits c.setup c.queues.programs (Read o moved readable) ≡ true → ProgressAt t (Some (Read o moved readable))
  unfolding work_fits progress_at
  read_is f =
      let kind : o.kind ≡ 0 = eqb-true o.kind 0 (and_left (is_read o) _ f) in
      record {
        reads = rw (operation_is h (omega arith) q, q.on.is, q.kind.is, q.moves.is, q.reads.is, kind);
        encodes = running_encoded h (omega arith) q;
      }

  pub program_is : work_fits c.setup c.queues.programs (Program o moved) ≡ true → ProgressAt t (Some (Program o moved))
  unfolding work_fits progress_at
  program_is f =
      let kind : o.kind ≡ 1 = eqb-true o.kind 1 (and_left (is_program o) _ f) in
      record {
        reads = rw (operation_is h (omega arith) q, q.on.is, q.kind.is, q.moves.is, kind);
        encodes = running_encoded h (omega arith) q;
      }

  pub erase_is : work_fits c.setup c.queues.programs (Erase o moved) ≡ true → ProgressAt t (Some (Erase o moved))
  unfolding work_fits progress_at
  erase_is f =
      let kind = erase_kind o (and_left (is_page_erase o || is_bank_erase o) _ f) in
      let small : o.kind % 256 ≡ o.kind = byte o.kind (omega arith) in
      record {
        reads = rw (operation_is h kind.1 q, q.on.is, q.kind.is, q.moves.is, small, ne_eqb o.kind 0 (λ e. omega arith), ne_eqb o.kind 1 (λ e. omega arith));
        encodes = running_encoded h kind.1 q;
      }

module _ (c : Controller) (t : List ℕ) (l : Long t) where
  pub running_there : (u : List ℕ) (o : Operation) (moved readable : ℕ) → put_running t o moved readable ≡ u → RunningAt (put_from_reads u c) o moved readable
  running_there u o moved readable e =
      let q : RunningAt u o moved readable = subst (λ (w : List ℕ). RunningAt w o moved readable) e (running_put t o moved readable l) in
      record {
        address = later_reads c u (omega arith) q.address;
        count = later_reads c u (omega arith) q.count;
        kind = later_reads c u (omega arith) q.kind;
        partition = later_reads c u (omega arith) q.partition;
        info = later_reads c u (omega arith) q.info;
        moves = later_reads c u (omega arith) q.moves;
        reads = later_reads c u (omega arith) q.reads;
        on = later_reads c u (omega arith) q.on;
      }

  pub idle_is : {u : List ℕ} → At u 98 0 → ProgressAt u None
  unfolding progress_at
  idle_is a = record { reads = rw a.is; encodes = rw a.is }

  pub progress_is : (r : Progress) → running_fits c.setup c.queues.programs r ≡ true → as_bytes r ≡ true → ProgressAt (put_from_reads (put_progress t r) c) r
  unfolding running_fits
  progress_is None f h = idle_is (later_reads c (put_progress t None) (omega arith) (idle_put t l))
  progress_is (Some (Read o moved readable)) f h = read_is c h (running_there _ o moved readable refl) f
  progress_is (Some (Program o moved)) f h = program_is c h (running_there _ o moved (readable_kept t) refl) f
  progress_is (Some (Erase o moved)) f h = erase_is c h (running_there _ o moved (readable_kept t) refl) f
