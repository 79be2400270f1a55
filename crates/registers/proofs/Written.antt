-- A state of which one part is changed, put into the numbers that encode the state: what is written is that part. Assumes
-- nothing.
use Rattle.std.specs.Prelude.{None, Some}
use Prim.Native.Nat.{ℕ, zero, suc, ◌+◌, ◌*◌, ◌<◌, ◌≤◌}
use native.Mathlib.Nat.{add-zero, not-suc-le-zero, le_of_suc-le-suc}
use native.Mathlib.Omega.{arith}
use mathlib.Core.Path.{◌≡◌, refl, ap, sym, ◌∙◌}
use mathlib.Core.Bool.{Bool, true, false, cond}
use mathlib.Core.List.{List, [], ◌∷◌}
use lib.ListN.{length, get_or, set}
use lib.Seq.{sets, set_comm, set-set}
use Rattle.model.specs.State.{with_phase, with_inputs, with_settings, with_errors, with_queues, with_progress, with_reads, with_programs, is_busy}
use Rattle.model.specs.Rounds.{with_lost}
use Rattle.model.specs.Settings.{with_region, with_page, with_default, with_erase}
use Rattle.model.specs.declared.Phase.{Phase}
use Rattle.model.specs.declared.Inputs.{Inputs}
use Rattle.model.specs.declared.PageSetting.{PageSetting}
use Rattle.model.specs.declared.Settings.{Settings}
use Rattle.model.specs.declared.Region.{Region}
use Rattle.model.specs.declared.Errors.{Errors}
use Rattle.model.specs.declared.Operation.{Operation}
use Rattle.model.specs.declared.Queue.{Queue}
use Rattle.model.specs.declared.Queues.{Queues}
use Rattle.model.specs.declared.Work.{Work}
use Rattle.model.specs.declared.Work.TheVariants.{Read, Program, Erase}
use Rattle.model.specs.State.{Progress}
use Rattle.model.specs.declared.Controller.{Controller}
use Rattle.registers.specs.Registers.{is_flag, is_on, every, phase_number, encoded, stands_for, queue_at, work_at, progress_at, readable_kept, regions_of, info_of, region_at, setting_at, region_encoded}
use Rattle.registers.specs.Registers.{setting_encoded, put_queue, no_progress, put_errors, put_progress, put_running, put_region, put_setting, put_erase, put_inputs, put_from_physical, put_from_errors, put_from_programs}
use Rattle.registers.specs.Registers.{put_from_reads, put_from_progress, put_from_erase, put_from_info, put_from_regions, put_from_inputs, put}
use Rattle.registers.proofs.Kept.{Alike, itself, later, alike_set, alike_sets, queue_kept, progress_kept, erase_kept, info_kept, regions_kept, plain_kept, head_kept, inputs_kept, rights_kept}
use Rattle.registers.proofs.Kept.{region_kept, setting_kept, all_but_one, held, Parts, parts, from_inputs, from_regions, from_info, from_erase, from_progress, flag_back, from_errors, from_physical}

-- ---- what is written before a place leaves the numbers from there on

pub alike_queue : {t s : List ℕ} {j : ℕ} (at : ℕ) (q : Queue) → length q.words ≡ 16 → at + 17 ≤ j → Alike t s j → Alike (put_queue t at q) s j
alike_queue at q long l a = alike_set (at + 16) q.len (omega arith) (alike_sets at q.words (omega arith) a)

pub alike_running : {t s : List ℕ} (o : Operation) (moved readable : ℕ) → Alike t s 99 → Alike (put_running t o moved readable) s 99
alike_running o moved readable a =
    alike_sets 91 (o.address.0 ∷ o.count ∷ o.kind ∷ o.partition ∷ o.info ∷ moved ∷ readable ∷ 1 ∷ []) (omega arith) a

alike_cond : {t u s : List ℕ} {j : ℕ} (b : Bool) → Alike t s j → Alike u s j → Alike (cond b t u) s j
alike_cond true x y = x
alike_cond false x y = y

pub alike_progress : (s : List ℕ) (r : Progress) → Alike (put_progress s r) s 99
alike_progress s None =
    alike_cond (is_on (get_or s 98 0)) (alike_sets 91 (0 ∷ 0 ∷ 0 ∷ 0 ∷ 0 ∷ 0 ∷ 0 ∷ 0 ∷ []) (omega arith) itself) itself
alike_progress s (Some (Read o moved readable)) = alike_running o moved readable itself
alike_progress s (Some (Program o moved)) = alike_running o moved _ itself
alike_progress s (Some (Erase o moved)) = alike_running o moved _ itself

-- ---- numbers before a queue and the queue, in either order

sets_set : (t : List ℕ) (at : ℕ) (ws : List ℕ) (i v : ℕ) → i < at → set (sets t at ws) i v ≡ sets (set t i v) at ws
sets_set t at [] i v l = refl
sets_set t at (w ∷ ws) i v l =
    let ne : at ≡ i → ⊥ = λ e. omega arith in
    sets_set (set t at w) (suc at) ws i v (omega arith) ∙ ap (λ (r : List ℕ). sets r (suc at) ws) (set_comm t at i w v ne)

-- One number of a run that was put, put anew.
sets_one : (t : List ℕ) (at : ℕ) (ws : List ℕ) (j v : ℕ) → j < length ws → set (sets t at ws) (at + j) v ≡ sets t at (set ws j v)
sets_one t at [] j v l = absurd (not-suc-le-zero l)
sets_one t at (w ∷ ws) zero v l =
    ap (λ (k : ℕ). set (sets (set t at w) (suc at) ws) k v) (add-zero at)
    ∙ sets_set (set t at w) (suc at) ws at v (omega arith)
    ∙ ap (λ (r : List ℕ). sets r (suc at) ws) (set-set t at w v)
sets_one t at (w ∷ ws) (suc j) v l =
    let next : at + suc j ≡ suc at + j = omega arith in
    ap (λ (k : ℕ). set (sets (set t at w) (suc at) ws) k v) next ∙ sets_one (set t at w) (suc at) ws j v (le_of_suc-le-suc l)

pub queue_set : (t : List ℕ) (at : ℕ) (q : Queue) (i v : ℕ) → i < at → set (put_queue t at q) i v ≡ put_queue (set t i v) at q
queue_set t at q i v l =
    let ne : at + 16 ≡ i → ⊥ = λ e. omega arith in
    set_comm (sets t at q.words) (at + 16) i q.len v ne
    ∙ ap (λ (r : List ℕ). set r (at + 16) q.len) (sets_set t at q.words i v l)

pub queue_sets : (t : List ℕ) (at : ℕ) (q : Queue) (i : ℕ) (vs : List ℕ) → i + length vs ≤ at → sets (put_queue t at q) i vs ≡ put_queue (sets t i vs) at q
queue_sets t at q i [] l = refl
queue_sets t at q i (v ∷ vs) l =
    ap (λ (r : List ℕ). sets r (suc i) vs) (queue_set t at q i v (omega arith)) ∙ queue_sets (set t i v) at q (suc i) vs (omega arith)

-- What is in progress once a word has moved: nothing, or one word more.
abbrev pub moved_on : List ℕ → Bool → ℕ → List ℕ
moved_on s last k = cond last (no_progress s) (set s 96 k)

pub queue_moved : (t : List ℕ) (at : ℕ) (q : Queue) (last : Bool) (k : ℕ) → 99 ≤ at → moved_on (put_queue t at q) last k ≡ put_queue (moved_on t last k) at q
queue_moved t at q true k l = queue_sets t at q 91 (0 ∷ 0 ∷ 0 ∷ 0 ∷ 0 ∷ 0 ∷ 0 ∷ 0 ∷ []) (omega arith)
queue_moved t at q false k l = queue_set t at q 96 k (omega arith)

-- ---- the operation in progress

busy : (b : Bool) (w : Work) → is_busy (cond b (Some w) None) ≡ b
busy true w = refl
busy false w = refl

one_more : (t : List ℕ) (o : Operation) (k next readable : ℕ) → set (put_running t o k readable) 96 next ≡ put_running t o next readable
one_more t o k next readable =
    let x : List ℕ = set (set (set (set (set t 91 o.address.0) 92 o.count) 93 o.kind) 94 o.partition) 95 o.info in
    set_comm (set (set x 96 k) 97 readable) 98 96 1 next (λ e. omega arith)
    ∙ ap (λ (l : List ℕ). set l 98 1) (set_comm (set x 96 k) 97 96 readable next (λ e. omega arith))
    ∙ ap (λ (l : List ℕ). set (set l 97 readable) 98 1) (set-set x 96 k next)

-- The work with another count of words moved.
abbrev pub at_word : Work → ℕ → Work
at_word (Read o k readable) n = Read o n readable
at_word (Program o k) n = Program o n
at_word (Erase o k) n = Erase o n

-- ---- a bank's lost count, whatever controller it belongs to

pub put_lost : (s : List ℕ) (c : Controller) (bank n : ℕ) → length c.physical.lost ≡ 2 → bank < 2
    → put s (with_lost c bank n) ≡ set (put s c) (135 + bank) n
unfolding put put_from_inputs put_from_regions put_from_info put_from_erase put_from_progress put_from_reads put_from_programs put_from_errors put_from_physical
put_lost s c bank n two l = sym (sets_one _ 135 c.physical.lost bank n (omega (arith, two)))

-- ---- errors, queues and progress: all before them stays

module _ (s : List ℕ) (h : encoded s ≡ true) where
  p : Parts s
  p = parts s h

  abbrev changed : Errors → Queues → Progress → Controller
  changed e q r = with_progress (with_queues (with_errors (stands_for s) e) q) r

  pub before_progress : (e : Errors) (q : Queues) (r : Progress) → put s (changed e q r) ≡ put_from_progress s (changed e q r)
  unfolding put put_from_inputs put_from_regions put_from_info put_from_erase
  before_progress e q r =
      let c : Controller = changed e q r in
      ap (λ (l : List ℕ). put_from_inputs l c) (head_kept p)
      ∙ ap (λ (l : List ℕ). put_from_regions l c) (plain_kept p itself)
      ∙ ap (λ (l : List ℕ). put_from_info l c) (regions_kept p itself)
      ∙ ap (λ (l : List ℕ). put_from_erase l c) (info_kept p itself)
      ∙ ap (λ (l : List ℕ). put_from_progress l c) (erase_kept p itself)

  -- An error record is put before the lost counts, which stay.
  lost_kept : {t : List ℕ} (e : Errors) → Alike t s 135 → put_from_physical (put_errors t e) (stands_for s) ≡ put_errors t e
  lost_kept e a = from_physical p (alike_set 134 _ (omega arith) (alike_set 133 _ (omega arith) a))

  pub put_errors_lem : (e : Errors) → put s (with_errors (stands_for s) e) ≡ put_errors s e
  unfolding stands_for put_from_progress put_from_reads put_from_programs put_from_errors put_from_physical
  put_errors_lem e =
      before_progress e (stands_for s).queues (stands_for s).progress
      ∙ rw (progress_kept {t = s} itself p.progress, queue_kept {t = s} 99 itself, queue_kept {t = s} 116 itself)
      (lost_kept e itself)

  -- What a start writes.
  pub put_starting : (e : Errors) (r : Progress) → put s (with_progress (with_errors (stands_for s) e) r) ≡ put_errors (put_progress s r) e
  unfolding stands_for put_from_progress put_from_reads put_from_programs put_from_errors put_from_physical
  put_starting e r =
      before_progress e (stands_for s).queues r
      ∙ ap (λ (l : List ℕ). put_from_physical (put_errors (put_queue l 116 (queue_at s 116)) e) (stands_for s)) (queue_kept 99 (alike_progress s r))
      ∙ ap (λ (l : List ℕ). put_from_physical (put_errors l e) (stands_for s)) (queue_kept 116 (later (omega arith) (alike_progress s r)))
      ∙ lost_kept e (later (omega arith) (alike_progress s r))

  -- What a whole operation writes: the queue that it used, and its refusal if that is recorded.
  pub put_completing : (e : Errors) (q : Queues) → length q.reads.words ≡ 16 → length q.programs.words ≡ 16
      → put s (with_queues (with_errors (stands_for s) e) q) ≡ put_errors (put_queue (put_queue s 99 q.reads) 116 q.programs) e
  unfolding stands_for put_from_progress put_from_reads put_from_programs put_from_errors put_from_physical
  put_completing e q reads programs =
      before_progress e q (stands_for s).progress
      ∙ ap (λ (l : List ℕ). put_from_physical (put_errors (put_queue (put_queue l 99 q.reads) 116 q.programs) e) (stands_for s)) (progress_kept itself p.progress)
      ∙ lost_kept e (alike_queue 116 q.programs programs (omega arith) (alike_queue 99 q.reads reads (omega arith) itself))

  pub put_reads_recorded : (e : Errors) (q : Queue) → length q.words ≡ 16
      → put s (with_queues (with_errors (stands_for s) e) (with_reads (stands_for s).queues q)) ≡ put_errors (put_queue s 99 q) e
  unfolding stands_for
  put_reads_recorded e q long =
      put_completing e (with_reads (stands_for s).queues q) long refl
      ∙ ap (λ (l : List ℕ). put_errors l e) (queue_kept 116 (alike_queue 99 q long (omega arith) itself))

  -- What RMA writes.
  pub put_closing : (f : Phase) (q : Queues) → length q.reads.words ≡ 16 → length q.programs.words ≡ 16
      → put s (with_phase (with_queues (stands_for s) q) f) ≡ put_queue (put_queue (set s 1 (phase_number f)) 99 q.reads) 116 q.programs
  unfolding put put_from_inputs put_from_regions put_from_info put_from_erase put_from_progress put_from_reads put_from_programs put_from_errors put_from_physical stands_for
  put_closing f q reads programs =
      let c : Controller = with_phase (with_queues (stands_for s) q) f in
      let a : Alike (set s 1 (phase_number f)) s 2 = alike_set 1 (phase_number f) (omega arith) itself in
      ap (λ (l : List ℕ). put_from_inputs (set l 1 (phase_number f)) c) (held s 0 refl)
      ∙ ap (λ (l : List ℕ). put_from_regions l c) (plain_kept p a)
      ∙ ap (λ (l : List ℕ). put_from_info l c) (regions_kept p (later (omega arith) a))
      ∙ ap (λ (l : List ℕ). put_from_erase l c) (info_kept p (later (omega arith) a))
      ∙ ap (λ (l : List ℕ). put_from_progress l c) (erase_kept p (later (omega arith) a))
      ∙ ap (λ (l : List ℕ). put_from_reads l c) (progress_kept (later (omega arith) a) p.progress)
      ∙ from_errors p (alike_queue 116 q.programs programs (omega arith) (alike_queue 99 q.reads reads (omega arith) (later (omega arith) a)))

  -- What a call that moves words writes.
  pub put_moving : (q : Queues) (r : Progress) → length q.reads.words ≡ 16 → length q.programs.words ≡ 16
      → put s (with_progress (with_queues (stands_for s) q) r) ≡ put_queue (put_queue (put_progress s r) 99 q.reads) 116 q.programs
  unfolding put_from_progress put_from_reads put_from_programs put_from_errors put_from_physical
  put_moving q r reads programs =
      before_progress (stands_for s).errors q r
      ∙ from_errors p (alike_queue 116 q.programs programs (omega arith) (alike_queue 99 q.reads reads (omega arith) (later (omega arith) (alike_progress s r))))

  pub put_reads_moving : (q : Queue) (r : Progress) → length q.words ≡ 16
      → put s (with_progress (with_queues (stands_for s) (with_reads (stands_for s).queues q)) r) ≡ put_queue (put_progress s r) 99 q
  unfolding stands_for
  put_reads_moving q r long =
      put_moving (with_reads (stands_for s).queues q) r long refl
      ∙ queue_kept 116 (alike_queue 99 q long (omega arith) (later (omega arith) (alike_progress s r)))

  pub put_programs_moving : (q : Queue) (r : Progress) → length q.words ≡ 16
      → put s (with_progress (with_queues (stands_for s) (with_programs (stands_for s).queues q)) r) ≡ put_queue (put_progress s r) 116 q
  unfolding stands_for
  put_programs_moving q r long =
      put_moving (with_programs (stands_for s).queues q) r refl long
      ∙ ap (λ (l : List ℕ). put_queue l 116 q) (queue_kept 99 (alike_progress s r))

  pub put_progress_lem : (r : Progress) → put s (with_progress (stands_for s) r) ≡ put_progress s r
  unfolding stands_for
  put_progress_lem r = put_reads_moving (queue_at s 99) r refl ∙ queue_kept 99 (alike_progress s r)

  pub put_reads : (q : Queue) → length q.words ≡ 16
      → put s (with_queues (stands_for s) (with_reads (stands_for s).queues q)) ≡ put_queue s 99 q
  unfolding stands_for
  put_reads q long =
      put_reads_moving q (progress_at s) long ∙ ap (λ (l : List ℕ). put_queue l 99 q) (progress_kept itself p.progress)

  pub put_programs : (q : Queue) → length q.words ≡ 16
      → put s (with_queues (stands_for s) (with_programs (stands_for s).queues q)) ≡ put_queue s 116 q
  unfolding stands_for
  put_programs q long =
      put_programs_moving q (progress_at s) long ∙ ap (λ (l : List ℕ). put_queue l 116 q) (progress_kept itself p.progress)

  pub put_phase : (f : Phase) → put s (with_phase (stands_for s) f) ≡ set s 1 (phase_number f)
  unfolding stands_for put put_from_inputs put_from_regions put_from_info put_from_erase put_from_progress put_from_reads put_from_programs put_from_errors put_from_physical
  put_phase f = rw (held s 0 refl) (from_inputs p (alike_set 1 (phase_number f) (omega arith) itself))

  -- ---- the operation in progress moves on

  put_ended : (w : Work) → progress_at s ≡ Some w → put_progress s None ≡ no_progress s
  unfolding progress_at
  put_ended w e =
      let on : is_on (get_or s 98 0) ≡ true = sym (busy (is_on (get_or s 98 0)) (work_at s)) ∙ ap is_busy e in
      rw on

  kept : (w : Work) → progress_at s ≡ Some w → put_progress s (Some w) ≡ s
  kept w e = ap (put_progress s) (sym e) ∙ progress_kept itself p.progress

  put_more : (w : Work) (k : ℕ) → progress_at s ≡ Some w → put_progress s (Some (at_word w k)) ≡ set s 96 k
  put_more (Read o moved readable) k e =
      sym (ap (λ (l : List ℕ). set l 96 k) (sym (kept (Read o moved readable) e)) ∙ one_more s o moved k readable)
  put_more (Program o moved) k e =
      sym (ap (λ (l : List ℕ). set l 96 k) (sym (kept (Program o moved) e)) ∙ one_more s o moved k (readable_kept s))
  put_more (Erase o moved) k e =
      sym (ap (λ (l : List ℕ). set l 96 k) (sym (kept (Erase o moved) e)) ∙ one_more s o moved k (readable_kept s))

  pub put_moved : (w : Work) (last : Bool) (k : ℕ) → progress_at s ≡ Some w → put_progress s (cond last None (Some (at_word w k))) ≡ moved_on s last k
  put_moved w true k e = put_ended w e
  put_moved w false k e = put_more w k e

  -- ---- the settings

  pub before_regions : (x : Settings) → x.default_rights ≡ (stands_for s).setup.settings.default_rights
      → put s (with_settings (stands_for s) x) ≡ put_from_regions s (with_settings (stands_for s) x)
  unfolding put put_from_inputs
  before_regions x e =
      let c : Controller = with_settings (stands_for s) x in
      ap (λ (l : List ℕ). put_from_inputs l c) (head_kept p)
      ∙ ap (λ (r : ℕ). put_from_regions (set (put_inputs s (stands_for s).setup.inputs) 4 r) c) e
      ∙ ap (λ (l : List ℕ). put_from_regions l c) (plain_kept p itself)

  alike_region : (i : ℕ) (g : Region) (j : ℕ) → 5 + 4 * i + 4 ≤ j → Alike (put_region s i g) s j
  alike_region i g j l =
      alike_set (5 + 4 * i + 3) g.rights (omega arith) (alike_set (5 + 4 * i + 2) _ (omega arith) (alike_set (5 + 4 * i + 1) g.count (omega arith) (alike_set (5 + 4 * i) g.first.0 (omega arith) itself)))

  pub put_region_lem : (i : ℕ) (g : Region) → i < 8 → put s (with_settings (stands_for s) (with_region (stands_for s).setup.settings i g)) ≡ put_region s i g
  unfolding stands_for regions_of put_from_regions put_from_info put_from_erase put_from_progress put_from_reads put_from_programs put_from_errors put_from_physical
  put_region_lem i g l =
      let c : Controller = with_settings (stands_for s) (with_region (stands_for s).setup.settings i g) in
      before_regions (with_region (stands_for s).setup.settings i g) refl
      ∙ ap (λ (t : List ℕ). put_from_info t c)
      (all_but_one put_region (region_at s) (region_encoded s) s i g 0 i 8 (omega arith) l (λ k h. region_kept k itself h)
      (λ k b h. region_kept k (alike_region i g (5 + 4 * k) (omega arith)) h) p.regions)
      ∙ from_info p (alike_region i g 37 (omega arith))

  alike_setting : (i : ℕ) (x : PageSetting) (j : ℕ) → 37 + 2 * i + 2 ≤ j → Alike (put_setting s i x) s j
  alike_setting i x j l = alike_set (37 + 2 * i + 1) x.rights (omega arith) (alike_set (37 + 2 * i) _ (omega arith) itself)

  pub put_page : (i : ℕ) (x : PageSetting) → i < 26 → put s (with_settings (stands_for s) (with_page (stands_for s).setup.settings i x)) ≡ put_setting s i x
  unfolding stands_for info_of put_from_regions put_from_info put_from_erase put_from_progress put_from_reads put_from_programs put_from_errors put_from_physical
  put_page i x l =
      let c : Controller = with_settings (stands_for s) (with_page (stands_for s).setup.settings i x) in
      before_regions (with_page (stands_for s).setup.settings i x) refl
      ∙ ap (λ (t : List ℕ). put_from_info t c) (regions_kept p itself)
      ∙ ap (λ (t : List ℕ). put_from_erase t c)
      (all_but_one put_setting (setting_at s) (setting_encoded s) s i x 0 i 26 (omega arith) l (λ k h. setting_kept k itself h)
      (λ k b h. setting_kept k (alike_setting i x (37 + 2 * k) (omega arith)) h) p.info)
      ∙ from_erase p (alike_setting i x 89 (omega arith))

  pub put_default : (r : ℕ) → put s (with_settings (stands_for s) (with_default (stands_for s).setup.settings r)) ≡ set s 4 r
  unfolding put put_from_inputs put_from_regions put_from_info put_from_erase put_from_progress put_from_reads put_from_programs put_from_errors put_from_physical
  put_default r =
      let c : Controller = with_settings (stands_for s) (with_default (stands_for s).setup.settings r) in
      ap (λ (l : List ℕ). put_from_inputs l c) (head_kept p)
      ∙ ap (λ (l : List ℕ). put_from_regions (set l 4 r) c) (inputs_kept p itself)
      ∙ from_regions p (alike_set 4 r (omega arith) itself)

  pub put_inputs_lem : (i : Inputs) → put s (with_inputs (stands_for s) i) ≡ put_inputs s i
  unfolding put put_from_inputs put_from_regions put_from_info put_from_erase put_from_progress put_from_reads put_from_programs put_from_errors put_from_physical
  put_inputs_lem i =
      let c : Controller = with_inputs (stands_for s) i in
      ap (λ (l : List ℕ). put_from_inputs l c) (head_kept p)
      ∙ ap (λ (l : List ℕ). put_from_regions l c) (rights_kept p (alike_set 3 _ (omega arith) (alike_set 2 _ (omega arith) itself)))
      ∙ from_regions p (alike_set 3 _ (omega arith) (alike_set 2 _ (omega arith) itself))

  flags : every (λ k. is_flag (get_or s (89 + k) 0)) 2 ≡ true
  flags = rw (p.first, p.second)

  flag_kept : {t : List ℕ} (k : ℕ) → Alike t s (89 + k) → is_flag (get_or s (89 + k) 0) ≡ true → put_erase t k (is_on (get_or s (89 + k) 0)) ≡ t
  flag_kept {t = t} k a h = rw (flag_back (get_or s (89 + k) 0) h) (held t (89 + k) (a.same (89 + k) (omega arith)))

  pub put_bank : (i : ℕ) (b : Bool) → i < 2 → put s (with_settings (stands_for s) (with_erase (stands_for s).setup.settings i b)) ≡ put_erase s i b
  unfolding stands_for put_from_regions put_from_info put_from_erase put_from_progress put_from_reads put_from_programs put_from_errors put_from_physical
  put_bank i b l =
      let c : Controller = with_settings (stands_for s) (with_erase (stands_for s).setup.settings i b) in
      before_regions (with_erase (stands_for s).setup.settings i b) refl
      ∙ ap (λ (t : List ℕ). put_from_info t c) (regions_kept p itself)
      ∙ ap (λ (t : List ℕ). put_from_erase t c) (info_kept p itself)
      ∙ ap (λ (t : List ℕ). put_from_progress t c)
      (all_but_one put_erase (λ k. is_on (get_or s (89 + k) 0)) (λ k. is_flag (get_or s (89 + k) 0)) s i b 0 i 2 (omega arith) l
      (λ k h. flag_kept k itself h) (λ k m h. flag_kept k (alike_set (89 + i) _ (omega arith) itself) h) flags)
      ∙ from_progress p (alike_set (89 + i) _ (omega arith) itself)
