-- Two lists of jobs that keep out of each other's pages, in any shuffle, by the laws of one job. Assumes nothing.
use Prim.Native.Nat.{ℕ}
use mathlib.Core.Path.{◌≡◌, refl, sym, ap, ap₂, ◌∙◌}
use mathlib.Core.Bool.{Bool, true, false, ◌||◌, true≢false}
use mathlib.Core.List.{List, [], ◌∷◌}
use lib.ListN.{length}
use Rattle.model.specs.Geometry.{image_page_of}
use Rattle.model.specs.declared.ImagePage.{ImagePage}
use Rattle.model.proofs.Bool.{or_left, or_right, by_test}
use Rattle.plans.specs.Plan.{Plan}
use Rattle.shuffles.specs.Shuffle.{Job, State, after, given, all_given, end_of, Shuffle, done, left, right, reads_page, changes_page, touches_page, plan_at, along, changes, touches, Apart, Kinds, kinds_of, union, Commutes}
use Rattle.shuffles.proofs.Union.{union_comm, union_self, union_add}
use Rattle.shuffles.proofs.Pages.{Off, Agree, AsLong, page_ext, pages_ext}

-- From 'when a, not b': when b, not a.
turn : (a b : Bool) → (a ≡ true → b ≡ false) → b ≡ true → a ≡ false
turn true b h e = absurd (true≢false (sym e ∙ h refl))
turn false b h e = refl

-- ---- the laws of a job, at the states of `Here`, with images of n words: each job has one plan there

pub record Laws (Here : State → Type 0) (n : ℕ) (plan : Job → Plan) (adds : Plan → Kinds) : Type 0 where
  pub same_plan : (s : State) (j : Job) → Here s → plan_at s j ≡ plan j
  pub stays : (s : State) (j : Job) → Here s → Here (after s j)
  pub long : (s : State) → Here s → length s.flash.words ≡ n
  pub frame : (s : State) (j : Job) → Here s → Off (changes_page (plan j)) (after s j).flash s.flash
  pub local : (s t : State) (j : Job) → Here s → Here t → Agree (touches_page (plan j)) s.flash t.flash
      → (given s j ≡ given t j) × Agree (changes_page (plan j)) (after s j).flash (after t j).flash
  pub records : (s : State) (j : Job) → Here s → kinds_of (after s j) ≡ union (kinds_of s) (adds (plan j))

-- What the plans of a list do.
abbrev pub some : (Job → Plan) → (Plan → ImagePage → Bool) → List Job → ImagePage → Bool
some plan does [] q = false
some plan does (j ∷ js) q = does (plan j) q || some plan does js q

module _ (Here : State → Type 0) (n : ℕ) (plan : Job → Plan) (adds : Plan → Kinds) (laws : Laws Here n plan adds) where
  -- A list stays there,
  pub here_end : (s : State) (js : List Job) → Here s → Here (end_of s js)
  here_end s [] h = h
  here_end s (j ∷ js) h = here_end (after s j) js (laws.stays s j h)

  -- where all images are of one length.
  as_long : (s t : State) → Here s → Here t → AsLong s.flash t.flash
  as_long s t h k = laws.long s h ∙ sym (laws.long t k)

  -- So a list does what its plans do,
  pub along_some : (does : Plan → ImagePage → Bool) (s : State) (js : List Job) (q : ImagePage) → Here s
      → along does s js q ≡ some plan does js q
  along_some does s [] q h = refl
  along_some does s (j ∷ js) q h =
      ap₂ ◌||◌ (ap (λ (p : Plan). does p q) (laws.same_plan s j h)) (along_some does (after s j) js q (laws.stays s j h))

  -- and changes only its pages.
  pub frames : (s : State) (js : List Job) → Here s → Off (some plan changes_page js) (end_of s js).flash s.flash
  frames s [] h w e = refl
  frames s (j ∷ js) h w e =
      frames (after s j) js (laws.stays s j h) w (or_right (changes_page (plan j) (image_page_of w)) _ e)
      ∙ laws.frame s j h w (or_left (changes_page (plan j) (image_page_of w)) _ e)

  -- What is not touched is not changed.
  untouched : (js : List Job) (q : ImagePage) → some plan touches_page js q ≡ false → some plan changes_page js q ≡ false
  untouched [] q h = refl
  untouched (j ∷ js) q h =
      rw (or_right (reads_page (plan j) q) _ (or_left (touches_page (plan j) q) _ h))
      (untouched js q (or_right (touches_page (plan j) q) _ h))

  -- Half way: the shuffle is at s, the first list alone at a, the second alone at b. All that the first list changes lies in
  -- L, all that the second one does in R.
  record Halfway (L R : ImagePage → Bool) (s a b : State) : Type 0 where
    here : Here s
    here_a : Here a
    here_b : Here b
    off_R : Off R s.flash a.flash
    off_L : Off L s.flash b.flash
    kinds : kinds_of s ≡ union (kinds_of a) (kinds_of b)

  -- The two lists change places.
  flip : (L R : ImagePage → Bool) (s a b : State) → Halfway L R s a b → Halfway R L s b a
  flip L R s a b v = record {
    here = v.here;
    here_a = v.here_b;
    here_b = v.here_a;
    off_R = v.off_L;
    off_L = v.off_R;
    kinds = v.kinds ∙ union_comm (kinds_of a) (kinds_of b);
  }

  -- What the jobs of a list keep to: clear of the pages of R, and changes in L alone.
  record Keeps (L R : ImagePage → Bool) (js : List Job) : Type 0 where
    clear : (q : ImagePage) → R q ≡ true → some plan touches_page js q ≡ false
    own : (q : ImagePage) → L q ≡ false → some plan changes_page js q ≡ false

  -- A list without its first job keeps to the same.
  keeps_tail : (L R : ImagePage → Bool) (j : Job) (js : List Job) → Keeps L R (j ∷ js) → Keeps L R js
  keeps_tail L R j js k = record {
    clear = λ q h. or_right (touches_page (plan j) q) _ (k.clear q h);
    own = λ q h. or_right (changes_page (plan j) q) _ (k.own q h);
  }

  -- A job of the first list.
  step : (L R : ImagePage → Bool) (s a b : State) (j : Job) (js : List Job) → Halfway L R s a b → Keeps L R (j ∷ js)
      → (given s j ≡ given a j) × Halfway L R (after s j) (after a j) b
  step L R s a b j js v k = (
    same.0,
    record {
      here = laws.stays s j v.here;
      here_a = laws.stays a j v.here_a;
      here_b = v.here_b;
      off_R = λ w h. by_test (changes_page (plan j) (image_page_of w)) (same.1 w)
          (λ e. laws.frame s j v.here w e ∙ v.off_R w h ∙ sym (laws.frame a j v.here_a w e));
      off_L = λ w h. laws.frame s j v.here w
          (or_left (changes_page (plan j) (image_page_of w)) _ (k.own (image_page_of w) h)) ∙ v.off_L w h;
      kinds = laws.records s j v.here ∙ ap (λ (x : Kinds). union x (adds (plan j))) v.kinds
          ∙ union_add (kinds_of a) (kinds_of b) (adds (plan j))
          ∙ ap (λ (x : Kinds). union x (kinds_of b)) (sym (laws.records a j v.here_a));
    },
  )
    where
      same : (given s j ≡ given a j) × Agree (changes_page (plan j)) (after s j).flash (after a j).flash
      same = laws.local s a j v.here v.here_a
          (λ w t. v.off_R w (turn (R (image_page_of w)) (touches_page (plan j) (image_page_of w))
          (λ r. or_left (touches_page (plan j) (image_page_of w)) _ (k.clear (image_page_of w) r)) t))

  -- The whole shuffle, from half way.
  goes : (L R : ImagePage → Bool) {way : List Bool} {xs ys zs : List Job} → Shuffle way xs ys zs → Keeps L R xs → Keeps R L ys
      → (s a b : State) → Halfway L R s a b
      → Shuffle way (all_given a xs) (all_given b ys) (all_given s zs) × Halfway L R (end_of s zs) (end_of a xs) (end_of b ys)
  goes L R done kx ky s a b v = (done, v)
  goes L R (left {x = j} {xs = xs} w) kx ky s a b v =
      let e = step L R s a b j xs v kx in
      let t = goes L R w (keeps_tail L R j xs kx) ky (after s j) (after a j) b e.1 in
      (rw e.0 (left t.0), t.1)
  goes L R (right {y = j} {ys = ys} w) kx ky s a b v =
      let e = step R L s b a j ys (flip L R s a b v) ky in
      let t = goes L R w kx (keeps_tail R L j ys ky) (after s j) a (after b j) (flip R L (after s j) (after b j) a e.1) in
      (rw e.0 (right t.0), t.1)

  -- ---- the theorem

  -- From a state of `Here`, all that demand 3 says of a shuffle.
  pub commutes : (s : State) {way : List Bool} {xs ys zs : List Job} → Here s → Apart s xs ys → Shuffle way xs ys zs
      → Commutes s way xs ys zs
  commutes s {way} {xs} {ys} {zs} h apart w = record {
    outcomes = t.0;
    first_pages = λ q e. page_ext q (end_of s zs).flash (end_of s xs).flash (long zs xs)
        (λ w p. v.off_R w (rw p (untouched ys q (clear_y q (sym (changed xs q) ∙ e)))));
    second_pages = λ q e. page_ext q (end_of s zs).flash (end_of s ys).flash (long zs ys)
        (λ w p. v.off_L w (rw p (untouched xs q (clear_x q (sym (changed ys q) ∙ e)))));
    other_pages = λ q e d. page_ext q (end_of s zs).flash s.flash (long zs [])
        (λ w p. v.off_R w (rw p (sym (changed ys q) ∙ d)) ∙ frames s xs h w (rw p (sym (changed xs q) ∙ e)));
    as_long = long zs [];
    kinds = v.kinds;
  }
    where
      long : (js ks : List Job) → AsLong (end_of s js).flash (end_of s ks).flash
      long js ks = as_long (end_of s js) (end_of s ks) (here_end s js h) (here_end s ks h)

      changed : (js : List Job) (q : ImagePage) → changes s js q ≡ some plan changes_page js q
      changed js q = along_some changes_page s js q h

      touched : (js : List Job) (q : ImagePage) → touches s js q ≡ some plan touches_page js q
      touched js q = along_some touches_page s js q h

      clear_y : (q : ImagePage) → some plan changes_page xs q ≡ true → some plan touches_page ys q ≡ false
      clear_y q e = sym (touched ys q) ∙ apart.first q (changed xs q ∙ e)

      clear_x : (q : ImagePage) → some plan changes_page ys q ≡ true → some plan touches_page xs q ≡ false
      clear_x q e = sym (touched xs q) ∙ apart.second q (changed ys q ∙ e)

      t : Shuffle way (all_given s xs) (all_given s ys) (all_given s zs)
          × Halfway (some plan changes_page xs) (some plan changes_page ys) (end_of s zs) (end_of s xs) (end_of s ys)
      t = goes (some plan changes_page xs) (some plan changes_page ys) w
          (record { clear = clear_x; own = λ q e. e }) (record { clear = clear_y; own = λ q e. e }) s s s
          (record { here = h; here_a = h; here_b = h; off_R = λ w e. refl; off_L = λ w e. refl; kinds = union_self (kinds_of s) })

      v : Halfway (some plan changes_page xs) (some plan changes_page ys) (end_of s zs) (end_of s xs) (end_of s ys)
      v = t.1

-- Two shuffles end with the same flash and the same kinds.
pub one_end : (s : State) {way way' : List Bool} {xs ys zs zs' : List Job} → Commutes s way xs ys zs → Commutes s way' xs ys zs'
    → ((end_of s zs).flash ≡ (end_of s zs').flash) × (kinds_of (end_of s zs) ≡ kinds_of (end_of s zs'))
one_end s {xs = xs} {ys = ys} {zs = zs} {zs' = zs'} a b = (
  pages_ext (end_of s zs).flash (end_of s zs').flash (a.as_long ∙ sym b.as_long)
      (λ q.
      by_test (changes s xs q) (λ e. a.first_pages q e ∙ sym (b.first_pages q e))
      (λ e. by_test (changes s ys q) (λ d. a.second_pages q d ∙ sym (b.second_pages q d))
      (λ d. a.other_pages q e d ∙ sym (b.other_pages q e d)))),
  a.kinds ∙ sym b.kinds,
)
