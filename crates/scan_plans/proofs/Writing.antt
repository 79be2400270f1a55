-- What a write does, way by way, from what the surveys tell. Assumes nothing.
use mathlib.Core.Path.{◌≡◌, refl, sym, ap, ◌∙◌}
use mathlib.Core.Bool.{Bool, true, false, cond, not, and-false}
use mathlib.Core.List.{List}
use Prim.Native.Nat.{ℕ, suc, ◌+◌, ◌<◌, ◌≤◌}
use native.Mathlib.Omega.{arith}
use native.Mathlib.Numerals.{add-one}
use lib.ListN.{length}
use borrow.Author.Tests.{lt-ltb, le-ltb, le-leb, lt-leb}
use Rattle.std.specs.Prelude.{Option, None, Some, Ok, Err, is_some}
use Rattle.std.proofs.Math.Bool.{not-not}
use Rattle.scan_queue.specs.declared.ScanRefusal.TheVariants.{Full, BadScan}
use Rattle.scan_queue.specs.Payload.{Scan}
use Rattle.scan_queue.specs.Slots.{Pages, slots_from, places, highest}
use Rattle.scan_queue.specs.Decisions.{Decision, Refused, Erases, first_unused, none_waits, into, new_scan, write}
use Rattle.scan_queue.proofs.PowerCut.{first_unused_lem, places_inside}
use Rattle.survey.specs.declared.Survey.{Survey}
use Rattle.survey.specs.Survey.{nothing, surveyed}
use Rattle.survey.proofs.Surveying.{tells_highest, tells_unused, tells_waits}
use Rattle.scan_plans.specs.declared.WritePlan.TheVariants as write_plan
use Rattle.scan_plans.specs.Plans.{Decided, scan_with}

pub waits_by : (m ps : List ℕ) (s t : Survey) (r : Bool) → s ≡ surveyed m ps t → t ≡ nothing → is_some s.oldest ≡ not r → r ≡ none_waits m ps
waits_by m ps s t r seen e h = sym (not-not r) ∙ ap not (sym h) ∙ rw (seen, e) (tells_waits m ps)

-- ---- the page to erase, by whether scans wait in the two pages

abbrev erases_or : Scan → Option ℕ → Decision
erases_or s None = Refused Full
erases_or s (Some q) = Erases q s

page_decides : (x y : Bool) (a b : ℕ) (s : Scan) → cond x (Erases a s) (cond y (Erases b s) (Refused Full)) ≡ erases_or s (cond x (Some a) (cond y (Some b) None))
page_decides true y a b s = refl
page_decides false true a b s = refl
page_decides false false a b s = refl

page_inside : (x y : Bool) (m : List ℕ) (a b q : ℕ) → Pages m a b → cond x (Some a) (cond y (Some b) None) ≡ Some q → q + 16 ≤ length m
page_inside true y m a b q g e = let h : a ≡ q = cc in omega (arith, h, g.apart, g.inside)
page_inside false true m a b q g e = let h : b ≡ q = cc in omega (arith, h, g.inside)
page_inside false false m a b q g e = cc

-- ---- a write

module _ (m : List ℕ) (a b : ℕ) (bytes : List ℕ) where
  pub too_short : length bytes ≡ 0 → Decided m a b bytes (Err BadScan)
  unfolding write
  too_short h = record { is = sym (rw (lt-leb 1 (length bytes) (omega arith), and-false)); inside = tt }

  pub too_long : 48 < length bytes → Decided m a b bytes (Err BadScan)
  unfolding write
  too_long h = record { is = sym (rw (lt-leb (length bytes) 48 h, and-false)); inside = tt }

  module _ (s : Survey) (seen : s ≡ surveyed m (places a b) nothing) where
    high_is : s.highest ≡ highest m (places a b)
    high_is = ap (λ (x : Survey). x.highest) seen ∙ tells_highest m (places a b)

    pub too_high : 268435455 ≤ s.highest → Decided m a b bytes (Err BadScan)
    unfolding write
    too_high h =
        let g : 268435456 ≤ suc (highest m (places a b)) = omega (arith, high_is) in
        record { is = sym (rw (le-ltb (suc (highest m (places a b))) 268435456 g)); inside = tt }

    new_is : new_scan m a b bytes ≡ scan_with (s.highest + 1) bytes
    new_is = rw (add-one, high_is)

    module _ (some : 1 ≤ length bytes) (most : length bytes ≤ 48) (low : s.highest < 268435455) where
      goes : (room : Option ℕ) → s.unused ≡ room → write m a b bytes ≡ into m a b (scan_with (s.highest + 1) bytes) room
      unfolding write
      goes room e =
          let g : suc (highest m (places a b)) < 268435456 = omega (arith, high_is) in
          let r : first_unused m (places a b) ≡ room = sym (tells_unused m (places a b)) ∙ rw (← seen) e in
          rw (lt-ltb (suc (highest m (places a b))) 268435456 g, le-leb 1 (length bytes) some, le-leb (length bytes) 48 most, r)
          (ap (λ (x : Scan). into m a b x room) new_is)

      pub to_unused : (p : ℕ) → s.unused ≡ Some p → Pages m a b → Decided m a b bytes (Ok (write_plan.Puts p (s.highest + 1)))
      to_unused p e g =
          let at : first_unused m (places a b) ≡ Some p = sym (tells_unused m (places a b)) ∙ rw (← seen) e in
          record {
            is = sym (goes (Some p) e);
            inside = (places_inside m a b p g (first_unused_lem m (places a b) p at).0, omega arith, most);
          }

      module _ (full : s.unused ≡ None) (page : Option ℕ)
          (is : page ≡ cond (none_waits m (slots_from 16 a)) (Some a) (cond (none_waits m (slots_from 16 b)) (Some b) None)) where
        erased : write m a b bytes ≡ erases_or (scan_with (s.highest + 1) bytes) page
        erased = goes None full ∙ rw is (page_decides (none_waits m (slots_from 16 a)) (none_waits m (slots_from 16 b)) a b (scan_with (s.highest + 1) bytes))

        pub no_page : page ≡ None → Decided m a b bytes (Err Full)
        no_page e = record { is = sym (erased ∙ rw e refl); inside = tt }

        pub to_page : (q : ℕ) → page ≡ Some q → Pages m a b → Decided m a b bytes (Ok (write_plan.Erases q (s.highest + 1)))
        to_page q e g = record {
          is = sym (erased ∙ rw e refl);
          inside = (page_inside (none_waits m (slots_from 16 a)) (none_waits m (slots_from 16 b)) m a b q g (sym is ∙ e), omega arith, most);
        }
