-- Numbers that stand for a valid state stand for what is read where it lies. Assumes nothing.
use Prim.Native.Nat.{ℕ, ◌%◌}
use mathlib.Core.Path.{◌≡◌, refl, ap, sym, ◌∙◌}
use mathlib.Core.Bool.{Bool, true, false, cond, ◌&&◌}
use lib.ListN.{get_or}
use mathlib.Core.List.{List}
use Rattle.model.specs.Geometry.{pages_fit}
use Rattle.model.specs.Valid.{valid, settings_fit, all, region_fits, page_fits, rights_fit, errors_fit, queues_fit, progress_fits, physical_fits, running_fits}
use Rattle.validity.specs.Rest.{rest_fits}
use Rattle.model.specs.State.{reset_controller, is_ready}
use Rattle.model.specs.Refusals.{ready_answer}
use Rattle.model.specs.declared.Controller.{Controller}
use Rattle.registers.specs.Layout.{pages_at, phase_at, default_at}
use Rattle.registers.proofs.Kept.{valid_encoded}
use Rattle.registers.specs.Registers.{encoded, stands_for, decode, every, region_encoded, setting_encoded, plain_encoded, progress_encoded, regions_of, info_of, phase_of}

pub taken_stands : (s : List ℕ) → valid (decode s) ≡ true → decode s ≡ stands_for s
unfolding decode
taken_stands s h = rw (valid_encoded s h)

-- Check 1 comes first, so that the phase may be read where it lies.
pub ready_same : (s : List ℕ) (fits : Bool) → (fits ≡ true → valid (decode s) ≡ true)
    → ready_answer fits (phase_of (get_or s phase_at 0)) ≡ ready_answer fits (decode s).phase
unfolding stands_for
ready_same s true ok = ap (λ (c : Controller). ready_answer true c.phase) (sym (taken_stands s (ok refl)))
ready_same s false ok = refl

-- The tests in the order in which the code makes them.
abbrev tables : List ℕ → Bool
tables s =
    plain_encoded s
    && (progress_encoded s
    && ((every (region_encoded s) 8 && all (region_fits (get_or s pages_at 0)) (regions_of s))
    && (every (setting_encoded s) 26 && all page_fits (info_of s))))

order : (p r a b c d g o x : Bool)
    → cond (p && (r && (a && b))) (g && ((o && (c && d)) && x)) false ≡ cond (p && (r && ((a && c) && (b && d)))) (g && (o && x)) false
order false r a b c d g o x = refl
order true false a b c d g o x = refl
order true true false b c d g o x = refl
order true true true false false d g o x = refl
order true true true false true d g o x = refl
order true true true true false d false o x = refl
order true true true true false d true false x = refl
order true true true true false d true true x = refl
order true true true true true false false o x = refl
order true true true true true false true false x = refl
order true true true true true false true true x = refl
order true true true true true true g false x = refl
order true true true true true true g true x = refl

reset_fails : (b : Bool) (c : Controller) → valid (cond b c (reset_controller 0)) ≡ cond b (valid c) false
unfolding valid
reset_fails true c = refl
reset_fails false c = refl

valid_by : (s : List ℕ) → valid (decode s) ≡ cond (tables s) (rest_fits s) false
unfolding decode encoded rest_fits valid settings_fit stands_for
valid_by s =
    let c : Controller = stands_for s in
    let queued : Bool = queues_fit (is_ready c.phase) c.queues in
    let held : Bool = progress_fits (is_ready c.phase) c.progress in
    let running : Bool = running_fits c.setup c.queues.programs c.progress in
    reset_fails (encoded s) c
    ∙ order (plain_encoded s) (progress_encoded s) (every (region_encoded s) 8) (every (setting_encoded s) 26)
    (all (region_fits (get_or s pages_at 0)) (regions_of s)) (all page_fits (info_of s)) (pages_fit (get_or s pages_at 0))
    (rights_fit (get_or s default_at 0 % 256)) (errors_fit c.errors && (queued && (held && (physical_fits c.physical && running))))

pub valid_holds : (s : List ℕ) → tables s ≡ true → rest_fits s ≡ valid (decode s)
valid_holds s h = sym (valid_by s ∙ ap (λ (b : Bool). cond b (rest_fits s) false) h)

pub valid_fails : (s : List ℕ) → tables s ≡ false → false ≡ valid (decode s)
valid_fails s h = sym (valid_by s ∙ ap (λ (b : Bool). cond b (rest_fits s) false) h)
