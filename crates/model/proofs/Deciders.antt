-- Who decides: the look-up names a region exactly if that is the lowest one that is on and holds the page, and the default exactly
-- if there is none; a denied span has a first denied page; and each decider computed. Assumes nothing.
use Prim.Native.Nat.{ℕ, zero, suc, ◌+◌, ◌<◌}
use native.Mathlib.Nat.{add-zero}
use native.Mathlib.Omega.{arith}
use mathlib.Core.Path.{◌≡◌, refl, ap, sym, subst, ◌∙◌}
use mathlib.Core.Bool.{Bool, true, false, true≢false}
use mathlib.Core.List.{List, [], ◌∷◌}
use mathlib.Core.Logic.{◌⊎◌, inl, inr, ⊎_elim}
use lib.ListN.{length, get_or}
use borrow.Author.Tests.{ltb-true}
use Rattle.model.specs.Geometry.{page_of}
use Rattle.model.specs.Kinds.{is_bank_erase}
use Rattle.model.specs.Places.{span_words, span_address}
use Rattle.model.specs.Queue.{held, queue_of}
use Rattle.model.specs.State.{region_off, flash_fits}
use Rattle.model.specs.Rights.{decides, data_ruling, seed_closed, info_ruling, ruling_at, page_grants, leading, allowed_words, denied, first_denied, decider_of}
use Rattle.model.specs.Refusals.{decider_number}
use Rattle.model.specs.Checks.{malformed, out_of_range, crosses_window, operation_answer}
use Rattle.model.specs.Valid.{all, settings_fit, work_fits, running_fits, physical_fits, valid, valid_with}
use Rattle.model.specs.Errors.{recorded}
use Rattle.model.specs.Settings.{set_inputs, configured, set_region, set_default, set_info, set_erase}
use Rattle.model.specs.Lifecycle.{reset, initialise_answer, initialise}
use Rattle.model.specs.Steps.{start_answer, start}
use Rattle.model.specs.Bench.{open_pages, all_rights, bench, two_regions, seeds_locked, nothing_given, held_twice, first_off, denials, holds}
use Rattle.model.specs.declared.Page.{Page}
use Rattle.model.specs.declared.Region.{Region}
use Rattle.model.specs.declared.Operation.{Operation}
use Rattle.model.specs.declared.Setup.{Setup}
use Rattle.model.specs.declared.Ruling.{Ruling}
use Rattle.model.specs.declared.Decider.{Decider}
use Rattle.model.specs.declared.Decider.TheVariants as by
use Rattle.model.proofs.Bool.{by_test}
use Rattle.model.proofs.Rights.{before_granted, first_denied_lem}

-- Region i of the list is on and holds the page, and no lower-numbered one does.
pub record Lowest (l : List Region) (p : Page) (i : ℕ) : Type 0 where
  pub within : i < length l
  pub itself : decides p (get_or l i region_off) ≡ true
  pub none_lower : (j : ℕ) → j < i → decides p (get_or l j region_off) ≡ false

-- None of them is on and holds the page.
abbrev pub NoneDecides : List Region → Page → Type 0
NoneDecides l p = (j : ℕ) → j < length l → decides p (get_or l j region_off) ≡ false

-- ---- the lowest one decides, alone

-- Here the first region of the list has number n.
lowest_from : (n : ℕ) (l : List Region) (other : ℕ) (p : Page) (i : ℕ) → Lowest l p i
    → data_ruling n l other p ≡ record { rights = (get_or l i region_off).rights; decider = by.Region (n + i) }
unfolding data_ruling
lowest_from n [] other p i h = absurd (omega (arith, h.within))
lowest_from n (g ∷ gs) other p zero h = rw (h.itself, add-zero)
lowest_from n (g ∷ gs) other p (suc i) h =
    let rest : Lowest gs p i = record {
      within = omega (arith, h.within);
      itself = h.itself;
      none_lower = λ j l. h.none_lower (suc j) (omega arith);
    } in
    let e : n + suc i ≡ n + 1 + i = omega arith in
    rw (h.none_lower 0 (omega arith), e) (lowest_from (n + 1) gs other p i rest)

pub lowest_decides : (l : List Region) (other : ℕ) (p : Page) (i : ℕ) → Lowest l p i
    → data_ruling 0 l other p ≡ record { rights = (get_or l i region_off).rights; decider = by.Region i }
lowest_decides l other p i h =
    let e : 0 + i ≡ i = omega arith in
    rw e at (lowest_from 0 l other p i h)

none_from : (n : ℕ) (l : List Region) (other : ℕ) (p : Page) → NoneDecides l p
    → data_ruling n l other p ≡ record { rights = other; decider = by.Default }
unfolding data_ruling
none_from n [] other p h = refl
none_from n (g ∷ gs) other p h =
    rw (h 0 (omega arith)) (none_from (n + 1) gs other p (λ j l. h (suc j) (omega arith)))

pub default_decides : (l : List Region) (other : ℕ) (p : Page) → NoneDecides l p
    → data_ruling 0 l other p ≡ record { rights = other; decider = by.Default }
default_decides l other p h = none_from 0 l other p h

-- ---- and whoever is named is that one

-- The default is no region.
abbrev is_default : Decider → Bool
is_default (by.Region i) = false
is_default by.Default = true
is_default by.PageSetting = false
is_default by.SeedLock = false
is_default by.BankPermission = false

-- What holds of the others holds of the list, if its first does not decide.
module _ (g : Region) (gs : List Region) (p : Page) (t : decides p g ≡ false) where
  none_below : (i : ℕ) → ((j : ℕ) → j < i → decides p (get_or gs j region_off) ≡ false)
      → (j : ℕ) → j < suc i → decides p (get_or (g ∷ gs) j region_off) ≡ false
  none_below i h zero l = t
  none_below i h (suc j) l = h j (omega arith)

-- There is a lowest one, or none.
found : (l : List Region) (p : Page) → ((i : ℕ) × Lowest l p i) ⊎ NoneDecides l p
found [] p = inr (λ j h. absurd (omega arith))
found (g ∷ gs) p =
    by_test (decides p g)
    (λ t. inl (0, record { within = omega arith; itself = t; none_lower = λ j h. absurd (omega arith) }))
    (λ t.
    ⊎_elim
    (λ i. inl (suc i.0, record { within = omega (arith, i.1.within); itself = i.1.itself; none_lower = none_below g gs p t i.0 i.1.none_lower }))
    (λ n. inr (none_below g gs p t (length gs) n))
    (found gs p))

pub named_lowest : (l : List Region) (other : ℕ) (p : Page) (i : ℕ) → (data_ruling 0 l other p).decider ≡ by.Region i → Lowest l p i
named_lowest l other p i e =
    ⊎_elim
    (λ k. subst (Lowest l p) (ap (λ (r : Ruling). decider_number r.decider) (sym (lowest_decides l other p k.0 k.1)) ∙ ap decider_number e) k.1)
    (λ n. absurd (true≢false (ap is_default (ap (λ (r : Ruling). r.decider) (sym (default_decides l other p n)) ∙ e))))
    (found l p)

pub named_default : (l : List Region) (other : ℕ) (p : Page) → (data_ruling 0 l other p).decider ≡ by.Default → NoneDecides l p
named_default l other p e =
    ⊎_elim
    (λ k. absurd (true≢false (ap is_default (sym e ∙ ap (λ (r : Ruling). r.decider) (lowest_decides l other p k.0 k.1)))))
    (λ n. n)
    (found l p)

-- ---- the first denied page

-- A span that is denied has a first denied page: one of its words lies there, the page lacks the right, and that of each earlier
-- word has it.
pub denied_first : (s : Setup) (o : Operation) → is_bank_erase o ≡ false → denied s o ≡ true
    → (allowed_words s o < span_words o) × (page_grants s o (first_denied s o) ≡ false)
    × ((k : ℕ) → k < allowed_words s o → page_grants s o (page_of (span_address o k)) ≡ true)
unfolding denied
denied_first s o b h =
    let l : allowed_words s o < span_words o = ltb-true _ _ (rw b at h) in
    (l, first_denied_lem s o l, before_granted s o)

-- ---- each decider, settled by one computed statement

pub denied_by : all holds denials ≡ true
unfolding held queue_of data_ruling seed_closed info_ruling ruling_at leading allowed_words denied decider_of malformed out_of_range crosses_window operation_answer settings_fit work_fits running_fits physical_fits valid flash_fits valid_with recorded set_inputs configured set_region set_default set_info set_erase reset initialise_answer initialise start_answer start open_pages all_rights bench two_regions seeds_locked nothing_given held_twice first_off denials
denied_by = refl
