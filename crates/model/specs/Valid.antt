-- When a state is valid (01: 'a state is ours'), and check 1. (01, 'When the desk says no'; 02, L1 and L3)
use Rattle.std.specs.Prelude.{None, Some}
use Rattle.std.specs.Prelude.{ℕ, ◌+◌, Bool, true, ◌&&◌, ◌||◌, not, List, [], ◌∷◌, ltb, leb, eqb}
use Rattle.model.specs.Geometry.{pages_fit, data_pages}
use Rattle.model.specs.Kinds.{is_read, is_program, is_page_erase, is_bank_erase}
use Rattle.model.specs.Places.{total_words}
use Rattle.model.specs.Queue.{queue_words, is_empty}
use Rattle.model.specs.State.{Flash, flash_fits, is_ready, is_busy}
use Rattle.model.specs.Rights.{readable_words}
use Rattle.model.specs.Refusals.{accepts, is_denied}
use Rattle.model.specs.Checks.{operation_answer}
use Rattle.model.specs.declared.Region.{Region}
use Rattle.model.specs.declared.PageSetting.{PageSetting}
use Rattle.model.specs.declared.Settings.{Settings}
use Rattle.model.specs.declared.Errors.{Errors}
use Rattle.model.specs.declared.Queue.{Queue}
use Rattle.model.specs.declared.Queues.{Queues}
use Rattle.model.specs.declared.Work.{Work}
use Rattle.model.specs.declared.Work.TheVariants.{Read, Program, Erase}
use Rattle.model.specs.State.{Progress}
use Rattle.model.specs.declared.Setup.{Setup}
use Rattle.model.specs.declared.Physical.{Physical}
use Rattle.model.specs.declared.Controller.{Controller}

-- A test that holds of each element.
abbrev pub all : {A : Type 0} → (A → Bool) → List A → Bool
all test [] = true
all test (x ∷ xs) = test x && all test xs

-- ---- its settings pass 13

-- Rights over 7, or a region whose first page plus count exceeds 2D, fail.
abbrev pub rights_fit : ℕ → Bool
rights_fit r = leb r 7

abbrev pub region_fits : ℕ → Region → Bool
region_fits d g = leb (g.first.0 + g.count) (data_pages d) && rights_fit g.rights

abbrev pub page_fits : PageSetting → Bool
page_fits p = rights_fit p.rights

unfoldable pub settings_fit : ℕ → Settings → Bool
settings_fit d s =
    rights_fit s.default_rights && (all (region_fits d) s.regions && all page_fits s.info)

-- ---- recorded kinds are among 5, 7, 8 and 9 (the type says so), the last address 0 if there are none

abbrev pub any_recorded : Errors → Bool
any_recorded e = e.malformed || (e.range || (e.window || e.denied))

abbrev pub errors_fit : Errors → Bool
errors_fit e = any_recorded e || eqb e.address.0 0

-- ---- queues hold at most 16 words, and none unless ready

abbrev pub both_empty : Queues → Bool
both_empty q = is_empty q.reads && is_empty q.programs

abbrev pub queues_fit : Bool → Queues → Bool
queues_fit ready q =
    (leb q.reads.len queue_words && leb q.programs.len queue_words) && (ready || both_empty q)

-- ---- an operation is in progress only when ready

abbrev pub progress_fits : Bool → Progress → Bool
progress_fits ready p = ready || not (is_busy p)

-- It has words left to move, and passes 5, 7, 8 and 9, save that a denied read is there too. A read is there with exactly the
-- number of its true words. (02, L3)
-- The program queue holds the words pushed and not yet moved, at most n pushed in all, and is empty with no program in
-- progress.
unfoldable pub work_fits : Setup → Queue → Work → Bool
work_fits s programs (Read o moved readable) =
    is_read o
    && (ltb moved (total_words s.pages o)
    && ((accepts (operation_answer s o) || is_denied (operation_answer s o))
    && (eqb readable (readable_words s o)
    && is_empty programs)))
work_fits s programs (Program o moved) =
    is_program o
    && (ltb moved (total_words s.pages o)
    && (accepts (operation_answer s o)
    && leb (moved + programs.len) o.count))
work_fits s programs (Erase o moved) =
    (is_page_erase o || is_bank_erase o)
    && (ltb moved (total_words s.pages o)
    && (accepts (operation_answer s o)
    && is_empty programs))

unfoldable pub running_fits : Setup → Queue → Progress → Bool
running_fits s programs None = is_empty programs
running_fits s programs (Some w) = work_fits s programs w

-- ---- a lost count is at most 5: over 5 isn't ours (02, L1)

abbrev pub lost_limit : ℕ
lost_limit = 5

unfoldable pub physical_fits : Physical → Bool
physical_fits p = all (λ n. leb n lost_limit) p.lost

-- A state is valid (01: ours) exactly if all of this holds.
unfoldable pub valid : Controller → Bool
valid c =
    pages_fit c.setup.pages
    && (settings_fit c.setup.pages c.setup.settings
    && (errors_fit c.errors
    && (queues_fit (is_ready c.phase) c.queues
    && (progress_fits (is_ready c.phase) c.progress
    && (physical_fits c.physical
    && running_fits c.setup c.queues.programs c.progress)))))

-- Check 1 of a call that is lent the flash: the state is valid, and the flash fits its D.
unfoldable pub valid_with : Controller → Flash → Bool
valid_with c f = valid c && flash_fits c.setup.pages f
