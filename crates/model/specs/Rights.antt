-- Who may touch which page: the look-up of rights, the seed pages, and the one check over a span of pages.
-- (01, 'Who may touch which page'; 02, L2 and L3)
use Rattle.std.specs.Prelude.{ℕ, zero, suc, ◌+◌, ◌-◌, ◌*◌, ◌/◌, ◌%◌, min, Bool, false, ◌&&◌, ◌||◌, not, cond, List, [], ◌∷◌, ltb, leb, eqb, get_or}
use Rattle.model.specs.Geometry.{page_bytes, page_words, page_of, bank_of, page_in_bank, word_in_page, info_index, is_data, data_page_of, info_index_of, creator_page, owner_page}
use Rattle.model.specs.Kinds.{is_information, is_bank_erase, right_needed}
use Rattle.model.specs.Places.{span_start, span_words, span_address}
use Rattle.model.specs.State.{page_off}
use Rattle.model.specs.declared.Page.{Page}
use Rattle.model.specs.declared.ImagePage.{ImagePage}
use Rattle.model.specs.declared.Inputs.{Inputs}
use Rattle.model.specs.declared.Region.{Region}
use Rattle.model.specs.declared.PageSetting.{PageSetting}
use Rattle.model.specs.declared.Settings.{Settings}
use Rattle.model.specs.declared.Operation.{Operation}
use Rattle.model.specs.declared.Setup.{Setup}
use Rattle.model.specs.declared.Ruling.{Ruling}
use Rattle.model.specs.declared.Decider.{Decider}
use Rattle.model.specs.declared.Decider.TheVariants as by

-- Rights are numbers that add up: one of them is among them.
abbrev pub grants : ℕ → ℕ → Bool
grants rights right = eqb (rights / right % 2) 1

-- ---- data pages

-- A region that is on and holds the page.
abbrev pub decides : Page → Region → Bool
decides p g = g.on && (leb g.first.0 p.0 && ltb p.0 (g.first.0 + g.count))

-- The look-up answers the rights and who decided: the lowest-numbered region that is on and holds the page decides, alone. If
-- there is none, the default rights decide. (The list has the regions from number i on.)
unfoldable pub data_ruling : ℕ → List Region → ℕ → Page → Ruling
data_ruling i [] other p = record { rights = other; decider = by.Default }
data_ruling i (g ∷ gs) other p =
    cond (decides p g) (record { rights = g.rights; decider = by.Region i }) (data_ruling (i + 1) gs other p)

-- ---- information pages, by their index 0 to 25

-- Creator page: denied unless provision is enabled and seeds aren't locked. Owner page: denied unless provision is enabled.
unfoldable pub seed_closed : Inputs → ℕ → Bool
seed_closed i page =
    (eqb page (info_index 0 0 creator_page) && not (i.provision && not i.locked))
    || (eqb page (info_index 0 0 owner_page) && not i.provision)

-- Each page has its own switch and rights; switched off means denied.
abbrev pub page_rights : PageSetting → ℕ
page_rights s = cond s.on s.rights 0

-- Where both page setting and seed lock deny, the seed lock is named. So it is where the setting would allow: then the lock alone
-- denies.
unfoldable pub info_ruling : Inputs → Settings → ℕ → Ruling
info_ruling i s page =
    cond (seed_closed i page) (record { rights = 0; decider = by.SeedLock })
    (record { rights = page_rights (get_or s.info page page_off); decider = by.PageSetting })

-- ---- the look-up, for either partition; denied pages have no rights

unfoldable pub ruling_at : Setup → Bool → ℕ → Page → Ruling
ruling_at s information t p =
    cond information
    (info_ruling s.inputs s.settings (info_index (bank_of s.pages p) t (page_in_bank s.pages p)))
    (data_ruling 0 s.settings.regions s.settings.default_rights p)

-- The look-up by page of the image.
unfoldable pub ruling_of_page : Setup → ImagePage → Ruling
ruling_of_page s q =
    cond (is_data s.pages q)
    (data_ruling 0 s.settings.regions s.settings.default_rights (data_page_of s.pages q))
    (info_ruling s.inputs s.settings (info_index_of s.pages q))

-- ---- an operation's span

-- A page of the span has the right that the operation needs.
abbrev pub page_grants : Setup → Operation → Page → Bool
page_grants s o p = grants (ruling_at s (is_information o) o.info p).rights (right_needed o)

-- How many of the n pages from a page on pass a test before the first that fails.
unfoldable pub leading : (Page → Bool) → Page → ℕ → ℕ
leading test p zero = 0
leading test p (suc n) = cond (test p) (suc (leading test (record { 0 = p.0 + 1 }) n)) 0

-- The pages with one of the span's words, from its first word's page on.
abbrev pub span_pages : Operation → ℕ
span_pages o = ((span_start o).0 % page_bytes + 4 * span_words o + (page_bytes - 1)) / page_bytes

-- The words before the first page without the right, or all of the span's words if every page has it.
unfoldable pub allowed_words : Setup → Operation → ℕ
allowed_words s o =
    min (span_words o)
    (leading (page_grants s o) (page_of (span_start o)) (span_pages o) * page_words - word_in_page (span_start o))

-- Bank erase looks only at its bank's permission, even over seed pages (000). Every page of another span needs the right.
unfoldable pub denied : Setup → Operation → Bool
denied s o =
    cond (is_bank_erase o)
    (not (get_or s.settings.erase (bank_of s.pages (page_of o.address)) false))
    (ltb (allowed_words s o) (span_words o))

-- The page of the word after the allowed ones: the first denied page of a span that is denied.
abbrev pub first_denied : Setup → Operation → Page
first_denied s o = page_of (span_address o (allowed_words s o))

-- Who denies it: for a bank erase the bank's permission is named, else it's the decider at the first denied page. (02, L2)
unfoldable pub decider_of : Setup → Operation → Decider
decider_of s o =
    cond (is_bank_erase o) by.BankPermission (ruling_at s (is_information o) o.info (first_denied s o)).decider

-- How many words of a read are the true ones: 'words before the first denied page are the true ones, and that page's words and
-- all later ones are ones, even on allowed pages.' (02, L3)
unfoldable pub readable_words : Setup → Operation → ℕ
readable_words s o = allowed_words s o
