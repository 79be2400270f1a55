-- The starred cases of the bench sheet (01, 'Bench sheet') and those of denied operations (02, L2 and L3), each put to the
-- definition of a call; and states, valid and not.
use Rattle.std.specs.Prelude.{Some}
use Rattle.std.specs.Prelude.{ℕ, zero, suc, Bool, true, false, ◌&&◌, List, [], ◌∷◌, eqb, get_or, replicate}
use Rattle.model.specs.Geometry.{info_count, byte_address, first_word, data_image_page, special_page, creator_page}
use Rattle.model.specs.Words.{all_ones}
use Rattle.model.specs.State.{Flash, flash, Leaves, stored, reset_controller, with_setup, with_settings, with_phase, with_errors, with_queues, with_progress, with_physical}
use Rattle.model.specs.Rights.{readable_words}
use Rattle.model.specs.Refusals.{number_of, reported}
use Rattle.model.specs.Settings.{set_inputs, set_region, with_default, set_default, set_info, set_erase}
use Rattle.model.specs.Lifecycle.{reset, initialise}
use Rattle.model.specs.Steps.{start, push, step}
use Rattle.model.specs.Whole.{whole}
use Rattle.model.specs.declared.Region.{Region}
use Rattle.model.specs.declared.Operation.{Operation}
use Rattle.model.specs.declared.Phase.TheVariants.{Disabled}
use Rattle.model.specs.declared.Work.TheVariants.{Read, Program, Erase}
use Rattle.model.specs.declared.Controller.{Controller}
use Rattle.model.specs.declared.Stepped.{Stepped}

-- ---- controllers made by reset, inputs, settings and initialise

abbrev pub blank : ℕ → Flash
blank n = flash (replicate n all_ones)

-- Every right on the first n information pages of a type.
unfoldable pub open_pages : ℕ → ℕ → ℕ → Controller → Controller
open_pages bank t zero c = c
open_pages bank t (suc n) c = (set_info (open_pages bank t n c) bank t n (record { on = true; rights = 7 })).controller

abbrev pub open_bank : ℕ → Controller → Controller
open_bank bank c =
    (set_erase (open_pages bank 2 (info_count 2) (open_pages bank 1 (info_count 1) (open_pages bank 0 (info_count 0) c))) bank true
    ).controller

-- All rights given, with provision enabled; the seeds locked or not.
unfoldable pub all_rights : ℕ → Bool → Controller
all_rights d locked =
    open_bank 1
    (open_bank 0
    (set_default
    (set_inputs (reset (reset_controller 0) d).controller (record { provision = true; locked = locked })).controller
    7).controller)

abbrev pub ready : ℕ → Controller → Controller
ready words c = (initialise c (blank words)).controller

-- D = 16 and all rights given.
unfoldable pub bench : Controller
bench = ready 14848 (all_rights 16 false)

-- Region 0, on or off, pages 2 and 3, read only; region 1 on, pages 0 to 7, all rights.
abbrev pub region : Bool → ℕ → ℕ → ℕ → Region
region on first count rights = record { on = on; first = record { 0 = first }; count = count; rights = rights }

unfoldable pub two_regions : Bool → Controller
two_regions on = (set_region (set_region bench 0 (region on 2 2 1)).controller 1 (region true 0 8 7)).controller

unfoldable pub seeds_locked : Controller
seeds_locked = ready 14848 (all_rights 16 true)

-- ---- operations: kind, partition, information type, byte address, n

abbrev pub op : ℕ → ℕ → ℕ → ℕ → ℕ → Operation
op kind partition t address n = record {
  kind = kind;
  partition = partition;
  info = t;
  address = record { 0 = address };
  count = n;
}

-- A program of one word at address 0: start, push and step.
unfoldable pub program_one : Controller → Flash → ℕ → Leaves Stepped
program_one c f w = step (push (start c (op 1 0 0 0 1)).controller w).controller f

unfoldable pub program_two : ℕ → ℕ → Leaves Stepped
program_two v w = program_one (program_one bench (blank 14848) v).result.controller (program_one bench (blank 14848) v).flash w

-- ---- the cases, and what a case claims

pub data Case : Type 0 where
  -- reset with D answers this number
  resets : ℕ → ℕ → Case
  -- reset with D, then initialise with an image of so many bus words: this number
  initialises : ℕ → ℕ → ℕ → Case
  -- start of an operation answers this number
  asks : Controller → Operation → ℕ → Case
  -- start of an operation answers this number, and reports this one
  reports : Controller → Operation → ℕ → ℕ → Case
  -- start of an operation answers this number, and records this address
  records : Controller → Operation → ℕ → ℕ → Case
  -- start of a read answers 9, has so many true words, and records this address
  cuts : Controller → Operation → ℕ → ℕ → Case
  -- a whole read of an image of zeros delivers this as its word k
  delivers : Controller → Operation → ℕ → ℕ → Case
  -- a step leaves this word at place 0, and changes so many bits
  leaves : Leaves Stepped → ℕ → ℕ → Case
  -- two numbers are equal
  lies : ℕ → ℕ → Case

abbrev pub holds : Case → Bool
holds (resets d n) = eqb (number_of (reset bench d).answer) n
holds (initialises d words n) = eqb (number_of (initialise (reset bench d).controller (blank words)).answer) n
holds (asks c o n) = eqb (number_of (start c o).answer) n
holds (reports c o n by) = eqb (number_of (start c o).answer) n && eqb (reported (start c o).answer) by
holds (records c o n address) =
    eqb (number_of (start c o).answer) n && eqb (start c o).controller.errors.address.0 address
holds (cuts c o readable address) =
    eqb (number_of (start c o).answer) 9
    && (eqb (readable_words c.setup o) readable
    && eqb (start c o).controller.errors.address.0 address)
holds (delivers c o k word) =
    eqb (get_or (whole c (flash (replicate 14848 0)) o (replicate o.count 7)).buffer k 7) word
holds (leaves s word bits) =
    eqb (number_of s.result.answer) 0
    && (eqb (stored s.flash (record { 0 = 0 })) word
    && eqb s.result.bits bits)
holds (lies place n) = eqb place n

unfoldable pub cases : List Case
cases =
    -- Image of 14,848 bus words accepted; 14,847 gives 1. D = 9 gives 1; D = 10 takes 11,776; D = 256 takes 137,728.
    initialises 16 14848 0
    ∷ initialises 16 14847 1
    ∷ resets 9 1
    ∷ resets 10 0
    ∷ initialises 10 11776 0
    ∷ resets 256 0
    ∷ initialises 256 137728 0
    -- Creator page begins at bus word 4,352; bank 1 at 7,424, byte address 0x4000.
    ∷ lies (first_word (special_page 16 creator_page)).0 4352
    ∷ lies (first_word (data_image_page 16 1 0)).0 7424
    ∷ lies (byte_address 16 1 0 0).0 0x4000
    -- Program at 0x0000, n = 16: allowed; n = 17: 8. At 0x003C, n = 1 allowed, n = 2: 8.
    ∷ asks bench (op 1 0 0 0x0000 16) 0
    ∷ asks bench (op 1 0 0 0x0000 17) 8
    ∷ asks bench (op 1 0 0 0x003C 1) 0
    ∷ asks bench (op 1 0 0 0x003C 2) 8
    -- 0x12345678 onto 0xFFFFFFFF leaves 0x12345678, 19 bits changed; then 0xFFFF0000 leaves 0x12340000, 8 changed.
    ∷ leaves (program_one bench (blank 14848) 0x12345678) 0x12345678 19
    ∷ leaves (program_two 0x12345678 0xFFFF0000) 0x12340000 8
    -- Read 0x7FFC: n = 1 allowed, n = 2 gives 7. Address 2: 5. n = 1,024 at 0 allowed; 1,025: 5.
    ∷ asks bench (op 0 0 0 0x7FFC 1) 0
    ∷ asks bench (op 0 0 0 0x7FFC 2) 7
    ∷ asks bench (op 0 0 0 2 1) 5
    ∷ asks bench (op 0 0 0 0 1024) 0
    ∷ asks bench (op 0 0 0 0 1025) 5
    -- Type 1 at 0x0400: 7. Type 0 at 0x27FC: n = 1 allowed, n = 2: 7.
    ∷ asks bench (op 0 1 1 0x0400 1) 7
    ∷ asks bench (op 1 1 1 0x0400 1) 7
    ∷ asks bench (op 2 1 1 0x0400 1) 7
    ∷ asks bench (op 0 1 0 0x27FC 1) 0
    ∷ asks bench (op 0 1 0 0x27FC 2) 7
    ∷ asks bench (op 1 1 0 0x27FC 1) 0
    ∷ asks bench (op 1 1 0 0x27FC 2) 7
    -- Regions 0 and 1: program on page 2 is 9, on page 4 allowed. Region 0 off: page 2 allowed.
    ∷ asks (two_regions true) (op 1 0 0 0x0800 1) 9
    ∷ asks (two_regions true) (op 1 0 0 0x1000 1) 0
    ∷ asks (two_regions false) (op 1 0 0 0x0800 1) 0
    -- Provision on and seeds locked: creator page 9.
    ∷ asks seeds_locked (op 0 1 0 0x0400 1) 9
    ∷ asks seeds_locked (op 1 1 0 0x0400 1) 9
    ∷ asks seeds_locked (op 2 1 0 0x0400 1) 9
    -- Fresh controller, kind 9: 3, since 3 precedes 5.
    ∷ asks (all_rights 16 false) (op 9 0 0 0 1) 3
    ∷ []

-- ---- who denies: each decider, 0 to 7 a region, 8 the default, 9 a page's setting, 10 the seed lock, 11 a bank's permission

-- D = 16 and nothing given.
unfoldable pub nothing_given : Controller
nothing_given = ready 14848 (reset (reset_controller 0) 16).controller

-- Page 1 is held by region 0, which gives nothing, and by region 1, which gives programming; page 2 by region 1 alone.
unfoldable pub held_twice : Controller
held_twice = (set_region (set_region bench 0 (region true 1 1 0)).controller 1 (region true 1 2 2)).controller

-- Information page 0 of bank 0 and type 0 is off.
unfoldable pub first_off : Controller → Controller
first_off c = (set_info c 0 0 0 (record { on = false; rights = 7 })).controller

unfoldable pub denials : List Case
denials =
    -- The lowest-numbered region is named, also where a higher one would allow.
    reports (two_regions true) (op 1 0 0 0x0800 1) 9 0
    ∷ reports held_twice (op 1 0 0 0x0400 1) 9 0
    ∷ reports held_twice (op 2 0 0 0x0800 0) 9 1
    -- A read names who decides the first denied page: here the second of four, and the first of two.
    ∷ reports held_twice (op 0 0 0 0 1024) 9 0
    ∷ reports held_twice (op 0 0 0 0x0800 512) 9 1
    ∷ reports nothing_given (op 0 0 0 0 1024) 9 8
    -- An information page's setting, whether it is off or lacks the right.
    ∷ reports nothing_given (op 1 1 2 0x0400 1) 9 9
    ∷ reports (first_off seeds_locked) (op 0 1 0 0 768) 9 9
    -- The seed lock: of a page that its setting would allow, of one where both deny, and on the way of a read.
    ∷ reports seeds_locked (op 2 1 0 0x0400 0) 9 10
    ∷ reports nothing_given (op 1 1 0 0x0800 1) 9 10
    ∷ reports seeds_locked (op 0 1 0 0 768) 9 10
    -- A bank erase names the bank's permission.
    ∷ reports nothing_given (op 3 0 0 0 0) 9 11
    ∷ reports nothing_given (op 3 1 0 0x4000 0) 9 11
    -- Nobody is named where the operation is accepted, or refused otherwise.
    ∷ reports held_twice (op 1 0 0 0x0800 1) 0 255
    ∷ reports nothing_given (op 1 0 0 0 17) 8 255
    ∷ []

-- ---- denied reads: true up to the first denied page (02, L3)

-- Page 16, the first of bank 1, is held by region 0, which gives nothing.
unfoldable pub second_bank_closed : Controller
second_bank_closed = (set_region bench 0 (region true 16 1 0)).controller

unfoldable pub cut_reads : List Case
cut_reads =
    -- Pages 1 and 2 are denied, pages 0 and 3 are not.
    cuts held_twice (op 0 0 0 0 1024) 256 0x0400
    ∷ cuts held_twice (op 0 0 0 0x03FC 2) 1 0x0400
    ∷ cuts held_twice (op 0 0 0 0x0BFC 257) 0 0x0BFC
    -- What it delivers: the true word, then ones, and ones also from an allowed page that comes after a denied one.
    ∷ delivers held_twice (op 0 0 0 0x03FC 2) 0 0
    ∷ delivers held_twice (op 0 0 0 0x03FC 2) 1 all_ones
    ∷ delivers held_twice (op 0 0 0 0x0BFC 2) 1 all_ones
    ∷ delivers held_twice (op 0 0 0 0x0C00 1) 0 0
    -- The first page is denied: the address is the operation's own.
    ∷ cuts held_twice (op 0 0 0 0x0404 1) 0 0x0404
    ∷ cuts nothing_given (op 0 0 0 0x0008 1024) 0 0x0008
    -- Over the border of the banks.
    ∷ cuts second_bank_closed (op 0 0 0 0x3FF8 4) 2 0x4000
    ∷ cuts second_bank_closed (op 0 0 0 0x3800 768) 512 0x4000
    -- Information pages, by the seed lock and by their setting.
    ∷ cuts seeds_locked (op 0 1 0 0x03F0 16) 4 0x0400
    ∷ cuts seeds_locked (op 0 1 0 0 768) 256 0x0400
    ∷ cuts (first_off seeds_locked) (op 0 1 0 0 768) 0 0
    -- A denied program or erase records its own address, and so does a read that is out of range.
    ∷ records held_twice (op 1 0 0 0x0404 1) 9 0x0404
    ∷ records held_twice (op 2 0 0 0x0BFC 0) 9 0x0BFC
    ∷ records nothing_given (op 3 0 0 0x7FFC 0) 9 0x7FFC
    ∷ records held_twice (op 0 0 0 0x7FFC 2) 7 0x7FFC
    ∷ []

-- ---- valid states, and for each sentence on them one that is not valid (01: 'a state is ours exactly if ..'; 02, L1)

-- So many data pages a bank.
abbrev pub of_pages : ℕ → Controller → Controller
of_pages d c = with_setup c (record { pages = d; inputs = c.setup.inputs; settings = c.setup.settings })

-- So many words in the queues.
abbrev pub queued : ℕ → ℕ → Controller → Controller
queued reads programs c =
    with_queues c
    (record {
      reads = record { words = replicate 16 0; len = reads };
      programs = record { words = replicate 16 0; len = programs };
    })

-- A page erase, a program of three words and a read of two in progress, with so many words moved, and of the read so many readable.
abbrev pub erasing : ℕ → Controller → Controller
erasing moved c = with_progress c (Some (Erase (op 2 0 0 0 0) moved))

abbrev pub programming : ℕ → Controller → Controller
programming moved c = with_progress c (Some (Program (op 1 0 0 0 3) moved))

abbrev pub reading : ℕ → ℕ → Controller → Controller
reading moved readable c = with_progress c (Some (Read (op 0 0 0 0 2) moved readable))

-- The address of the last error, and whether a malformed operation was recorded.
abbrev pub last_error : Bool → ℕ → Controller → Controller
last_error malformed address c =
    with_errors c
    (record { malformed = malformed; range = false; window = false; denied = false; address = record { 0 = address } })

abbrev pub lost : ℕ → Controller → Controller
lost n c = with_physical c (record { lost = 0 ∷ n ∷ [] })

unfoldable pub valid_states : List Controller
valid_states =
    of_pages 10 bench
    ∷ queued 16 0 bench
    ∷ with_phase bench Disabled
    ∷ erasing 255 bench
    ∷ queued 0 2 (programming 1 bench)
    ∷ reading 1 2 bench
    ∷ last_error true 4 bench
    ∷ lost 5 bench
    ∷ []

unfoldable pub invalid_states : List Controller
invalid_states =
    -- D is 10 to 256, and the settings pass 13.
    of_pages 9 bench
    ∷ with_settings bench (with_default bench.setup.settings 8)
    -- Queues hold at most 16 words, and none unless ready.
    ∷ queued 17 0 bench
    ∷ with_phase (queued 1 0 bench) Disabled
    -- An operation is in progress only when ready, has words left to move, and passes 5, 7, 8 and 9.
    ∷ with_phase (erasing 0 bench) Disabled
    ∷ erasing 256 bench
    ∷ erasing 0 nothing_given
    -- A read is there with exactly the number of its true words.
    ∷ reading 0 1 bench
    -- At most n words are pushed in all, and none with no program in progress.
    ∷ queued 0 3 (programming 1 bench)
    ∷ queued 0 1 bench
    ∷ queued 0 1 (erasing 0 bench)
    ∷ queued 0 1 (reading 0 2 bench)
    -- The last address is 0 if no kind is recorded.
    ∷ last_error false 4 bench
    -- A lost count is at most 5.
    ∷ lost 6 bench
    ∷ []
