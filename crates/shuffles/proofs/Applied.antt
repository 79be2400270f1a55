-- Demand 3 is no empty promise: two lists that both change pages, with a page that both read and a refused operation. The second
-- has a read over three pages that is denied on the second page, so that it reads the first alone: the first list programs the
-- other two. The read gives the same alone as in a shuffle, and two shuffles of the lists have other last error addresses. The
-- lists are not apart once the first one erases the page that is read.
use Rattle.std.specs.Prelude.{Err}
use Prim.Native.Nat.{ℕ}
use mathlib.Core.Path.{◌≡◌, refl, sym, ap, ◌∙◌}
use mathlib.Core.Bool.{Bool, true, false, false≢true}
use mathlib.Core.List.{List, [], ◌∷◌, ◌++◌}
use lib.ListN.{length, drop, replicate}
use Rattle.model.specs.Geometry.{image_page, word_at}
use Rattle.model.specs.Words.{all_ones, programmed}
use Rattle.model.specs.Places.{total_words, place_of}
use Rattle.model.specs.Queue.{queue_of}
use Rattle.model.specs.State.{Flash, stored, with_word, flash_fits, reset_controller}
use Rattle.model.specs.Refusals.{no_decider, accepts}
use Rattle.model.specs.Rights.{data_ruling, ruling_at, leading, allowed_words, denied, decider_of, readable_words}
use Rattle.model.specs.Checks.{malformed, out_of_range, crosses_window, operation_answer}
use Rattle.model.specs.Valid.{settings_fit, running_fits, physical_fits, valid, valid_with}
use Rattle.model.specs.Errors.{recorded, error_address}
use Rattle.model.specs.Settings.{configured, set_default, set_region}
use Rattle.model.specs.Lifecycle.{reset, initialise_answer, initialise}
use Rattle.model.specs.Steps.{delivered, read_word}
use Rattle.model.specs.Whole.{whole_answer}
use Rattle.model.specs.Bench.{blank, ready, region, op}
use Rattle.model.specs.declared.ImagePage.{ImagePage}
use Rattle.model.specs.declared.BusWord.{BusWord}
use Rattle.model.specs.declared.Errors.{Errors}
use Rattle.model.specs.declared.Refusal.TheVariants.{Malformed, Denied}
use Rattle.model.specs.declared.Decider.TheVariants.{Region}
use Rattle.plans.specs.Plan.{Recorded, Reads, places_of, plan_of, delivered_at, performed}
use Rattle.shuffles.specs.Shuffle.{Job, State, Given, after, given, end_of, Shuffle, done, left, right, has_one, reads_page, changes_page, touches_page, plan_at, along, changes, Apart, Commutes}
use Rattle.shuffles.proofs.Views.{kinds_by}
use Rattle.shuffles.proofs.Commute.{some, here_end}
use Rattle.shuffles.proofs.Demand3.{Like, like_itself, leaves_at, after_is, given_is, stays, plan_like, laws, demand3, all_alike}
use Rattle.shuffles.proofs.Decided.{along_start, spared, apart_test, apart_by, errors_by, errors_end}

-- Reset with D = 10, all rights by default but only program on page 1, by region 3, initialised; an erased image of 11,776 words,
-- but 7 in the last word of page 0.
abbrev last_of_page0 : BusWord
last_of_page0 = record { 0 = 255 }

abbrev start : State
start = record {
  controller =
      ready 11776
      (set_region (set_default (reset (reset_controller 0) 10).controller 7).controller 3 (region true 1 1 2)).controller;
  flash = with_word (blank 11776) last_of_page0 7;
}

-- A program of two words of page 1, one of a word of page 2, a read of page 3, and an operation of no kind at address 8.
abbrev programs : Job
programs = record { operation = op 1 0 0 0x400 2; buffer = 0x12345678 ∷ 5 ∷ [] }

abbrev programs_next : Job
programs_next = record { operation = op 1 0 0 0x800 1; buffer = 6 ∷ [] }

abbrev reads : Job
reads = record { operation = op 0 0 0 0xC00 1; buffer = 0 ∷ [] }

abbrev nonsense : Job
nonsense = record { operation = op 9 0 0 8 1; buffer = [] }

abbrev xs : List Job
xs = programs ∷ programs_next ∷ reads ∷ nonsense ∷ []

-- An erase of page 4, the read of page 3, and a read from page 0's last word to page 2's first, denied on page 1.
abbrev erases : Job
erases = record { operation = op 2 0 0 0x1000 0; buffer = [] }

abbrev cut : Job
cut = record { operation = op 0 0 0 0x3FC 258; buffer = replicate 258 0 }

abbrev ys : List Job
ys = erases ∷ reads ∷ cut ∷ []

-- Two shuffles: one ends with the operation of no kind, the other with the denied read.
abbrev one_way : List Bool
one_way = true ∷ false ∷ true ∷ true ∷ false ∷ false ∷ true ∷ []

abbrev one : List Job
one = programs ∷ erases ∷ programs_next ∷ reads ∷ reads ∷ cut ∷ nonsense ∷ []

abbrev other_way : List Bool
other_way = false ∷ true ∷ true ∷ true ∷ true ∷ false ∷ false ∷ []

abbrev other : List Job
other = erases ∷ programs ∷ programs_next ∷ reads ∷ nonsense ∷ reads ∷ cut ∷ []

-- What comes before the denied read, in its own list and in the other shuffle.
abbrev before : List Job
before = erases ∷ reads ∷ []

abbrev other_before : List Job
other_before = erases ∷ programs ∷ programs_next ∷ reads ∷ nonsense ∷ reads ∷ []

-- The first list with an erase of page 0.
abbrev erasing : List Job
erasing = record { operation = op 2 0 0 0 0; buffer = [] } ∷ xs

-- Page q of the image.
abbrev page : ℕ → ImagePage
page q = record { 0 = q }

-- The denied read reads the first of its three pages alone.
abbrev CutReads : Type 0
CutReads =
    (reads_page (plan_at start cut) (page 0) ≡ true)
    × (reads_page (plan_at start cut) (page 1) ≡ false)
    × (reads_page (plan_at start cut) (page 2) ≡ false)

-- Pages 1 and 2 have words of it all the same.
abbrev Spans : Type 0
Spans = (has_one (places_of 10 cut.operation) (page 1) ≡ true) × (has_one (places_of 10 cut.operation) (page 2) ≡ true)

-- What is computed of them: by their plans at the start they keep apart, and do to their pages and to the record what was said.
record Computed : Type 0 where
  begins : accepts (whole_answer start.controller start.flash) ≡ true
  refused : plan_at start nonsense ≡ Recorded (Err Malformed)
  denied_read : plan_at start cut ≡ Reads (Err (Denied (Region 3))) 1 (places_of 10 cut.operation)
  cut_buffer : (f : Flash) → (delivered_at f 1 0 (places_of 10 cut.operation) ++ drop (length (places_of 10 cut.operation)) cut.buffer)
      ≡ stored f last_of_page0 ∷ replicate 257 all_ones
  before_spares : some (plan_at start) changes_page before (page 0) ≡ false
  other_spares : some (plan_at start) changes_page other_before (page 0) ≡ false
  apart : apart_test start xs ys ≡ true
  programs_word : stored (leaves_at start programs).flash (record { 0 = 256 }) ≡ 0x12345678
  others_spare : some (plan_at start) changes_page (erases ∷ programs_next ∷ reads ∷ reads ∷ cut ∷ nonsense ∷ []) (page 1) ≡ false
  spans : Spans
  first_changes : (some (plan_at start) changes_page xs (page 1) ≡ true) × (some (plan_at start) changes_page xs (page 2) ≡ true)
  second_changes : some (plan_at start) changes_page ys (page 4) ≡ true
  first_reads : some (plan_at start) reads_page xs (page 3) ≡ true
  second_reads : some (plan_at start) reads_page ys (page 3) ≡ true
  cut_reads_lem : CutReads
  erasing_changes : some (plan_at start) changes_page erasing (page 0) ≡ true
  second_touches : some (plan_at start) touches_page ys (page 0) ≡ true
  one_last : (errors_by start one start.controller.errors).address.0 ≡ 8
  other_last : (errors_by start other start.controller.errors).address.0 ≡ 0x400

-- By computation.
computed : Computed
unfolding programmed performed image_page word_at total_words place_of queue_of data_ruling ruling_at leading allowed_words denied decider_of readable_words malformed out_of_range crosses_window operation_answer settings_fit running_fits physical_fits valid flash_fits valid_with recorded error_address set_default configured set_region reset initialise_answer initialise delivered read_word whole_answer places_of plan_of
computed = record {
  begins = refl;
  refused = refl;
  denied_read = refl;
  cut_buffer = λ f. refl;
  before_spares = refl;
  other_spares = refl;
  apart = refl;
  programs_word = refl;
  others_spare = refl;
  spans = (refl, refl);
  first_changes = (refl, refl);
  second_changes = refl;
  first_reads = refl;
  second_reads = refl;
  cut_reads_lem = (refl, refl, refl);
  erasing_changes = refl;
  second_touches = refl;
  one_last = refl;
  other_last = refl;
}

-- What the denied read gives.
abbrev cut_given : Given
cut_given = record { answer = 9; decider = 3; words = 7 ∷ replicate 257 all_ones; bits = 0 }

-- So of the lists and the shuffles themselves:
pub record Applied : Type 0 where
  -- checks 1 to 4 pass at the start: valid, ready, nothing in progress, empty queues;
  pub begins : accepts (whole_answer start.controller start.flash) ≡ true
  -- the first list has an operation that is refused with 5, the second a read, which region 3 denies;
  pub refused : given start nonsense ≡ record { answer = 5; decider = no_decider; words = []; bits = 0 }
  pub cut_alone : given (end_of start before) cut ≡ cut_given
  -- both lists change a page, and both read page 3;
  pub first_changes : (changes start xs (page 1) ≡ true) × (changes start xs (page 2) ≡ true)
  pub second_changes : changes start ys (page 4) ≡ true
  pub first_reads : along reads_page start xs (page 3) ≡ true
  pub second_reads : along reads_page start ys (page 3) ≡ true
  -- pages 1 and 2, which the first changes, have words of the denied read, which yet reads page 0 alone:
  pub spans : Spans
  pub cut_reads_lem : CutReads
  -- no page that one changes is touched by the other,
  pub apart : Apart start xs ys
  -- so demand 3 says what both shuffles leave,
  pub one_commutes : Commutes start one_way xs ys one
  pub other_commutes : Commutes start other_way xs ys other
  pub alike : (end_of start one).flash ≡ (end_of start other).flash
  -- the denied read gives in the shuffle what it gives alone, and so reports the same,
  pub cut_shuffled : given (end_of start other_before) cut ≡ cut_given
  -- the word that was programmed first is there at the end,
  pub landed : stored (end_of start one).flash (record { 0 = 256 }) ≡ 0x12345678
  -- and the addresses of their last errors differ: the denied read's is that of its first denied word.
  pub one_last : (end_of start one).controller.errors.address.0 ≡ 8
  pub other_last : (end_of start other).controller.errors.address.0 ≡ 0x400
  -- With an erase of page 0, which the denied read does read, the lists are not apart.
  pub not_apart : Apart start erasing ys → ⊥

-- By the law that plans do not change.
pub applied : Applied
unfolding performed
applied = record {
  begins = computed.begins;
  refused = given_is start nonsense ∙ rw computed.refused;
  cut_alone = cut_after before computed.before_spares;
  first_changes = (
    along_start start changes_page xs (page 1) ∙ computed.first_changes.0,
    along_start start changes_page xs (page 2) ∙ computed.first_changes.1,
  );
  second_changes = along_start start changes_page ys (page 4) ∙ computed.second_changes;
  first_reads = along_start start reads_page xs (page 3) ∙ computed.first_reads;
  second_reads = along_start start reads_page ys (page 3) ∙ computed.second_reads;
  spans = computed.spans;
  cut_reads_lem = computed.cut_reads_lem;
  apart = apart;
  one_commutes = demand3 start one_way xs ys one apart one_way_shuffles;
  other_commutes = demand3 start other_way xs ys other apart other_way_shuffles;
  alike = (all_alike start one_way other_way xs ys one other apart one_way_shuffles other_way_shuffles).0;
  cut_shuffled = cut_after other_before computed.other_spares;
  landed = landed;
  one_last = last one ∙ computed.one_last;
  other_last = last other ∙ computed.other_last;
  not_apart = λ apart.
      let clear = apart.first (page 0) (along_start start changes_page erasing (page 0) ∙ computed.erasing_changes) in
      false≢true (sym clear ∙ along_start start touches_page ys (page 0) ∙ computed.second_touches);
}
  where
    apart : Apart start xs ys
    apart = apart_by start xs ys computed.apart

    one_way_shuffles : Shuffle one_way xs ys one
    one_way_shuffles = left (right (left (left (right (right (left done))))))

    other_way_shuffles : Shuffle other_way xs ys other
    other_way_shuffles = right (left (left (left (left (right (right done))))))

    cut_after : (js : List Job) → some (plan_at start) changes_page js (page 0) ≡ false → given (end_of start js) cut ≡ cut_given
    cut_after js spare =
        let s : State = end_of start js in
        let like : Like start s = here_end (Like start) 11776 (plan_at start) kinds_by (laws start) start js (like_itself start) in
        let kept : stored s.flash last_of_page0 ≡ 7 = spared start start js (like_itself start) last_of_page0 spare in
        given_is s cut ∙ rw (plan_like start s cut like, computed.denied_read, computed.cut_buffer s.flash, kept)

    landed : stored (end_of start one).flash (record { 0 = 256 }) ≡ 0x12345678
    landed =
        spared start (after start programs) (erases ∷ programs_next ∷ reads ∷ reads ∷ cut ∷ nonsense ∷ [])
        (stays start start programs (like_itself start)) (record { 0 = 256 }) computed.others_spare
        ∙ ap (λ (s : State). stored s.flash (record { 0 = 256 })) (after_is start programs) ∙ computed.programs_word

    last : (js : List Job) → (end_of start js).controller.errors.address.0 ≡ (errors_by start js start.controller.errors).address.0
    last js = ap (λ (e : Errors). e.address.0) (errors_end start start js (like_itself start))
