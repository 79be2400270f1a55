-- The two calls on registers: what each tells and leaves. (02, L11)
use Rattle.std.specs.Prelude.{ℕ, cond, List, [], ◌∷◌, eqb, length, Option, None, Some, Result, Ok, Err}
use Rattle.model.specs.State.{Flash}
use Rattle.registers.specs.Registers.{setup_of, decode}
use Rattle.calls.specs.Calls.{LeftFlash}
use Rattle.scan_queue.specs.Slots.{Entry, places, queue}
use Rattle.scan_queue.specs.declared.ScanRefusal.{ScanRefusal}
use Rattle.scan_queue.specs.Decisions.{Decision, refusal_number, refusal_of, write, taking}
use Rattle.scan_plans.specs.Plans.{padded}
use Rattle.scan_pages.specs.Pages.{page_word, lower, higher, pages_answer}
use Rattle.scans.specs.Jobs.{jobs, jobs_in}
use Rattle.scans.specs.declared.ToldWrite.{ToldWrite}
use Rattle.scans.specs.declared.ToldScan.{ToldScan}

-- ---- a write

-- 1 if the power was cut, else 0.
abbrev pub cut_of : Option ℕ → ℕ
cut_of None = 1
cut_of (Some left) = 0

-- By what a write came to: the refusal, or what its operations left.
abbrev pub told_write : Result (Option ℕ) ScanRefusal → ToldWrite
told_write (Ok left) = record { answer = 0; cut = cut_of left }
told_write (Err r) = record { answer = refusal_number r; cut = 0 }

abbrev pub write_told : ℕ → LeftFlash (Option ℕ) → LeftFlash ToldWrite
write_told answer l = record {
  told = record { answer = answer; cut = cut_of l.told };
  registers = l.registers;
  flash = l.flash;
}

-- A refusal changes nothing.
abbrev pub write_refused : ℕ → List ℕ → Flash → LeftFlash ToldWrite
write_refused answer s f = record { told = record { answer = answer; cut = 0 }; registers = s; flash = f }

unfoldable pub write_done : ℕ → List ℕ → Flash → Decision → LeftFlash ToldWrite
write_done steps s f d = write_told (refusal_of d) (jobs_in steps s f (jobs (setup_of s).pages d))

-- What is written, by the words of the two pages.
abbrev pub writing : List ℕ → Flash → ℕ → ℕ → List ℕ → Decision
writing s f a b bytes =
    write f.words (page_word (setup_of s).pages (lower a b)) (page_word (setup_of s).pages (higher a b)) bytes

unfoldable pub write_in : ℕ → List ℕ → Flash → ℕ → ℕ → List ℕ → LeftFlash ToldWrite
write_in steps s f a b bytes =
    cond (eqb (pages_answer (decode s) f a b) 0)
    (write_done steps s f (writing s f a b bytes))
    (write_refused (pages_answer (decode s) f a b) s f)

-- ---- a take

-- 'By value (serial, length, 48 bytes, 0 where unused or refused)'.
abbrev pub no_scan : ℕ → ℕ → ToldScan
no_scan answer cut = record { answer = answer; cut = cut; serial = 0; length = 0; bytes = padded [] }

abbrev pub scan_told : ℕ → List ℕ → ToldScan
scan_told serial bytes = record { answer = 0; cut = 0; serial = serial; length = length bytes; bytes = padded bytes }

abbrev pub scan_of : Entry → ToldScan
scan_of e = scan_told e.scan.serial e.scan.bytes

-- By what a take came to: the refusal, or the scan that it hands out.
abbrev pub told_scan : Result (Option ToldScan) ScanRefusal → ToldScan
told_scan (Ok (Some t)) = t
told_scan (Ok None) = no_scan 0 1
told_scan (Err r) = no_scan (refusal_number r) 0

-- A take whose power is cut hands out nothing.
abbrev pub unless_cut : ToldScan → Option ℕ → ToldScan
unless_cut t None = no_scan 0 1
unless_cut t (Some left) = t

abbrev pub mark_told : ToldScan → LeftFlash (Option ℕ) → LeftFlash ToldScan
mark_told t l = record {
  told = unless_cut t l.told;
  registers = l.registers;
  flash = l.flash;
}

unfoldable pub take_done : ℕ → List ℕ → Flash → List Entry → LeftFlash ToldScan
take_done steps s f [] = record { told = no_scan 19 0; registers = s; flash = f }
take_done steps s f (e ∷ l) = mark_told (scan_of e) (jobs_in steps s f (jobs (setup_of s).pages (taking (e ∷ l))))

abbrev pub waiting : List ℕ → Flash → ℕ → ℕ → List Entry
waiting s f a b =
    queue f.words (places (page_word (setup_of s).pages (lower a b)) (page_word (setup_of s).pages (higher a b)))

unfoldable pub take_in : ℕ → List ℕ → Flash → ℕ → ℕ → LeftFlash ToldScan
take_in steps s f a b =
    cond (eqb (pages_answer (decode s) f a b) 0)
    (take_done steps s f (waiting s f a b))
    (record { told = no_scan (pages_answer (decode s) f a b) 0; registers = s; flash = f })
