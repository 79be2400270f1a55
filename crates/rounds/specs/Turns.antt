-- How the sides of a round are answered, and told as numbers, and when they compete. (house)
use Rattle.std.specs.Prelude.{ℕ, ◌≤◌, ◌≡◌, Bool, true, ◌&&◌, List, eqb, get_or, Result}
use Rattle.model.specs.Geometry.{page_of, bank_of}
use Rattle.model.specs.State.{Flash}
use Rattle.model.specs.Refusals.{no_decider, number_of}
use Rattle.model.specs.Rounds.{goes, would_move, next_bank}
use Rattle.model.specs.declared.ByteAddress.{ByteAddress}
use Rattle.model.specs.Refusals.{Answer, accepted}
use Rattle.model.specs.declared.Refusal.{Refusal}
use Rattle.registers.specs.Layout.{pages_at}
use Rattle.registers.specs.Registers.{progress_at, stands_for, decode}
use Rattle.calls.specs.Calls.{answer_of, told_host_word}
use Rattle.calls.specs.declared.Side.{Side}
use Rattle.calls.specs.declared.Side.TheVariants as side
use Rattle.calls.specs.declared.ToldHostWord.{ToldHostWord}
use Rattle.calls.specs.declared.ToldStep.{ToldStep}
use Rattle.calls.specs.declared.ToldHostTurn.{ToldHostTurn}
use Rattle.calls.specs.declared.ToldStepTurn.{ToldStepTurn}
use Rattle.calls.specs.declared.ToldRound.{ToldRound}

-- The answer to a side: accepted where it asked nothing or waits. A step's is never 9, so its number says already which it is.
abbrev pub side_answer : {A : Type 0} → Side (Result A Refusal) → Answer
side_answer side.Unasked = accepted
side_answer side.Waiting = accepted
side_answer (side.Served r) = answer_of r

abbrev pub unserved_host : ℕ → ToldHostTurn
unserved_host turn = record { turn = turn; answer = 0; decider = no_decider; word = 0 }

abbrev pub unserved_step : ℕ → ℕ → ToldStepTurn
unserved_step turn movement = record { turn = turn; answer = 0; movement = movement; bits = 0 }

abbrev pub served_host : ToldHostWord → ToldHostTurn
served_host t = record { turn = 2; answer = t.answer; decider = t.decider; word = t.word }

abbrev pub served_step : ToldStep → ToldStepTurn
served_step t = record { turn = 2; answer = t.answer; movement = t.movement; bits = t.bits }

-- Both sides, if checks 1 to 3 refuse them.
abbrev pub refused_both : Answer → ToldRound
refused_both a = record { host = served_host (told_host_word a 0); step = served_step (record { answer = number_of a; movement = 0; bits = 0 }) }

-- Host and step both wait in a bank, of registers that have passed checks 1 to 3.
abbrev pub contends : List ℕ → ByteAddress → Bool
contends s a = goes (stands_for s).queues (progress_at s) && eqb (bank_of (get_or s pages_at 0) (page_of a)) (next_bank (decode s))

-- A step of the registers would move a word, with some flash lent.
pub record Going (s : List ℕ) : Type 0 where
  pub lent : Flash
  pub moves : would_move (decode s) lent ≡ true

-- It would, with this flash, in this bank.
pub record Contested (s : List ℕ) (f : Flash) (bank : ℕ) : Type 0 where
  pub moves : would_move (decode s) f ≡ true
  pub same : bank ≡ next_bank (decode s)
  pub small : bank ≤ 1
