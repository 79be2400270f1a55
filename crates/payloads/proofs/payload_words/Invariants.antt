-- The first i words are laid.
use Rattle.std.proofs.Common.{◌≡◌, length, take}
use Rattle.scan_queue.specs.Payload.{words_of}
use Rattle.payloads.proofs.payload_words.Given as goal

abbrev pub invariant-loop-i : goal.invariant-loop-i
invariant-loop-i l = record { size : length l.word-items ≡ 14; front : take l.i l.word-items ≡ take l.i (words_of l.laid) }
