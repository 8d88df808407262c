use Rattle.std.proofs.Common.{◌≡◌, length, drop, vec_items}
use Rattle.script.specs.Commands.{each}
use Rattle.script.specs.Fields.{words_of}
use Rattle.script.proofs.Limits.{front}
use Rattle.script.proofs.bank.each.Given as goal

abbrev pub invariant-loop-word : goal.invariant-loop-word
invariant-loop-word l = each (words_of l.text) ≡ front (vec_items l.all) (each (drop (length l.yielded) (words_of l.text)))
