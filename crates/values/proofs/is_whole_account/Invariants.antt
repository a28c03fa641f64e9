-- `values::is_whole_account` meets its contract: the flag, with what is left, says it of the whole. Assumes nothing.
use mathlib.Core.Path.{◌≡◌}
use mathlib.Core.Bool.{◌&&◌}
use lib.ListN.{drop}
use Rattle.line.specs.Runs.{every}
use Rattle.values.specs.Registers.{is_account_character}
use Rattle.values.proofs.is_whole_account.Given as goal

abbrev pub invariant-loop-c : goal.invariant-loop-c
invariant-loop-c l = (l.ok && every is_account_character (drop l.c-index l.s)) ≡ every is_account_character l.s
