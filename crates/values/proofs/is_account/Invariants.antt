-- `values::is_account` meets its contract: what is left decides, up to the first that is no character of an account. Assumes nothing.
use mathlib.Core.Path.{◌≡◌}
use lib.ListN.{drop}
use Rattle.line.specs.Runs.{every}
use Rattle.values.specs.Registers.{is_account_character}
use Rattle.values.proofs.is_account.Given as goal

abbrev pub invariant-loop-c : goal.invariant-loop-c
invariant-loop-c l = every is_account_character (drop l.c-index l.s) ≡ every is_account_character l.s
