-- Document 01, "Receiving": what a character does in each mode. A damaged one is taken as 0, which is neither '/', SOH, ETX nor LF.
use Rattle.std.specs.Prelude.{cond, not, ◌&&◌, ℕ, eqb, leb}
use Rattle.state.specs.Sizes.{most_held}
use Rattle.receiving.specs.declared.Hearing.{Hearing}
use Rattle.receiving.specs.declared.Hearing.TheVariants.{Drop, Hold, Restart, Empty, Line, Confirm, Frame, TooLong}

-- mode 0: '/' always restarts; others are dropped while empty; LF ends the line; a 32nd that is neither empties the receiver
unfoldable pub listening : ℕ → ℕ → Hearing
listening count c = cond (eqb c 47) Restart (cond (eqb count 0) Drop (cond (eqb c 10) Line (cond (leb 31 count) Empty Hold)))

-- mode 1: six characters are collected, whatever the first
unfoldable pub confirming : ℕ → Hearing
confirming count = cond (leb 5 count) Confirm Hold

-- modes 2 to 4: after ETX comes the BCC, whatever it is; otherwise SOH restarts, others are dropped while empty, and a 64th is too many
unfoldable pub framing : ℕ → ℕ → ℕ → Hearing
framing count last c =
    cond (not (eqb count 0) && eqb last 3) Frame (cond (eqb c 1) Restart (cond (eqb count 0) Drop (cond (leb most_held count) TooLong Hold)))

unfoldable pub hearing : ℕ → ℕ → ℕ → ℕ → Hearing
hearing mode count last c = cond (eqb mode 0) (listening count c) (cond (eqb mode 1) (confirming count) (framing count last c))
