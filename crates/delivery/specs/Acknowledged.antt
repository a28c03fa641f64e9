-- Demand 3: what a meter answers to the bytes of a post's frames, and the tables that they leave.
use Rattle.std.specs.Prelude.{cond, List, [], ◌∷◌, ◌++◌, ℕ, ◌+◌, eqb, replicate}
use Rattle.state.specs.declared.Meter.{Meter}
use Rattle.post.specs.Grammar.{Entry}
use Rattle.state.specs.Setting.{with_registers, with_tables, with_row}
use Rattle.replies.specs.Fixed.{accepted}
use Rattle.meter.specs.Link.{refused_reply}
use Rattle.dialogue.specs.Feeding.{Said}

-- how many are answered 1
unfoldable pub is_done : ℕ → ℕ
is_done number = cond (eqb number 1) 1 0

unfoldable pub acknowledgements : List Said → ℕ
acknowledgements [] = 0
acknowledgements (s ∷ ss) = is_done s.number + acknowledgements ss

-- taken, nothing to say, at the session's speed
abbrev pub nothing : ℕ → Said
nothing speed = record { number = 0; speed = speed; reply = []; place = 0 }

-- answer 1 and ACK, at the session's speed
abbrev pub acknowledgement : ℕ → Said
acknowledgement speed = record { number = 1; speed = speed; reply = accepted; place = 0 }

-- [3]: answer 9, and what the link replies to a refusal
abbrev pub refusal : ℕ → ℕ → Said
refusal link speed = record { number = 9; speed = speed; reply = refused_reply link; place = 0 }

-- a frame of 36 bytes: nothing at each but the last, which is acknowledged
unfoldable pub acknowledged_once : ℕ → List Entry → List Said
acknowledged_once speed [] = []
acknowledged_once speed (e ∷ es) = (replicate 35 (nothing speed) ++ (acknowledgement speed ∷ [])) ++ acknowledged_once speed es

-- the tables with each entry's row put in its place
unfoldable pub rows_after : List ℕ → List Entry → List ℕ
rows_after rows [] = rows
rows_after rows (e ∷ es) = rows_after (with_row rows e.number e.row) es

-- only the tables change
abbrev pub delivered_to : Meter → List Entry → Meter
delivered_to m es = with_registers m (with_tables m.registers (rows_after m.registers.tables es))
