-- Histories whose telling can be seen by looking at them.
use Rattle.std.specs.Prelude.{◌≡◌, List, [], ◌∷◌, ◌++◌, ℕ, take, drop, set, replicate}
use Rattle.line.specs.Quoted.{char, chars}
use Rattle.line.specs.Controls.{SOH, STX, ETX}
use Rattle.line.specs.Characters.{sent}
use Rattle.frames.specs.Frames.{frame_of, bare_frame, on_wire}
use Rattle.frames.specs.Commands.{B0, P1, R1, W1, ask_account, ask_export, set_account, set_table}
use Rattle.frames.specs.Session.{sign_on, wired_sign_on, confirmation, enter_data, password_data}
use Rattle.state.specs.Sizes.{reply_room}
use Rattle.state.specs.Making.{facts_of}
use Rattle.state.specs.declared.Facts.{Facts}
use Rattle.meter.specs.declared.Event.{Event}
use Rattle.meter.specs.declared.Event.TheVariants.{Character, Silence, Tick, Pulse, PowerUp, PulseOut}
use Rattle.history.specs.Frames.{Write, account, row}
use Rattle.history.specs.Past.{past_of}
use Rattle.history.specs.Deeds.{energy_out, deeds, writes_of}

abbrev pub ours : Facts
ours = facts_of (chars "1234567890") (chars "20304050") 1 1 0

-- the same on the wired link
abbrev pub on_the_wire : Facts
on_the_wire = facts_of (chars "1234567890") (chars "20304050") 1 2 0

-- an EQM meter there
abbrev pub eqm_there : Facts
eqm_there = facts_of (chars "1234567890") (chars "20304050") 1 2 3

-- the same of edition 2
abbrev pub later : Facts
later = facts_of (chars "1234567890") (chars "20304050") 2 1 0

-- bytes, each with room for a reply
unfoldable pub spoken : List ℕ → List (ℕ × Event)
spoken [] = []
spoken (b ∷ bs) = (reply_room, Character b) ∷ spoken bs

-- the writes told, the newest first
abbrev pub tells_us : List (ℕ × Event) → List Write
tells_us es = writes_of (deeds ours (past_of 0 [] es))

abbrev pub tells_there : List (ℕ × Event) → List Write
tells_there es = writes_of (deeds on_the_wire (past_of 0 [] es))

abbrev pub tells_later : List (ℕ × Event) → List Write
tells_later es = writes_of (deeds later (past_of 0 [] es))

abbrev pub tells_eqm : List (ℕ × Event) → List Write
tells_eqm es = writes_of (deeds eqm_there (past_of 3 [] es))

-- sign-on, confirmation and the right password; the same with (), and with a password that is wrong
abbrev pub opening : List ℕ → List ℕ
opening entry = on_wire (sign_on ++ confirmation (char "5") (char "1") ++ frame_of P1 entry)

abbrev pub programming : List ℕ
programming = opening (password_data (chars "20304050"))

abbrev pub read_only : List ℕ
read_only = opening enter_data

abbrev pub failing : List ℕ
failing = opening (password_data (chars "20304051"))

-- the wired link's sign-on and the right password
abbrev pub programming_there : List ℕ
programming_there = on_wire (wired_sign_on (chars "1234567890") ++ confirmation (char "5") (char "1") ++ frame_of P1 (password_data (chars "20304050")))

-- a write of the account, 19 bytes, and of a table, 36
abbrev pub new_account : List ℕ
new_account = chars "somebody__"

abbrev pub account_write : List ℕ
account_write = on_wire (frame_of W1 (set_account new_account))

abbrev pub ones_write : ℕ → List ℕ
ones_write n = on_wire (frame_of W1 (set_table n (replicate 24 (char "1"))))

abbrev pub ones : ℕ → Write
ones n = row n (replicate 24 (char "1"))

-- what an exporter sends that copies a row as it stands, of a post that hides a second command in a row; with this BCC behind the command
abbrev pub crafted : ℕ → List ℕ
crafted bcc =
    on_wire (frame_of W1 (chars "Z(02;1111)" ++ ETX ∷ 6 ∷ SOH ∷ chars "W1" ++ STX ∷ chars "K(somebody__)" ++ ETX ∷ bcc ∷ chars ")"))

pub record Examples : Type 0 where
  -- told while programming mode stands; not to who may only read, to nobody, or after B0
  pub programmed : tells_us (spoken (programming ++ account_write)) ≡ account new_account ∷ []
  pub only-read : tells_us (spoken (read_only ++ account_write)) ≡ []
  pub not-signed-on : tells_us (spoken account_write) ≡ []
  pub left : tells_us (spoken (programming ++ on_wire (bare_frame B0) ++ account_write)) ≡ []
  -- the crafted post of examples/ has a wrong BCC there; with the right one the history does tell an account, and the row is told in neither
  pub crafted-post : tells_us (spoken (programming ++ crafted 0x15)) ≡ []
  pub crafted-well : tells_us (spoken (programming ++ crafted 0x29)) ≡ account new_account ∷ []
  -- a good frame behind damaged bytes, and behind a frame that one of its bytes spoils
  pub behind-noise : tells_us (spoken (programming ++ 0x01 ∷ 0x57 ∷ 0x4B ∷ account_write)) ≡ account new_account ∷ []
  pub behind-spoilt : tells_us (spoken (programming ++ set (ones_write 1) 12 0x31 ++ account_write)) ≡ account new_account ∷ []
  -- a BCC that is not the frame's
  pub wrong-bcc : tells_us (spoken (programming ++ set account_write 18 (sent 0x14))) ≡ []
  -- a BCC that is SOH, or ETX: the next frame is one of its own, and without its SOH none
  pub bcc-soh : tells_us (spoken (programming ++ ones_write 6 ++ ones_write 4 ++ account_write)) ≡ account new_account ∷ ones 4 ∷ ones 6 ∷ []
  pub bcc-starts-nothing : tells_us (spoken (programming ++ ones_write 6 ++ drop 1 account_write)) ≡ ones 6 ∷ []
  -- a frame cut by a restart, by silence, by power-up
  pub restarted : tells_us (spoken (programming ++ take 12 (ones_write 1) ++ account_write)) ≡ account new_account ∷ []
  pub cut-by-silence : tells_us (spoken (programming ++ take 12 account_write) ++ (reply_room, Silence) ∷ spoken (drop 12 account_write)) ≡ []
  pub cut-by-power-up : tells_us (spoken (programming ++ take 12 account_write) ++ (0, PowerUp) ∷ spoken (drop 12 account_write)) ≡ []
  -- a second and a pulse cut nothing; a byte without room for a reply was not said
  pub not-cut : tells_us (spoken (programming ++ take 12 account_write) ++ (0, Tick) ∷ (0, Pulse 5) ∷ spoken (drop 12 account_write)) ≡ account new_account ∷ []
  pub no_room : tells_us (spoken (programming ++ take 12 account_write) ++ (4095, Character 0xFF) ∷ spoken (drop 12 account_write)) ≡ account new_account ∷ []
  -- three failed passwords lock, until the power comes back
  pub locked : tells_us (spoken (failing ++ failing ++ failing ++ programming ++ account_write)) ≡ []
  pub unlocked : tells_us (spoken (failing ++ failing ++ failing) ++ (0, PowerUp) ∷ spoken (programming ++ account_write)) ≡ account new_account ∷ []
  -- the wired link: its own sign-on, and a session that ends at the first frame that is refused, and not at a question
  pub wired : tells_there (spoken (programming_there ++ account_write)) ≡ account new_account ∷ []
  pub wired-deaf : tells_there (spoken (programming ++ account_write)) ≡ []
  pub wired-dropped : tells_there (spoken (programming_there ++ set (ones_write 1) 12 0x31 ++ account_write)) ≡ []
  pub wired-asked : tells_there (spoken (programming_there ++ on_wire (frame_of R1 ask_account) ++ account_write)) ≡ account new_account ∷ []
  -- what went out is a question to an EQM meter alone, and so is a pulse out one that happened
  pub asked-out : tells_eqm (spoken (programming_there ++ on_wire (frame_of R1 (ask_export 4)) ++ account_write)) ≡ account new_account ∷ []
  pub no-out : tells_there (spoken (programming_there ++ on_wire (frame_of R1 (ask_export 4)) ++ account_write)) ≡ []
  pub pulse-out : deeds eqm_there (past_of 3 [] ((0, PulseOut 5) ∷ [])) ≡ energy_out 5 ∷ []
  pub no-pulse-out : deeds ours (past_of 0 [] ((0, PulseOut 5) ∷ [])) ≡ []
  -- table 25 is told to edition 2 alone
  pub saturday : tells_later (spoken (programming ++ ones_write 25)) ≡ ones 25 ∷ []
  pub no-saturday : tells_us (spoken (programming ++ ones_write 25)) ≡ []
