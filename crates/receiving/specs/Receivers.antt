-- Document 01, "Receiving": the receiver after a character.
use Rattle.std.specs.Prelude.{Bool, cond, List, ℕ, ◌+◌, ◌-◌, get_or, set, take, eqb}
use Rattle.state.specs.declared.Receiver.{Receiver}
use Rattle.state.specs.Making.{empty_receiver}
use Rattle.state.specs.Setting.{with_held, with_mark}
use Rattle.receiving.specs.declared.Holding.{Holding}
use Rattle.receiving.specs.declared.Holding.TheVariants.{Same, More, Anew}

-- what is held
abbrev pub held_text : Receiver → List ℕ
held_text r = take r.count r.held

abbrev pub last_held : Receiver → ℕ
last_held r = get_or r.held (r.count - 1) 0

-- [2]: the place of the first damaged character, counted from the first held one at 0: the mark's, or where this one is damaged its own, behind the last held one
abbrev pub hurt_at : ℕ → ℕ → ℕ → Bool → ℕ
hurt_at count mark place damaged = cond (eqb mark 1) place (cond damaged count 0)

abbrev pub hurt_place : Receiver → Bool → ℕ
hurt_place r damaged = hurt_at r.count r.mark r.place damaged

-- one more; a damaged one sets the mark
abbrev pub kept_receiver : Receiver → ℕ → Bool → Receiver
kept_receiver r c damaged = with_mark (with_held r (set r.held r.count c) (r.count + 1)) (cond damaged 1 r.mark) (hurt_place r damaged)

-- this one alone, and no mark
abbrev pub restarted_receiver : ℕ → Receiver
restarted_receiver c = with_held empty_receiver (set empty_receiver.held 0 c) 1

-- the places after a character, as `Holding` says it: as they are, one more at a place, or this one alone
unfoldable pub held_after : Holding → List ℕ → List ℕ
held_after Same held = held
held_after (More at c) held = set held at c
held_after (Anew c) held = set empty_receiver.held 0 c
