-- A meter that hears characters: what opens a line, a confirmation or a frame, and that those of the right kind are then held one after
-- the other. Said once, over the mode and what opens it there (`Rule`). Assumes nothing.
use mathlib.Core.Path.{◌≡◌, refl, sym, ap, ap₂, ◌∙◌}
use mathlib.Core.Bool.{Bool, true, false, cond, ◌&&◌}
use mathlib.Core.List.{List, [], ◌∷◌, ◌++◌, map, append_assoc, append-nil}
use Prim.Native.Nat.{ℕ, zero, suc, ◌+◌, ◌-◌, ◌≤◌, ◌<◌}
use native.Mathlib.Omega.{arith}
use borrow.Author.Tests.{leb-true, le-leb, eqb-true}
use lib.Dec.{eqb, leb, lit≤, eqb-suc-zero}
use lib.ListN.{length, get_or, drop, set, replicate, length-append, length-replicate}
use lib.Seq.{set-append_seam, take-append_seam, drop-append_seam}
use Rattle.line.specs.Characters.{sent}
use Rattle.line.specs.Runs.{every}
use Rattle.line.proofs.Parity.{sent-comes-back, sent-undamaged}
use Rattle.line.proofs.Runs.{and_left, and_right, and_both, every_append, every-weaker}
use Rattle.text.specs.Classes.{between}
use Rattle.state.specs.Sizes.{reply_room, most_held, held_places}
use Rattle.state.specs.declared.Receiver.{Receiver}
use Rattle.state.specs.declared.Registers.{Registers}
use Rattle.state.specs.declared.Meter.{Meter}
use Rattle.state.specs.WellFormed.{limit, first_good, mark_good, hurt_good, held_good, receiver_good, speed_good, registers_good, well_formed}
use Rattle.state.specs.Making.{empty_receiver}
use Rattle.state.specs.Link.{rest_speed}
use Rattle.state.specs.Setting.{meter_in, with_held, with_mark, with_receiver}
use Rattle.state.proofs.Parts.{formed, well-formed, formed-receiver, receiver-good, held-long, edition-good}
use Rattle.receiving.specs.declared.Hearing.{Hearing}
use Rattle.receiving.specs.declared.Hearing.TheVariants.{Hold}
use Rattle.receiving.specs.Hearing.{hearing}
use Rattle.receiving.specs.Receivers.{kept_receiver, last_held, held_text}
use Rattle.meter.specs.Outcomes.{silent}
use Rattle.meter.specs.Character.{symbol, heard, taken, character}
use Rattle.dialogue.specs.Feeding.{Said, quiet}
use Rattle.dialogue.proofs.Feeding.{Fed, fed-none, fed-next}

-- the speed of its link
abbrev pub resting : Registers → ℕ
resting g = rest_speed g.facts.link

-- in a mode, with so many attempts, at a speed, with an empty receiver
abbrev pub idle : ℕ → ℕ → ℕ → Registers → Meter
idle mode a s g = meter_in mode a s empty_receiver g

-- a first character and some more are held
abbrev pub open_receiver : ℕ → List ℕ → Receiver
open_receiver c ys = with_held empty_receiver (c ∷ (ys ++ replicate (63 - length ys) 0)) (suc (length ys))

abbrev pub holding : ℕ → ℕ → ℕ → Registers → ℕ → List ℕ → Meter
holding mode a s g c ys = meter_in mode a s (open_receiver c ys) g

-- a character below 128 that is no ETX
pub record Plain (c : ℕ) : Type 0 where
  pub small : c < 128
  pub no-etx : eqb c 3 ≡ false

-- what a mode makes of its first character, and that those of a kind are then held
pub record Rule (mode c : ℕ) (p : ℕ → Bool) : Type 0 where
  pub plain : Plain c
  pub first : (k : ℕ) → first_good mode (suc k) c ≡ true
  pub opens : (a s : ℕ) (g : Registers) → heard (idle mode a s g) c false (hearing mode 0 0 c) ≡ silent 0 (holding mode a s g c [])
  pub kind : (x : ℕ) → p x ≡ true → Plain x
  pub stays : (k last x : ℕ) → suc k < limit mode → eqb last 3 ≡ false → p x ≡ true → hearing mode (suc k) last x ≡ Hold

-- what is fed is otherwise well-formed
pub record Fit (mode a s : ℕ) (g : Registers) : Type 0 where
  pub known : mode ≤ 4
  pub attempts : a ≤ 3
  pub speed : speed_good g.facts.link mode s ≡ true
  pub registers : registers_good g ≡ true

small_is : (c : ℕ) → c < 128 → between 0 127 c ≡ true
unfolding between
small_is c h = and_both (leb 0 c) (leb c 127) (le-leb 0 c (omega arith)) (le-leb c 127 (omega arith))

zeros-small : (n : ℕ) → every (between 0 127) (replicate n 0) ≡ true
unfolding every between
zeros-small zero = refl
zeros-small (suc n) = zeros-small n

zeros-zero : (n : ℕ) → every (between 0 0) (replicate n 0) ≡ true
unfolding every between
zeros-zero zero = refl
zeros-zero (suc n) = zeros-zero n

no-held-good : held_good empty_receiver.held 0 ≡ true
unfolding held_good every between
no-held-good = refl

none_first : (mode : ℕ) → first_good mode 0 0 ≡ true
unfolding first_good
none_first mode = pick (eqb mode 0)
  where
    pick : (b : Bool) → cond b true true ≡ true
    pick true = refl
    pick false = refl

limit-few : (mode : ℕ) → limit mode ≤ most_held
unfolding limit
limit-few mode = pick (eqb mode 0) (eqb mode 1)
  where
    pick : (a b : Bool) → cond a 31 (cond b 5 most_held) ≤ most_held
    pick true b = omega arith
    pick false true = omega arith
    pick false false = omega arith

held-good : (c : ℕ) (ys : List ℕ) → c < 128 → length ys ≤ 62 → every (between 0 127) ys ≡ true
    → held_good (c ∷ (ys ++ replicate (63 - length ys) 0)) (suc (length ys)) ≡ true
unfolding held_good every
held-good c ys low long small =
    let n : length (ys ++ replicate (63 - length ys) 0) ≡ 63 = omega (arith, length-append ys (replicate (63 - length ys) 0), length-replicate {A = ℕ} (63 - length ys) 0) in
    let s : every (between 0 127) (ys ++ replicate (63 - length ys) 0) ≡ true = every_append (between 0 127) ys (replicate (63 - length ys) 0) small (zeros-small (63 - length ys)) in
    rw (n, small_is c low, s, drop-append_seam ys (replicate (63 - length ys) 0), zeros-zero (63 - length ys))

symbol-sent : (c : ℕ) → c < 128 → symbol (sent c) ≡ c
unfolding symbol
symbol-sent c h = rw (sent-undamaged c, sent-comes-back c h)

-- a sent character is heard as itself
pub heard-as : (m : Meter) (c : ℕ) (h : Hearing) → well_formed m ≡ true → c < 128 → hearing m.mode m.receiver.count (last_held m.receiver) c ≡ h
    → character m reply_room (sent c) ≡ heard m c false h
unfolding character taken
heard-as m c h f small e = rw (edition-good m f, f, symbol-sent c small, sent-undamaged c, e)

-- the last of the held ones
pub last-held : (c : ℕ) (ys : List ℕ) → last_held (open_receiver c ys) ≡ get_or (c ∷ (ys ++ replicate (63 - length ys) 0)) (length ys) 0
last-held c ys = ap (λ (k : ℕ). get_or (c ∷ (ys ++ replicate (63 - length ys) 0)) k 0) {x = suc (length ys) - 1} {y = length ys} (omega arith)

pub held-is : (c : ℕ) (ys : List ℕ) → held_text (open_receiver c ys) ≡ c ∷ ys
held-is c ys = ap (λ (l : List ℕ). c ∷ l) (take-append_seam ys (replicate (63 - length ys) 0))

held_next : (ys : List ℕ) (c : ℕ) → length ys < 62
    → set (ys ++ replicate (63 - length ys) 0) (length ys) c ≡ (ys ++ (c ∷ [])) ++ replicate (63 - length (ys ++ (c ∷ []))) 0
held_next ys c h =
    let e : 63 - length ys ≡ suc (63 - length (ys ++ (c ∷ []))) = omega (arith, length-append ys (c ∷ [])) in
    ap (λ (n : ℕ). set (ys ++ replicate n 0) (length ys) c) e
    ∙ set-append_seam ys 0 (replicate (63 - length (ys ++ (c ∷ []))) 0) c
    ∙ sym (append_assoc ys (c ∷ []) (replicate (63 - length (ys ++ (c ∷ []))) 0))

kept-is : (c : ℕ) (ys : List ℕ) (x : ℕ) → length ys < 62 → kept_receiver (open_receiver c ys) x false ≡ open_receiver c (ys ++ (x ∷ []))
kept-is c ys x h =
    let n : suc (length ys) + 1 ≡ suc (length (ys ++ (x ∷ []))) = omega (arith, length-append ys (x ∷ [])) in
    ap₂ (λ (l : List ℕ) (k : ℕ). with_held empty_receiver (c ∷ l) k) (held_next ys x h) n

-- a good receiver that holds nothing is the empty one
zeros : (s : List ℕ) → every (between 0 0) s ≡ true → s ≡ replicate (length s) 0
unfolding every between
zeros [] h = refl
zeros (c ∷ s) h =
    let e : c ≤ 0 = leb-true c 0 (and_right (leb 0 c) (leb c 0) (and_left (between 0 0 c) (every (between 0 0) s) h)) in
    ap₂ (λ (x : ℕ) (l : List ℕ). x ∷ l) {y = 0} (omega arith) (zeros s (and_right (between 0 0 c) (every (between 0 0) s) h))

empty-is : (mode : ℕ) (r : Receiver) → receiver_good mode r ≡ true → r.count ≡ 0 → r ≡ empty_receiver
unfolding held_good mark_good hurt_good
empty-is mode r h none =
    let f = formed-receiver mode r h in
    let e : r.held ≡ replicate held_places 0 =
    zeros r.held
    (ap (λ (k : ℕ). every (between 0 0) (drop k r.held)) (sym none)
    ∙ and_right (every (between 0 127) r.held) (every (between 0 0) (drop r.count r.held))
    (and_right (eqb (length r.held) held_places) (every (between 0 127) r.held && every (between 0 0) (drop r.count r.held)) f.held))
    ∙ ap (λ (n : ℕ). replicate n 0) (held-long mode r h) in
    let k : r.mark ≡ 0 = eqb-true r.mark 0 (and_right (leb r.mark 1) (eqb r.mark 0) (rw none at f.mark)) in
    let p : r.place ≡ 0 = eqb-true r.place 0 (rw k at f.hurt) in
    ap₂ (with_held r) e none ∙ ap₂ (with_mark empty_receiver) k p

module _ (m : Meter) (f : well_formed m ≡ true) where
  -- so a well-formed meter with nothing held is one with an empty receiver
  pub idle-is : m.receiver.count ≡ 0 → m ≡ idle m.mode m.attempts m.speed m.registers
  idle-is none =
      ap (with_receiver m)
      (empty-is m.mode m.receiver (formed m f).receiver none)

  pub fit_is : Fit m.mode m.attempts m.speed m.registers
  fit_is = record { known = (formed m f).mode; attempts = (formed m f).attempts; speed = (formed m f).speed; registers = (formed m f).registers }

-- the last of plain ones is no ETX
last-plain : (p : ℕ → Bool) → ((x : ℕ) → p x ≡ true → Plain x) → (c : ℕ) (ys zs : List ℕ) → eqb c 3 ≡ false → every p ys ≡ true
    → eqb (get_or (c ∷ (ys ++ zs)) (length ys) 0) 3 ≡ false
unfolding every
last-plain p kind c [] zs e h = e
last-plain p kind c (y ∷ ys) zs e h = last-plain p kind y ys zs (kind y (and_left (p y) (every p ys) h)).no-etx (and_right (p y) (every p ys) h)

module _ (mode a s : ℕ) (g : Registers) (fit : Fit mode a s g) where
  formed-with : (r : Receiver) → receiver_good mode r ≡ true → well_formed (meter_in mode a s r g) ≡ true
  formed-with r e = well-formed _ (record { mode = fit.known; attempts = fit.attempts; speed = fit.speed; receiver = e; registers = fit.registers })

  pub idle-formed : well_formed (idle mode a s g) ≡ true
  unfolding mark_good hurt_good
  idle-formed = formed-with empty_receiver (receiver-good mode empty_receiver (record { count = omega arith; first = none_first mode; mark = refl; hurt = refl; held = no-held-good }))

  module _ (c : ℕ) (p : ℕ → Bool) (rule : Rule mode c p) where
    small_all : (ys : List ℕ) → every p ys ≡ true → every (between 0 127) ys ≡ true
    small_all = every-weaker p (between 0 127) (λ x h. small_is x (rule.kind x h).small)

    pub holding-formed : (ys : List ℕ) → length ys < limit mode → every (between 0 127) ys ≡ true → well_formed (holding mode a s g c ys) ≡ true
    unfolding mark_good hurt_good
    holding-formed ys long small =
        formed-with (open_receiver c ys)
        (receiver-good mode (open_receiver c ys)
        (record {
          count = omega arith;
          first = rule.first (length ys);
          mark = rw (eqb-suc-zero (length ys));
          hurt = refl;
          held = held-good c ys rule.plain.small (omega (arith, limit-few mode)) small;
        }))

    -- the first character opens it
    begins : character (idle mode a s g) reply_room (sent c) ≡ silent 0 (holding mode a s g c [])
    begins = heard-as (idle mode a s g) c (hearing mode 0 0 c) idle-formed rule.plain.small refl ∙ rule.opens a s g

    -- a character that is to be held is held after the others
    pub holds : (ys : List ℕ) (x : ℕ) → every p ys ≡ true → suc (length ys) < limit mode → x < 128
        → ((last : ℕ) → eqb last 3 ≡ false → hearing mode (suc (length ys)) last x ≡ Hold)
        → character (holding mode a s g c ys) reply_room (sent x) ≡ silent 0 (holding mode a s g c (ys ++ (x ∷ [])))
    unfolding heard
    holds ys x kind long small stays =
        let f = holding-formed ys (omega arith) (small_all ys kind) in
        let plain : eqb (last_held (open_receiver c ys)) 3 ≡ false =
        ap (λ (k : ℕ). eqb k 3) (last-held c ys) ∙ last-plain p rule.kind c ys (replicate (63 - length ys) 0) rule.plain.no-etx kind in
        heard-as (holding mode a s g c ys) x Hold f small (stays (last_held (open_receiver c ys)) plain)
        ∙ ap (λ (r : Receiver). silent 0 (meter_in mode a s r g)) (kept-is c ys x (omega (arith, limit-few mode)))

    holds-all : (xs ys : List ℕ) → every p ys ≡ true → every p xs ≡ true → length ys + length xs < limit mode
        → Fed (holding mode a s g c ys) (map sent xs) (replicate (length xs) (quiet s)) (holding mode a s g c (ys ++ xs))
    unfolding every
    holds-all [] ys hy hx long = rw (append-nil ys) (fed-none (holding mode a s g c ys))
    holds-all (x ∷ xs) ys hy hx long =
        let px = and_left (p x) (every p xs) hx in
        let one : every p (x ∷ []) ≡ true = and_both (p x) true px refl in
        let rest = holds-all xs (ys ++ (x ∷ [])) (every_append p ys (x ∷ []) hy one) (and_right (p x) (every p xs) hx) (omega (arith, length-append ys (x ∷ []))) in
        let e : (ys ++ (x ∷ [])) ++ xs ≡ ys ++ (x ∷ xs) = append_assoc ys (x ∷ []) xs in
        fed-next (holding mode a s g c ys) (sent x) (silent 0 (holding mode a s g c (ys ++ (x ∷ [])))) (map sent xs) (replicate (length xs) (quiet s)) (holding mode a s g c (ys ++ (x ∷ xs)))
        (holds ys x hy (omega arith) (rule.kind x px).small (λ last l. rule.stays (length ys) last x (omega arith) l px)) (rw e at rest)

    -- the first character and a run of the kind are held, with nothing said
    pub begun : (ys : List ℕ) → every p ys ≡ true → length ys < limit mode
        → Fed (idle mode a s g) (map sent (c ∷ ys)) (replicate (suc (length ys)) (quiet s)) (holding mode a s g c ys)
    begun ys h long =
        fed-next (idle mode a s g) (sent c) (silent 0 (holding mode a s g c [])) (map sent ys) (replicate (length ys) (quiet s)) (holding mode a s g c ys)
        begins (holds-all ys [] (unfold every in refl) h (omega arith))
