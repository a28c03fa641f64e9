-- One damaged byte in a message: the meter keeps its registers and its attempts, and says nothing or NAK at the last byte. Assumes nothing.
use mathlib.Core.Path.{◌≡◌, refl, sym, ap, subst, ◌∙◌}
use mathlib.Core.Logic.{◌⊎◌, inl, inr, ⊎_elim}
use mathlib.Core.Bool.{Bool, true, false, not, ◌&&◌, ◌||◌, and-false}
use mathlib.Core.List.{List, [], ◌∷◌, ◌++◌}
use Prim.Native.Nat.{ℕ, zero, suc, ◌-◌, ◌≤◌, ◌<◌}
use native.Mathlib.Omega.{arith}
use borrow.Author.Tests.{eqb-true, leb-true, not-true}
use lib.Dec.{eqb, leb}
use lib.ListN.{length, take, drop, set, take-append-drop, length-append, length-map, drop_of_length-le}
use lib.Seq.{set_split, drop-append-le, length-take-le}
use Rattle.state.proofs.Parts.{edition-good}
use Rattle.line.specs.Characters.{damaged_at, sent}
use Rattle.line.specs.Runs.{every}
use Rattle.line.proofs.Runs.{and_left, and_right, and_both, every-weaker, every_drop}
use Rattle.line.proofs.Parity.{sent-comes-back, sent-undamaged}
use Rattle.text.specs.Classes.{same_text}
use Rattle.text.proofs.Beginnings.{le-or-lt}
use Rattle.values.specs.Registers.{good_table}
use Rattle.frames.specs.Frames.{on_wire}
use Rattle.state.specs.Sizes.{reply_room, most_held}
use Rattle.state.specs.declared.Registers.{Registers}
use Rattle.state.specs.declared.Meter.{Meter}
use Rattle.state.specs.Link.{link_of, is_wired}
use Rattle.state.specs.WellFormed.{well_formed, marked, tables_in, family_of}
use Rattle.replies.specs.Fixed.{refused}
use Rattle.receiving.specs.declared.Hearing.{Hearing}
use Rattle.receiving.specs.Hearing.{hearing, listening, confirming, framing}
use Rattle.receiving.specs.Receivers.{held_text, last_held}
use Rattle.deciding.specs.Verdicts.{Verdict}
use Rattle.deciding.specs.Verdict.{verdict}
use Rattle.meter.specs.Outcomes.{Outcome}
use Rattle.meter.specs.SignOn.{signs_on_by, closes_by, wants_block, wants_periods, wants_program}
use Rattle.meter.specs.Acting.{password_given, tried, acted}
use Rattle.meter.specs.Character.{symbol, line_ended, confirmed, heard, taken, character}
use Rattle.promises.proofs.Choices as choice
use Rattle.promises.proofs.Verdicts.{never-zero, verdict-all}
use Rattle.promises.proofs.Kept.{refused-keeps}
use Rattle.promises.proofs.Formed.{character-stays}
use Rattle.commands.specs.Messages.{Message, text_of, good_message}
use Rattle.dialogue.specs.Feeding.{Said, said_in, answered, left, full, at_last}
use Rattle.dialogue.specs.Messages.{outcome_of, Listens}
use Rattle.dialogue.proofs.Feeding.{Fed, fed-append, fed-in}
use Rattle.dialogue.proofs.Dialogue.{message-taken}
use Rattle.conversation.specs.Conversation.{last_reply, reply_to}
use Rattle.conversation.proofs.Spoilt.{Spoilt, stray, Quiet, damaged-quiet, spoilt-quiet}

-- ---- a byte that is answered 0 leaves the mode and the attempts

module _ (m : Meter) (c : ℕ) (d : Bool) where
  abbrev Stays : Outcome → Type 0
  Stays o = o.number ≡ 0 → (o.next.mode ≡ m.mode) × (o.next.attempts ≡ m.attempts)

  line_stays : m.mode ≡ 0 → Stays (line_ended m)
  unfolding line_ended
  line_stays z =
      choice.either Stays (marked m.receiver) (λ e. (sym z, refl))
      (choice.either Stays (signs_on_by (link_of m) (held_text m.receiver) m.registers.facts.serial) (λ e. absurd (omega arith))
      (choice.either Stays (closes_by (link_of m) (held_text m.receiver)) (λ e. absurd (omega arith)) (λ e. (sym z, refl))))

  confirmed-stays : Stays (confirmed m c d)
  unfolding confirmed
  confirmed-stays =
      choice.either Stays (marked m.receiver || d) (λ e. absurd (omega arith))
      (choice.either Stays (wants_block (link_of m) (held_text m.receiver) c) (λ e. absurd (omega arith))
      (choice.either Stays (wants_periods (link_of m) (held_text m.receiver) c) (λ e. absurd (omega arith))
      (choice.either Stays (wants_program (link_of m) (held_text m.receiver) c) (λ e. absurd (omega arith)) (λ e. absurd (omega arith)))))

  tried-stays : Stays (tried m)
  unfolding tried
  tried-stays =
      choice.either Stays (eqb m.attempts 3) (λ e. absurd (omega arith))
      (choice.either Stays (same_text (password_given m) m.registers.facts.password) (λ e. absurd (omega arith)) (λ e. absurd (omega arith)))

  frame-stays : (mark : Bool) → Stays (acted m (verdict (tables_in m.registers) (family_of m) m.mode (held_text m.receiver) mark c))
  unfolding acted
  frame-stays mark =
      verdict-all (λ (v : Verdict). Stays (acted m v)) (tables_in m.registers) (family_of m) m.mode (held_text m.receiver) mark c
      (record {
        refuse = λ n k e. absurd (never-zero mark n k e);
        leave = λ e. absurd (omega arith);
        enter = λ k e. absurd (omega arith);
        password = λ k w. tried-stays;
        read = λ a g e. absurd (omega arith);
        write = λ k w.
            record {
              clock = λ x i r e. absurd (omega arith);
              account = λ r e. absurd (omega arith);
              table = λ t i g r. choice.either Stays (good_table (tables_in m.registers) t.0) (λ e. absurd (omega arith)) (λ e. absurd (omega arith));
              wrong = λ e. absurd (omega arith);
            };
      })

  abbrev Heard : Hearing → Type 0
  Heard h = Stays (heard m c d h)

  heard-stays : Heard (hearing m.mode m.receiver.count (last_held m.receiver) c)
  unfolding hearing listening confirming framing heard
  heard-stays =
      let count = m.receiver.count in
      choice.told Heard (eqb m.mode 0)
      (λ z. choice.either Heard (eqb c 47) (λ e. (refl, refl))
      (choice.either Heard (eqb count 0) (λ e. (refl, refl))
      (choice.either Heard (eqb c 10) (line_stays (eqb-true m.mode 0 z)) (choice.either Heard (leb 31 count) (λ e. (refl, refl)) (λ e. (refl, refl))))))
      (λ z. choice.either Heard (eqb m.mode 1) (choice.either Heard (leb 5 count) confirmed-stays (λ e. (refl, refl)))
      (choice.either Heard (not (eqb count 0) && eqb (last_held m.receiver) 3) (frame-stays (marked m.receiver || d))
      (choice.either Heard (eqb c 1) (λ e. (refl, refl))
      (choice.either Heard (eqb count 0) (λ e. (refl, refl)) (choice.either Heard (leb most_held count) (λ e. absurd (omega arith)) (λ e. (refl, refl)))))))

byte-stays : (m : Meter) (b : ℕ) → well_formed m ≡ true → Stays m (symbol b) (damaged_at b) (character m reply_room b)
unfolding character taken
byte-stays m b f = rw (edition-good m f, f) (heard-stays m (symbol b) (damaged_at b))

-- ---- the bytes before the damaged one

pub record Before (m next : Meter) : Type 0 where
  pub formed : well_formed next ≡ true
  pub registers : next.registers ≡ m.registers
  pub mode : next.mode ≡ m.mode
  pub attempts : next.attempts ≡ m.attempts

first-number : List Said → ℕ
first-number [] = 0
first-number (s ∷ ss) = s.number

still_before : (bs more : List ℕ) (m : Meter) (n speed : ℕ) (said : Said) → well_formed m ≡ true → answered m full (bs ++ more) ≡ at_last n speed said → length bs ≤ n
    → Before m (left m full bs)
unfolding answered left first-number
still_before [] more m n speed said f e h = record { formed = f; registers = refl; mode = refl; attempts = refl }
still_before (b ∷ bs) more m zero speed said f e h = absurd (omega arith)
still_before (b ∷ bs) more m (suc n) speed said f e h =
    let o = character m reply_room b in
    let none : o.number ≡ 0 = ap first-number e in
    let rest = still_before bs more o.next n speed said (character-stays m f reply_room b) (ap (drop 1) e) (omega arith) in
    record {
      formed = rest.formed;
      registers = rest.registers ∙ refused-keeps m b reply_room (λ one. omega arith);
      mode = rest.mode ∙ (byte-stays m b f none).0;
      attempts = rest.attempts ∙ (byte-stays m b f none).1;
    }

-- ---- the bytes after it

-- nothing or NAK at the last, no register anew, and no attempt counted
pub record Spared (m : Meter) (bytes : List ℕ) : Type 0 where
  pub registers : (left m full bytes).registers ≡ m.registers
  pub attempts : (left m full bytes).attempts ≡ m.attempts
  pub reply : (r : List ℕ) → (r ≡ []) ⊎ (r ≡ refused) → (last_reply r (answered m full bytes) ≡ []) ⊎ (last_reply r (answered m full bytes) ≡ refused)

spared-none : (m : Meter) → Spared m []
unfolding answered left last_reply
spared-none m = record { registers = refl; attempts = refl; reply = λ r h. h }

spared-next : (m : Meter) (b c : ℕ) (bs : List ℕ) → Quiet m c (character m reply_room b) → Spared (character m reply_room b).next bs → Spared m (b ∷ bs)
unfolding answered left last_reply
spared-next m b c bs q s = record { registers = s.registers ∙ q.registers; attempts = s.attempts ∙ q.attempts; reply = λ r h. s.reply (character m reply_room b).reply q.reply }

-- a character that opens nothing
unfoldable pub calm : ℕ → ℕ → Bool
calm mode c = leb c 127 && not (stray mode c)

symbol-sent : (c : ℕ) → c < 128 → symbol (sent c) ≡ c
unfolding symbol
symbol-sent c h = rw (sent-undamaged c, sent-comes-back c h)

calm-not : (mode c : ℕ) → calm mode c ≡ true → stray mode (symbol (sent c)) ≡ false
unfolding calm
calm-not mode c h =
    let low : c ≤ 127 = leb-true c 127 (and_left (leb c 127) (not (stray mode c)) h) in
    ap (stray mode) (symbol-sent c (omega arith)) ∙ not-true (stray mode c) (and_right (leb c 127) (not (stray mode c)) h)

calm-still : (mode other c : ℕ) → (stray mode c ≡ false → stray other c ≡ false) → calm mode c ≡ true → calm other c ≡ true
unfolding calm
calm-still mode other c k h =
    and_both (leb c 127) (not (stray other c)) (and_left (leb c 127) (not (stray mode c)) h) (rw (k (not-true (stray mode c) (and_right (leb c 127) (not (stray mode c)) h))))

-- registers that are as they were have the same link
same-link : (m next : Meter) → next.registers ≡ m.registers → is_wired (link_of m) ≡ false → is_wired (link_of next) ≡ false
same-link m next e optical = ap (λ (g : Registers). is_wired g.facts.link) e ∙ optical

pub rest-spared : (ys : List ℕ) (z : ℕ) (m : Meter) → well_formed m ≡ true → is_wired (link_of m) ≡ false → Spoilt m → every (calm m.mode) ys ≡ true → Spared m (on_wire (ys ++ (z ∷ [])))
unfolding every
rest-spared [] z m f o s h = spared-next m (sent z) (symbol (sent z)) [] (spoilt-quiet m f o (sent z) s) (spared-none (character m reply_room (sent z)).next)
rest-spared (y ∷ ys) z m f o s h =
    let q = spoilt-quiet m f o (sent y) s in
    let next = (character m reply_room (sent y)).next in
    let first = and_left (calm m.mode y) (every (calm m.mode) ys) h in
    let rest = and_right (calm m.mode y) (every (calm m.mode) ys) h in
    spared-next m (sent y) (symbol (sent y)) (on_wire (ys ++ (z ∷ []))) q
    (rest-spared ys z next (character-stays m f reply_room (sent y)) (same-link m next q.registers o) (q.spoilt (calm-not m.mode y first))
    (every-weaker (calm m.mode) (calm next.mode) (λ x. calm-still m.mode next.mode x (q.modes x)) ys rest))

-- ---- the whole message

-- a first character, some that open nothing, and a last
pub record Shape (mode : ℕ) (text : List ℕ) : Type 0 where
  pub first : ℕ
  pub inside : List ℕ
  pub last : ℕ
  pub is : text ≡ first ∷ (inside ++ (last ∷ []))
  pub opens-none : every (calm mode) inside ≡ true

drop-sent : (j : ℕ) (l : List ℕ) → drop j (on_wire l) ≡ on_wire (drop j l)
drop-sent zero l = refl
drop-sent (suc j) [] = refl
drop-sent (suc j) (x ∷ l) = drop-sent j l

last-join : (xs ys : List Said) (r : List ℕ) → last_reply r (xs ++ ys) ≡ last_reply (last_reply r xs) ys
unfolding last_reply
last-join [] ys r = refl
last-join (x ∷ xs) ys r = last-join xs ys x.reply

stray-zero : (mode : ℕ) → stray mode 0 ≡ false
unfolding stray
stray-zero mode = rw (and-false (leb 2 mode), and-false (leb mode 2))

-- behind a damaged byte
module _ (m : Meter) (f : well_formed m ≡ true) (optical : is_wired (link_of m) ≡ false) (b : ℕ) (d : damaged_at b ≡ true) where
  abbrev hurt : Outcome
  hurt = character m reply_room b

  hurt-quiet : Quiet m (symbol b) hurt
  hurt-quiet = damaged-quiet m f optical b d

  is_zero : symbol b ≡ 0
  unfolding symbol
  is_zero = rw d

  hurt-spoilt : Spoilt hurt.next
  hurt-spoilt = hurt-quiet.spoilt (ap (stray m.mode) is_zero ∙ stray-zero m.mode)

  hurt-spared : (text : List ℕ) (s : Shape m.mode text) (j : ℕ) → Spared m (b ∷ drop (suc j) (on_wire text))
  hurt-spared text s j =
      spared-next m b (symbol b) (drop (suc j) (on_wire text)) hurt-quiet
      (subst (Spared hurt.next) (sym (ap (λ (t : List ℕ). drop (suc j) (on_wire t)) s.is ∙ drop-sent j (s.inside ++ (s.last ∷ []))))
      (⊎_elim inner outer (le-or-lt j (length s.inside))))
    where
      inner : j ≤ length s.inside → Spared hurt.next (on_wire (drop j (s.inside ++ (s.last ∷ []))))
      inner h =
          subst (λ (t : List ℕ). Spared hurt.next (on_wire t)) (sym (drop-append-le j s.inside (s.last ∷ []) h))
          (rest-spared (drop j s.inside) s.last hurt.next (character-stays m f reply_room b) (same-link m hurt.next hurt-quiet.registers optical) hurt-spoilt
          (every-weaker (calm m.mode) (calm hurt.next.mode) (λ x. calm-still m.mode hurt.next.mode x (hurt-quiet.modes x)) (drop j s.inside)
          (every_drop (calm m.mode) j s.inside s.opens-none)))

      outer : length s.inside < j → Spared hurt.next (on_wire (drop j (s.inside ++ (s.last ∷ []))))
      outer h =
          subst (λ (t : List ℕ). Spared hurt.next (on_wire t)) (sym (drop_of_length-le (s.inside ++ (s.last ∷ [])) {i = j} (omega (arith, length-append s.inside (s.last ∷ [])))))
          (spared-none hurt.next)

-- the reply at the last of some bytes is that of the last
same-last : (m : Meter) (b : ℕ) (bs r t : List ℕ) → last_reply r (answered m full (b ∷ bs)) ≡ last_reply t (answered m full (b ∷ bs))
unfolding answered last_reply
same-last m b bs r t = refl

-- a message with one byte damaged
pub record Unheeded (m : Meter) (rooms : ℕ → ℕ) (bytes : List ℕ) : Type 0 where
  pub registers : (left m rooms bytes).registers ≡ m.registers
  pub attempts : (left m rooms bytes).attempts ≡ m.attempts
  pub reply : (reply_to m rooms bytes ≡ []) ⊎ (reply_to m rooms bytes ≡ refused)

module _ (m : Meter) (x : Message) (good : good_message (tables_in m.registers) (family_of m) x ≡ true) (l : Listens m x) (optical : is_wired (link_of m) ≡ false) (s : Shape m.mode (text_of x))
    (j b : ℕ) (there : j < length (text_of x)) (d : damaged_at b ≡ true) where
  abbrev wire : List ℕ
  wire = on_wire (text_of x)

  abbrev pre : List ℕ
  pre = take j wire

  abbrev mid : Meter
  mid = left m full pre

  wire-long : length wire ≡ length (text_of x)
  wire-long = length-map (text_of x) sent

  before : Before m mid
  before =
      still_before pre (drop j wire) m (length wire - 1) m.speed (said_in (outcome_of m x)) l.formed
      (ap (answered m full) (take-append-drop j wire) ∙ (message-taken m x good l).said full (λ i. omega arith))
      (omega (arith, wire-long, length-take-le j wire (omega (arith, wire-long))))

  after : Spared mid (b ∷ drop (suc j) wire)
  after = hurt-spared mid before.formed (same-link m mid before.registers optical) b d (text_of x) (subst (λ (mode : ℕ). Shape mode (text_of x)) (sym before.mode) s) j

  abbrev bytes : List ℕ
  bytes = pre ++ (b ∷ drop (suc j) wire)

  fed : Fed m bytes (answered m full pre ++ answered mid full (b ∷ drop (suc j) wire)) (left mid full (b ∷ drop (suc j) wire))
  fed =
      fed-append m pre (b ∷ drop (suc j) wire) (answered m full pre) (answered mid full (b ∷ drop (suc j) wire)) mid (left mid full (b ∷ drop (suc j) wire))
      (record { said-is = refl; after_is = refl }) (record { said-is = refl; after_is = refl })

  pub unheeded : (rooms : ℕ → ℕ) → ((i : ℕ) → reply_room ≤ rooms i) → Unheeded m rooms (set wire j b)
  unfolding reply_to
  unheeded rooms large =
      let rest = b ∷ drop (suc j) wire in
      let both = fed-in m rooms bytes _ _ large fed in
      let said : last_reply [] (answered m rooms bytes) ≡ last_reply [] (answered mid full rest) =
      ap (last_reply []) both.0
      ∙ last-join (answered m full pre) (answered mid full rest) []
      ∙ same-last mid b (drop (suc j) wire) (last_reply [] (answered m full pre)) [] in
      subst (Unheeded m rooms) (sym (set_split wire j b (omega (arith, wire-long))))
      (record {
        registers = ap (λ (n : Meter). n.registers) both.1 ∙ after.registers ∙ before.registers;
        attempts = ap (λ (n : Meter). n.attempts) both.1 ∙ after.attempts ∙ before.attempts;
        reply = ⊎_elim (λ e. inl (said ∙ e)) (λ e. inr (said ∙ e)) (after.reply [] (inl refl));
      })
