-- What opens a line, a confirmation and a frame, and which characters each then holds. Assumes nothing.
use mathlib.Core.Path.{◌≡◌, refl}
use mathlib.Core.Bool.{Bool, true, false, not, ◌&&◌}
use Prim.Native.Nat.{ℕ, suc, ◌≤◌, ◌<◌}
use native.Mathlib.Omega.{arith}
use borrow.Author.Tests.{leb-true, le-leb, lt-leb, ne_eqb, not-true}
use lib.Dec.{eqb, leb, lit<, eqb-suc-zero}
use Rattle.line.proofs.Runs.{and_left, and_right}
use Rattle.text.specs.Classes.{between, is_printable}
use Rattle.state.specs.WellFormed.{limit, first_good}
use Rattle.receiving.specs.declared.Hearing.TheVariants.{Hold, Frame, Line, Confirm}
use Rattle.receiving.specs.Hearing.{hearing, listening, confirming, framing}
use Rattle.meter.specs.Character.{heard}
use Rattle.dialogue.proofs.Held.{Plain, Rule}

-- a character below 128 that is neither ETX nor one of two others
unfoldable pub besides : ℕ → ℕ → ℕ → Bool
besides x y c = leb c 127 && (not (eqb c 3) && (not (eqb c x) && not (eqb c y)))

pub record Other (x y c : ℕ) : Type 0 where
  pub plain : Plain c
  pub not-x : eqb c x ≡ false
  pub not-y : eqb c y ≡ false

pub other : (x y c : ℕ) → besides x y c ≡ true → Other x y c
unfolding besides
other x y c h =
    let small : c ≤ 127 = leb-true c 127 (and_left (leb c 127) (not (eqb c 3) && (not (eqb c x) && not (eqb c y))) h) in
    let r = and_right (leb c 127) (not (eqb c 3) && (not (eqb c x) && not (eqb c y))) h in
    let s = and_right (not (eqb c 3)) (not (eqb c x) && not (eqb c y)) r in
    record {
      plain = record { small = omega arith; no-etx = not-true (eqb c 3) (and_left (not (eqb c 3)) (not (eqb c x) && not (eqb c y)) r) };
      not-x = not-true (eqb c x) (and_left (not (eqb c x)) (not (eqb c y)) s);
      not-y = not-true (eqb c y) (and_right (not (eqb c x)) (not (eqb c y)) s);
    }

-- printable characters are held for themselves in a frame, and so is STX
pub printable-besides : (x y c : ℕ) → x < 32 → y < 32 → is_printable c ≡ true → besides x y c ≡ true
unfolding besides is_printable between
printable-besides x y c hx hy h =
    let l = leb-true 32 c (and_left (leb 32 c) (leb c 126) h) in
    let r = leb-true c 126 (and_right (leb 32 c) (leb c 126) h) in
    rw (le-leb c 127 (omega arith), ne_eqb c 3 (λ e. omega arith), ne_eqb c x (λ e. omega arith), ne_eqb c y (λ e. omega arith))

-- a line: '/' opens it, and neither '/' nor LF is held
abbrev pub in_line : ℕ → Bool
in_line = besides 47 10

line_stays : (k last x : ℕ) → suc k < 31 → Other 47 10 x → hearing 0 (suc k) last x ≡ Hold
unfolding hearing listening
line_stays k last x h o = rw (o.not-x, eqb-suc-zero k, o.not-y, lt-leb 31 (suc k) h)

pub line-rule : Rule 0 47 in_line
unfolding first_good hearing listening heard limit
line-rule =
    record {
      plain = record { small = lit< tt; no-etx = refl };
      first = λ k. rw (eqb-suc-zero k);
      opens = λ a s g. refl;
      kind = λ x h. (other 47 10 x h).plain;
      stays = λ k last x h l px. line_stays k last x h (other 47 10 x px);
    }

pub ends-line : (k last : ℕ) → hearing 0 (suc k) last 10 ≡ Line
unfolding hearing listening
ends-line k last = rw (eqb-suc-zero k)

-- a confirmation: whatever the first, five are held
abbrev pub anything : ℕ → Bool
anything c = leb c 127 && not (eqb c 3)

confirmation-stays : (k last x : ℕ) → suc k < 5 → hearing 1 (suc k) last x ≡ Hold
unfolding hearing confirming
confirmation-stays k last x h = rw (lt-leb 5 (suc k) h)

any-plain : (x : ℕ) → anything x ≡ true → Plain x
any-plain x h =
    let small : x ≤ 127 = leb-true x 127 (and_left (leb x 127) (not (eqb x 3)) h) in
    record { small = omega arith; no-etx = not-true (eqb x 3) (and_right (leb x 127) (not (eqb x 3)) h) }

pub confirmation-rule : Rule 1 6 anything
unfolding first_good hearing confirming heard limit
confirmation-rule =
    record {
      plain = record { small = lit< tt; no-etx = refl };
      first = λ k. rw (eqb-suc-zero k);
      opens = λ a s g. refl;
      kind = any-plain;
      stays = λ k last x h l px. confirmation-stays k last x h;
    }

pub ends-confirmation : (last c : ℕ) → hearing 1 5 last c ≡ Confirm
unfolding hearing confirming
ends-confirmation last c = refl

-- a frame: SOH opens it in modes 2 to 4, and no SOH is held; after ETX it is whole, whatever comes
abbrev pub in_frame : ℕ → Bool
in_frame = besides 1 1

module _ (mode : ℕ) (h : 2 ≤ mode) where
  not-zero : eqb mode 0 ≡ false
  not-zero = ne_eqb mode 0 (λ e. omega arith)

  not-one : eqb mode 1 ≡ false
  not-one = ne_eqb mode 1 (λ e. omega arith)

  pub frame-limit : limit mode ≡ 63
  unfolding limit
  frame-limit = rw (not-zero, not-one)

  pub frame-holds : (k last x : ℕ) → suc k < 63 → eqb last 3 ≡ false → eqb x 1 ≡ false → hearing mode (suc k) last x ≡ Hold
  unfolding hearing framing
  frame-holds k last x l e n = rw (not-zero, not-one, eqb-suc-zero k, e, n, lt-leb 63 (suc k) l)

  pub frame-rule : Rule mode 1 in_frame
  unfolding first_good hearing framing heard
  frame-rule =
      record {
        plain = record { small = lit< tt; no-etx = refl };
        first = λ k. rw (not-zero, not-one, eqb-suc-zero k);
        opens = λ a s g. rw (not-zero, not-one);
        kind = λ x px. (other 1 1 x px).plain;
        stays = λ k last x l e px. frame-holds k last x (omega (arith, frame-limit)) e (other 1 1 x px).not-x;
      }

  pub ends-frame : (k last c : ℕ) → eqb last 3 ≡ true → hearing mode (suc k) last c ≡ Frame
  unfolding hearing framing
  ends-frame k last c l = rw (not-zero, not-one, eqb-suc-zero k, l)
