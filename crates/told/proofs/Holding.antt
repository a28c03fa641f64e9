-- What a meter holds that follows a history: the mode and the failed passwords, and in its receiver the bytes that are still open. Assumes nothing.
use mathlib.Core.Path.{◌≡◌, refl, sym, ap, ap₂, ◌∙◌}
use mathlib.Core.Bool.{Bool, true, false, cond, not, ◌&&◌}
use mathlib.Core.List.{List, [], ◌∷◌, ◌++◌, map}
use Prim.Native.Nat.{ℕ, suc, ◌+◌, ◌-◌}
use native.Mathlib.Omega.{arith}
use borrow.Author.Tests.{ne_eqb, eqb-true, eqb-false}
use lib.Dec.{eqb, leb}
use lib.ListN.{length, get_or, replicate, get_or-map, get_or-append}
use lib.Seq.{take_at}
use Rattle.line.specs.Characters.{damaged_at, seven, undamaged_all}
use Rattle.line.specs.Runs.{every}
use Rattle.line.proofs.Runs.{and_left, and_right}
use Rattle.state.specs.Sizes.{held_places}
use Rattle.state.specs.declared.Registers.{Registers}
use Rattle.state.specs.declared.Meter.{Meter}
use Rattle.state.specs.Making.{empty_receiver}
use Rattle.state.specs.Setting.{meter_in}
use Rattle.receiving.specs.Receivers.{held_text, last_held, restarted_receiver}
use Rattle.meter.specs.Character.{symbol}
use Rattle.whole.specs.Gathering.{filled}
use Rattle.whole.proofs.Filled.{length-map}
use Rattle.history.specs.Saying.{carries, since, ends_with}
use Rattle.history.specs.Standing.{Standing}
use Rattle.history.proofs.Saying.{more}

pub untrue : {A : Type 0} → false ≡ true → A
untrue h = absurd (omega (arith, ap {B = ℕ} (λ (b : Bool). cond b 1 0) h))

-- a line that can still end well: no LF in it, and 31 characters at most
abbrev pub no_lF : ℕ → Bool
no_lF b = not (carries 10 b)

unfoldable pub live : List ℕ → List ℕ
live r = cond (every no_lF r && leb (length r) 31) r []

abbrev pub open_in : ℕ → List ℕ → List ℕ
open_in mode said = cond (eqb mode 0) (live (since 47 said)) (cond (eqb mode 1) said (since 1 said))

abbrev pub holding : Standing → ℕ → Registers → Meter
holding s speed g = meter_in s.mode s.failed speed (filled (open_in s.mode s.said)) g

pub record Follows (s : Standing) (g : Registers) (m : Meter) : Type 0 where
  pub speed : ℕ
  pub is : m ≡ holding s speed g

-- ---- characters as the receiver has them

pub symbol-carries : (c b : ℕ) → eqb (symbol b) (suc c) ≡ carries (suc c) b
unfolding symbol carries
symbol-carries c b = go (damaged_at b)
  where
    go : (d : Bool) → eqb (cond d 0 (seven b)) (suc c) ≡ (not d && eqb (seven b) (suc c))
    go true = ne_eqb 0 (suc c) (λ e. omega (arith, e))
    go false = refl

-- a byte with one character has no other
pub carries-one : (c k b : ℕ) → (c ≡ k → ⊥) → carries c b ≡ true → carries k b ≡ false
unfolding carries
carries-one c k b other h = go (damaged_at b) h
  where
    go : (d : Bool) → (not d && eqb (seven b) c) ≡ true → (not d && eqb (seven b) k) ≡ false
    go true e = refl
    go false e = ne_eqb (seven b) k (λ z. other (sym (eqb-true (seven b) c e) ∙ z))

pub carries-undamaged : (c b : ℕ) → carries c b ≡ true → damaged_at b ≡ false
unfolding carries
carries-undamaged c b h = go (damaged_at b) h
  where
    go : (d : Bool) → (not d && eqb (seven b) c) ≡ true → d ≡ false
    go true e = untrue e
    go false e = refl

pub symbols : (run : List ℕ) → undamaged_all run ≡ true → map symbol run ≡ map seven run
unfolding undamaged_all every symbol
symbols [] h = refl
symbols (b ∷ run) h = ap₂ (λ (x : ℕ) (l : List ℕ). x ∷ l) (one (damaged_at b) (and_left _ _ h)) (symbols run (and_right (not (damaged_at b)) _ h))
  where
    one : (d : Bool) → not d ≡ true → cond d 0 (seven b) ≡ seven b
    one true e = untrue e
    one false e = refl

pub held-is : (run : List ℕ) → held_text (filled run) ≡ map symbol run
held-is run = take_at (map symbol run) (replicate (held_places - length run) 0) (length run) (length-map symbol run)

pub none_is : (run : List ℕ) → eqb (length run) 0 ≡ true → run ≡ []
none_is [] e = refl
none_is (x ∷ run) e = absurd (omega (arith, eqb-true (suc (length run)) 0 e))

pub more-some : (run : List ℕ) (b : ℕ) → eqb (length run) 0 ≡ false → more run b ≡ run ++ (b ∷ [])
unfolding more
more-some [] b e = absurd (eqb-false 0 0 e refl)
more-some (x ∷ run) b e = refl

-- the last held
symbol-zero : symbol 0 ≡ 0
unfolding symbol seven
symbol-zero = go (damaged_at 0)
  where
    go : (d : Bool) → ◌≡◌ {A = ℕ} (cond d 0 0) 0
    go true = refl
    go false = refl

pub last-is : (run : List ℕ) → eqb (length run) 0 ≡ false → last_held (filled run) ≡ symbol (get_or run (length run - 1) 0)
last-is run e =
    let some = eqb-false (length run) 0 e in
    get_or-append (map symbol run) _ 0 (length run - 1) (omega (arith, some, length-map symbol run))
    ∙ ap (get_or (map symbol run) (length run - 1)) (sym symbol-zero)
    ∙ get_or-map symbol run (length run - 1) 0

-- behind ETX comes the BCC
pub ends_is : (run : List ℕ) → (not (eqb (length run) 0) && eqb (last_held (filled run)) 3) ≡ ends_with 3 run
unfolding ends_with
ends_is run = go (eqb (length run) 0) refl
  where
    nothing : carries 3 0 ≡ false
    nothing = unfold carries seven in (and_none (not (damaged_at 0)))
      where
        and_none : (p : Bool) → (p && false) ≡ false
        and_none true = refl
        and_none false = refl

    go : (p : Bool) → eqb (length run) 0 ≡ p → (not p && eqb (last_held (filled run)) 3) ≡ carries 3 (get_or run (length run - 1) 0)
    go true e = rw (none_is run e) (sym nothing)
    go false e = ap (λ (c : ℕ). eqb c 3) (last-is run e) ∙ symbol-carries 2 (get_or run (length run - 1) 0)

pub restarts : (c b : ℕ) → carries c b ≡ true → restarted_receiver (symbol b) ≡ filled (b ∷ [])
unfolding undamaged_all every
restarts c b h = rw (carries-undamaged c b h)

pub nothing-held : filled [] ≡ empty_receiver
unfolding undamaged_all every
nothing-held = refl

-- a mode begins with nothing held
pub fresh : (mode : ℕ) → filled (open_in mode []) ≡ empty_receiver
unfolding live since every undamaged_all
fresh mode = go (eqb mode 0) (eqb mode 1)
  where
    go : (p q : Bool) → filled (cond p (live (since 47 [])) (cond q [] (since 1 []))) ≡ empty_receiver
    go true q = refl
    go false true = refl
    go false false = refl
