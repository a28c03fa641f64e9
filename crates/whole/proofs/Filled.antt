-- A receiver that holds a run: a restart, one byte more, and the last of them. Assumes nothing.
use mathlib.Core.Path.{◌≡◌, refl, sym, ap, ap₂, ◌∙◌}
use mathlib.Core.Bool.{Bool, true, false, cond, not, ◌&&◌}
use mathlib.Core.List.{List, [], ◌∷◌, ◌++◌, map, append_assoc}
use Prim.Native.Nat.{ℕ, zero, suc, ◌+◌, ◌-◌, ◌≤◌, ◌<◌}
use native.Mathlib.Omega.{arith}
use lib.Dec.{eqb}
use lib.ListN.{length, get_or, set, drop, replicate, length-append, length-replicate, replicate-append-replicate}
use lib.Seq.{set_at, get_or_at, drop_at}
use Rattle.line.specs.Characters.{damaged_at, seven, undamaged_all}
use Rattle.line.specs.Runs.{every}
use Rattle.damage.specs.First.{first_damaged}
use Rattle.damage.proofs.First.{first-append, undamaged-append}
use Rattle.text.specs.Writing.{stored, holding}
use Rattle.text.proofs.Writing.{stored-holding}
use Rattle.state.specs.Sizes.{held_places}
use Rattle.state.specs.declared.Receiver.{Receiver}
use Rattle.receiving.specs.Receivers.{last_held, kept_receiver, restarted_receiver}
use Rattle.meter.specs.Character.{symbol}
use Rattle.whole.specs.Gathering.{is, filled}

pub length-map : (f : ℕ → ℕ) (s : List ℕ) → length (map f s) ≡ length s
length-map f [] = refl
length-map f (x ∷ s) = ap suc (length-map f s)

map_snoc : (f : ℕ → ℕ) (s : List ℕ) (b : ℕ) → map f (s ++ (b ∷ [])) ≡ map f s ++ (f b ∷ [])
map_snoc f [] b = refl
map_snoc f (x ∷ s) b = ap (λ (l : List ℕ). f x ∷ l) (map_snoc f s b)

-- a receiver of these, all its fields told apart
same-receiver : (held held' : List ℕ) (count count' mark mark' place place' : ℕ) → held ≡ held' → count ≡ count' → mark ≡ mark' → place ≡ place'
    → ◌≡◌ {A = Receiver} (record { held = held; count = count; mark = mark; place = place }) (record { held = held'; count = count'; mark = mark'; place = place' })
same-receiver held held' count count' mark mark' place place' a b c d = rw (a, b, c, d)

held_more : (run : List ℕ) (b : ℕ) → length run < held_places
    → set (map symbol run ++ replicate (held_places - length run) 0) (length run) (symbol b) ≡ map symbol (run ++ (b ∷ [])) ++ replicate (held_places - length (run ++ (b ∷ []))) 0
held_more run b h =
    let e : held_places - length run ≡ suc (held_places - length (run ++ (b ∷ []))) = omega (arith, length-append run (b ∷ [])) in
    ap (λ (n : ℕ). set (map symbol run ++ replicate n 0) (length run) (symbol b)) e
    ∙ set_at (map symbol run) 0 (replicate (held_places - length (run ++ (b ∷ []))) 0) (symbol b) (length run) (length-map symbol run)
    ∙ sym (append_assoc (map symbol run) (symbol b ∷ []) (replicate (held_places - length (run ++ (b ∷ []))) 0))
    ∙ ap (λ (l : List ℕ). l ++ replicate (held_places - length (run ++ (b ∷ []))) 0) (sym (map_snoc symbol run b))

mark-more : (u d : Bool) → ◌≡◌ {A = ℕ} (cond d 1 (cond u 0 1)) (cond (u && not d) 0 1)
mark-more true true = refl
mark-more true false = refl
mark-more false true = refl
mark-more false false = refl

place-more : (u d : Bool) (n first : ℕ) → cond (eqb (cond u 0 1) 1) (cond u 0 first) (cond d n 0) ≡ cond (u && not d) 0 (cond u (n + cond d 0 1) first)
place-more true true n first = omega arith
place-more true false n first = refl
place-more false true n first = refl
place-more false false n first = refl

pub one_more : (run : List ℕ) (b : ℕ) → length run < held_places → kept_receiver (filled run) (symbol b) (damaged_at b) ≡ filled (run ++ (b ∷ []))
one_more run b h =
    same-receiver _ _ _ _ _ _ _ _ (held_more run b h) (sym (length-append run (b ∷ [])))
    (mark-more (undamaged_all run) (damaged_at b) ∙ ap (λ (u : Bool). cond u 0 1) (sym (undamaged-append run b)))
    (place-more (undamaged_all run) (damaged_at b) (length run) (first_damaged run)
    ∙ ap₂ (λ (u : Bool) (p : ℕ). cond u 0 p) (sym (undamaged-append run b)) (sym (first-append run b)))

-- an SOH is undamaged
soh-whole : (b : ℕ) → is 1 b ≡ true → damaged_at b ≡ false
unfolding is symbol
soh-whole b h = go (damaged_at b) h
  where
    go : (d : Bool) → eqb (cond d 0 (seven b)) 1 ≡ true → d ≡ false
    go true e = absurd (omega (arith, ap {B = ℕ} (λ (x : Bool). cond x 1 0) e))
    go false e = refl

pub anew : (b : ℕ) → is 1 b ≡ true → restarted_receiver (symbol b) ≡ filled (b ∷ [])
unfolding undamaged_all every
anew b h = rw (soh-whole b h)

-- the last held
pub last_one : (b : ℕ) → last_held (filled (b ∷ [])) ≡ symbol b
last_one b = refl

pub last_more : (run : List ℕ) (b : ℕ) → length run < held_places → last_held (filled (run ++ (b ∷ []))) ≡ symbol b
last_more run b h =
    let n : length (run ++ (b ∷ [])) - 1 ≡ length run = omega (arith, length-append run (b ∷ [])) in
    ap₂ (λ (l : List ℕ) (k : ℕ). get_or l k 0)
    (ap (λ (l : List ℕ). l ++ replicate (held_places - length (run ++ (b ∷ []))) 0) (map_snoc symbol run b)
    ∙ append_assoc (map symbol run) (symbol b ∷ []) (replicate (held_places - length (run ++ (b ∷ []))) 0)) n
    ∙ get_or_at (map symbol run) (symbol b) (replicate (held_places - length (run ++ (b ∷ []))) 0) 0 (length run) (length-map symbol run)

-- the places behind the run hold 0
zeros-behind : (n : ℕ) → n ≤ 63 → drop {A = ℕ} n (replicate held_places 0) ≡ replicate (held_places - n) 0
zeros-behind n h =
    ap (drop {A = ℕ} n) (ap (λ (k : ℕ). replicate {A = ℕ} k 0) {x = held_places} {y = n + (held_places - n)} (omega arith) ∙ sym (replicate-append-replicate {A = ℕ} n (held_places - n) 0))
    ∙ drop_at {A = ℕ} (replicate n 0) (replicate (held_places - n) 0) n (length-replicate {A = ℕ} n 0)

zeros-same : (n : ℕ) → map symbol (replicate {A = ℕ} n 0) ≡ replicate n 0
unfolding symbol seven
zeros-same zero = refl
zeros-same (suc n) = ap₂ (λ (x : ℕ) (l : List ℕ). x ∷ l) (go (damaged_at 0)) (zeros-same n)
  where
    go : (d : Bool) → ◌≡◌ {A = ℕ} (cond d 0 0) 0
    go true = refl
    go false = refl

map-append : (f : ℕ → ℕ) (s t : List ℕ) → map f (s ++ t) ≡ map f s ++ map f t
map-append f [] t = refl
map-append f (x ∷ s) t = ap (λ (l : List ℕ). f x ∷ l) (map-append f s t)

pub put_in : (run : List ℕ) → length run ≤ 63 → map symbol (stored (replicate held_places 0) 0 run) ≡ (filled run).held
unfolding holding
put_in run h =
    ap (map symbol) (stored-holding (replicate held_places 0) run (omega (arith, length-replicate {A = ℕ} held_places 0)) ∙ ap (λ (l : List ℕ). run ++ l) (zeros-behind (length run) h))
    ∙ map-append symbol run (replicate (held_places - length run) 0)
    ∙ ap (λ (l : List ℕ). map symbol run ++ l) (zeros-same (held_places - length run))

-- undamaged, and with a damaged one
pub filled-good : (run held : List ℕ) → length run ≤ 63 → held ≡ map symbol (stored (replicate held_places 0) 0 run) → undamaged_all run ≡ true
    → ◌≡◌ {A = Receiver} (record { held = held; count = length run; mark = 0; place = 0 }) (filled run)
filled-good run held h e u = rw (e, put_in run h, u)

pub filled-hurt : (run held : List ℕ) (place : ℕ) → length run ≤ 63 → held ≡ map symbol (stored (replicate held_places 0) 0 run) → undamaged_all run ≡ false → place ≡ first_damaged run
    → ◌≡◌ {A = Receiver} (record { held = held; count = length run; mark = 1; place = place }) (filled run)
filled-hurt run held place h e u p = rw (e, put_in run h, u, p)
