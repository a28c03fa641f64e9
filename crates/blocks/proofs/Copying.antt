-- Bytes copied one by one from the front on, each changed. Assumes nothing.
use mathlib.Core.Path.{◌≡◌, sym, ap, ◌∙◌}
use mathlib.Core.List.{List, map}
use Prim.Native.Nat.{ℕ, ◌+◌, ◌<◌}
use native.Mathlib.Nat.{zero-add}
use lib.ListN.{length, take, get_or, set, length-map, get_or-map}
use Rattle.text.specs.Writing.{stored}
use Rattle.text.proofs.Writing.{stored_next}

-- one byte more, of a change that leaves 0 alone
pub mapped_next : (f : ℕ → ℕ) (out s : List ℕ) (i : ℕ) → f 0 ≡ 0 → i < length s
    → set (stored out 0 (take i (map f s))) i (f (get_or s i 0)) ≡ stored out 0 (take (i + 1) (map f s))
mapped_next f out s i z h =
    let k : i < length (map f s) = rw (length-map s f) h in
    let e : get_or (map f s) i 0 ≡ f (get_or s i 0) = ap (get_or (map f s) i) (sym z) ∙ get_or-map f s i 0 in
    rw (← e) (ap (λ (n : ℕ). set (stored out 0 (take i (map f s))) n (get_or (map f s) i 0)) (sym (zero-add i)) ∙ stored_next out 0 (map f s) i k)
