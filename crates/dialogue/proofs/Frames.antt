-- A whole frame: given byte by byte it comes to what is done with its verdict, and a verdict on a good shape goes by letters and data.
-- Assumes nothing.
use mathlib.Core.Path.{◌≡◌, refl, ap, ◌∙◌}
use mathlib.Core.Bool.{true, false, ◌&&◌, and-false}
use mathlib.Core.List.{List, [], ◌∷◌, ◌++◌, map, append_assoc}
use Prim.Native.Nat.{ℕ, zero, suc, ◌+◌, ◌-◌, ◌≤◌, ◌<◌}
use native.Mathlib.Omega.{arith}
use borrow.Author.Tests.{le-leb, eq-eqb}
use lib.Dec.{eqb, leb, lit<}
use lib.ListN.{length, get_or, take, replicate, length-append}
use lib.Seq.{take_at, get_or-append_seam}
use Rattle.line.specs.Characters.{sent}
use Rattle.line.specs.Checksum.{bcc_of}
use Rattle.line.specs.Runs.{every}
use Rattle.line.proofs.Runs.{every_append, every-weaker}
use Rattle.line.proofs.Xor.{bcc-lt}
use Rattle.text.specs.Classes.{between, is_printable}
use Rattle.frames.specs.Frames.{closed, on_wire}
use Rattle.state.specs.Sizes.{reply_room}
use Rattle.state.specs.declared.Registers.{Registers}
use Rattle.state.specs.declared.Meter.{Meter}
use Rattle.receiving.specs.declared.Hearing.TheVariants.{Frame}
use Rattle.deciding.specs.Shape.{start_good, bare_shape, framed_shape, content}
use Rattle.state.specs.WellFormed.{tables_in, family_in}
use Rattle.deciding.specs.Verdict.{framed_verdict, shape_verdict, verdict}
use Rattle.meter.specs.Outcomes.{Outcome, silent}
use Rattle.meter.specs.Acting.{acted}
use Rattle.meter.proofs.Places.{acted-nowhere, at_none}
use Rattle.meter.specs.Character.{heard, character}
use Rattle.dialogue.specs.Feeding.{Said, said_in, quiet, at_last}
use Rattle.dialogue.proofs.Feeding.{Fed, fed-none, fed-next, fed-append}
use Rattle.dialogue.proofs.Held.{Fit, idle, holding, heard-as, last-held, held-is, holding-formed, holds, begun}
use Rattle.dialogue.proofs.Rules.{in_frame, other, frame-limit, frame-holds, frame-rule, ends-frame}

map-append : (f : ℕ → ℕ) (a b : List ℕ) → map f (a ++ b) ≡ map f a ++ map f b
map-append f [] b = refl
map-append f (x ∷ a) b = ap (λ (l : List ℕ). f x ∷ l) (map-append f a b)

-- one more that says nothing, before the last
pub once_more : (n s : ℕ) (said : List Said) → replicate n (quiet s) ++ (quiet s ∷ said) ≡ replicate (suc n) (quiet s) ++ said
once_more zero s said = refl
once_more (suc n) s said = ap (λ (l : List Said). quiet s ∷ l) (once_more n s said)

-- the bytes of what was begun, and those that follow
pub continued : (m mid after : Meter) (xs ys : List ℕ) (n s : ℕ) (said : List Said) → Fed m (map sent xs) (replicate n (quiet s)) mid
    → Fed mid (map sent ys) said after → Fed m (on_wire (xs ++ ys)) (replicate n (quiet s) ++ said) after
continued m mid after xs ys n s said f g =
    rw (map-append sent xs ys) (fed-append m (map sent xs) (map sent ys) (replicate n (quiet s)) said mid after f g)

module _ (mode a s : ℕ) (g : Registers) (fit : Fit mode a s g) (h : 2 ≤ mode) (body : List ℕ) (plain : every in_frame body ≡ true) (long : length body ≤ 60) where
  -- SOH, the body and ETX, as they are held
  abbrev ended : Meter
  ended = holding mode a s g 1 (body ++ (3 ∷ []))

  etx-held : character (holding mode a s g 1 body) reply_room (sent 3) ≡ silent 0 ended
  etx-held =
      holds mode a s g fit 1 in_frame (frame-rule mode h) body 3 plain (omega (arith, frame-limit mode h)) (lit< tt)
      (λ last l. frame-holds mode h (length body) last 3 (omega arith) l refl)

  ended-small : every (between 0 127) (body ++ (3 ∷ [])) ≡ true
  unfolding between every
  ended-small = every_append (between 0 127) body (3 ∷ []) (every-weaker in_frame (between 0 127) small body plain) refl
    where
      small : (x : ℕ) → in_frame x ≡ true → (leb 0 x && leb x 127) ≡ true
      small x k = let s = (other 1 1 x k).plain.small in rw (le-leb 0 x (omega arith), le-leb x 127 (omega arith))

  -- after ETX the frame is whole, whatever comes
  completes : (c : ℕ) → c < 128 → character ended reply_room (sent c) ≡ acted ended (verdict (tables_in g) (family_in g) mode (1 ∷ (body ++ (3 ∷ []))) false c)
  unfolding heard
  completes c low =
      let ys = body ++ (3 ∷ []) in
      let zs : List ℕ = replicate (63 - length ys) 0 in
      let n : length ys ≡ suc (length body) = omega (arith, length-append body (3 ∷ [])) in
      let l : eqb (get_or (1 ∷ (ys ++ zs)) (length ys) 0) 3 ≡ true =
      ap (λ (k : ℕ). eqb (get_or (1 ∷ (ys ++ zs)) k 0) 3) n ∙ ap (λ (t : List ℕ). eqb (get_or t (length body) 0) 3) (append_assoc body (3 ∷ []) zs)
      ∙ ap (λ (x : ℕ). eqb x 3) (get_or-append_seam body 3 zs 0) in
      let f = holding-formed mode a s g fit 1 in_frame (frame-rule mode h) ys (omega (arith, frame-limit mode h)) ended-small in
      heard-as ended c Frame f low (ends-frame mode h (length ys) _ c (ap (λ (k : ℕ). eqb k 3) (last-held 1 ys) ∙ l))
      ∙ at_none (acted ended (verdict (tables_in g) (family_in g) mode _ false c)) (acted-nowhere ended (verdict (tables_in g) (family_in g) mode _ false c))
      ∙ ap (λ (t : List ℕ). acted ended (verdict (tables_in g) (family_in g) mode t false c)) (held-is 1 ys)

  -- all of it: nothing at each byte but the last, and there what is done with the verdict
  pub frame-fed : (o : Outcome) → acted ended (verdict (tables_in g) (family_in g) mode (1 ∷ (body ++ (3 ∷ []))) false (bcc_of (body ++ (3 ∷ [])))) ≡ o
      → Fed (idle mode a s g) (on_wire (1 ∷ closed body)) (at_last (suc (suc (length body))) s (said_in o)) o.next
  unfolding closed
  frame-fed o e =
      let sum = bcc_of (body ++ (3 ∷ [])) in
      let last = fed-next ended (sent sum) o [] [] o.next (completes sum (bcc-lt (body ++ (3 ∷ []))) ∙ e) (fed-none o.next) in
      let two = fed-next (holding mode a s g 1 body) (sent 3) (silent 0 ended) (sent sum ∷ []) (said_in o ∷ []) o.next etx-held last in
      let all =
      continued (idle mode a s g) (holding mode a s g 1 body) o.next (1 ∷ body) (3 ∷ sum ∷ []) (suc (length body)) s (quiet s ∷ said_in o ∷ [])
      (begun mode a s g fit 1 in_frame (frame-rule mode h) body plain (omega (arith, frame-limit mode h))) two in
      rw (append_assoc body (3 ∷ []) (sum ∷ []), ← once_more (suc (length body)) s (said_in o ∷ [])) all

-- SOH, two letters, STX, data, ETX
abbrev pub held_frame : ℕ → ℕ → List ℕ → List ℕ
held_frame x y d = 1 ∷ x ∷ y ∷ 2 ∷ (d ++ (3 ∷ []))

module _ (x y : ℕ) (d : List ℕ) (px : is_printable x ≡ true) (py : is_printable y ≡ true) (printable : every is_printable d ≡ true) where
  frame-long : length (held_frame x y d) ≡ length d + 5
  frame-long = omega (arith, length-append d (3 ∷ []))

  not-bare : bare_shape (held_frame x y d) ≡ false
  unfolding bare_shape start_good
  not-bare = rw (px, py) (and-false (eqb (length (held_frame x y d)) 4))

  content-is : content (held_frame x y d) ≡ d
  unfolding content
  content-is =
      ap (λ (n : ℕ). take n (d ++ (3 ∷ []))) {x = length (held_frame x y d) - 5} {y = length d} (omega (arith, frame-long))
      ∙ take_at d (3 ∷ []) (length d) refl

  etx-last : get_or (held_frame x y d) (length (held_frame x y d) - 1) 0 ≡ 3
  etx-last =
      ap (λ (n : ℕ). get_or (held_frame x y d) n 0) {x = length (held_frame x y d) - 1} {y = suc (suc (suc (suc (length d))))} (omega (arith, frame-long))
      ∙ get_or-append_seam d 3 [] 0

  framed : framed_shape (held_frame x y d) ≡ true
  unfolding framed_shape start_good
  framed = rw (content-is, etx-last, printable, px, py, le-leb 5 (length (held_frame x y d)) (omega (arith, frame-long)))

  shape_is : (tables family mode : ℕ) → shape_verdict tables family mode (held_frame x y d) ≡ framed_verdict tables family mode x y d
  unfolding shape_verdict
  shape_is tables family mode = rw (not-bare, framed, content-is)

  -- a frame of two printable letters and printable data goes by them
  pub verdict-is : (tables family mode : ℕ) → verdict tables family mode (held_frame x y d) false (bcc_of (x ∷ y ∷ 2 ∷ (d ++ (3 ∷ [])))) ≡ framed_verdict tables family mode x y d
  unfolding verdict
  verdict-is tables family mode = rw (eq-eqb (bcc_of (x ∷ y ∷ 2 ∷ (d ++ (3 ∷ [])))) _ refl) (shape_is tables family mode)
