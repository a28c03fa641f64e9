-- Commands with a field of fixed length, character by character as they are sent. Assumes nothing.
use mathlib.Core.Path.{◌≡◌, refl, sym, ap, subst, ◌∙◌}
use mathlib.Core.List.{List, [], ◌∷◌, ◌++◌, map}
use Prim.Native.Nat.{ℕ, ◌+◌, ◌≤◌}
use native.Mathlib.Omega.{arith}
use lib.Bits.{bit_xor, xor_comm}
use lib.Count.{ones}
use lib.ListN.{length, get_or, set}
use lib.Seq.{take_all}
use Rattle.line.specs.Characters.{seven, sent}
use Rattle.line.specs.Checksum.{bcc_of}
use Rattle.line.proofs.Xor.{xor_assoc, bcc-append}
use Rattle.text.specs.Writing.{stored}
use Rattle.text.proofs.Writing.{stored-holding}
use Rattle.eights.proofs.Windows.{window, spelled, take-spelled}
use Rattle.values.specs.Texts.{serial_text, wired_text}
use Rattle.frames.specs.Frames.{closed, frame_of, on_wire}
use Rattle.frames.specs.Commands.{P1, bracketed}
use Rattle.frames.specs.Session.{sign_on_to, wired_line, wired_sign_on, password_data}
use Rattle.commands.specs.Building.{with_serial, Made}

-- a command that is put in from the front is made
pub made_so : (buf command : List ℕ) (n : ℕ) (after : List ℕ) → length command ≤ length buf → n ≡ 0 + length command → after ≡ stored buf 0 command
    → Made buf command (record { number = 1; length = n }) after
made_so buf command n after h e f =
    let own : n ≡ length command = omega arith in
    record { answer = rw own; held = f ∙ stored-holding buf command h }

-- a text, spelled
whole : (n : ℕ) (s : List ℕ) → length s ≡ n → spelled n 0 0 s ≡ s
whole n s e = sym (take-spelled n 0 0 s (omega arith)) ∙ take_all n s (omega arith)

-- the BCC of a content and of what stands around it
around-bcc : (a t b : List ℕ) → bcc_of (a ++ (t ++ b)) ≡ bit_xor (bcc_of t) (bcc_of (a ++ b))
around-bcc a t b =
    bcc-append a (t ++ b)
    ∙ ap (bit_xor (bcc_of a)) (bcc-append t b)
    ∙ sym (xor_assoc (bcc_of a) (bcc_of t) (bcc_of b))
    ∙ ap (λ (n : ℕ). bit_xor n (bcc_of b)) (xor_comm (bcc_of a) (bcc_of t))
    ∙ xor_assoc (bcc_of t) (bcc_of a) (bcc_of b)
    ∙ ap (bit_xor (bcc_of t)) (sym (bcc-append a b))

-- a serial's first eight digits and its last eight are all of it
pub both-eights : (call s a z : List ℕ) → length s ≡ 10 → a ≡ map sent (window 0 s) → z ≡ map sent (window 2 s)
    → set (set (set (set (set (set (set (set (set (set call 2 (get_or a 0 0)) 3 (get_or a 1 0)) 4 (get_or a 2 0)) 6 (get_or z 1 0)) 7 (get_or z 2 0)) 8 (get_or z 3 0)) 9 (get_or z 4 0)) 10 (get_or z 5 0)) 11 (get_or z 6 0)) 12 (get_or z 7 0)
    ≡ with_serial call (map sent s)
unfolding spelled
both-eights call s a z n e f =
    rw (e, f)
    (subst (λ (l : List ℕ). let a = map sent (window 0 l) in let z = map sent (window 2 l) in set (set (set (set (set (set (set (set (set (set call 2 (get_or a 0 0)) 3 (get_or a 1 0)) 4 (get_or a 2 0)) 6 (get_or z 1 0)) 7 (get_or z 2 0)) 8 (get_or z 3 0)) 9 (get_or z 4 0)) 10 (get_or z 5 0)) 11 (get_or z 6 0)) 12 (get_or z 7 0) ≡ with_serial call (map sent l)) (whole 10 s n) refl)

pub call-sent : (s : List ℕ) → length s ≡ 10
    → with_serial (0xAF ∷ 0x3F ∷ 95 ∷ 95 ∷ 95 ∷ 0xA0 ∷ 95 ∷ 95 ∷ 95 ∷ 95 ∷ 95 ∷ 95 ∷ 95 ∷ 0x21 ∷ 0x8D ∷ 0x0A ∷ []) (map sent s) ≡ on_wire (sign_on_to s)
unfolding spelled sign_on_to serial_text sent seven ones
call-sent s n =
    subst (λ (l : List ℕ). with_serial (0xAF ∷ 0x3F ∷ 95 ∷ 95 ∷ 95 ∷ 0xA0 ∷ 95 ∷ 95 ∷ 95 ∷ 95 ∷ 95 ∷ 95 ∷ 95 ∷ 0x21 ∷ 0x8D ∷ 0x0A ∷ []) (map sent l) ≡ on_wire (sign_on_to l)) (whole 10 s n) refl

pub wired-sent : (s : List ℕ) → length s ≡ 10
    → with_serial (0xAF ∷ 0x41 ∷ 95 ∷ 95 ∷ 95 ∷ 0x2E ∷ 95 ∷ 95 ∷ 95 ∷ 95 ∷ 95 ∷ 95 ∷ 95 ∷ 0x8D ∷ 0x0A ∷ []) (map sent s) ≡ on_wire (wired_sign_on s)
unfolding spelled wired_line wired_text sent seven ones
wired-sent s n =
    subst (λ (l : List ℕ). with_serial (0xAF ∷ 0x41 ∷ 95 ∷ 95 ∷ 95 ∷ 0x2E ∷ 95 ∷ 95 ∷ 95 ∷ 95 ∷ 95 ∷ 95 ∷ 95 ∷ 0x8D ∷ 0x0A ∷ []) (map sent l) ≡ on_wire (wired_sign_on l)) (whole 10 s n) refl

abbrev password_front : List ℕ
password_front = 80 ∷ 49 ∷ 2 ∷ 40 ∷ []

abbrev frame_end : List ℕ
frame_end = 41 ∷ 3 ∷ []

pub password-sent : (s p : List ℕ) (b k x : ℕ) → length s ≡ 8 → p ≡ map sent (window 0 s) → b ≡ bcc_of (window 0 s) → k ≡ bcc_of (80 ∷ 49 ∷ 2 ∷ 40 ∷ 41 ∷ 3 ∷ []) → x ≡ sent (bit_xor b k)
    → (0x81 ∷ 0x50 ∷ 0xB1 ∷ 0x82 ∷ 0x28 ∷ get_or p 0 0 ∷ get_or p 1 0 ∷ get_or p 2 0 ∷ get_or p 3 0 ∷ get_or p 4 0 ∷ get_or p 5 0 ∷ get_or p 6 0 ∷ get_or p 7 0 ∷ 0xA9 ∷ 0x03 ∷ x ∷ [])
    ≡ on_wire (frame_of P1 (password_data s))
unfolding spelled frame_of closed password_data bracketed sent seven ones
password-sent s p b k x n e f g h =
    let own : b ≡ bcc_of s = f ∙ ap bcc_of (take_all 8 s (omega arith)) in
    let sum : x ≡ sent (bcc_of (password_front ++ (s ++ frame_end))) = h ∙ (rw (own, g) (ap sent (sym (around-bcc password_front s frame_end)))) in
    rw (e, sum)
    (subst (λ (l : List ℕ). let p = map sent (window 0 l) in (0x81 ∷ 0x50 ∷ 0xB1 ∷ 0x82 ∷ 0x28 ∷ get_or p 0 0 ∷ get_or p 1 0 ∷ get_or p 2 0 ∷ get_or p 3 0 ∷ get_or p 4 0 ∷ get_or p 5 0 ∷ get_or p 6 0 ∷ get_or p 7 0 ∷ 0xA9 ∷ 0x03 ∷ sent (bcc_of (password_front ++ (l ++ frame_end))) ∷ []) ≡ on_wire (frame_of P1 (password_data l))) (whole 8 s n) refl)
