-- `sessionlink::dirgemist_session_silence` meets its contract: no silence has a message behind it. Assumes nothing.
use mathlib.Core.Path.{◌≡◌, refl, sym, ap, ◌∙◌}
use mathlib.Core.Bool.{Bool, true, false, cond}
use Prim.Native.Nat.{ℕ}
use lib.Dec.{eqb}
use lib.ListN.{length}
use Rattle.session.specs.declared.Session.{Session}
use Rattle.session.specs.Standing.{session_good}
use Rattle.session.specs.Turns.{Step, step_of, unturned, ends, silent}
use Rattle.sessionlink.proofs.dirgemist_session_silence.Goals as goal

mute-by : (s : Session) (a b : Bool) → length (cond a (cond b (ends s 4) (ends s s.fact)) (unturned 31 s)).text ≡ 0
mute-by s true true = refl
mute-by s true false = refl
mute-by s false b = refl

mute : (s : Session) → length (silent s).text ≡ 0
unfolding silent
mute s = mute-by s (session_good s) (eqb s.fact 0)

abbrev handed : Step → ℕ → Step
handed r n = record { number = r.number; fact = r.fact; message = r.message; length = n; next = r.next }

said : (s : Session) (r : Step) → r ≡ step_of (silent s) → handed r 0 ≡ step_of (silent s)
said s r e = ap (λ (t : Step). handed t 0) e ∙ ap (handed (step_of (silent s))) (sym (mute s))

pub returns : goal.returns
returns c = said _ _ (c.hand_out.ensures ∙ c.hear_nothing.ensures)
