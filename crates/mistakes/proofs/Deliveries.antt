-- The wrong answers for `delivery` are ruled out, by the theorem that every post is delivered. Assumes nothing.
use mathlib.Core.Path.{◌≡◌, refl, ap, ◌∙◌}
use mathlib.Core.List.Memᴰ
use mathlib.Core.List.{List}
use mathlib.Core.Logic.{inl, inr}
use Prim.Native.Nat.{ℕ}
use native.Mathlib.Omega.{arith}
use lib.ListN.{get_or}
use Rattle.values.specs.Edition.{tables_of}
use Rattle.state.specs.declared.Meter.{Meter}
use Rattle.state.specs.Making.{new_rows}
use Rattle.replies.specs.Shown.{row_of}
use Rattle.state.specs.Setting.{with_attempts}
use Rattle.post.specs.Grammar.{Entry, post_text}
use Rattle.export.specs.Frames.{frames_of}
use Rattle.dialogue.specs.Feeding.{answered, left, full}
use Rattle.delivery.specs.Acknowledged.{acknowledgements}
use Rattle.delivery.specs.Delivery.{Ready, Delivered, DeliveredAs}
use Rattle.delivery.proofs.Delivery.{delivery}
use Rattle.delivery.proofs.Counting.{count-once}
use Rattle.mistakes.specs.Samples.{twos, new_meter}
use Rattle.mistakes.specs.Posts.{entry, one, last_alone, ready, Deliveries}
use Rattle.mistakes.proofs.Sending.{ready-formed}
use Rattle.mistakes.proofs.Posts.{post-of, entries-of, good-one}

is-ready : Ready ready
is-ready = record { formed = ready-formed; mode = refl; empty = refl }

delivered : Delivered ready one (answered ready full (frames_of one)) (left ready full (frames_of one))
unfolding new_meter tables_of
delivered = delivery ready is-ready (post_text one) (post-of 24 one good-one) full (λ i. omega arith)

counted-once : acknowledgements (answered ready full (frames_of one)) ≡ 1
counted-once = ap acknowledgements delivered.acknowledged ∙ count-once ready.speed one

-- the row of table 7 was '1', and is '2'
row_before : get_or (row_of ready.registers.tables 7) 0 0 ≡ 49
unfolding new_meter row_of tables_of new_rows
row_before = refl

row-posted : get_or twos 0 0 ≡ 50
unfolding twos
row-posted = refl

keeps-no-state : ready ≡ left ready full (frames_of one) → ⊥
keeps-no-state e =
    let row = ap (λ (m : Meter). row_of m.registers.tables 7) e ∙ delivered.named (entry 7 twos) (Memᴰ.head refl) in
    omega (arith, row_before, row-posted, ap (λ (s : List ℕ). get_or s 0 0) row)

all-acknowledged : DeliveredAs ready (post_text one) 1 0 1 ready → ⊥
unfolding DeliveredAs new_meter tables_of
all-acknowledged (inl a) = keeps-no-state (a.fed ∙ ap (λ (es : List Entry). left ready full (frames_of es)) (entries-of one good-one a.is-post))
all-acknowledged (inr b) = omega (arith, b.refused)

changed-by-refusal : (place : ℕ) → DeliveredAs ready last_alone 20 place 0 (with_attempts ready 1) → ⊥
unfolding DeliveredAs new_meter tables_of new_rows
changed-by-refusal place (inl a) = omega (arith, a.done)
changed-by-refusal place (inr b) = omega (arith, ap (λ (m : Meter). m.attempts) b.kept)

pub deliveries : Deliveries
deliveries = record { feed = (λ e. omega (arith, e, counted-once), keeps-no-state); feed-none = λ e. omega (arith, e, counted-once); deliver = (all-acknowledged, changed-by-refusal) }
