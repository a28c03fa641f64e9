-- `meter::acting::act` meets its contract: what is said of the whole meter is said of its parts. Assumes nothing.
use mathlib.Core.Path.{ap, ◌∙◌, sym}
use native.Mathlib.Omega.{arith}
use Rattle.text.specs.Writing.{holding}
use Rattle.frames.specs.Frames.{on_wire}
use mathlib.Core.List.{List}
use Prim.Native.Nat.{ℕ}
use Rattle.state.proofs.Parts.{long}
use Rattle.state.proofs.Archives.{formed-archive}
use Rattle.meter.specs.Deeds.{small_of, acted_with}
use Rattle.meter.proofs.Known.{archive-good}
use Rattle.meter.proofs.Done.{roomy, said-short, said-long}
use borrow.Author.Rules.{rules}
use Rattle.meter.proofs.acting.act.Goals as goal

pub act_long-requires : goal.act_long-requires
act_long-requires c =
    let m = c.args.m in ((formed-archive m.registers.facts.decimals m.registers.archive (archive-good m c.requires.0)).count, c.requires.1)

pub returns-then-d : goal.returns-then-d
returns-then-d c =
    let m = c.args.m in
    let d = c.args.d in
    let all = said-long m d c.if-d.true in
    let said = rw c.small_of-s.ensures at c.act_long.ensures in
    record { result = said.result ∙ ap (λ (l : List ℕ). acted_with (small_of m) l d) all; held = said.held ∙ ap (λ (l : List ℕ). holding c.args.reply.now (on_wire l)) all }

pub act_short-requires : goal.act_short-requires
act_short-requires c =
    let m = c.args.m in (rw c.small_of-s.ensures (long m c.requires.0).serial, roomy _ _ _ c.requires.1)

pub returns : goal.returns
returns c =
    let m = c.args.m in
    let d = c.args.d in
    let all = said-short m d c.if-d.false in
    let said = rw c.small_of-s.ensures at c.act_short.ensures in
    record { result = said.result ∙ ap (λ (l : List ℕ). acted_with (small_of m) l d) all; held = said.held ∙ ap (λ (l : List ℕ). holding c.args.reply.now (on_wire l)) all }
