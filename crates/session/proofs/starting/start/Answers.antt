-- `session::starting::start` meets its contract: no edition, no family, a buffer that is too small, reads, no kind of work, a post, a text that is none. Assumes nothing.
use mathlib.Core.Path.{refl, sym, ap, ◌∙◌}
use Prim.Native.Nat.{ℕ}
use native.Mathlib.Omega.{arith}
use lib.ListN.{length}
use Rattle.text.specs.Writing.{holding}
use Rattle.values.specs.Edition.{tables_of}
use Rattle.values.proofs.Editions.{tables-most}
use Rattle.frames.specs.Frames.{on_wire}
use Rattle.session.specs.Starting.{told_of, started_of, unopened, opened_reads, opened_post, unknown, strange, small, nothing, reads, posts, others}
use Rattle.post.specs.Refusals.{refusal_place}
use Rattle.post.proofs.Answers.{not-done}
use Rattle.session.proofs.Checked.{not-post, a-post, lines-counted}
use Rattle.session.proofs.starting.start.Goals as goal

pub returns-then-not-is_edition : goal.returns-then-not-is_edition
unfolding holding
returns-then-not-is_edition c =
    let none = sym c.is_edition.ensures ∙ c.if-not-is_edition.true in
    record { opening = unopened 16 0; opens = unknown none refl; answer = refl; held = refl }

pub returns-then-not-is_family : goal.returns-then-not-is_family
unfolding holding
returns-then-not-is_family c =
    let is = sym c.is_edition.ensures ∙ c.if-not-is_edition.false in
    let none = sym c.is_family.ensures ∙ c.if-not-is_family.true in
    record { opening = unopened 18 0; opens = strange is none refl; answer = refl; held = refl }

pub returns-then-buf-lt-ROOM : goal.returns-then-buf-lt-ROOM
unfolding holding
returns-then-buf-lt-ROOM c =
    let is = sym c.is_edition.ensures ∙ c.if-not-is_edition.false in
    let has = sym c.is_family.ensures ∙ c.if-not-is_family.false in
    record { opening = unopened 19 0; opens = small (is, has) c.if-buf-lt-ROOM.true refl; answer = refl; held = refl }

pub returns-in-0 : goal.returns-in-0
returns-in-0 c =
    let a = c.args in
    let is = sym c.is_edition.ensures ∙ c.if-not-is_edition.false in
    let has = sym c.is_family.ensures ∙ c.if-not-is_family.false in
    record { opening = opened_reads (told_of a.edition a.decimals a.named a.serial.now a.access a.password.now a.kind) a.work.now; opens = reads (is, has) c.if-buf-lt-ROOM.false c.in-0.is refl; answer = c.open_reads.ensures.result; held = c.open_reads.ensures.held }

pub returns-in_default : goal.returns-in_default
unfolding holding
returns-in_default c =
    let is = sym c.is_edition.ensures ∙ c.if-not-is_edition.false in
    let has = sym c.is_family.ensures ∙ c.if-not-is_family.false in
    record { opening = unopened 9 0; opens = nothing (is, has) c.if-buf-lt-ROOM.false (λ e. omega (arith, e)) (λ e. omega (arith, e)) refl; answer = refl; held = refl }

pub returns-in-Err : goal.returns-in-Err
unfolding holding
returns-in-Err c =
    let a = c.args in
    let is = sym c.is_edition.ensures ∙ c.if-not-is_edition.false in
    let has = sym c.is_family.ensures ∙ c.if-not-is_family.false in
    let r = not-post (tables_of a.edition) a.work.now _ _ (c.in-Err.ensures.some is) (not-done c.in-Err.refusal) in
    record {
      opening = unopened 20 (refusal_place c.in-Err.refusal);
      opens = others (is, has) c.if-buf-lt-ROOM.false c.in-1.is (record { no-post = r.no-post; longest = r.longest; refused = refl });
      answer = rw c.place.ensures;
      held = refl;
    }

pub returns-in_default-check : goal.returns-in_default-check
returns-in_default-check c =
    let a = c.args in
    let is = sym c.is_edition.ensures ∙ c.if-not-is_edition.false in
    let has = sym c.is_family.ensures ∙ c.if-not-is_family.false in
    let p = a-post (tables_of a.edition) a.work.now _ _ (c.in_default-check.ensures.some is) refl in
    let n = lines-counted (tables_of a.edition) a.work.now p (omega (arith, tables-most a.edition)) in
    let t = told_of a.edition a.decimals a.named a.serial.now a.access a.password.now a.kind in
    record {
      opening = opened_post t (length p.entries);
      opens = posts (is, has) c.if-buf-lt-ROOM.false c.in-1.is (record { is-post = p; opens = refl });
      answer = c.open_post.ensures.result ∙ ap (λ (k : ℕ). started_of (opened_post t k)) n;
      held = c.open_post.ensures.held ∙ ap (λ (k : ℕ). holding a.buf.now (on_wire (opened_post t k).text)) n;
    }
