-- `post::seen_whole` meets its contract: yes is said below rising lines and before the last line alone. Assumes nothing.
use Rattle.std.proofs.Common.{◌≡◌, ℕ, ◌*◌, ◌/◌, length, sym, ◌∙◌, arith}
use Rattle.post.proofs.Answers.{part-is}
use Rattle.post.proofs.Rise.{whole_post}
use Rattle.post.proofs.Last.{last-is}
use Rattle.post.proofs.seen_whole.Goals as goal

pub returns-then-text-lines : goal.returns-then-text-lines
returns-then-text-lines c = λ e. absurd (let z : ◌≡◌ {A = ℕ} 0 1 = cc in omega arith)

pub returns-then-lines-eq0 : goal.returns-then-lines-eq0
returns-then-lines-eq0 c = λ e. absurd (let z : ◌≡◌ {A = ℕ} 0 1 = cc in omega arith)

pub returns-then-tables-lines : goal.returns-then-tables-lines
returns-then-tables-lines c = λ e. absurd (let z : ◌≡◌ {A = ℕ} 0 1 = cc in omega arith)

pub returns-then-not-is_last : goal.returns-then-not-is_last
returns-then-not-is_last c = λ e. absurd (let z : ◌≡◌ {A = ℕ} 0 1 = cc in omega arith)

pub returns : goal.returns
returns c = let a = c.args in
    let t = a.text.now in
    let e = last-is 1 _ (sym c.is_last.ensures ∙ c.if-not-is_last.false) in
    λ y.
    whole_post a.tables t (length t / 36) c.requires (omega arith) (c.lines_rise.ensures y) (omega arith) (sym (part-is t (36 * (length t / 36))) ∙ e.1)
