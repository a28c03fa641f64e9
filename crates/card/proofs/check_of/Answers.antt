-- `card::check_of` meets its contract: each way out is the answer that the columns and the fields name. Assumes nothing.
use native.Mathlib.Omega.{arith}
use borrow.Author.Rules.{rules}
use Rattle.post.proofs.Answers.{part-is}
use Rattle.card.specs.Columns.{account_column, table_column}
use Rattle.card.proofs.Places.{account-passed}
use Rattle.card.proofs.Answers.{answers-account, answers-card, answers-field}
use Rattle.card.proofs.check_of.Goals as goal

pub returns-then-front-lt-ACCOUNT_FIELD : goal.returns-then-front-lt-ACCOUNT_FIELD
returns-then-front-lt-ACCOUNT_FIELD c =
    answers-account c.args.tables c.args.text.now _ (c.first_stray-front.ensures account_column (λ j x r e. e)) c.if-front-lt-ACCOUNT_FIELD.true

pub scan-fields-requires : goal.scan-fields-requires
scan-fields-requires c = account-passed c.args.tables c.args.text.now _ (c.first_stray-front.ensures account_column (λ j x r e. e)) c.if-front-lt-ACCOUNT_FIELD.false

pub returns-then-fields-text : goal.returns-then-fields-text
returns-then-fields-text c = answers-card c.args.tables _ _ c.args.text.now c.scan-fields.ensures c.if-fields-text.true

pub overflow_add-result : goal.overflow_add-result
overflow_add-result c =
    let f = c.first_stray-place.ensures (table_column c.args.tables c.scan-fields.result.above) (λ j x b e. search rules) in
    omega (arith, c.scan-fields.ensures.passed.in-text, f.in_field)

pub returns : goal.returns
returns c =
    let t = c.args.text.now in
    let r = c.scan-fields.result in
    let f = c.first_stray-place.ensures (table_column c.args.tables r.above) (λ j x b e. search rules) in
    answers-field c.args.tables r.at r.above t c.scan-fields.ensures c.first_stray-place.result c.if-fields-text.false (rw (part-is t r.at) at f)
