-- The wrong answers for `post` and `export` are ruled out: each text is a post or strays from every post, by computing. Assumes nothing.
use mathlib.Core.Path.{◌≡◌, refl, ap, ◌∙◌}
use mathlib.Core.Bool.{true}
use mathlib.Core.List.{List, [], ◌∷◌, ◌++◌}
use mathlib.Core.Logic.{inl, inr}
use Prim.Native.Nat.{ℕ, ◌<◌}
use native.Mathlib.Omega.{arith}
use lib.Count.{ones}
use lib.ListN.{length, get_or, take, drop, replicate}
use Rattle.line.specs.Quoted.{chars}
use Rattle.line.specs.Characters.{seven, sent}
use Rattle.line.specs.Checksum.{bcc_of}
use Rattle.line.specs.Runs.{every}
use Rattle.text.specs.Writing.{holding}
use Rattle.text.specs.Classes.{between}
use Rattle.text.specs.Decimal.{decimal}
use Rattle.text.specs.Layout.{layout_text}
use Rattle.values.specs.Registers.{good_row, good_table}
use Rattle.values.specs.Texts.{table_text}
use Rattle.frames.specs.Frames.{closed, frame_of}
use Rattle.frames.specs.Commands.{set_table, bracketed as in_brackets}
use Rattle.post.specs.Grammar.{Entry, IsPost, line_text, lines_text, last_line, post_text, good_entry, rising, good_entries}
use Rattle.post.specs.Place.{CheckedAs}
use Rattle.post.specs.Columns.{lowest, highest, column_fits, columns_fit, number_of, may_follow, pick, next_number}
use Rattle.post.specs.Rest.{Passed}
use Rattle.post.proofs.Places.{passed_none, passed-more, no-rest-here}
use Rattle.post.proofs.Reading.{one-reading, post-rest}
use Rattle.post.proofs.Answers.{one_answer, answers-post}
use Rattle.export.specs.Frames.{entry_frame, frames_of, Done, NoRoom, NoPost, ExportedAs}
use Rattle.facts.proofs.Facts.{facts}
use Rattle.mistakes.specs.Samples.{twos}
use Rattle.mistakes.specs.Commands.{broken}
use Rattle.mistakes.specs.Posts.{entry, one, two, twice, bracketed, last_alone, Checks, Exports, PostRefusals, ExportRefusals}

-- a text whose first line is none
pub strays : (tables : ℕ) (text : List ℕ) → tables < 100 → next_number tables 0 text ≡ 0 → IsPost tables text → ⊥
strays tables text few e p = no-rest-here tables 0 text few (λ h. e) (λ h k. absurd (omega (arith, h))) (post-rest tables text p)

-- what the texts come to
record Computed : Type 0 where
  good-row : good_row twos ≡ true
  good-one : good_entries 24 one ≡ true
  good-of-7 : good_entries 7 one ≡ true
  good-two : good_entries 24 two ≡ true
  alone : next_number 24 0 last_alone ≡ 0
  broken-line : next_number 24 0 bracketed ≡ 0
  high-line : next_number 6 0 (post_text one) ≡ 0
  again : next_number 24 7 (drop 36 twice) ≡ 0
  again-long : length twice ≡ 75
  again-front : twice ≡ line_text 7 twos ++ drop 36 twice
  again-first : get_or (drop 36 twice) 0 0 ≡ 49
  second-row : get_or (holding (replicate 72 0) (frames_of two)) 50 0 ≡ 177
  first-row : get_or (frames_of (entry 7 twos ∷ entry 8 twos ∷ [])) 50 0 ≡ 178
  frame-start : get_or (take 35 (frames_of one)) 0 0 ≡ 129
  second-start : get_or (holding (replicate 72 0) (frames_of two)) 36 0 ≡ 129
  second_none : get_or (frames_of one ++ replicate 36 0) 36 0 ≡ 0
  first-unit : get_or (holding (replicate 72 0) (frames_of two)) 7 0 ≡ 0xB7
  swapped-unit : get_or (frames_of (entry 8 (replicate 24 49) ∷ entry 7 twos ∷ [])) 7 0 ≡ 0xB8
  right-sum : get_or (holding (replicate 36 0) (frames_of one)) 35 0 ≡ 0
  wrong-sum : get_or (take 35 (frames_of one) ++ 0x81 ∷ []) 35 0 ≡ 0x81

computed : Computed
unfolding ones seven sent bcc_of every holding between decimal layout_text table_text closed frame_of in_brackets set_table good_row good_table good_entry rising good_entries line_text lines_text last_line post_text lowest highest column_fits columns_fit number_of may_follow pick next_number entry_frame frames_of twos broken twice bracketed
computed =
    record {
      good-row = refl;
      good-one = refl;
      good-of-7 = refl;
      good-two = refl;
      alone = refl;
      broken-line = refl;
      high-line = refl;
      again = refl;
      again-long = refl;
      again-front = refl;
      again-first = refl;
      second-row = refl;
      first-row = refl;
      frame-start = refl;
      second-start = refl;
      second_none = refl;
      first-unit = refl;
      swapped-unit = refl;
      right-sum = refl;
      wrong-sum = refl;
    }

few : 24 < 100
few = omega arith

-- `!` alone, a bracket in a row, and table 7 of 6 are no posts
pub no-last-alone : IsPost 24 last_alone → ⊥
no-last-alone = strays 24 last_alone few computed.alone

no-high : IsPost 6 (post_text one) → ⊥
no-high = strays 6 (post_text one) (omega arith) computed.high-line

-- nor is a line under its own number
no-twice : IsPost 24 twice → ⊥
unfolding last_line
no-twice p =
    let first : Passed 24 twice 36 7 =
    passed-more 24 0 0 7 twice few (omega (arith, computed.again-long)) (passed_none 24 twice)
    (record { row = twos; low = omega arith; high = omega arith; good-row = computed.good-row; front = computed.again-front }) in
    no-rest-here 24 7 (drop 36 twice) few (λ h. computed.again) (λ h e. omega (arith, computed.again-first, ap (λ (s : List ℕ). get_or s 0 0) e)) (first.back (post-rest 24 twice p))

-- the posts, and their entries
abbrev pub post-of : (tables : ℕ) (es : List Entry) → good_entries tables es ≡ true → IsPost tables (post_text es)
post-of tables es g = record { entries = es; good = g; spelt = refl }

pub entries-of : (es : List Entry) → good_entries 24 es ≡ true → (p : IsPost 24 (post_text es)) → p.entries ≡ es
entries-of es g p = one-reading 24 p.entries es few p.good g p.spelt

pub good-one : good_entries 24 one ≡ true
good-one = computed.good-one

-- a post is never refused, and no other text accepted
refused_post : (tables : ℕ) (text : List ℕ) (place : ℕ) → IsPost tables text → CheckedAs tables text 20 place → ⊥
refused_post tables text place p c = omega (arith, (one_answer tables text 20 place 1 0 c (answers-post tables text p)).0)

accepted-other : (tables : ℕ) (text : List ℕ) (place : ℕ) → (IsPost tables text → ⊥) → CheckedAs tables text 1 place → ⊥
unfolding CheckedAs
accepted-other tables text place h (inl a) = h a.is-post
accepted-other tables text place h (inr b) = omega (arith, b.refused)

pub checks : Checks
checks =
    record {
      check =
          (λ place. refused_post 24 (post_text one) place (post-of 24 one computed.good-one), λ c. omega (arith, ((facts.past-24 twos computed.good-row).only 20 37 c).1));
      check-lines = (accepted-other 24 twice 0 no-twice, accepted-other 24 bracketed 0 (strays 24 bracketed few computed.broken-line));
      check_of = (accepted-other 6 (post_text one) 0 no-high, λ place. refused_post 7 (post_text one) place (post-of 7 one computed.good-of-7));
    }

pub post-refusals : PostRefusals
post-refusals = record { number = (λ e. omega (arith, e), λ e. omega (arith, e)); place = (λ e. omega (arith, e), λ e. omega (arith, e)) }

pub export-refusals : ExportRefusals
export-refusals = record { number = (λ e. omega (arith, e), λ e. omega (arith, e)); place = (λ e. omega (arith, e), λ e. omega (arith, e)) }

-- what an export with each number promises
module _ (tables : ℕ) (text out : List ℕ) (size place : ℕ) (after : List ℕ) where
  done-of : ExportedAs tables text out 1 size place after → Done tables text out 1 size place after
  unfolding ExportedAs
  done-of (inl d) = d
  done-of (inr (inl d)) = absurd (omega (arith, d.refused))
  done-of (inr (inr d)) = absurd (omega (arith, d.refused))

  no-room-of : ExportedAs tables text out 21 size place after → NoRoom tables text out 21 size place after
  unfolding ExportedAs
  no-room-of (inl d) = absurd (omega (arith, d.done))
  no-room-of (inr (inl d)) = d
  no-room-of (inr (inr d)) = absurd (omega (arith, d.refused))

  no-post-of : ExportedAs tables text out 20 size place after → NoPost tables text out 20 size place after
  unfolding ExportedAs
  no-post-of (inl d) = absurd (omega (arith, d.done))
  no-post-of (inr (inl d)) = absurd (omega (arith, d.refused))
  no-post-of (inr (inr d)) = d

-- what is written of a post is its frames, so no byte of them is another
written : (es : List Entry) (out after : List ℕ) (size place at : ℕ) → good_entries 24 es ≡ true → ExportedAs 24 (post_text es) out 1 size place after → get_or after at 0 ≡ get_or (holding out (frames_of es)) at 0
written es out after size place at g e =
    let d = done-of 24 (post_text es) out size place after e in
    ap (λ (s : List ℕ). get_or s at 0) (d.written ∙ ap (λ (x : List Entry). holding out (frames_of x)) (entries-of es g d.is-post))

made_up : (size : ℕ) (after : List ℕ) → ExportedAs 24 (chars "!") [] 20 size 1 after → ⊥
unfolding CheckedAs
made_up size after e =
    let d = no-post-of 24 (chars "!") [] size 1 after e in
    omega (arith, (facts.only-last.only 20 1 (inr (record { refused = refl; no-post = d.no-post; longest = d.longest }))).1)

pub exports : Exports
exports =
    record {
      export = (
        λ place e. no-last-alone (no-room-of 24 last_alone [] 0 place [] e).is-post,
        λ place e. omega (arith, computed.frame-start, ap (λ (s : List ℕ). get_or s 0 0) (no-room-of 24 (post_text one) (replicate 35 0) 0 place (take 35 (frames_of one)) e).kept),
      );
      export-lines = (
        λ size place e. omega (arith, computed.first-row, computed.second-row, written two (replicate 72 0) (frames_of (entry 7 twos ∷ entry 8 twos ∷ [])) size place 50 computed.good-two e),
        λ size place after e. let d = no-room-of 24 (post_text one) (replicate 36 0) size place after e in
            omega (arith, d.short, ap (λ (es : List Entry). length es) (entries-of one computed.good-one d.is-post)),
      );
      exports-the-first-row = λ size place e. omega (arith, computed.second-start, computed.second_none, written two (replicate 72 0) (frames_of one ++ replicate 36 0) size place 36 computed.good-two e);
      swaps-two-frames =
          λ size place e. omega (arith, computed.first-unit, computed.swapped-unit, written two (replicate 72 0) (frames_of (entry 8 (replicate 24 49) ∷ entry 7 twos ∷ [])) size place 7 computed.good-two e);
      sums-wrongly = λ size place e. omega (arith, computed.right-sum, computed.wrong-sum, written one (replicate 36 0) (take 35 (frames_of one) ++ 0x81 ∷ []) size place 35 computed.good-one e);
      makes-up-the-place = made_up;
      export_of = (
        λ size place after e. no-high (done-of 6 (post_text one) (replicate 36 0) size place after e).is-post,
        λ size place after e. (no-post-of 7 (post_text one) (replicate 36 0) size place after e).no-post (post-of 7 one computed.good-of-7),
      );
    }
