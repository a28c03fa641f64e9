-- What a start with answer 1 says of the session: it may stand anywhere, and each message of its work can be built. Assumes nothing.
use mathlib.Core.Path.{◌≡◌, refl, sym, ap, subst, ◌∙◌}
use mathlib.Core.Bool.{Bool, true, false, cond, ◌&&◌, ◌||◌}
use mathlib.Core.List.{List, [], ◌∷◌}
use Prim.Native.Nat.{ℕ, zero, suc, ◌+◌, ◌*◌, ◌/◌, ◌≤◌, ◌<◌}
use native.Mathlib.Omega.{arith}
use borrow.Author.Tests.{eqb-true, le-leb, eqb-false, ltb-false}
use lib.Dec.{eqb, ltb}
use lib.ListN.{length, replicate}
use Rattle.values.proofs.Editions.{tables-most}
use Rattle.values.specs.Edition.{tables_of}
use Rattle.line.specs.Runs.{every}
use Rattle.line.proofs.Runs.{and_left, and_right, and_both}
use Rattle.text.specs.Classes.{between}
use Rattle.values.specs.Registers.{good_serial, good_password}
use Rattle.commands.specs.Spoken.{good_fields}
use Rattle.commands.specs.Messages.{text_of}
use Rattle.post.specs.Grammar.{Entry, good_entries, IsPost}
use Rattle.post.proofs.Reading.{good-rising, count_entries}
use Rattle.session.specs.Messages.{calling, read_of, read_at, reads_good, message_at}
use Rattle.session.specs.Standing.{told_good, kept_good, work_good, session_told}
use Rattle.session.specs.Starting.{Told, Opening, session_of, opened, opened_reads, opened_post, unopened, Opens, Known, small, nothing, reads, posts, others, unknown, strange}
use Rattle.state.specs.declared.Meter.{Meter}
use Rattle.conversation.specs.Conversation.{begun, asking}
use Rattle.conversation.proofs.Exchange.{Sound}

-- the branch that an answer 1 comes from
taken-first : (b : Bool) (x y : Opening) → (y.number ≡ 1 → ⊥) → (cond b x y).number ≡ 1 → b ≡ true
taken-first true x y h e = refl
taken-first false x y h e = absurd (h e)

taken-second : (b : Bool) (x y : Opening) → (x.number ≡ 1 → ⊥) → (cond b x y).number ≡ 1 → b ≡ false
taken-second true x y h e = absurd (h e)
taken-second false x y h e = refl

-- a session with so many messages of work, told what can be sent
pub record Began (t : Told) (count : ℕ) (o : Opening) : Type 0 where
  pub is : o ≡ record { number = 1; place = 0; session = session_of t count; text = text_of (calling (session_of t count)) }
  pub named : told_good t.named (good_serial t.serial) ≡ true
  pub access : told_good t.access (good_password t.password) ≡ true
  pub meter : Known t
  pub works : work_good (tables_of t.edition) t.kind t.access count ≡ true
  pub some : 1 ≤ count
  pub few : count ≤ 32

module _ (t : Told) (count : ℕ) (good : Bool) where
  abbrev tests : Bool
  tests = told_good t.named (good_serial t.serial) && told_good t.access (good_password t.password)

  opened-tests : (opened t count good).number ≡ 1 → (tests && good) ≡ true
  unfolding opened
  opened-tests e = taken-first (tests && good) _ (unopened 9 0) (λ z. omega arith) e

  opened-is : (opened t count good).number ≡ 1 → opened t count good ≡ record { number = 1; place = 0; session = session_of t count; text = text_of (calling (session_of t count)) }
  opened-is e = let h = opened-tests e in unfold opened in (rw h)

  opened-began : (opened t count good).number ≡ 1 → Known t → work_good (tables_of t.edition) t.kind t.access count ≡ true → 1 ≤ count → count ≤ 32 → Began t count (opened t count good)
  opened-began e known works some few =
      let h = and_left tests good (opened-tests e) in
      let n = told_good t.named (good_serial t.serial) in
      let a = told_good t.access (good_password t.password) in
      record { is = opened-is e; named = and_left n a h; access = and_right n a h; meter = known; works = works; some = some; few = few }

-- ---- the session that is told all that

kept-told : (flag : ℕ) (test : List ℕ → Bool) (s zeros : List ℕ) → every (between 0 0) zeros ≡ true → told_good flag (test s) ≡ true
    → (told_good flag (test (cond (eqb flag 1) s zeros)) && kept_good flag (cond (eqb flag 1) s zeros)) ≡ true
unfolding told_good kept_good
kept-told flag test s zeros z h = pick (eqb flag 0) (eqb flag 1) h
  where
    pick : (no_one one : Bool) → (no_one || (one && test s)) ≡ true
        → ((no_one || (one && test (cond one s zeros))) && (one || every (between 0 0) (cond one s zeros))) ≡ true
    pick true true h = refl
    pick true false h = z
    pick false true h = rw h
    pick false false h = absurd (let e : ◌≡◌ {A = ℕ} 0 1 = cc in omega arith)

module _ (t : Told) (count : ℕ) (o : Opening) (b : Began t count o) where
  pub sound : Sound (session_of t count)
  unfolding session_of session_told
  sound =
      record {
        told =
            and_both _ _ (and_both _ _ b.meter.0 b.meter.1)
            (and_both _ _ (kept-told t.named good_serial t.serial (replicate 10 0) (unfold every between in refl) b.named)
            (kept-told t.access good_password t.password (replicate 8 0) (unfold every between in refl) b.access));
        works = b.works;
        some = b.some;
        few = b.few;
      }

  -- it begins by asking for the first message
  pub begins : (work : List ℕ) (m : Meter) → begun o m ≡ record { turn = asking (session_of t count) work 1; meter = m }
  unfolding message_at
  begins work m = ap (λ (x : Opening). begun x m) b.is ∙ (unfold session_of in refl)

-- ---- reads

-- each read of a good list can be built
reads-each : (tables family : ℕ) (work : List ℕ) → reads_good tables family work ≡ true → (i : ℕ) → i < length work / 2 → good_fields tables family (read_at work i) ≡ true
unfolding reads_good read_at
reads-each tables family [] h i l = absurd (omega arith)
reads-each tables family (letter ∷ []) h i l = absurd (omega arith)
reads-each tables family (letter ∷ n ∷ more) h zero l = and_left (good_fields tables family (read_of letter n)) (reads_good tables family more) h
reads-each tables family (letter ∷ n ∷ more) h (suc i) l =
    let e : suc i * 2 ≡ suc (suc (i * 2)) = omega arith in
    let f : suc i * 2 + 1 ≡ suc (suc (i * 2 + 1)) = omega arith in
    rw (f, e) (reads-each tables family more (and_right (good_fields tables family (read_of letter n)) (reads_good tables family more) h) i (omega arith))

reads-some : (tables family : ℕ) (work : List ℕ) → reads_good tables family work ≡ true → (length work ≡ 0 → ⊥) → 1 ≤ length work / 2
unfolding reads_good
reads-some tables family [] h some = absurd (some refl)
reads-some tables family (letter ∷ []) h some = absurd (let e : ◌≡◌ {A = ℕ} 0 1 = cc in omega arith)
reads-some tables family (letter ∷ n ∷ more) h some = omega arith

pub record ReadsBegan (t : Told) (work : List ℕ) (o : Opening) : Type 0 where
  pub began : Began t (length work / 2) o
  pub each : (i : ℕ) → i < length work / 2 → good_fields (tables_of t.edition) t.decimals (read_at work i) ≡ true

reads-opened : (t : Told) (work : List ℕ) → Known t → t.kind ≡ 0 → (opened_reads t work).number ≡ 1 → ReadsBegan t work (opened_reads t work)
unfolding opened_reads
reads-opened t work known kind e =
    let n = length work in
    let here = opened t (n / 2) (reads_good (tables_of t.edition) t.decimals work) in
    let some : eqb n 0 ≡ false = taken-second (eqb n 0) (unopened 28 0) (cond (ltb 64 n) (unopened 29 0) here) (λ z. omega arith) e in
    let e1 : (cond (ltb 64 n) (unopened 29 0) here).number ≡ 1 = rw some at e in
    let few : ltb 64 n ≡ false = taken-second (ltb 64 n) (unopened 29 0) here (λ z. omega arith) e1 in
    let e2 : here.number ≡ 1 = rw few at e1 in
    let good = and_right (tests t (n / 2) (reads_good (tables_of t.edition) t.decimals work)) (reads_good (tables_of t.edition) t.decimals work) (opened-tests t (n / 2) (reads_good (tables_of t.edition) t.decimals work) e2) in
    let small : n ≤ 64 = ltb-false 64 n few in
    rw (some, few)
    (record {
      began = opened-began t (n / 2) (reads_good (tables_of t.edition) t.decimals work) e2 known (unfold work_good in (rw kind)) (reads-some (tables_of t.edition) t.decimals work good (eqb-false n 0 some)) (omega arith);
      each = reads-each (tables_of t.edition) t.decimals work good;
    })

pub reads-began : (t : Told) (work : List ℕ) (room : ℕ) (o : Opening) → Opens t work room o → o.number ≡ 1 → t.kind ≡ 0 → ReadsBegan t work o
reads-began t work room o (unknown h e) one kind = absurd (omega (arith, sym (ap (λ (x : Opening). x.number) e) ∙ one))
reads-began t work room o (strange known h e) one kind = absurd (omega (arith, sym (ap (λ (x : Opening). x.number) e) ∙ one))
reads-began t work room o (small known h e) one kind = absurd (omega (arith, sym (ap (λ (x : Opening). x.number) e) ∙ one))
reads-began t work room o (nothing known h a b e) one kind = absurd (a kind)
reads-began t work room o (reads known h k e) one kind =
    subst (ReadsBegan t work) (sym e) (reads-opened t work known kind (sym (ap (λ (x : Opening). x.number) e) ∙ one))
reads-began t work room o (posts known h k p) one kind = absurd (omega (arith, k, kind))
reads-began t work room o (others known h k p) one kind = absurd (omega (arith, k, kind))

-- ---- a post

pub record PostBegan (t : Told) (work : List ℕ) (o : Opening) : Type 0 where
  pub is-post : IsPost (tables_of t.edition) work
  pub began : Began t (length is-post.entries) o
  pub access : t.access ≡ 1

entries-some : (tables : ℕ) (es : List Entry) → good_entries tables es ≡ true → 1 ≤ length es
unfolding good_entries
entries-some tables [] h = absurd (let e : ◌≡◌ {A = ℕ} 0 1 = cc in omega arith)
entries-some tables (e ∷ es) h = omega arith

post-works : (tables kind access n : ℕ) → kind ≡ 1 → access ≡ 1 → n ≤ tables → work_good tables kind access n ≡ true
unfolding work_good
post-works tables kind access n k a h = rw (k, a, le-leb n tables h)

told-one : (flag : ℕ) (good : Bool) → told_good flag good ≡ true → eqb flag 0 ≡ false → flag ≡ 1
unfolding told_good
told-one flag good h z = eqb-true flag 1 (and_left (eqb flag 1) good (rw z at h))

post-opened : (t : Told) (work : List ℕ) → Known t → t.kind ≡ 1 → (p : IsPost (tables_of t.edition) work) → (opened_post t (length p.entries)).number ≡ 1
    → PostBegan t work (opened_post t (length p.entries))
unfolding opened_post
post-opened t work known kind p e =
    let es = p.entries in
    let n = length es in
    let rise = good-rising (tables_of t.edition) es p.good in
    let most = count_entries (tables_of t.edition) 0 es (omega arith) rise in
    let here = opened t n true in
    let some : eqb t.access 0 ≡ false = taken-second (eqb t.access 0) (unopened 30 0) here (λ z. omega arith) e in
    let e1 : here.number ≡ 1 = rw some at e in
    let both = and_left (tests t n true) true (opened-tests t n true e1) in
    let one : t.access ≡ 1 = told-one t.access (good_password t.password) (and_right (told_good t.named (good_serial t.serial)) _ both) some in
    rw some
    (record {
      is-post = p;
      began = opened-began t n true e1 known (post-works (tables_of t.edition) t.kind t.access n kind one (omega (arith, most))) (entries-some (tables_of t.edition) es p.good) (omega (arith, most, tables-most t.edition));
      access = one;
    })

pub post-began : (t : Told) (work : List ℕ) (room : ℕ) (o : Opening) → Opens t work room o → o.number ≡ 1 → t.kind ≡ 1 → PostBegan t work o
post-began t work room o (unknown h e) one kind = absurd (omega (arith, sym (ap (λ (x : Opening). x.number) e) ∙ one))
post-began t work room o (strange known h e) one kind = absurd (omega (arith, sym (ap (λ (x : Opening). x.number) e) ∙ one))
post-began t work room o (small known h e) one kind = absurd (omega (arith, sym (ap (λ (x : Opening). x.number) e) ∙ one))
post-began t work room o (nothing known h a b e) one kind = absurd (b kind)
post-began t work room o (reads known h k e) one kind = absurd (omega (arith, k, kind))
post-began t work room o (posts known h k p) one kind =
    subst (PostBegan t work) (sym p.opens) (post-opened t work known kind p.is-post (sym (ap (λ (x : Opening). x.number) p.opens) ∙ one))
post-began t work room o (others known h k p) one kind = absurd (omega (arith, sym (ap (λ (x : Opening). x.number) p.refused) ∙ one))

-- ---- either

pub record SomeBegan (t : Told) (o : Opening) : Type 0 where
  pub count : ℕ
  pub began : Began t count o

pub some-began : (t : Told) (work : List ℕ) (room : ℕ) (o : Opening) → Opens t work room o → o.number ≡ 1 → SomeBegan t o
some-began t work room o (unknown h e) one = absurd (omega (arith, sym (ap (λ (x : Opening). x.number) e) ∙ one))
some-began t work room o (strange known h e) one = absurd (omega (arith, sym (ap (λ (x : Opening). x.number) e) ∙ one))
some-began t work room o (small known h e) one = absurd (omega (arith, sym (ap (λ (x : Opening). x.number) e) ∙ one))
some-began t work room o (nothing known h a b e) one = absurd (omega (arith, sym (ap (λ (x : Opening). x.number) e) ∙ one))
some-began t work room o (reads known h k e) one =
    record { count = length work / 2; began = (reads-began t work room o (reads known h k e) one k).began }
some-began t work room o (posts known h k p) one =
    let q = post-began t work room o (posts known h k p) one k in
    record { count = length q.is-post.entries; began = q.began }
some-began t work room o (others known h k p) one = absurd (omega (arith, sym (ap (λ (x : Opening). x.number) p.refused) ∙ one))
