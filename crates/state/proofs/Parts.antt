-- A well-formed state taken apart into its parts, and put together again. Assumes nothing.
use Rattle.std.proofs.Common.{◌≡◌, ℕ, zero, suc, ◌*◌, ◌<◌, ◌≤◌, Bool, true, false, cond, ◌&&◌, ◌||◌, eqb, ltb, leb, List, [], ◌∷◌, length, get_or, take, drop, refl, mod-lt, arith, ltb-true, eq-eqb, eqb-true, le-leb, leb-true}
use borrow.Author.Tests.{lt-leb}
use Rattle.line.specs.Runs.{every}
use Rattle.line.proofs.Runs.{and_left, and_right, and_assoc, chosen}
use Rattle.text.specs.Classes.{between}
use Rattle.clock.specs.Seconds.{real_clock}
use Rattle.values.specs.Edition.{is_edition}
use Rattle.values.specs.Family.{is_family, counter_end, export_end}
use Rattle.values.specs.Registers.{good_digits, good_serial, good_account, good_password}
use Rattle.state.specs.declared.Receiver.{Receiver}
use Rattle.state.specs.declared.Facts.{Facts}
use Rattle.state.specs.declared.Counters.{Counters}
use Rattle.state.specs.declared.Registers.{Registers}
use Rattle.state.specs.declared.Meter.{Meter}
use Rattle.state.specs.Sizes.{held_places, row_length, table_places}
use Rattle.state.specs.WellFormed.{limit, first_good, mark_good, held_good, receiver_good, below, zones_below, total, counters_good, tables_good, archive_good, tables_in, family_in, edition_of, family_of, directions_good, link_good, facts_good, factory_good, registers_good, well_formed, speed_good, hurt_good}
use Rattle.state.specs.Pieces.{small_good, runs_good}
use Rattle.state.specs.Link.{link_of, is_wired, rest_speed}
use Rattle.state.specs.Setting.{zone_place, counter_of, speed_in}

-- the pieces that a state is tested by make it well-formed
sorted : (a r f d t k : Bool) → ((a && (f && d)) && ((r && t) && k)) ≡ ((a && r) && (f && (d && (t && k))))
sorted false r f d t k = refl
sorted true true f d t k = and_assoc f d (t && k)
sorted true false true true t k = refl
sorted true false true false t k = refl
sorted true false false d t k = refl

pub pieces-formed : (m : Meter)
    → (small_good m.mode m.attempts m.speed m.registers.facts m.registers.account m.registers.clock m.registers.counters m.registers.exported
    && (runs_good m.mode m.receiver (edition_of m) m.registers.tables && archive_good (family_of m) m.registers.archive)) ≡ well_formed m
unfolding well_formed registers_good small_good runs_good
pieces-formed m =
    let g = m.registers in
    sorted ((leb m.mode 4 && leb m.attempts 3) && speed_good (link_of m) m.mode m.speed) (receiver_good m.mode m.receiver)
    (factory_good g.facts g.account g.clock) (directions_good (family_in g) g.counters g.exported) (tables_good (tables_in g) g.tables) (archive_good (family_in g) g.archive)

pub record Formed (m : Meter) : Type 0 where
  pub mode : m.mode ≤ 4
  pub attempts : m.attempts ≤ 3
  pub speed : speed_good (link_of m) m.mode m.speed ≡ true
  pub receiver : receiver_good m.mode m.receiver ≡ true
  pub registers : registers_good m.registers ≡ true

pub formed : (m : Meter) → well_formed m ≡ true → Formed m
unfolding well_formed
formed m h =
    let numbers = leb m.mode 4 && leb m.attempts 3 in
    let s = speed_good (link_of m) m.mode m.speed in
    let r = receiver_good m.mode m.receiver in
    let rest = and_left ((numbers && s) && r) (registers_good m.registers) h in
    let small = and_left (numbers && s) r rest in
    let two = and_left numbers s small in
    record {
      mode = leb-true m.mode 4 (and_left (leb m.mode 4) (leb m.attempts 3) two);
      attempts = leb-true m.attempts 3 (and_right (leb m.mode 4) (leb m.attempts 3) two);
      speed = and_right numbers s small;
      receiver = and_right (numbers && s) r rest;
      registers = and_right ((numbers && s) && r) (registers_good m.registers) h;
    }

pub well-formed : (m : Meter) → Formed m → well_formed m ≡ true
unfolding well_formed
well-formed m f = rw (le-leb m.mode 4 f.mode, le-leb m.attempts 3 f.attempts, f.speed, f.receiver, f.registers)

-- modes 0 and 1 have the speed of the link
alone : (z f : Bool) → (z || (false && f)) ≡ true → z ≡ true
alone true f h = refl
alone false f h = h

pub rest-low : (link mode speed : ℕ) → mode ≤ 1 → speed_good link mode speed ≡ true → speed ≡ rest_speed link
unfolding speed_good
rest-low link mode speed l h =
    eqb-true speed (rest_speed link) (alone (eqb speed (rest_speed link)) (eqb speed 5) (rw (lt-leb 2 mode (omega (arith, l))) at h))

pub rest-good : (link mode : ℕ) → speed_good link mode (rest_speed link) ≡ true
unfolding speed_good
rest-good link mode = rw (eq-eqb (rest_speed link) (rest_speed link) refl)

-- a speed that is good in one mode is good in every other, if that keeps it as `speed_in` says
pub speed-kept : (link mode other speed : ℕ) → speed_good link mode speed ≡ true → speed_good link other (speed_in link other speed) ≡ true
unfolding speed_good
speed-kept link mode other speed h = go (leb 2 mode) (leb 2 other) h
  where
    rest : ℕ
    rest = rest_speed link

    go : (p q : Bool) → (eqb speed rest || (p && eqb speed 5)) ≡ true → (eqb (cond q speed rest) rest || (q && eqb (cond q speed rest) 5)) ≡ true
    go true true h = h
    go false true h = rw (alone (eqb speed rest) (eqb speed 5) h)
    go p false h = rw (eq-eqb rest rest refl)

-- the wired link has 5 throughout
pub wired-speed : (link mode speed : ℕ) → is_wired link ≡ true → speed_good link mode speed ≡ true → speed ≡ 5
unfolding speed_good rest_speed
wired-speed link mode speed w h = eqb-true speed 5 (either (eqb speed 5) (leb 2 mode) (rw w at h))
  where
    either : (f p : Bool) → (f || (p && f)) ≡ true → f ≡ true
    either true p h = refl
    either false true h = h
    either false false h = h

-- and every mode may have it
pub fast-good : (link mode : ℕ) → 2 ≤ mode → speed_good link mode 5 ≡ true
unfolding speed_good
fast-good link mode h = rw (le-leb 2 mode h) (either (eqb 5 (rest_speed link)))
  where
    either : (p : Bool) → (p || true) ≡ true
    either true = refl
    either false = refl

pub record FormedRegisters (g : Registers) : Type 0 where
  pub facts : facts_good g.facts ≡ true
  pub account : good_account g.account ≡ true
  pub clock : real_clock g.clock ≡ true
  pub counters : counters_good (counter_end (family_in g)) g.counters ≡ true
  pub exported : counters_good (export_end (family_in g)) g.exported ≡ true
  pub tables : tables_good (tables_in g) g.tables ≡ true
  pub archive : archive_good (family_in g) g.archive ≡ true

pub formed-registers : (g : Registers) → registers_good g ≡ true → FormedRegisters g
unfolding registers_good factory_good
formed-registers g h =
    let f = facts_good g.facts in
    let a = good_account g.account in
    let k = real_clock g.clock in
    let i = counters_good (counter_end (family_in g)) g.counters in
    let o = counters_good (export_end (family_in g)) g.exported in
    let t = tables_good (tables_in g) g.tables in
    let p = archive_good (family_in g) g.archive in
    let made = and_left (f && (a && k)) ((i && o) && (t && p)) h in
    let rest = and_right (f && (a && k)) ((i && o) && (t && p)) h in
    let both = and_left (i && o) (t && p) rest in
    let last = and_right (i && o) (t && p) rest in
    record {
      facts = and_left f (a && k) made;
      account = and_left a k (and_right f (a && k) made);
      clock = and_right a k (and_right f (a && k) made);
      counters = and_left i o both;
      exported = and_right i o both;
      tables = and_left t p last;
      archive = and_right t p last;
    }

pub registers-good : (g : Registers) → FormedRegisters g → registers_good g ≡ true
unfolding registers_good factory_good
registers-good g f = rw (f.facts, f.account, f.clock, f.counters, f.exported, f.tables, f.archive)

-- what a meter has for life, taken apart
pub record FormedFacts (f : Facts) : Type 0 where
  pub serial : good_serial f.serial ≡ true
  pub password : good_password f.password ≡ true
  pub edition : is_edition f.edition ≡ true
  pub link : link_good f.link ≡ true
  pub family : is_family f.decimals ≡ true

pub formed-facts : (f : Facts) → facts_good f ≡ true → FormedFacts f
unfolding facts_good
formed-facts f h =
    let s = good_serial f.serial in
    let p = good_password f.password in
    let e = is_edition f.edition in
    let l = link_good f.link in
    let d = is_family f.decimals in
    let texts = and_left (s && p) (e && (l && d)) h in
    let numbers = and_right (s && p) (e && (l && d)) h in
    record {
      serial = and_left s p texts;
      password = and_right s p texts;
      edition = and_left e (l && d) numbers;
      link = and_left l d (and_right e (l && d) numbers);
      family = and_right l d (and_right e (l && d) numbers);
    }

pub record FormedReceiver (mode : ℕ) (r : Receiver) : Type 0 where
  pub count : r.count ≤ limit mode
  pub first : first_good mode r.count (get_or r.held 0 0) ≡ true
  pub mark : mark_good r.count r.mark ≡ true
  pub hurt : hurt_good r.count r.mark r.place ≡ true
  pub held : held_good r.held r.count ≡ true

pub formed-receiver : (mode : ℕ) (r : Receiver) → receiver_good mode r ≡ true → FormedReceiver mode r
unfolding receiver_good
formed-receiver mode r h =
    let f = first_good mode r.count (get_or r.held 0 0) in
    let k = mark_good r.count r.mark in
    let l = held_good r.held r.count in
    let p = hurt_good r.count r.mark r.place in
    let fits = chosen (λ (b : Bool). b) (leb r.count (limit mode)) (((f && k) && p) && l) false refl h in
    let all : (((f && k) && p) && l) ≡ true = rw fits at h in
    let fkp = and_left ((f && k) && p) l all in
    let fk = and_left (f && k) p fkp in
    record {
      count = leb-true r.count (limit mode) fits;
      first = and_left f k fk;
      mark = and_right f k fk;
      hurt = and_right (f && k) p fkp;
      held = and_right ((f && k) && p) l all;
    }

pub receiver-good : (mode : ℕ) (r : Receiver) → FormedReceiver mode r → receiver_good mode r ≡ true
unfolding receiver_good
receiver-good mode r f = rw (le-leb r.count (limit mode) f.count, f.first, f.mark, f.hurt, f.held)

-- the lengths that are known of a well-formed state
pub held-long : (mode : ℕ) (r : Receiver) → receiver_good mode r ≡ true → length r.held ≡ held_places
unfolding held_good
held-long mode r h =
    eqb-true (length r.held) held_places (and_left (eqb (length r.held) held_places) _ (formed-receiver mode r h).held)

pub record Long (m : Meter) : Type 0 where
  pub held : length m.receiver.held ≡ held_places
  pub serial : length m.registers.facts.serial ≡ 10
  pub password : length m.registers.facts.password ≡ 8
  pub account : length m.registers.account ≡ 10
  pub tables : length m.registers.tables ≡ table_places * row_length

digits_long : (n : ℕ) (s : List ℕ) → good_digits n s ≡ true → length s ≡ n
unfolding good_digits
digits_long n s h = eqb-true (length s) n (and_left (eqb (length s) n) _ h)

-- good tables: 600 characters, the first of them '1' to '4', the others 0
pub rows_long : (n : ℕ) (s : List ℕ) → tables_good n s ≡ true → length s ≡ table_places * row_length
unfolding tables_good
rows_long n s h = eqb-true (length s) (table_places * row_length) (and_left (eqb (length s) (table_places * row_length)) _ h)

pub rows-held : (n : ℕ) (s : List ℕ) → tables_good n s ≡ true → every (between 49 52) (take (n * row_length) s) ≡ true
unfolding tables_good
rows-held n s h =
    and_left (every (between 49 52) (take (n * row_length) s)) (every (between 0 0) (drop (n * row_length) s))
    (and_right (eqb (length s) (table_places * row_length)) _ h)

pub rows-unused : (n : ℕ) (s : List ℕ) → tables_good n s ≡ true → every (between 0 0) (drop (n * row_length) s) ≡ true
unfolding tables_good
rows-unused n s h =
    and_right (every (between 49 52) (take (n * row_length) s)) (every (between 0 0) (drop (n * row_length) s))
    (and_right (eqb (length s) (table_places * row_length)) _ h)

pub long : (m : Meter) → well_formed m ≡ true → Long m
unfolding good_account
long m h =
    let f = formed m h in
    let g = formed-registers m.registers f.registers in
    let life = formed-facts m.registers.facts g.facts in
    let account = length m.registers.account in
    record {
      held = held-long m.mode m.receiver f.receiver;
      serial = digits_long 10 m.registers.facts.serial life.serial;
      password = digits_long 8 m.registers.facts.password life.password;
      account = eqb-true account 10 (and_left (eqb account 10) _ g.account);
      tables = rows_long (tables_in m.registers) m.registers.tables g.tables;
    }

-- of good counters each lies below its end, whatever zone is asked for
pub zones-small : (end : ℕ) (zones : List ℕ) → 1 ≤ end → every (below end) zones ≡ true → (i : ℕ) → get_or zones i 0 < end
unfolding every below
zones-small end [] low h i = low
zones-small end (n ∷ zones) low h zero = ltb-true n end (and_left (ltb n end) (every (below end) zones) h)
zones-small end (n ∷ zones) low h (suc i) = zones-small end zones low (and_right (ltb n end) (every (below end) zones) h) i

pub zones-below : (end : ℕ) (zones : List ℕ) → 1 ≤ end → zones_below end zones ≡ true → (i : ℕ) → get_or zones i 0 < end
unfolding zones_below
zones-below end zones low h = zones-small end zones low (and_right (eqb (length zones) 4) (every (below end) zones) h)

pub counter-small : (end : ℕ) (c : Counters) → 1 ≤ end → counters_good end c ≡ true → (n : ℕ) → counter_of c n < end
counter-small end c low h n = zones-below end c.zones low (and_left (zones_below end c.zones) (eqb c.total (total end c)) h) (zone_place n)

-- the total that is kept is the sum of the four, rolled over, and so below the end
pub total-is-sum : (end : ℕ) (c : Counters) → counters_good end c ≡ true → c.total ≡ total end c
total-is-sum end c h = eqb-true c.total (total end c) (and_right (zones_below end c.zones) (eqb c.total (total end c)) h)

pub total-small : (end : ℕ) (c : Counters) → 1 ≤ end → counters_good end c ≡ true → c.total < end
unfolding total
total-small end c low h = rw (total-is-sum end c h) (mod-lt _ low)

-- a well-formed meter is of an edition that there is
pub edition-good : (m : Meter) → well_formed m ≡ true → is_edition m.registers.facts.edition ≡ true
edition-good m h = (formed-facts m.registers.facts (formed-registers m.registers (formed m h).registers).facts).edition

-- and of such a family
pub family-good : (m : Meter) → well_formed m ≡ true → is_family m.registers.facts.decimals ≡ true
family-good m h = (formed-facts m.registers.facts (formed-registers m.registers (formed m h).registers).facts).family
