-- [4]: a meter that keeps the total answers as one that adds up, event by event and all its life; its total is never anything else.
-- Of a well-formed meter, forgetting the total and adding it up again gives the meter back. Assumes nothing.
use mathlib.Core.Path.{◌≡◌, refl, sym, ap, ◌∙◌}
use mathlib.Core.Bool.{Bool, true, false, cond, ◌&&◌, and-true}
use mathlib.Core.List.{List, [], ◌∷◌}
use Prim.Native.Nat.{ℕ, ◌%◌, ◌≤◌}
use native.Mathlib.Omega.{arith}
use borrow.Author.Tests.{eqb-true, eq-eqb, ltb-false}
use lib.Dec.{eqb, leb, ltb}
use lib.ListN.{length, set}
use lib.Seq.{set_out}
use Rattle.line.specs.Runs.{every}
use Rattle.line.proofs.Runs.{and_left}
use Rattle.values.specs.Family.{counter_end, export_end}
use Rattle.state.specs.declared.Counters.{Counters}
use Rattle.state.specs.declared.Registers.{Registers}
use Rattle.state.specs.declared.Meter.{Meter}
use Rattle.state.specs.Link.{link_of}
use Rattle.state.specs.WellFormed.{speed_good, sum_of, total, below, zones_below, receiver_good, tables_in, family_in, family_of, tables_good, archive_good, factory_good, registers_good, well_formed}
use Rattle.state.specs.Setting.{zone_place, counter_of, with_registers, with_counters, with_exported, with_total}
use Rattle.state.proofs.Parts.{formed, formed-registers, total-is-sum}
use Rattle.tariff.specs.Zones.{grown, counted}
use Rattle.replies.specs.Shown.{energy}
use Rattle.replies.specs.Block.{energy_sets}
use Rattle.meter.specs.declared.Event.{Event}
use Rattle.meter.specs.Life.{met, lived}
use Rattle.promises.specs.Adding.{Bare, bare_formed, bare, summed, added_up, BareOutcome, bare_outcome, adding, lived_adding, AsRuled, TrueTotals, AsBefore, Refuses}
use Rattle.promises.proofs.Choices as choice
use Rattle.promises.proofs.Life.{met-stays, lived-stays}

-- the two tests more, put behind the others
aside : (a f z t y u b : Bool) → (a && (f && (((z && t) && (y && u)) && b))) ≡ ((a && (f && ((z && y) && b))) && (t && u))
aside false f z t y u b = refl
aside true false z t y u b = refl
aside true true false t y u b = refl
aside true true true true false u b = refl
aside true true true true true true true = refl
aside true true true true true true false = refl
aside true true true true true false true = refl
aside true true true true true false false = refl
aside true true true false false u b = refl
aside true true true false true u true = refl
aside true true true false true u false = refl

exactly : (m : Meter) → well_formed m
    ≡ (bare_formed (bare m)
    && (eqb m.registers.counters.total (total (counter_end (family_of m)) m.registers.counters)
    && eqb m.registers.exported.total (total (export_end (family_of m)) m.registers.exported)))
unfolding well_formed registers_good bare_formed
exactly m =
    let g = m.registers in
    let c = g.counters in
    let x = g.exported in
    let came = counter_end (family_of m) in
    let went = export_end (family_of m) in
    aside (((leb m.mode 4 && leb m.attempts 3) && speed_good (link_of m) m.mode m.speed) && receiver_good m.mode m.receiver) (factory_good g.facts g.account g.clock)
    (zones_below came c.zones) (eqb c.total (total came c)) (zones_below went x.zones) (eqb x.total (total went x))
    (tables_good (tables_in g) g.tables && archive_good (family_in g) g.archive)

pub refuses : Refuses
refuses = record { exactly = exactly }

-- document 01's meter
formed-as-ruled : (b : Bare) → well_formed (added_up b) ≡ bare_formed b
unfolding total
formed-as-ruled b =
    let came = sum_of b.zones % counter_end b.facts.decimals in
    let went = sum_of b.exported % export_end b.facts.decimals in
    exactly (added_up b) ∙ rw (eq-eqb came came refl, eq-eqb went went refl) (and-true (bare_formed b))

-- beyond the four zones there is none to set
pulse-as-ruled : (end : ℕ) (zones : List ℕ) (zone units : ℕ) → zones_below end zones ≡ true
    → (counted end (summed end zones) zone units).zones ≡ set zones (zone_place zone) (grown end (counter_of (summed end zones) zone) units)
unfolding counted zones_below
pulse-as-ruled end zones zone units h =
    let next = set zones (zone_place zone) (grown end (counter_of (summed end zones) zone) units) in
    let four = eqb-true (length zones) 4 (and_left (eqb (length zones) 4) (every (below end) zones) h) in
    choice.told (λ (c : Counters). c.zones ≡ next) (ltb (zone_place zone) 4) (λ e. refl)
    (λ e.
    let past : length zones ≤ zone_place zone = omega (arith, four, ltb-false (zone_place zone) 4 e) in
    sym (set_out zones (zone_place zone) (grown end (counter_of (summed end zones) zone) units) past))

pub as-ruled : (b : Bare) → AsRuled b
unfolding energy energy_sets
as-ruled b = record { formed = formed-as-ruled b; shown = λ end zones. refl; block = λ family out end zones. refl; pulse = pulse-as-ruled }

-- totals that are the sums are found again
own-totals : (m : Meter) → well_formed m ≡ true → TrueTotals m
own-totals m h =
    let g = m.registers in
    let f = formed-registers g (formed m h).registers in
    record {
      came = total-is-sum (counter_end (family_of m)) g.counters f.counters;
      went = total-is-sum (export_end (family_of m)) g.exported f.exported;
    }

kept : (m : Meter) → well_formed m ≡ true → added_up (bare m) ≡ m
unfolding total
kept m h =
    let g = m.registers in
    let own = own-totals m h in
    ap (λ (n : ℕ). with_registers m (with_exported (with_counters g (with_total g.counters n)) (summed (export_end (family_of m)) g.exported.zones))) (sym own.came)
    ∙ ap (λ (n : ℕ). with_registers m (with_exported g (with_total g.exported n))) (sym own.went)

same : (m : Meter) → well_formed m ≡ true → (room : ℕ) (e : Event) → bare_outcome (met m room e) ≡ adding (bare m) room e
unfolding adding
same m h room e = ap (λ (k : Meter). bare_outcome (met k room e)) (sym (kept m h))

lives : (m : Meter) → well_formed m ≡ true → (es : List (ℕ × Event)) → bare (lived m es) ≡ lived_adding (bare m) es
unfolding lived lived_adding
lives m h [] = refl
lives m h ((room, e) ∷ es) =
    lives (met m room e).next (met-stays m room e h) es ∙ ap (λ (o : BareOutcome). lived_adding o.next es) (same m h room e)

pub as_before : (m : Meter) → well_formed m ≡ true → AsBefore m
as_before m h =
    record { kept = kept m h; same = same m h; lives = lives m h; true-for-life = λ es. own-totals (lived m es) (lived-stays m es h) }
