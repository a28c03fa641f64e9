-- What acting asks of a meter and its reply's room, and that what either way says is what the deed says. Assumes nothing.
use mathlib.Core.Path.{◌≡◌, refl, sym, subst, ap, ◌∙◌}
use mathlib.Core.Bool.{Bool, true, false}
use mathlib.Core.List.{List, ◌++◌}
use Prim.Native.Nat.{ℕ, ◌+◌, ◌*◌, ◌≤◌}
use lib.ListN.{length, take}
use Rattle.line.specs.Quoted.{chars}
use Rattle.text.specs.Writing.{stored, holding}
use Rattle.values.proofs.Editions.{tables-most}
use Rattle.frames.specs.Frames.{sealed, on_wire}
use Rattle.state.specs.Sizes.{table_places, period_places, reply_room}
use Rattle.state.specs.declared.Meter.{Meter}
use Rattle.state.specs.WellFormed.{tables_in, family_of, well_formed}
use Rattle.state.specs.Closing.{periods_of}
use Rattle.state.proofs.Parts.{formed, long}
use Rattle.state.proofs.Archives.{formed-archive}
use Rattle.datasets.specs.Sets.{lines_of}
use Rattle.replies.specs.Plain.{without_archive}
use Rattle.replies.specs.Periods.{archive_sets}
use Rattle.replies.proofs.Long.{periods-fit, end_fits, three-calls}
use Rattle.meter.specs.declared.Event.{Event}
use Rattle.meter.specs.declared.Deed.{Deed}
use Rattle.meter.specs.declared.Acted.{Acted}
use Rattle.meter.specs.Life.{refusal}
use Rattle.meter.specs.Deeds.{standing_of, plain_of, small_of, RoomFor, short_said, long_said, long_begun, said_by, answered, acted_with}
use Rattle.meter.proofs.Known.{archive-good}
use Rattle.meter.proofs.Done.{said-short, said-long, left-roomy}
use Rattle.settling.specs.Acting.{deed_of, acted_by}

abbrev pub Asked : Meter → ℕ → Event → Type 0
Asked m room e = (well_formed m ≡ true) × (refusal (family_of m) room e ≡ 0)

pub deed-asks : (m : Meter) (room : ℕ) (e : Event) → Asked m room e → (m.attempts ≤ 3) × ((length m.registers.facts.serial ≡ 10) × (length m.registers.facts.password ≡ 8))
deed-asks m room e a = ((formed m a.0).attempts, ((long m a.0).serial, (long m a.0).password))

-- there is room for what the deed says
roomy : (m : Meter) (room : ℕ) (e : Event) → Asked m room e → (d : Deed) → d ≡ deed_of m e → RoomFor d.long d.says room
roomy m room e a d is = subst (λ (x : Deed). RoomFor x.long x.says room) (sym is) (left-roomy (standing_of m) m.receiver.held m.registers.clock (family_of m) room e a.1)

pub short-asks : (m : Meter) (room : ℕ) (e : Event) → Asked m room e → (d : Deed) → d ≡ deed_of m e → d.long ≡ false → (length m.registers.facts.serial ≡ 10) × RoomFor false d.says room
short-asks m room e a d is l = ((long m a.0).serial, subst (λ (b : Bool). RoomFor b d.says room) l (roomy m room e a d is))

-- what is said without the closed periods; and of the block with them the start, the periods, and what its end leaves
abbrev pub short_way : Meter → Deed → List ℕ
short_way m d = short_said (without_archive (plain_of m.registers) m.registers.tables) d.says

abbrev pub begun : Meter → List ℕ
begun m = long_begun (without_archive (plain_of m.registers) m.registers.tables)

abbrev pub kept_lines : Meter → List ℕ
kept_lines m = lines_of (archive_sets (family_of m) 1 (periods_of m.registers.archive))

abbrev pub ended_in : ℕ → List ℕ → List ℕ
ended_in n ys = holding ys (on_wire (sealed (take n ys ++ chars "!\r\n")))

-- what acting ensures
abbrev pub Said : Meter → Event → List ℕ → Acted → List ℕ → Type 0
Said m e ys r zs = (r ≡ acted_by m e) × (zs ≡ holding ys (on_wire (said_by m.registers (deed_of m e))))

together : (m : Meter) (e : Event) (ys zs said : List ℕ) (d : Deed) (r : Acted) → d ≡ deed_of m e → said ≡ said_by m.registers d → r ≡ acted_with (small_of m) said d → zs ≡ holding ys (on_wire said) → Said m e ys r zs
together m e ys zs said d r is all er ez = (
  er ∙ (ap (λ (l : List ℕ). acted_with (small_of m) l d) all ∙ ap (λ (x : Deed). acted_with (small_of m) (said_by m.registers x) x) is),
  ez ∙ ap (λ (l : List ℕ). holding ys (on_wire l)) (all ∙ ap (said_by m.registers) is),
)

pub short-said : (m : Meter) (e : Event) (ys zs : List ℕ) (d : Deed) (r : Acted) → d ≡ deed_of m e → d.long ≡ false → r ≡ acted_with (small_of m) (short_way m d) d → zs ≡ holding ys (on_wire (short_way m d)) → Said m e ys r zs
short-said m e ys zs d r is l = together m e ys zs (short_way m d) d r is (said-short m d l)

-- the block with the closed periods, said by three calls, the periods from where they lie: each is asked what it finds, and what they leave is what the deed says
module _ (m : Meter) (e : Event) (ys : List ℕ) (a : Asked m (length ys) e) (d : Deed) (is : d ≡ deed_of m e) (l : d.long ≡ true) where
  few : tables_in m.registers ≤ table_places
  few = tables-most m.registers.facts.edition

  kept : m.registers.archive.count ≤ period_places
  kept = (formed-archive (family_of m) m.registers.archive (archive-good m a.0)).count

  pub start-asks : reply_room ≤ length ys
  unfolding RoomFor
  start-asks = subst (λ (b : Bool). RoomFor b d.says (length ys)) l (roomy m (length ys) e a d is)

  module _ (p1 : ℕ) (b1 : List ℕ) (next : p1 ≡ length (begun m)) (held : b1 ≡ stored ys 0 (begun m)) where
    pub periods-ask : (m.registers.archive.count ≤ period_places) × (p1 + m.registers.archive.count * 226 + 16 ≤ length b1)
    periods-ask =
        (kept, periods-fit (plain_of m.registers) m.registers.tables m.registers.archive (tables_in m.registers) ys (long m a.0).serial (long m a.0).account few kept start-asks p1 b1 next held)

    module _ (p2 : ℕ) (b2 : List ℕ) (next2 : p2 ≡ p1 + length (kept_lines m)) (held2 : b2 ≡ stored b1 p1 (kept_lines m)) where
      pub end-asks : (1 ≤ p2) × (p2 + 5 ≤ length b2)
      end-asks =
          end_fits (plain_of m.registers) m.registers.tables m.registers.archive (tables_in m.registers) ys (long m a.0).serial (long m a.0).account few kept start-asks p1 b1 next held p2 b2 next2 held2

      pub long-said : (r : Acted) (zs : List ℕ) → r ≡ answered (small_of m) (p2 + 5) d → zs ≡ ended_in p2 b2 → Said m e ys r zs
      long-said r zs er ez =
          let all = three-calls (plain_of m.registers) m.registers.tables m.registers.archive (tables_in m.registers) ys (long m a.0).serial (long m a.0).account few kept start-asks p1 b1 next held p2 b2 next2 held2 (p2 + 5) zs refl ez in
          together m e ys zs (long_said m.registers) d r is (said-long m d l) (er ∙ ap (λ (n : ℕ). answered (small_of m) n d) all.0) all.1
