-- What is asked for is what is read: each reply's block is one that reads back. Assumes nothing.
use mathlib.Core.Path.{◌≡◌, refl}
use mathlib.Core.Bool.{true}
use Rattle.values.specs.declared.Energy.TheVariants.{Total}
use Rattle.values.specs.Registers.{energy_no, zone_energy}
use Rattle.frames.specs.Frames.{block_of}
use Rattle.state.specs.declared.Meter.{Meter}
use Rattle.state.specs.WellFormed.{well_formed, tables_in}
use Rattle.replies.specs.declared.Ask.{Ask}
use Rattle.replies.specs.declared.Ask.TheVariants as ask
use Rattle.replies.specs.Answers.{asked_data, answerable}
use Rattle.replies.specs.Block.{block_data}
use Rattle.replies.specs.Periods.{long_data}
use Rattle.commands.specs.Messages.{Message}
use Rattle.dialogue.specs.Messages.{obeyed, outcome_of}
use Rattle.recital.specs.Recital.{counts, answer_says}
use Rattle.recital.specs.Learnt.{Learns, Answers}
use Rattle.recital.proofs.Recital.{block-reads-back, long-reads-back, answer-block-reads-back}

module _ (m : Meter) (f : well_formed m ≡ true) where
  learns : (x : Message) (a : Ask) → answerable (tables_in m.registers) a ≡ true → (outcome_of m x).reply ≡ block_of (asked_data m.registers a) → Learns m x (answer_says m.registers a)
  learns x a h e = record { content = asked_data m.registers a; reply = e; reads = answer-block-reads-back m f a h }

  pub answers-learnt : Answers m
  unfolding outcome_of obeyed answer_says answerable counts energy_no
  answers-learnt =
      record {
        block = λ v y k d h e n. record { content = block_data (tables_in m.registers) m.registers; reply = rw (d, e, n); reads = block-reads-back m f };
        periods = λ v k d. record { content = long_data (tables_in m.registers) m.registers; reply = rw d; reads = long-reads-back m f };
        clock = learns _ ask.Clock refl refl;
        own-serial = learns _ ask.Serial refl refl;
        own-account = learns _ ask.Account refl refl;
        whole = learns _ (ask.Energy Total) refl refl;
        zone = λ n h. learns _ (ask.Energy (zone_energy n)) refl refl;
        whole_out = λ e. learns _ (ask.Export Total) refl refl;
        zone-out = λ e n h. learns _ (ask.Export (zone_energy n)) refl refl;
        table = λ n h. learns _ (ask.Table (record { 0 = n })) h refl;
      }
