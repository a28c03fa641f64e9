-- The registers put together again: the parts that are handed over, the tables and the archive that are lent.
use Rattle.std.specs.Prelude.{List, ℕ}
use Rattle.state.specs.declared.Archive.{Archive}
use Rattle.state.specs.declared.Registers.{Registers}
use Rattle.state.specs.Making.{empty_archive}
use Rattle.replies.specs.declared.Plain.{Plain}

abbrev pub registers_of : Plain → List ℕ → Archive → Registers
registers_of p rows archive =
    record {
      facts = p.facts;
      account = p.account;
      clock = p.clock;
      counters = p.counters;
      exported = p.exported;
      tables = rows;
      archive = archive;
    }

-- where no archive is looked at
abbrev pub without_archive : Plain → List ℕ → Registers
without_archive p rows = registers_of p rows empty_archive
