-- `deciding::asking::energy` meets its contract: each way out is the case of the definition that its tests name. Assumes nothing.
use Rattle.std.proofs.Common.{ltb, cond, ◌∙◌}
use Rattle.line.specs.Quoted.{char}
use Rattle.values.specs.declared.Energy.{Energy}
use Rattle.replies.specs.declared.Ask.TheVariants.{Energy as energy_ask, Export}
use Rattle.deciding.specs.Verdicts.{Verdict, Read, command_of, number_of, verdict_of}
use Rattle.deciding.specs.Asking.{table_asked, energy_named, energy_at, energy_asked}
use Rattle.deciding.proofs.Energies.{is_meant, not_meant}
use Rattle.deciding.proofs.asking.energy.Goals.{then-is_eqm+in_default-energy_named, else-is_eqm}
use Rattle.deciding.proofs.asking.energy.Goals as goal

abbrev came : Energy → Verdict
came e = Read (energy_ask e)

abbrev went : Energy → Verdict
went e = Read (Export e)

pub returns-in-Some : goal.returns-in-Some
unfolding energy_asked command_of verdict_of
returns-in-Some c = is_meant came _ (energy_named (char "E") c.args.d.now) c.in-Some.came c.in-Some.ensures

pub returns-in-Some-energy_named : goal.returns-in-Some-energy_named
unfolding energy_asked command_of verdict_of
returns-in-Some-energy_named c =
    let d = c.args.d.now in
    rw (← c.is_eqm.ensures, c.if-is_eqm.true)
    (is_meant went (table_asked c.args.tables d) (energy_named (char "G") d) c.in-Some-energy_named.went c.in-Some-energy_named.ensures
    ∙ not_meant came (cond (ltb (energy_named (char "G") d) 5) (went (energy_at (energy_named (char "G") d))) (table_asked c.args.tables d)) (energy_named (char "E") d) c.in_default.ensures)

pub returns : goal.returns
unfolding energy_asked
returns c =
    let d = c.args.d.now in
    let table = table_asked c.args.tables d in
    elim c.if-is_eqm.branch [
      | then-is_eqm+in_default-energy_named w ↦
          rw (← c.is_eqm.ensures, w.if-is_eqm.true, c.table.ensures)
          (not_meant went table (energy_named (char "G") d) w.in_default-energy_named.ensures
          ∙ not_meant came (cond (ltb (energy_named (char "G") d) 5) (went (energy_at (energy_named (char "G") d))) table) (energy_named (char "E") d) c.in_default.ensures)
      | else-is_eqm w ↦
          rw (← c.is_eqm.ensures, w.if-is_eqm.false, c.table.ensures) (not_meant came table (energy_named (char "E") d) c.in_default.ensures)
    ]
