-- Document 01's data set, for those who write one and those who read one: an address and a value.
use Rattle.std.specs.Prelude.{List, ℕ}

pub record DataSet : Type 0 where
  pub address : List ℕ
  pub value : List ℕ
