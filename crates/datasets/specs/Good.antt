-- Document 01, "The head": which data sets can be read.
use Rattle.std.specs.Prelude.{Bool, true, ◌&&◌, List, [], ◌∷◌, leb, length}
use Rattle.line.specs.Runs.{every}
use Rattle.text.specs.Classes.{between, is_address, is_value}
use Rattle.datasets.specs.Sets.{DataSet}

-- an address of 1 to 16 characters, a value of 0 to 32
unfoldable pub good_set : DataSet → Bool
good_set s =
    (between 1 16 (length s.address) && every is_address s.address) && (leb (length s.value) 32 && every is_value s.value)

unfoldable pub good_sets : List DataSet → Bool
good_sets [] = true
good_sets (s ∷ ss) = good_set s && good_sets ss
