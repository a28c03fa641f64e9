-- [13]: which frames tell a write, said once more without a look for its fields.
use Rattle.std.specs.Prelude.{◌≡◌, true, ◌&&◌, List, [], ◌∷◌, ℕ}
use Rattle.values.specs.Edition.{tables_of}
use Rattle.frames.specs.Frames.{frame_of}
use Rattle.frames.specs.Commands.{W1}
use Rattle.history.specs.Saying.{says}
use Rattle.history.specs.Frames.{Write, good_write, write_data, write_in}

-- a frame tells a meter of an edition a write exactly where its bytes say the frame that the rules build for it, undamaged, and its fields are good
pub record Exactly (edition : ℕ) (frame : List ℕ) (w : Write) : Type 0 where
  pub as-built : write_in (tables_of edition) frame ≡ w ∷ [] → (good_write (tables_of edition) w && says frame (frame_of W1 (write_data w))) ≡ true
  pub when-built : (good_write (tables_of edition) w && says frame (frame_of W1 (write_data w))) ≡ true → write_in (tables_of edition) frame ≡ w ∷ []
