-- What a slip names.
use Rattle.std.specs.Prelude.{ℕ}

-- the number of a run, and the number of one of its drafts
pub record SlipNumbers : Type 0 where
  pub run : ℕ
  pub draft : ℕ
