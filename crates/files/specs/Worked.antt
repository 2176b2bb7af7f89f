-- A small file, whole and torn.
use Rattle.std.specs.Prelude.{◌≡◌, ℕ, List, [], ◌∷◌, ◌++◌, take, Ok, Err, slice_set}
use Rattle.files.specs.Layout.{Layout, layout}

-- one shuttle, one table; a body at byte 10 with one stop; the table 7; the stop, which is place 3 at tick 0
abbrev pub small_file : List ℕ
small_file = 0 ∷ 1 ∷ 0 ∷ 1 ∷ 0 ∷ 10 ∷ 0 ∷ 1 ∷ 0 ∷ 7 ∷ 0 ∷ 3 ∷ 0 ∷ 0 ∷ []

abbrev pub small_plan : Layout
small_plan = record { paths = (record { place = 3; tick = 0 } ∷ []) ∷ []; tables = 7 ∷ [] }

pub record WorkedReadings : Type 0 where
  pub whole : layout small_file ≡ Ok small_plan
  pub cut_short : layout (take 13 small_file) ≡ Err 13
  pub cut_in_a_field : layout (take 5 small_file) ≡ Err 5
  pub surplus : layout (small_file ++ 9 ∷ []) ≡ Err 14
  pub no_shuttle : layout (slice_set small_file 1 0) ≡ Err 0
  pub offset_of_the_table : layout (slice_set small_file 5 8) ≡ Err 4
  pub no_stop : layout (slice_set small_file 7 0) ≡ Err 6
  pub one_stop_more : layout (slice_set small_file 7 2) ≡ Err 14
