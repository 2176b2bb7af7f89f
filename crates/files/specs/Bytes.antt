-- The bytes of a plan file, and the law of its reader.
use Rattle.std.specs.Prelude.{◌≡◌, ℕ, suc, ◌+◌, ◌*◌, ◌/◌, ◌%◌, ◌<◌, ◌≤◌, List, [], ◌∷◌, ◌++◌, map, length, Ok, sum_by, slice_index}
use Rattle.std.specs.List.{flat_map, AllByRecursion}
use Rattle.files.specs.declared.plan.Stop.{Stop}
use Rattle.files.specs.declared.plan.TheConstants.{MOST_SHUTTLES, MOST_STOPS, MOST_STOPS_IN_ALL, MOST_TABLES}
use Rattle.files.specs.Layout.{Layout, layout, bodies_at}

-- a number of 16 bits, high byte first
abbrev pub word_bytes : ℕ → List ℕ
word_bytes n = n / 256 ∷ n % 256 ∷ []

abbrev pub stop_bytes : Stop → List ℕ
stop_bytes s = word_bytes s.place ++ word_bytes s.tick

abbrev pub path_bytes : List Stop → List ℕ
path_bytes path = flat_map stop_bytes path

-- the contents: where each body begins, and how many stops it has
abbrev pub contents_bytes : ℕ → List ℕ → List ℕ
contents_bytes begin [] = []
contents_bytes begin (count ∷ counts) = word_bytes begin ++ word_bytes count ++ contents_bytes (begin + 4 * count) counts

-- the file of a plan
abbrev pub plan_bytes : Layout → List ℕ
plan_bytes l =
    word_bytes (length l.paths) ++ word_bytes (length l.tables)
    ++ contents_bytes (bodies_at (length l.paths) (length l.tables)) (map length l.paths)
    ++ flat_map word_bytes l.tables
    ++ flat_map path_bytes l.paths

abbrev pub FitsWord : ℕ → Type 0
FitsWord n = n ≤ 65535

abbrev pub StopFits : Stop → Type 0
StopFits s = FitsWord s.place × FitsWord s.tick

-- a path has at least one stop
abbrev pub PathFits : List Stop → Type 0
PathFits path = (1 ≤ length path) × (length path ≤ MOST_STOPS) × AllByRecursion StopFits path

-- the limits of a plan
pub record Limits (l : Layout) : Type 0 where
  pub some : 1 ≤ length l.paths
  pub shuttles : length l.paths ≤ MOST_SHUTTLES
  pub stops : AllByRecursion PathFits l.paths
  pub total : sum_by length l.paths ≤ MOST_STOPS_IN_ALL
  pub few : length l.tables ≤ MOST_TABLES
  pub places : AllByRecursion FitsWord l.tables
  pub rising : (i : ℕ) → suc i < length l.tables → slice_index l.tables i < slice_index l.tables (suc i)

-- A reading gives a plan exactly when the file is the file of that plan, and the plan keeps the limits.
abbrev pub ReadsExactly : List ℕ → Type 0
ReadsExactly bs = (l : Layout) → (layout bs ≡ Ok l → (bs ≡ plan_bytes l) × Limits l) × (bs ≡ plan_bytes l → Limits l → layout bs ≡ Ok l)
