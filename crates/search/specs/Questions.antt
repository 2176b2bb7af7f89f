-- What is asked of a search.
use Rattle.std.specs.Prelude.{◌≡◌, ℕ, ◌-◌, ◌^◌, ◌<◌, ◌≤◌}
use Rattle.std.specs.Int.{bit_at}
use Rattle.std.proofs.Math.Nat.{ℕ_set}
use mathlib.Core.HLevel.{⊥_prop}
use mathlib.Core.Sum.{⊎_set}
use native.Mathlib.Bridge.{le_prop}
use Rattle.search.specs.Decisions.{Agrees}
use Rattle.search.specs.declared.finding.Finding.{Finding}
use Rattle.search.specs.declared.finding.Finding.TheVariants.{Ring, Done, Branch}

-- how many meetings are open, the cost in force, and what is found where some meetings are decided,
-- and some of those turned
pub record Question : Type 0 where
  pub count : ℕ
  pub start : ℕ
  pub finding : (decided turned : ℕ) → Finding

module _ (q : Question) where
  -- Just the meetings of a word may be turned, and that costs so much: this is found where all are
  -- decided.
  abbrev pub Costs : (word cost : ℕ) → Type 0
  Costs word cost = (word < 2 ^ q.count) × (q.finding (2 ^ q.count - 1) word ≡ Done cost)

  -- The word costs that much, and no word costs less.
  abbrev pub Least : (word cost : ℕ) → Type 0
  Least word cost = Costs word cost × ((other more : ℕ) → Costs other more → cost ≤ more)

  -- The meetings decided are open ones, and those turned are decided.
  pub record IsNode (decided turned : ℕ) : Type 0 where
    pub open_ones : decided < 2 ^ q.count
    pub among : Agrees turned decided turned

  -- there is no ring, and the cost found is no more than that
  abbrev pub NoMoreThan : ℕ → Finding → Type 0
  NoMoreThan cost Ring = ⊥
  NoMoreThan cost (Done found) = found ≤ cost
  NoMoreThan cost (Branch found next) = found ≤ cost

  -- What is found at a node costs no more than any word that agrees with it.
  abbrev pub FindsNoMore : Type 0
  FindsNoMore =
      (decided turned word cost : ℕ)
      → IsNode decided turned → Costs word cost → Agrees word decided turned
      → NoMoreThan cost (q.finding decided turned)

  -- Done means that the meetings turned, with the rest as in force, cost just that.
  abbrev pub DoneCosts : Type 0
  DoneCosts =
      (decided turned cost : ℕ) → IsNode decided turned
      → q.finding decided turned ≡ Done cost → Costs turned cost

  -- A branch names an open meeting that is not decided.
  abbrev pub BranchNamesOpen : Type 0
  BranchNamesOpen =
      (decided turned cost next : ℕ) → q.finding decided turned ≡ Branch cost next
      → (next < q.count) × (bit_at decided next ≡ 0)

  -- What a question keeps, so that a search finds its least cost.
  pub record IsSearchable : Type 0 where
    pub few : q.count ≤ 64
    pub in_force : Costs 0 q.start
    pub finds : FindsNoMore
    pub done : DoneCosts
    pub names : BranchNamesOpen

  -- there is one proof of it at most
  no_more_prop : (cost : ℕ) (f : Finding) → IsProp (NoMoreThan cost f)
  no_more_prop cost Ring = ⊥_prop
  no_more_prop cost (Done found) = le_prop
  no_more_prop cost (Branch found next) = le_prop

  pub searchable_prop : IsProp IsSearchable
  searchable_prop = hlevel (le_prop, ℕ_set, ⊎_set, no_more_prop)
