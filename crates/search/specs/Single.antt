-- A question of one meeting, for the tests: what it costs as in force and turned.
use Rattle.std.specs.Prelude.{◌≡◌, ◌==◌, ◌<◌, ℕ, suc, zero, Bool, true, false, if◌then◌else◌}
use Rattle.std.specs.Int.{bit_at}
use Rattle.std.proofs.Common.{refl, ap, subst, arith}
use Rattle.std.proofs.lemmas.Bool.Decides.{nat_tests}
use Rattle.std.proofs.lemmas.Nat.Bits.{and_pow, bit_at_lowest, bit_at-lt, bit_at-zero}
use Rattle.search.specs.Decisions.{Agrees}
use Rattle.search.specs.Questions.{Question, IsSearchable, NoMoreThan, Costs}
use Rattle.search.specs.Questions.{FindsNoMore, DoneCosts, BranchNamesOpen}
use Rattle.search.specs.declared.finding.Finding.{Finding}
use Rattle.search.specs.declared.finding.Finding.TheVariants.{Done, Branch}

module _ (kept turned : ℕ) where
  abbrev pub chosen : ℕ → ℕ
  chosen word = if word == 0 then kept else turned

  abbrev pub single_finding : ℕ → ℕ → Finding
  single_finding decided word = if decided == 0 then Branch 0 0 else Done (chosen word)

  abbrev pub single : Question
  single = record { count = 1; start = kept; finding = single_finding }

  same_word : (word turns : ℕ) → word < 2 → Agrees word 1 turns → word ≡ turns
  same_word word turns low a = omega (arith, low, a, and_pow word 0, bit_at_lowest word)

  -- at one that is decided
  module _ (P : ℕ → Type 0) (not_decided : P 0) (is_decided : P 1) where
    either_way : (decided : ℕ) → decided < 2 → P decided
    either_way zero low = not_decided
    either_way (suc d) low = let one : 1 ≡ suc d = omega (arith, low) in subst P one is_decided

  finds_no_more : FindsNoMore single
  finds_no_more decided turns word cost node (low, is) =
      either_way (λ d. Agrees word d turns → NoMoreThan single cost (single_finding d turns))
      (λ a. omega arith)
      (λ a.
      let same = ap chosen (same_word word turns low a) in
      let cost_is : chosen word ≡ cost = cc in
      omega (arith, same, cost_is))
      decided node.open_ones

  done_costs : DoneCosts single
  done_costs decided turns cost node is =
      either_way
      (λ d. Agrees turns d turns → single_finding d turns ≡ Done cost → Costs single turns cost)
      (λ a e. cc) (λ a e. (omega (arith, a, and_pow turns 0, bit_at-lt turns 0), e))
      decided node.open_ones node.among is

  branch_names : BranchNamesOpen single
  branch_names decided turns cost next e = by (decided == 0) refl e
    where
      by :
          (b : Bool) → (decided == 0) ≡ b
          → (if b then Branch 0 0 else Done (chosen turns)) ≡ Branch cost next
          → (next < 1) × (bit_at decided next ≡ 0)
      by true t e =
          let first : 0 ≡ next = cc in
          let none : 0 ≡ decided = grind (arith, nat_tests) in
          (omega arith, subst (λ (d : ℕ). bit_at d next ≡ 0) none (bit_at-zero next))
      by false t e = cc

  pub single_searchable : IsSearchable single
  single_searchable = record {
    few = omega arith;
    in_force = (omega arith, refl);
    finds = finds_no_more;
    done = done_costs;
    names = branch_names;
  }
