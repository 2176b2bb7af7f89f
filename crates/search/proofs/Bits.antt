-- A word agrees with a node, or with one of the two that decide one meeting more.
use Rattle.std.proofs.Common.{◌≡◌, ◌⊎◌, inl, inr, ℕ, zero, suc, ◌^◌, ◌*◌, ◌<◌, bit_and, bit_or, ap, ◌∙◌, arith}
use Rattle.std.specs.Int.{bit_at}
use Rattle.std.proofs.Math.Pow.{pow-lt}
use Rattle.std.proofs.lemmas.Nat.{or_lt}
use Rattle.std.proofs.lemmas.Nat.Bits.{bit_at_and, bit_at_or, same_from_bits, and_pow, bit_at-lt, bit_at-zero}
use Rattle.search.specs.Decisions.{Agrees, with_bit}
use Rattle.search.specs.Questions.{Question, IsNode}

-- what a word has of two sets of bits together
and_or : (w d b : ℕ) → bit_and w (bit_or d b) ≡ bit_or (bit_and w d) (bit_and w b)
and_or w d b = same_from_bits _ _ (λ i. omega (arith, bit_at_and w (bit_or d b) i, bit_at_or d b i, bit_at_or (bit_and w d) (bit_and w b) i, bit_at_and w d i, bit_at_and w b i))

or_zero : (t : ℕ) → bit_or t 0 ≡ t
or_zero t = same_from_bits _ _ (λ i. omega (arith, bit_at_or t 0 i, bit_at-zero i))

pub and_zero : (w : ℕ) → bit_and w 0 ≡ 0
and_zero w = same_from_bits _ _ (λ i. omega (arith, bit_at_and w 0 i, bit_at-zero i))

pub decides : (w d t j : ℕ) → Agrees w d t → Agrees w (with_bit d j) t ⊎ Agrees w (with_bit d j) (with_bit t j)
decides w d t j a = by (bit_at w j) (and_pow w j) (bit_at-lt w j)
  where
    both : bit_and w (with_bit d j) ≡ bit_or t (bit_and w (2 ^ j))
    both = and_or w d (2 ^ j) ∙ ap (λ n. bit_or n (bit_and w (2 ^ j))) a

    by : (v : ℕ) → bit_and w (2 ^ j) ≡ v * 2 ^ j → v < 2 → Agrees w (with_bit d j) t ⊎ Agrees w (with_bit d j) (with_bit t j)
    by zero e l = inl (both ∙ ap (bit_or t) (e ∙ omega arith) ∙ or_zero t)
    by (suc v) e l = inr (both ∙ ap (bit_or t) (e ∙ (let one : suc v ≡ 1 = omega (arith, l) in rw one (omega arith))))

-- both of these nodes are nodes again
module _ (q : Question) (d t j : ℕ) (node : IsNode q d t) (low : j < q.count) where
  decided_low : with_bit d j < 2 ^ q.count
  decided_low = or_lt q.count d (2 ^ j) node.open_ones (pow-lt low)

  pub kept_node : IsNode q (with_bit d j) t
  kept_node = record {
    open_ones = decided_low;
    among = same_from_bits _ _ (λ i. omega (arith, bit_at_and t (with_bit d j) i, bit_at_or d (2 ^ j) i, bit_at_and t d i, ap (λ n. bit_at n i) node.among));
  }

  pub turned_node : IsNode q (with_bit d j) (with_bit t j)
  turned_node = record {
    open_ones = decided_low;
    among = same_from_bits _ _ (λ i. omega (arith, bit_at_and (with_bit t j) (with_bit d j) i, bit_at_or d (2 ^ j) i, bit_at_or t (2 ^ j) i, bit_at_and t d i, ap (λ n. bit_at n i) node.among));
  }
