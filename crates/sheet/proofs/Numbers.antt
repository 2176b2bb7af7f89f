-- Digits, one after another.
use Rattle.std.proofs.Common.{◌≡◌, ℕ, zero, suc, ◌+◌, ◌*◌, ◌/◌, ◌%◌, ◌^◌, ◌<◌, ◌≤◌, Some, None, Option, IfNone, IfSome, unwrap_or, List, [], ◌∷◌, ◌++◌, length, sym, ap, ◌∙◌, inl, inr, arith}
use Rattle.std.proofs.lemmas.List.{length_push}
use Rattle.std.proofs.Math.Nat.{pow-succ', one-le-pow}
use Rattle.std.proofs.lemmas.Bool.{cases_lt, lt-ltb, le-ltb, cond-true, cond-false}
use Rattle.sheet.specs.Digits.{digits_in, digits}

-- ten times itself so often
abbrev pub tens : ℕ → ℕ
tens zero = 1
tens (suc k) = 10 * tens k

few_digits : (k n : ℕ) → n < 10 → digits_in (suc k) n ≡ (48 + n % 10) ∷ []
few_digits k n lt = ap (λ (l : List ℕ). l ++ (48 + n % 10) ∷ []) (cond-true _ _ _ (lt-ltb n 10 lt))

more_digits : (k n : ℕ) → 10 ≤ n → digits_in (suc k) n ≡ digits_in k (n / 10) ++ (48 + n % 10) ∷ []
more_digits k n le = ap (λ (l : List ℕ). l ++ (48 + n % 10) ∷ []) (cond-false _ _ _ (le-ltb n 10 le))

-- as many as are needed
enough : (k j n : ℕ) → n < tens (suc k) → n < tens (suc j) → digits_in (suc k) n ≡ digits_in (suc j) n
enough zero j n p q = few_digits zero n (omega (arith, p)) ∙ sym (few_digits j n (omega (arith, p)))
enough (suc k) zero n p q = few_digits (suc k) n (omega (arith, q)) ∙ sym (few_digits zero n (omega (arith, q)))
enough (suc k) (suc j) n p q = elim (cases_lt n 10) [
  | inl l ↦ few_digits (suc k) n l ∙ sym (few_digits (suc j) n l)
  | inr g ↦ more_digits (suc k) n g ∙ ap (λ (l : List ℕ). l ++ (48 + n % 10) ∷ []) (enough k j (n / 10) (omega (arith, p)) (omega (arith, q))) ∙ sym (more_digits (suc j) n g)
]

pub digits_one : (n : ℕ) → n < 10 → digits n ≡ (48 + n % 10) ∷ []
unfolding digits
digits_one n lt = few_digits 9 n lt

pub digits_step : (n : ℕ) → n < 2 ^ 32 → 10 ≤ n → digits n ≡ digits (n / 10) ++ (48 + n % 10) ∷ []
unfolding digits
digits_step n small le = more_digits 9 n le ∙ ap (λ (l : List ℕ). l ++ (48 + n % 10) ∷ []) (enough 8 9 (n / 10) (omega (arith, small)) (omega (arith, small)))

few_in : (k n : ℕ) → length (digits_in k n) ≤ k
few_in zero n = omega arith
few_in (suc k) n = elim (cases_lt n 10) [
  | inl l ↦ omega (arith, ap (λ (x : List ℕ). length x) (few_digits k n l))
  | inr g ↦ omega (arith, ap (λ (x : List ℕ). length x) (more_digits k n g), length_push (digits_in k (n / 10)) (48 + n % 10), few_in k (n / 10))
]

pub digits_few : (n : ℕ) → length (digits n) ≤ 10
unfolding digits
digits_few n = few_in 10 n

count_step : (n : ℕ) → n < 2 ^ 32 → 10 ≤ n → length (digits n) ≡ length (digits (n / 10)) + 1
count_step n small le = ap (λ (x : List ℕ). length x) (digits_step n small le) ∙ length_push (digits (n / 10)) (48 + n % 10)

count_one : (n : ℕ) → n < 10 → length (digits n) ≡ 1
count_one n lt = ap (λ (x : List ℕ). length x) (digits_one n lt)

-- a number between a power of ten and the next
count_at : (k n : ℕ) → 10 ^ k ≤ n → n < 10 * 10 ^ k → n < 2 ^ 32 → length (digits n) ≡ k + 1
count_at zero n low high small = count_one n (omega (arith, high))
count_at (suc k) n low high small =
    let e : 10 ^ suc k ≡ 10 * 10 ^ k = pow-succ' 10 k in
    let one : 1 ≤ 10 ^ k = one-le-pow k 10 (omega arith) in
    omega (arith, count_step n small (omega (arith, low, e, one)), count_at k (n / 10) (omega (arith, low, e)) (omega (arith, high, e)) (omega (arith, small)))

pub counted : (n : ℕ) (o : Option ℕ) → n < 2 ^ 32 → IfNone o (n ≡ 0) → IfSome o (λ k. 10 ^ k ≤ n) → IfSome o (λ k. n < 10 * 10 ^ k) → length (digits n) ≡ unwrap_or o 0 + 1
counted n None small z low high = count_one n (omega (arith, z))
counted n (Some k) small z low high = count_at k n low high small
