-- A word names just those shuttles of which it was made.
use Rattle.std.proofs.Common.{◌≡◌, ℕ, zero, suc, ◌+◌, ◌-◌, ◌*◌, ◌/◌, ◌%◌, ◌^◌, ◌<◌, ◌≤◌, Bool, true, false, cond, not, eqb, MatchBool, List, [], ◌∷◌, ◌++◌, fold, filter, bit_or, refl, ap, ◌∙◌, subst, arith}
use native.Mathlib.Decide.{dec_lt}
use native.Mathlib.Nat.{two-pow-succ, pow-le-pow_right, div-eq_of_lt, add-mul-div_right, add-mul-mod_self_right}
use Rattle.std.proofs.lemmas.Nat.{one_shl, or_comm, or_shifted, pow_pos, pow-add, shr_split, mod_below}
use Rattle.std.proofs.lemmas.Bool.{cond_both, eqb-true, eqb-false}
use Rattle.std.specs.List.{range_with_len}
use Rattle.std.proofs.lemmas.List.Elements.{filter-append}
use Rattle.std.proofs.lemmas.List.Sums.{fold-append}
use Rattle.floor.specs.Words.{bit, word_of}

pub word_below : (named : ℕ → Bool) (n : ℕ) → word_of named n < 2 ^ n
word_below named zero = omega arith
word_below named (suc n) = cond_both (named n) (2 ^ n) 0 (λ x. word_of named n + x < 2 ^ suc n) (λ _. omega (arith, word_below named n, two-pow-succ n)) (λ _. omega (arith, word_below named n, two-pow-succ n))

pub bit_past : (w n s : ℕ) → w < 2 ^ n → n ≤ s → bit w s ≡ false
bit_past w n s lt le =
    let wide : 2 ^ n ≤ 2 ^ s = pow-le-pow_right (omega arith) le in
    ap (λ (x : ℕ). eqb (x % 2) 1) (div-eq_of_lt {n = w} {m = 2 ^ s} (omega arith))

pub word_past : (named : ℕ → Bool) (n s : ℕ) → n ≤ s → bit (word_of named n) s ≡ false
word_past named n s le = bit_past (word_of named n) n s (word_below named n) le

-- a higher bit leaves a lower one as it was
bit_under : (w n s : ℕ) → s < n → bit (w + 2 ^ n) s ≡ bit w s
bit_under w n s lt =
    let j = n - suc s in
    let split : 2 ^ n ≡ 2 ^ j * 2 * 2 ^ s = ap (λ (x : ℕ). 2 ^ x) {x = n} {y = j + 1 + s} (omega arith) ∙ pow-add 2 (j + 1) s ∙ ap (λ (x : ℕ). x * 2 ^ s) (pow-add 2 j 1) in
    ap (λ (x : ℕ). eqb ((w + x) / 2 ^ s % 2) 1) split
    ∙ ap (λ (x : ℕ). eqb (x % 2) 1) (add-mul-div_right w (2 ^ j * 2) (pow_pos s))
    ∙ ap (λ (x : ℕ). eqb x 1) (add-mul-mod_self_right (w / 2 ^ s) (2 ^ j) 2)

bit_here : (w n : ℕ) → w < 2 ^ n → bit (w + 2 ^ n) n ≡ true
bit_here w n lt =
    let one : w + 2 ^ n ≡ w + 1 * 2 ^ n = omega arith in
    ap (λ (x : ℕ). eqb (x / 2 ^ n % 2) 1) one
    ∙ ap (λ (x : ℕ). eqb (x % 2) 1) (add-mul-div_right w 1 (pow_pos n))
    ∙ ap (λ (x : ℕ). eqb ((x + 1) % 2) 1) (div-eq_of_lt lt)

pub word-bit : (named : ℕ → Bool) (n s : ℕ) → s < n → bit (word_of named n) s ≡ named s
word-bit named zero s lt = absurd (omega arith)
word-bit named (suc n) s lt = elim (dec_lt s n) [ yes d ↦ lower d (named n) ∙ word-bit named n s d | no d ↦ (let e : n ≡ s = omega arith in subst (λ (x : ℕ). bit (word_of named (suc n)) x ≡ named x) e (here (named n))) ]
  where
    none : (b : ℕ) → bit (word_of named n + 0) b ≡ bit (word_of named n) b
    none b = ap (λ (x : ℕ). bit x b) {x = word_of named n + 0} {y = word_of named n} (omega arith)

    lower : s < n → (b : Bool) → bit (word_of named n + cond b (2 ^ n) 0) s ≡ bit (word_of named n) s
    lower d true = bit_under (word_of named n) n s d
    lower d false = none s

    here : (b : Bool) → bit (word_of named n + cond b (2 ^ n) 0) n ≡ b
    here true = bit_here (word_of named n) n (word_below named n)
    here false = none n ∙ word_past named n n (omega arith)

-- a shift tells whether a word names a number that is not below n
pub word_over : (w n : ℕ) → MatchBool (not (eqb (w / 2 ^ n) 0)) (2 ^ n ≤ w) (w < 2 ^ n)
word_over w n = go (eqb (w / 2 ^ n) 0) refl
  where
    go : (b : Bool) → eqb (w / 2 ^ n) 0 ≡ b → MatchBool (not b) (2 ^ n ≤ w) (w < 2 ^ n)
    go true e = omega (arith, shr_split w n, ap (λ (x : ℕ). x * 2 ^ n) (eqb-true (w / 2 ^ n) 0 e), mod_below w (2 ^ n) (pow_pos n))
    go false e = elim (dec_lt w (2 ^ n)) [ yes d ↦ absurd (eqb-false (w / 2 ^ n) 0 e (div-eq_of_lt d)) | no d ↦ omega arith ]

-- a higher bit is set by adding it
or_next : (w k : ℕ) → w < 2 ^ k → k < 32 → bit_or w (1 * 2 ^ k % 2 ^ 32) ≡ w + 2 ^ k
or_next w k lt few =
    let one : 1 * 2 ^ k % 2 ^ 32 ≡ 1 * 2 ^ k = omega (arith, one_shl k 32 few) in
    omega (arith, ap (bit_or w) one ∙ or_comm w (1 * 2 ^ k) ∙ or_shifted 1 k w lt)

pub range_last : (a n j : ℕ) → a + n ≡ j → range_with_len a (suc n) ≡ range_with_len a n ++ j ∷ []
range_last a zero j e = ap (λ (x : ℕ). x ∷ []) (omega (arith, e))
range_last a (suc n) j e = ap (λ (l : List ℕ). a ∷ l) (range_last (a + 1) n j (omega (arith, e)))

-- the bits of those that are named, set one after another
pub word_folded : (named : ℕ → Bool) (n : ℕ) → n ≤ 32 → fold (λ w k. bit_or w (1 * 2 ^ k % 2 ^ 32)) 0 (filter named (range_with_len 0 n)) ≡ word_of named n
word_folded named zero le = refl
word_folded named (suc n) le =
    ap (λ (l : List ℕ). fold with_bit 0 (filter named l)) (range_last 0 n n (omega arith))
    ∙ ap (fold with_bit 0) (filter-append named (range_with_len 0 n) (n ∷ []))
    ∙ fold-append with_bit 0 (filter named (range_with_len 0 n)) (filter named (n ∷ []))
    ∙ ap (λ (w : ℕ). fold with_bit w (filter named (n ∷ []))) (word_folded named n (omega (arith, le)))
    ∙ last (named n)
  where
    with_bit : ℕ → ℕ → ℕ
    with_bit w k = bit_or w (1 * 2 ^ k % 2 ^ 32)

    last : (b : Bool) → fold with_bit (word_of named n) (cond b (n ∷ []) []) ≡ word_of named n + cond b (2 ^ n) 0
    last true = or_next (word_of named n) n (word_below named n) (omega (arith, le))
    last false = omega arith
