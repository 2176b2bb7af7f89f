-- The digits in front, and what they are worth.
use Rattle.std.proofs.Common.{◌≡◌, ℕ, suc, ◌+◌, ◌-◌, ◌*◌, ◌^◌, ◌<◌, ◌≤◌, Bool, true, false, cond, ◌&&◌, leb, List, [], ◌∷◌, ◌++◌, length, get_or, take, decimal, refl, ap, ◌∙◌, arith, rules}
use Rattle.std.proofs.lemmas.Fmt.{digits_decimal, digits_value-decimal, length-decimal-le, decimal_nonempty}
use Rattle.std.proofs.lemmas.Int.Digits.{digits_value_more}
use Rattle.std.proofs.ByRecursion.{All-get_or, All-take}
use Rattle.std.proofs.lemmas.List.Sums.{take_while-cons}
use Rattle.std.proofs.lemmas.List.{length-take}
use Rattle.std.proofs.lemmas.Str.Parse.{IsNumeralModel, numerals_by_weight, digits_value_short}
use Rattle.std.proofs.lemmas.Bool.{le-leb, leb-true, cond-true, and_from, and_parts}
use Rattle.std.proofs.lemmas.Str.{digit_value_digit}
use Rattle.std.specs.Int.{IsInRange}
use Rattle.std.specs.List.{take_while}
use Rattle.lines.specs.Numbers.{is_digit, Digits, worth, Writes, count_of_digits}

pub own : IsNumeralModel Digits worth
own = numerals_by_weight Digits (search rules) worth (search rules)

pub digit_is : (ds : List ℕ) (i : ℕ) → Digits ds → i < length ds → IsInRange 48 57 (get_or ds i 0)
digit_is ds i all lt = All-get_or (IsInRange 48 57) ds i 0 lt all

-- one digit more
pub worth_more : (ds : List ℕ) (i : ℕ) → Digits ds → i < length ds → worth (take (i + 1) ds) ≡ worth (take i ds) * 10 + (get_or ds i 0 - 48)
worth_more ds i all lt =
    let front : (k : ℕ) → Digits (take k ds) = λ k. All-take (IsInRange 48 57) k ds all in
    let now = own.same (take (i + 1) ds) (own.to _ (front (i + 1))) in
    let was = own.same (take i ds) (own.to _ (front i)) in
    let step = digits_value_more 10 ds i lt in
    let digit = digit_value_digit (get_or ds i 0) (digit_is ds i all lt) in
    omega arith

pub worth_small : (ds : List ℕ) (i : ℕ) → Digits ds → i ≤ 10 → worth (take i ds) < 10 ^ 10
worth_small ds i all le = digits_value_short own (take i ds) 10 (All-take (IsInRange 48 57) i ds all) (omega (arith, length-take i ds))

-- the digits in front are counted
pub count_le : (bs : List ℕ) → count_of_digits bs ≤ length bs
count_le [] = omega arith
count_le (b ∷ bs) = go (leb 48 b && leb b 57) (count_le bs)
  where
    go : (t : Bool) → count_of_digits bs ≤ length bs → cond t (suc (count_of_digits bs)) 0 ≤ suc (length bs)
    go true le = omega arith
    go false le = omega arith

pub count_digits : (bs : List ℕ) → Digits (take (count_of_digits bs) bs)
count_digits [] = tt
count_digits (b ∷ bs) = go (leb 48 b && leb b 57) refl (count_digits bs)
  where
    go : (t : Bool) → (leb 48 b && leb b 57) ≡ t → Digits (take (count_of_digits bs) bs) → Digits (take (cond t (suc (count_of_digits bs)) 0) (b ∷ bs))
    go true e all = let p = and_parts (leb 48 b) (leb b 57) e in ((leb-true 48 b p.0, leb-true b 57 p.1), all)
    go false e all = tt

pub count_exact : (ds rest : List ℕ) → Digits ds → count_of_digits rest ≡ 0 → count_of_digits (ds ++ rest) ≡ length ds
count_exact [] rest all none = none
count_exact (d ∷ ds) rest all none =
    cond-true (leb 48 d && leb d 57) (suc (count_of_digits (ds ++ rest))) 0 (and_from (leb 48 d) (leb d 57) (le-leb 48 d all.0.0) (le-leb d 57 all.0.1))
    ∙ ap suc (count_exact ds rest all.1 none)

-- the digits in front are those that the library's word takes
pub count_is : (bs : List ℕ) → length (take_while is_digit bs) ≡ count_of_digits bs
count_is [] = refl
count_is (b ∷ bs) = ap length (take_while-cons is_digit b bs) ∙ go (is_digit b) (count_is bs)
  where
    go : (t : Bool) → length (take_while is_digit bs) ≡ count_of_digits bs → length (cond t (b ∷ take_while is_digit bs) []) ≡ cond t (suc (count_of_digits bs)) 0
    go true e = ap suc e
    go false e = refl

-- what is printed of a number writes it
pub decimal_writes : (n : ℕ) → n < 2 ^ 32 → Writes (decimal n) n
decimal_writes n fits =
    let small : n < 2 ^ 64 = omega arith in
    record {
      some = decimal_nonempty n small;
      few = length-decimal-le 10 n (omega arith) (omega arith) small;
      all = digits_decimal own n small;
      value = digits_value-decimal own n small;
      fits = fits;
    }
