-- Waits by index, and what a shuttle has of them.
use Rattle.std.proofs.Common.{◌≡◌, ℕ, zero, suc, ◌+◌, ◌<◌, ◌≤◌, ◌⊎◌, inl, inr, min, Bool, true, false, eqb, cond, count_by, List, [], ◌∷◌, length, get_or, Some, None, sym, refl, ap, ◌∙◌, arith}
use Rattle.std.specs.List.{zip}
use Rattle.std.proofs.lemmas.List.Sums.{sum_by-cons, count_by-le-length}
use Rattle.std.proofs.lemmas.Slice.Zip.{length-zip}
use Rattle.meetings.specs.declared.meet.First.{First}
use Rattle.meetings.specs.declared.meet.First.TheVariants.{Lower, Other}
use Rattle.meetings.specs.declared.meet.Meeting.{Meeting}
use Rattle.orders.specs.declared.waits.Wait.{Wait}
use Rattle.orders.specs.Waits.{stops_in_order, wait_under, wait_by_number, waits, nth_wait, is_second, body_of}

abbrev pub no_meeting : Meeting
no_meeting = record { lower = record { shuttle = 0; stop = 0 }; other = record { shuttle = 0; stop = 0 }; first = Lower }

abbrev pub no_wait : Wait
no_wait = record { second = record { shuttle = 0; stop = 0 }; awaited = record { shuttle = 0; stop = 0 } }

pub length-waits : (ms : List Meeting) (fs : List First) → length (waits ms fs) ≡ min (length ms) (length fs)
length-waits [] fs = omega arith
length-waits (m ∷ ms) [] = omega arith
length-waits (m ∷ ms) (f ∷ fs) = let e = length-waits ms fs in omega arith

pub waits-at : (ms : List Meeting) (fs : List First) (k : ℕ) → k < length ms → k < length fs → nth_wait (waits ms fs) k ≡ wait_under (get_or ms k no_meeting) (get_or fs k Lower)
waits-at [] fs k l r = absurd (omega arith)
waits-at (m ∷ ms) [] k l r = absurd (omega arith)
waits-at (m ∷ ms) (f ∷ fs) zero l r = refl
waits-at (m ∷ ms) (f ∷ fs) (suc k) l r = waits-at ms fs k (omega arith) (omega arith)

-- where one of two lists has ended, no wait is left
pub waits_ended : (ms : List Meeting) (fs : List First) → (length ms ≡ 0) ⊎ (length fs ≡ 0) → waits ms fs ≡ []
waits_ended [] fs e = refl
waits_ended (m ∷ ms) [] e = refl
waits_ended (m ∷ ms) (f ∷ fs) (inl e) = absurd (omega arith)
waits_ended (m ∷ ms) (f ∷ fs) (inr e) = absurd (omega arith)

pub wait_in : (ms : List Meeting) (k : ℕ) (f : First) → k < length ms → wait_by_number ms k f ≡ Some (wait_under (get_or ms k no_meeting) f)
wait_in [] k f h = absurd (omega arith)
wait_in (m ∷ ms) zero f h = refl
wait_in (m ∷ ms) (suc k) f h = wait_in ms k f (omega arith)

pub wait_out : (ms : List Meeting) (k : ℕ) (f : First) → length ms ≤ k → wait_by_number ms k f ≡ None
wait_out [] k f h = refl
wait_out (m ∷ ms) zero f h = absurd (omega arith)
wait_out (m ∷ ms) (suc k) f h = wait_out ms k f (omega arith)

-- counting pairs of a meeting and its first counts a shuttle's waits
pub second_is : (m : Meeting) (f : First) → (stops_in_order m f).1 ≡ (wait_under m f).second
second_is m Lower = refl
second_is m Other = refl

abbrev pub is_pair_of : ℕ → Meeting × First → Bool
is_pair_of s p = eqb (stops_in_order p.0 p.1).1.shuttle s

length_cond : {X : Type 0} (b : Bool) (x : X) (xs : List X) → length (cond b (x ∷ xs) xs) ≡ cond b 1 0 + length xs
length_cond true x xs = omega arith
length_cond false x xs = omega arith

pub count_is : (ms : List Meeting) (fs : List First) (s : ℕ) → count_by (is_pair_of s) (zip ms fs) ≡ length (body_of s (waits ms fs))
count_is [] fs s = refl
count_is (m ∷ ms) [] s = refl
count_is (m ∷ ms) (f ∷ fs) s =
    let same : is_pair_of s (m, f) ≡ is_second s (wait_under m f) = ap (λ a. eqb a.shuttle s) (second_is m f) in
    sum_by-cons (λ p. cond (is_pair_of s p) 1 0) (m, f) (zip ms fs)
    ∙ (λ i. cond (same i) 1 0 + count_is ms fs s i)
    ∙ sym (length_cond (is_second s (wait_under m f)) (wait_under m f) (body_of s (waits ms fs)))

pub count_few : (ms : List Meeting) (fs : List First) (s : ℕ) → count_by (is_pair_of s) (zip ms fs) ≤ length ms
count_few ms fs s = omega (arith, count_by-le-length (is_pair_of s) (zip ms fs), length-zip ms fs)
