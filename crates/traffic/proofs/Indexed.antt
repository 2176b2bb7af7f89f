-- A stop's waits are found at the meetings in which it takes part.
use Rattle.std.proofs.Common.{◌≡◌, ℕ, zero, suc, ◌+◌, ◌<◌, ◌≤◌, Bool, true, false, cond, List, [], ◌∷◌, ◌++◌, length, Some, None, filter, Option, sym, refl, ap, ◌∙◌, ap₂, append_assoc, arith}
use Rattle.std.specs.List.{range_with_len, AllByRecursion}
use Rattle.std.proofs.ByRecursion.{all_kept_by}
use Rattle.std.proofs.lemmas.Bool.{or_parts, cond-false}
use Rattle.meetings.specs.declared.meet.First.{First}
use Rattle.meetings.specs.declared.meet.First.TheVariants.{Lower, Other}
use Rattle.meetings.specs.declared.meet.Meeting.{Meeting}
use Rattle.meetings.specs.declared.stays.At.{At}
use Rattle.traffic.specs.Index.{has_part, meeting_at, order_at, meetings_at, awaited_in, WaitsAreIndexed}
use Rattle.traffic.specs.Plans.{is_same_stop, awaited_at, awaits}

-- a stop waits for nothing at a meeting in which it takes no part
not_there : (a : At) (m : Meeting) (o : Option First) → has_part a m ≡ false → awaited_at a m o ≡ []
not_there a m None n = refl
not_there a m (Some Lower) n = cond-false _ _ _ (or_parts (is_same_stop m.lower a) (is_same_stop m.other a) n).1
not_there a m (Some Other) n = cond-false _ _ _ (or_parts (is_same_stop m.lower a) (is_same_stop m.other a) n).0

-- so it may be passed over
kept_enough :
    (ms : List Meeting) (orders : List (Option First)) (a : At) (js : List ℕ)
    → awaited_in ms orders a js ≡ awaited_in ms orders a (filter (λ j. has_part a (meeting_at ms j)) js)
kept_enough ms orders a [] = refl
kept_enough ms orders a (j ∷ js) = go (has_part a (meeting_at ms j)) refl (kept_enough ms orders a js)
  where
    go : (b : Bool) → has_part a (meeting_at ms j) ≡ b → awaited_in ms orders a js ≡ awaited_in ms orders a (filter (λ j. has_part a (meeting_at ms j)) js)
        → awaited_in ms orders a (j ∷ js) ≡ awaited_in ms orders a (cond b (j ∷ filter (λ j. has_part a (meeting_at ms j)) js) (filter (λ j. has_part a (meeting_at ms j)) js))
    go true t h = ap (λ l. awaited_at a (meeting_at ms j) (order_at orders j) ++ l) h
    go false t h = ap₂ (λ (k l : List At). k ++ l) (not_there a (meeting_at ms j) (order_at orders j) t) h

-- meetings behind a first one have numbers one more
shift :
    (m : Meeting) (ms : List Meeting) (o : Option First) (orders : List (Option First)) (a : At) (k j n : ℕ) → j ≡ suc k
    → awaited_in (m ∷ ms) (o ∷ orders) a (range_with_len j n) ≡ awaited_in ms orders a (range_with_len k n)
shift m ms o orders a k j zero e = refl
shift m ms o orders a k j (suc n) e =
    ap₂ (λ (x y : List At). x ++ y) (ap (λ i. awaited_at a (meeting_at (m ∷ ms) i) (order_at (o ∷ orders) i)) e) (shift m ms o orders a (k + 1) (j + 1) n (omega arith))

-- without orders nothing is waited for
none : (ms : List Meeting) (a : At) (js : List ℕ) → awaited_in ms [] a js ≡ []
none ms a [] = refl
none ms a (j ∷ js) = none ms a js

all_counted : (ms : List Meeting) (orders : List (Option First)) (a : At) → awaits ms orders a ≡ awaited_in ms orders a (range_with_len 0 (length ms))
all_counted [] orders a = refl
all_counted (m ∷ ms) [] a = sym (none (m ∷ ms) a (range_with_len 0 (length (m ∷ ms))))
all_counted (m ∷ ms) (o ∷ orders) a = ap (λ l. awaited_at a m o ++ l) (all_counted ms orders a ∙ sym (shift m ms o orders a 0 1 (length ms) refl))

awaits_indexed : (ms : List Meeting) (orders : List (Option First)) (a : At) → awaits ms orders a ≡ awaited_in ms orders a (meetings_at ms a)
awaits_indexed ms orders a = all_counted ms orders a ∙ kept_enough ms orders a (range_with_len 0 (length ms))

awaited_in_append :
    (ms : List Meeting) (orders : List (Option First)) (a : At) (js ks : List ℕ) → awaited_in ms orders a (js ++ ks) ≡ awaited_in ms orders a js ++ awaited_in ms orders a ks
awaited_in_append ms orders a [] ks = refl
awaited_in_append ms orders a (j ∷ js) ks =
    let here = awaited_at a (meeting_at ms j) (order_at orders j) in
    ap (λ l. here ++ l) (awaited_in_append ms orders a js ks) ∙ sym (append_assoc here (awaited_in ms orders a js) (awaited_in ms orders a ks))

counted_below : (k n m : ℕ) → k + n ≤ m → AllByRecursion (λ j. j < m) (range_with_len k n)
counted_below k zero m h = tt
counted_below k (suc n) m h = (omega arith, counted_below (k + 1) n m (omega arith))

kept_below : (ms : List Meeting) (a : At) → AllByRecursion (λ j. j < length ms) (meetings_at ms a)
kept_below ms a = all_kept_by (λ j. has_part a (meeting_at ms j)) (λ j. j < length ms) (range_with_len 0 (length ms)) (counted_below 0 (length ms) (length ms) (omega arith))

pub waits_are_indexed : WaitsAreIndexed
waits_are_indexed ms orders a = record { found = awaits_indexed ms orders a; below = kept_below ms a; joined = awaited_in_append ms orders a }
