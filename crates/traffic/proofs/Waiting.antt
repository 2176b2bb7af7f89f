-- A stop waits just for the following stops of those that go first where it is second.
use Rattle.std.proofs.Common.{◌≡◌, ℕ, zero, suc, ◌<◌, Bool, true, false, cond, eqb, List, [], ◌∷◌, length, Some, None, Option, sym, refl, subst, ⊎_elim, arith}
use Rattle.std.specs.List.{ContainsAt}
use Rattle.std.proofs.ByRecursion.{has_append_left, has_append_right, has_append_cases}
use Rattle.std.proofs.lemmas.Bool.{and_parts, and_from, eqb-true, eq-eqb, cond-true}
use Rattle.meetings.specs.declared.meet.First.{First}
use Rattle.meetings.specs.declared.meet.Meeting.{Meeting}
use Rattle.meetings.specs.declared.stays.At.{At}
use Rattle.orders.specs.declared.waits.Wait.{Wait}
use Rattle.orders.specs.Waits.{wait_under}
use Rattle.traffic.specs.Index.{meeting_at, order_at, WaitsAt, StopsWaitExactly}
use Rattle.traffic.specs.Plans.{is_same_stop, awaited_by, awaited_at, awaits}

same_stop : (a b : At) → is_same_stop a b ≡ true → a ≡ b
same_stop a b e =
    let p = and_parts (eqb a.shuttle b.shuttle) (eqb a.stop b.stop) e in
    let s = eqb-true _ _ p.0 in
    let i = eqb-true _ _ p.1 in
    λ j. record { shuttle = s j; stop = i j }

self_same : (a : At) → is_same_stop a a ≡ true
self_same a = and_from _ _ (eq-eqb a.shuttle a.shuttle refl) (eq-eqb a.stop a.stop refl)

-- nothing is in no list, and one is in a list of one
in_none : {X : Type 0} (x : X) → ContainsAt [] x → ⊥
in_none x (k, lt, is) = omega arith

in_one : {X : Type 0} (x y : X) → ContainsAt (y ∷ []) x → y ≡ x
in_one x y (zero, lt, is) = is x
in_one x y (suc k, lt, is) = absurd (omega arith)

-- what is waited for at one wait
by_wait : (a b : At) (w : Wait) → ContainsAt (awaited_by a w) b → w ≡ record { second = a; awaited = b }
by_wait a b w h = go (is_same_stop w.second a) refl h
  where
    go : (t : Bool) → is_same_stop w.second a ≡ t → ContainsAt (cond t (w.awaited ∷ []) []) b → w ≡ record { second = a; awaited = b }
    go true e h = let one = same_stop w.second a e in let two = in_one b w.awaited h in λ i. record { second = one i; awaited = two i }
    go false e h = absurd (in_none b h)

at_meeting : (a b : At) (m : Meeting) (o : Option First) → ContainsAt (awaited_at a m o) b → (f : First) × (o ≡ Some f) × (wait_under m f ≡ record { second = a; awaited = b })
at_meeting a b m None h = absurd (in_none b h)
at_meeting a b m (Some f) h = (f, refl, by_wait a b (wait_under m f) h)

waits_at : (ms : List Meeting) (orders : List (Option First)) (a b : At) → ContainsAt (awaits ms orders a) b → WaitsAt ms orders a b
waits_at [] orders a b h = absurd (in_none b h)
waits_at (m ∷ ms) [] a b h = absurd (in_none b h)
waits_at (m ∷ ms) (o ∷ orders) a b h =
    ⊎_elim
    (λ here. let r = at_meeting a b m o here in record { meeting = 0; there = omega arith; first = r.0; ordered = r.1; wait = r.2 })
    (λ later. let r = waits_at ms orders a b later in record { meeting = suc r.meeting; there = omega (arith, r.there); first = r.first; ordered = r.ordered; wait = r.wait })
    (has_append_cases (awaited_at a m o) (awaits ms orders a) b h)

-- the wait of a first at its meeting
own_wait : (a b : At) (w : Wait) → w ≡ record { second = a; awaited = b } → ContainsAt (awaited_by a w) b
own_wait a b w e =
    let one : awaited_by a (record { second = a; awaited = b }) ≡ b ∷ [] = cond-true _ _ _ (self_same a) in
    subst (λ (x : Wait). ContainsAt (awaited_by a x) b) (sym e) (subst (λ (l : List At). ContainsAt l b) (sym one) (0, omega arith, λ d. refl))

waited : (ms : List Meeting) (orders : List (Option First)) (a b : At) (j : ℕ) (f : First) → j < length ms → order_at orders j ≡ Some f → wait_under (meeting_at ms j) f ≡ record { second = a; awaited = b } → ContainsAt (awaits ms orders a) b
waited [] orders a b j f lt o e = absurd (omega arith)
waited (m ∷ ms) [] a b j f lt o e = absurd (cc)
waited (m ∷ ms) (x ∷ orders) a b zero f lt o e = has_append_left (awaited_at a m x) (awaits ms orders a) b (subst (λ (y : Option First). ContainsAt (awaited_at a m y) b) (sym o) (own_wait a b (wait_under m f) e))
waited (m ∷ ms) (x ∷ orders) a b (suc j) f lt o e = has_append_right (awaited_at a m x) (awaits ms orders a) b (waited ms orders a b j f (omega arith) o e)

pub stops_wait_exactly : StopsWaitExactly
stops_wait_exactly ms orders a b = (waits_at ms orders a b, λ w. waited ms orders a b w.meeting w.first w.there w.ordered w.wait)
