-- What a stop waits for at its touches is what it waits for at its meetings.
use Rattle.std.proofs.Common.{◌≡◌, ℕ, suc, ◌<◌, ◌≤◌, Bool, true, false, cond, ◌&&◌, eqb, List, [], ◌∷◌, ◌++◌, length, drop, Some, None, Option, sym, refl, ap, ap₂, ◌∙◌, inl, inr, arith}
use denote.Enum.Bare.{sameb}
use Rattle.std.specs.List.{AllByRecursion, list_all}
use Rattle.std.proofs.ByRecursion.{All-append}
use Rattle.std.proofs.lemmas.Grind.{flat_map-append}
use Rattle.std.proofs.Math.Seq.{drop-cons}
use Rattle.std.proofs.lemmas.Bool.{and_parts, cases_lt, eqb-true}
use Rattle.std.proofs.lemmas.List.{drop_all, get_or_past}
use Rattle.files.specs.declared.plan.Stop.{Stop}
use Rattle.meetings.specs.contracts.meet.First.{the_type}
use Rattle.meetings.specs.declared.meet.First.{First}
use Rattle.meetings.specs.declared.meet.First.TheVariants.{Lower, Other}
use Rattle.meetings.specs.declared.meet.Meeting.{Meeting}
use Rattle.meetings.specs.declared.stays.At.{At}
use Rattle.meetings.specs.Laws.{Meets}
use Rattle.orders.specs.Waits.{following}
use Rattle.traffic.specs.Index.{order_at}
use Rattle.traffic.specs.Plans as plans
use Rattle.traffic.specs.Plans.{is_same_stop, awaits}
use Rattle.traffic.specs.Scene.{every}
use Rattle.floor.specs.declared.index.Touch.{Touch}
use Rattle.floor.specs.Touches.{awaited_at, is_same_first, touch, touched, touched_by, touches_at, touches_from, touches_of}

-- what stands where there is no touch
abbrev pub no_touch : Touch
no_touch = record { meeting = 0; shuttle = 0; stop = 0; first = Lower }

-- the answer of the program's test
pub same_first : (f g : First) → sameb the_type f g ≡ is_same_first f g
same_first Lower Lower = refl
same_first Lower Other = refl
same_first Other Lower = refl
same_first Other Other = refl

-- the stops of a meeting are not both one stop
apart : (m : Meeting) (a : At) → m.lower.shuttle < m.other.shuttle → is_same_stop m.lower a ≡ true → is_same_stop m.other a ≡ true → ⊥
apart m a lt p q =
    let x = eqb-true m.lower.shuttle a.shuttle (and_parts (eqb m.lower.shuttle a.shuttle) (eqb m.lower.stop a.stop) p).0 in
    let y = eqb-true m.other.shuttle a.shuttle (and_parts (eqb m.other.shuttle a.shuttle) (eqb m.other.stop a.stop) q).0 in
    omega (arith, lt, x, y)

-- at one meeting, by its order
module _ (orders : List (Option First)) (j : ℕ) (lower other : At) where
  on_lower : (o : Option First) → order_at orders j ≡ o → awaited_at orders (touch j other Other ∷ []) ≡ touched_by (touch j other Other) o ++ []
  on_lower o e = ap (λ (p : Option First). touched_by (touch j other Other) p ++ []) e

  on_other : (o : Option First) → order_at orders j ≡ o → awaited_at orders (touch j lower Lower ∷ []) ≡ touched_by (touch j lower Lower) o ++ []
  on_other o e = ap (λ (p : Option First). touched_by (touch j lower Lower) p ++ []) e

  left_out : (b c : Bool) → order_at orders j ≡ None → awaited_at orders (cond b (touch j other Other ∷ []) (cond c (touch j lower Lower ∷ []) [])) ≡ []
  left_out true c e = on_lower None e
  left_out false true e = on_other None e
  left_out false false e = refl

  lower_first : (b c : Bool) → (b ≡ true → c ≡ true → ⊥) → order_at orders j ≡ Some Lower → awaited_at orders (cond b (touch j other Other ∷ []) (cond c (touch j lower Lower ∷ []) [])) ≡ cond c (following lower ∷ []) []
  lower_first true true p e = absurd (p refl refl)
  lower_first true false p e = on_lower (Some Lower) e
  lower_first false true p e = on_other (Some Lower) e
  lower_first false false p e = refl

  other_first : (b c : Bool) → order_at orders j ≡ Some Other → awaited_at orders (cond b (touch j other Other ∷ []) (cond c (touch j lower Lower ∷ []) [])) ≡ cond b (following other ∷ []) []
  other_first true c e = on_lower (Some Other) e
  other_first false true e = on_other (Some Other) e
  other_first false false e = refl

waits_here : (orders : List (Option First)) (a : At) (j : ℕ) (m : Meeting) → m.lower.shuttle < m.other.shuttle → (o : Option First) → order_at orders j ≡ o → awaited_at orders (touches_of (λ b. is_same_stop b a) j m) ≡ plans.awaited_at a m o
waits_here orders a j m lt None e = left_out orders j m.lower m.other (is_same_stop m.lower a) (is_same_stop m.other a) e
waits_here orders a j m lt (Some Lower) e = lower_first orders j m.lower m.other (is_same_stop m.lower a) (is_same_stop m.other a) (apart m a lt) e
waits_here orders a j m lt (Some Other) e = other_first orders j m.lower m.other (is_same_stop m.lower a) (is_same_stop m.other a) e

-- without orders nothing is waited for
none_waited : (orders : List (Option First)) (a : At) (j : ℕ) (ms : List Meeting) (ps : List (List Stop)) → AllByRecursion (Meets ps) ms → length orders ≤ j → awaited_at orders (touches_from (λ b. is_same_stop b a) j ms) ≡ []
none_waited orders a j [] ps h le = refl
none_waited orders a j (m ∷ ms) ps h le =
    flat_map-append (touched orders) (touches_of (λ b. is_same_stop b a) j m) (touches_from (λ b. is_same_stop b a) (suc j) ms)
    ∙ ap₂ (λ (k l : List At). k ++ l) (waits_here orders a j m h.0.ordered None (get_or_past orders j None le)) (none_waited orders a (suc j) ms ps h.1 (omega (arith, le)))

waits_from : (orders : List (Option First)) (a : At) (j : ℕ) (ms : List Meeting) (ps : List (List Stop)) → AllByRecursion (Meets ps) ms → awaited_at orders (touches_from (λ b. is_same_stop b a) j ms) ≡ awaits ms (drop j orders) a
waits_from orders a j [] ps h = refl
waits_from orders a j (m ∷ ms) ps h = elim (cases_lt j (length orders)) [
  | inl l ↦
      flat_map-append (touched orders) (touches_of (λ b. is_same_stop b a) j m) (touches_from (λ b. is_same_stop b a) (suc j) ms)
      ∙ ap₂ (λ (k l : List At). k ++ l) (waits_here orders a j m h.0.ordered (order_at orders j) refl) (waits_from orders a (suc j) ms ps h.1)
      ∙ sym (ap (λ os. awaits (m ∷ ms) os a) (drop-cons orders j None l))
  | inr g ↦ none_waited orders a j (m ∷ ms) ps h g ∙ sym (ap (λ os. awaits (m ∷ ms) os a) (drop_all j orders g))
]

-- at all meetings of a plan
pub touches_wait : (orders : List (Option First)) (a : At) (ms : List Meeting) (ps : List (List Stop)) → AllByRecursion (Meets ps) ms → awaited_at orders (touches_at ms a) ≡ awaits ms orders a
touches_wait orders a ms ps h = waits_from orders a 0 ms ps h

-- touches are of shuttles of the plan
within_here : (a : At) (j : ℕ) (m : Meeting) (ps : List (List Stop)) → Meets ps m → AllByRecursion (λ (t : Touch). t.shuttle < length ps) (touches_of (λ b. is_same_stop b a) j m)
within_here a j m ps h = go (is_same_stop m.lower a) (is_same_stop m.other a)
  where
    go : (b c : Bool) → AllByRecursion (λ (t : Touch). t.shuttle < length ps) (cond b (touch j m.other Other ∷ []) (cond c (touch j m.lower Lower ∷ []) []))
    go true c = (h.other.0, tt)
    go false true = (h.lower.0, tt)
    go false false = tt

within_from : (a : At) (j : ℕ) (ms : List Meeting) (ps : List (List Stop)) → AllByRecursion (Meets ps) ms → AllByRecursion (λ (t : Touch). t.shuttle < length ps) (touches_from (λ b. is_same_stop b a) j ms)
within_from a j [] ps h = tt
within_from a j (m ∷ ms) ps h = All-append (λ (t : Touch). t.shuttle < length ps) (touches_of (λ b. is_same_stop b a) j m) (touches_from (λ b. is_same_stop b a) (suc j) ms) (within_here a j m ps h.0) (within_from a (suc j) ms ps h.1)

pub touches_within : (a : At) (ms : List Meeting) (ps : List (List Stop)) → AllByRecursion (Meets ps) ms → AllByRecursion (λ (t : Touch). t.shuttle < length ps) (touches_at ms a)
touches_within a ms ps h = within_from a 0 ms ps h

-- touch by touch, or all together
every_append : {X : Type 0} (p : X → Bool) (xs ys : List X) → every p (xs ++ ys) ≡ every p xs && every p ys
every_append p [] ys = refl
every_append p (x ∷ xs) ys = go (p x) (every_append p xs ys)
  where
    go : (b : Bool) → every p (xs ++ ys) ≡ every p xs && every p ys → b && every p (xs ++ ys) ≡ b && every p xs && every p ys
    go true h = h
    go false h = refl

pub every_touched : (p : At → Bool) (orders : List (Option First)) (ts : List Touch) → list_all (λ t. every p (touched orders t)) ts ≡ every p (awaited_at orders ts)
every_touched p orders [] = refl
every_touched p orders (t ∷ ts) = ap (λ (b : Bool). every p (touched orders t) && b) (every_touched p orders ts) ∙ sym (every_append p (touched orders t) (awaited_at orders ts))
