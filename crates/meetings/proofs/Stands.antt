-- The list of meetings holds exactly the meetings of a plan, in meeting order.
use Rattle.std.proofs.Common.{◌≡◌, ℕ, zero, suc, ◌+◌, ◌<◌, Bool, true, false, cond, not, eqb, List, [], ◌∷◌, ◌++◌, length, get_or, sym, refl, ap, ◌∙◌, subst, inl, inr, ⊎_elim, zero-add, arith}
use Rattle.std.specs.List.{flat_map, ContainsAt, AllByRecursion}
use Rattle.std.proofs.lemmas.List.FromFn.{length-map-range_with_len, get_or-map-range_with_len}
use Rattle.std.proofs.ByRecursion.{All-append, All-from_get_or, all-has, All-weaker, has_get_or, has_append_left, has_append_right}
use Rattle.std.proofs.lemmas.Bool.{and_parts, and_from, eqb-true, eqb-false, eq-eqb, ne_eqb, not-true, cond-true, cond-false}
use Rattle.files.specs.declared.plan.Stop.{Stop}
use Rattle.files.specs.Rules.{path_at}
use Rattle.meetings.specs.declared.meet.First.TheVariants.{Lower, Other}
use Rattle.meetings.specs.declared.meet.Meeting.{Meeting}
use Rattle.meetings.specs.declared.stays.At.{At}
use Rattle.meetings.specs.declared.stays.Stay.{Stay}
use Rattle.meetings.specs.Joined.{joined}
use Rattle.meetings.specs.Laws.{StopOf, stay_of, Meets, Earlier, Precedes, Ascending, MeetingsLaw}
use Rattle.meetings.specs.Meetings.{is_left_before, meets, meeting_between, meet_with, meetings_of, meetings, stay_in}
use Rattle.meetings.specs.Stays.{stay_of_stop, path_stays, stays}
use Rattle.meetings.proofs.Counts.{all_both}
use Rattle.meetings.proofs.Pairs.{nobody, meet_yes, meet_no}
use Rattle.meetings.proofs.Places.{joined_rises, joined-at, joined_find, joined_order}

pub ascending_from : {X : Type 0} (R : X → X → Type 0) (d : X) (xs : List X) → ((k l : ℕ) → k < l → l < length xs → R (get_or xs k d) (get_or xs l d)) → Ascending R xs
ascending_from R d [] h = tt
ascending_from R d (x ∷ xs) h = (
  All-from_get_or (R x) xs d (λ i lt. h 0 (suc i) (omega arith) (omega arith)),
  ascending_from R d xs (λ k l lt le. h (suc k) (suc l) (omega arith) (omega arith)),
)

pub ascending_append :
    {X : Type 0} (R : X → X → Type 0) (xs ys : List X) → Ascending R xs → Ascending R ys → AllByRecursion (λ x. AllByRecursion (R x) ys) xs → Ascending R (xs ++ ys)
ascending_append R [] ys a b c = b
ascending_append R (x ∷ xs) ys a b c = (All-append (R x) xs ys a.0 c.0, ascending_append R xs ys a.1 b c.1)

module _ (ps : List (List Stop)) where
  abbrev f : ℕ → List Stay
  f s = path_stays s (path_at ps s)

  -- the index of a stop's stay
  abbrev pub index_of : At → ℕ
  index_of a = length (joined f a.shuttle) + a.stop

  length-f : (s : ℕ) → length (f s) ≡ length (path_at ps s)
  length-f s = length-map-range_with_len (stay_of_stop s (path_at ps s)) 0 (length (path_at ps s))

  f-at : (s i : ℕ) → i < length (path_at ps s) → get_or (f s) i nobody ≡ stay_of_stop s (path_at ps s) i
  f-at s i lt = get_or-map-range_with_len (stay_of_stop s (path_at ps s)) 0 (length (path_at ps s)) i i nobody lt (zero-add i)

  pub stay_there : (a : At) → StopOf ps a → (index_of a < length (stays ps)) × (stay_in (stays ps) (index_of a) ≡ stay_of ps a)
  stay_there a w =
      let long = length-f a.shuttle in (
        omega (arith, joined_rises f a.shuttle (length ps) w.0),
        joined-at f (length ps) a.shuttle a.stop nobody w.0 (omega arith) ∙ f-at a.shuttle a.stop w.1,
      )

  pub record Stands (k : ℕ) : Type 0 where
    pub at : At
    pub within : StopOf ps at
    pub index : k ≡ index_of at
    pub is : stay_in (stays ps) k ≡ stay_of ps at

  pub stay_found : (k : ℕ) → k < length (stays ps) → Stands k
  stay_found k lt =
      let r = joined_find f (length ps) k lt in
      let a : At = record { shuttle = r.s; stop = r.i } in
      let w : StopOf ps a = (r.list, omega (arith, length-f r.s, r.entry)) in
      record { at = a; within = w; index = r.is; is = ap (stay_in (stays ps)) r.is ∙ (stay_there a w).1 }

  pub index_order : (a b : At) → StopOf ps a → StopOf ps b → index_of a < index_of b → Earlier a b
  index_order a b v w lt =
      joined_order f a.shuttle b.shuttle a.stop b.stop (omega (arith, length-f a.shuttle, v.1)) lt (omega (arith, length-f b.shuttle, w.1))

  pub order_index : (a b : At) → StopOf ps a → StopOf ps b → a.shuttle < b.shuttle → index_of a < index_of b
  order_index a b v w lt = omega (arith, joined_rises f a.shuttle b.shuttle lt, length-f a.shuttle, v.1)

  pub earlier_index : (a b : At) → StopOf ps a → StopOf ps b → Earlier a b → index_of a < index_of b
  earlier_index a b v w e =
      ⊎_elim (λ (less : a.shuttle < b.shuttle). order_index a b v w less)
      (λ (r : (a.shuttle ≡ b.shuttle) × (a.stop < b.stop)). omega (arith, ap (λ s. length (joined f s)) r.0, r.1)) e

  -- a stay of the plan
  abbrev Good : Stay → Type 0
  Good x = StopOf ps x.at × (x ≡ stay_of ps x.at)

  abbrev Before : Stay → Stay → Type 0
  Before x y = Earlier x.at y.at

  stays_good : AllByRecursion Good (stays ps)
  stays_good = All-from_get_or Good (stays ps) nobody (λ k lt. let r = stay_found k lt in subst Good (sym r.is) (r.within, refl))

  stays_ascend : Ascending Before (stays ps)
  stays_ascend = ascending_from Before nobody (stays ps) (λ k l lt le.
      let r = stay_found k (omega arith) in
      let q = stay_found l le in
      let less : index_of r.at < index_of q.at = omega (arith, r.index, q.index) in
      subst (λ (x : Stay). Before x (get_or (stays ps) l nobody)) (sym r.is) (subst (λ (y : Stay). Before (stay_of ps r.at) y) (sym q.is) (index_order r.at q.at r.within q.within less)))

  -- two stays that meet, the earlier first
  pair_meets : (x y : Stay) → Good x → Good y → Before x y → meets x y ≡ true → Meets ps (meeting_between x y)
  pair_meets x y g h b m =
      let t = and_parts (not (eqb x.at.shuttle y.at.shuttle)) (eqb x.place y.place) m in
      let ne = eqb-false _ _ (not-true _ t.0) in
      let same : x.place ≡ y.place = eqb-true _ _ t.1 in
      let before : is_left_before (stay_of ps x.at) (stay_of ps y.at) ≡ is_left_before x y = (λ i. is_left_before (sym g.1 i) (sym h.1 i)) in
      record {
        lower = g.0;
        other = h.0;
        ordered = ⊎_elim (λ l. l) (λ e. absurd (ne e.0)) b;
        place = sym (ap (λ (z : Stay). z.place) g.1) ∙ same ∙ ap (λ (z : Stay). z.place) h.1;
        first = (λ e. cond-true (is_left_before x y) Lower Other (sym before ∙ e), λ e. cond-false (is_left_before x y) Lower Other (sym before ∙ e));
      }

  -- what holds of a meeting, if there is one
  with_all : (P : Meeting → Type 0) (x y : Stay) → (meets x y ≡ true → P (meeting_between x y)) → AllByRecursion P (meet_with x y)
  with_all P x y h = go (meets x y) refl
    where
      go : (b : Bool) → meets x y ≡ b → AllByRecursion P (meet_with x y)
      go true e = subst (AllByRecursion P) (sym (meet_yes x y e)) (h e, tt)
      go false e = subst (AllByRecursion P) (sym (meet_no x y e)) tt

  row_all : (P : Meeting → Type 0) (x : Stay) (ys : List Stay) → AllByRecursion (λ y. meets x y ≡ true → P (meeting_between x y)) ys → AllByRecursion P (flat_map (meet_with x) ys)
  row_all P x [] h = tt
  row_all P x (y ∷ ys) h = All-append P (meet_with x y) (flat_map (meet_with x) ys) (with_all P x y h.0) (row_all P x ys h.1)

  rows_sound : (xs : List Stay) → AllByRecursion Good xs → Ascending Before xs → AllByRecursion (Meets ps) (meetings_of xs)
  rows_sound [] g a = tt
  rows_sound (x ∷ xs) g a =
      All-append (Meets ps) (flat_map (meet_with x) xs) (meetings_of xs)
      (row_all (Meets ps) x xs (all_both Good (Before x) (λ y. meets x y ≡ true → Meets ps (meeting_between x y)) (λ y h b m. pair_meets x y g.0 h b m) xs g.1 a.0))
      (rows_sound xs g.1 a.1)

  -- a pair that meets is in the list
  row_has : (x : Stay) (ys : List Stay) (l : ℕ) → l < length ys → meets x (stay_in ys l) ≡ true → ContainsAt (flat_map (meet_with x) ys) (meeting_between x (stay_in ys l))
  row_has x [] l lt m = absurd (omega arith)
  row_has x (y ∷ ys) zero lt m =
      has_append_left (meet_with x y) (flat_map (meet_with x) ys) (meeting_between x y) (subst (λ (ms : List Meeting). ContainsAt ms (meeting_between x y)) (sym (meet_yes x y m)) (has_get_or (meeting_between x y ∷ []) 0 (meeting_between x y) (omega arith)))
  row_has x (y ∷ ys) (suc l) lt m = has_append_right (meet_with x y) (flat_map (meet_with x) ys) _ (row_has x ys l (omega arith) m)

  rows_has : (xs : List Stay) (k l : ℕ) → k < l → l < length xs → meets (stay_in xs k) (stay_in xs l) ≡ true → ContainsAt (meetings_of xs) (meeting_between (stay_in xs k) (stay_in xs l))
  rows_has [] k l lt le m = absurd (omega arith)
  rows_has (x ∷ xs) zero zero lt le m = absurd (omega arith)
  rows_has (x ∷ xs) zero (suc l) lt le m = has_append_left (flat_map (meet_with x) xs) (meetings_of xs) _ (row_has x xs l (omega arith) m)
  rows_has (x ∷ xs) (suc k) zero lt le m = absurd (omega arith)
  rows_has (x ∷ xs) (suc k) (suc l) lt le m = has_append_right (flat_map (meet_with x) xs) (meetings_of xs) _ (rows_has xs k l (omega arith) (omega arith) m)

  meets_has : (m : Meeting) → Meets ps m → ContainsAt (meetings ps) m
  meets_has m w =
      let a = m.lower in
      let b = m.other in
      let x = stay_of ps a in
      let y = stay_of ps b in
      let there = stay_there a w.lower in
      let here = stay_there b w.other in
      let test : meets x y ≡ true = and_from _ _ (ap not (ne_eqb a.shuttle b.shuttle (λ e. omega (arith, w.ordered)))) (eq-eqb _ _ w.place) in
      let at = rows_has (stays ps) (index_of a) (index_of b) (order_index a b w.lower w.other w.ordered) here.0 ((λ i. meets (there.1 i) (here.1 i)) ∙ test) in
      let first : cond (is_left_before x y) Lower Other ≡ m.first = firsts (is_left_before x y) refl in
      subst (ContainsAt (meetings ps)) ((λ i. meeting_between (there.1 i) (here.1 i)) ∙ (λ i. record { lower = a; other = b; first = first i })) at
    where
      firsts : (t : Bool) → is_left_before (stay_of ps m.lower) (stay_of ps m.other) ≡ t → cond (is_left_before (stay_of ps m.lower) (stay_of ps m.other)) Lower Other ≡ m.first
      firsts true e = cond-true _ Lower Other e ∙ sym (w.first.0 e)
      firsts false e = cond-false _ Lower Other e ∙ sym (w.first.1 e)

  -- the meetings of one stay with later ones ascend, and so do all
  row_ascends : (x : Stay) (ys : List Stay) → Ascending Before ys → Ascending Precedes (flat_map (meet_with x) ys)
  row_ascends x [] a = tt
  row_ascends x (y ∷ ys) a =
      ascending_append Precedes (meet_with x y) (flat_map (meet_with x) ys) (single (meets x y) refl) (row_ascends x ys a.1)
      (with_all (λ m. AllByRecursion (Precedes m) (flat_map (meet_with x) ys)) x y (λ _. row_all (Precedes (meeting_between x y)) x ys (All-weaker (Before y) _ (λ z b _. inr (refl, b)) ys a.0)))
    where
      single : (t : Bool) → meets x y ≡ t → Ascending Precedes (meet_with x y)
      single true e = subst (Ascending Precedes) (sym (meet_yes x y e)) (tt, tt)
      single false e = subst (Ascending Precedes) (sym (meet_no x y e)) tt

  lowers : (P : At → Type 0) (xs : List Stay) → AllByRecursion (λ x. P x.at) xs → AllByRecursion (λ m. P m.lower) (meetings_of xs)
  lowers P [] a = tt
  lowers P (x ∷ xs) a =
      All-append (λ m. P m.lower) (flat_map (meet_with x) xs) (meetings_of xs) (row_all (λ m. P m.lower) x xs (All-weaker (λ y. P y.at) _ (λ y _ _. a.0) xs a.1)) (lowers P xs a.1)

  rows_ascend : (xs : List Stay) → Ascending Before xs → Ascending Precedes (meetings_of xs)
  rows_ascend [] a = tt
  rows_ascend (x ∷ xs) a =
      let later = lowers (Earlier x.at) xs a.0 in
      ascending_append Precedes (flat_map (meet_with x) xs) (meetings_of xs) (row_ascends x xs a.1) (rows_ascend xs a.1)
      (row_all (λ m. AllByRecursion (Precedes m) (meetings_of xs)) x xs (All-weaker (Before x) _ (λ y _ _. All-weaker (λ m. Earlier x.at m.lower) _ (λ m e. inl e) (meetings_of xs) later) xs a.0))

  pub meetings_law : MeetingsLaw ps
  meetings_law = record {
    sound = λ m h. all-has (Meets ps) (meetings ps) m (rows_sound (stays ps) stays_good stays_ascend) h;
    complete = meets_has;
    ordered = rows_ascend (stays ps) stays_ascend;
  }
