-- Some meeting clashes exactly when two paths collide, the first that clashes is a collision, and without a clash one shuttle goes first at each meeting.
use Rattle.std.proofs.Common.{◌≡◌, ℕ, suc, ◌<◌, ◌≤◌, Bool, true, false, cond, ltb, ◌⊎◌, List, length, Some, None, sym, refl, ap, ◌∙◌, subst, inl, inr, ⊎_elim, arith}
use Rattle.std.proofs.lemmas.Bool.{and_parts, and_from, and_cases, both_ways, eqb-true, eqb-false, eq-eqb, ne_eqb, not-true, not-false, not_from_false, cond-true, cond-false, ltb-true, lt-ltb, cases_Bool, cases_lt, false≢true}
use Rattle.files.specs.declared.plan.Stop.{Stop}
use Rattle.files.specs.Laws.{PathsRise}
use Rattle.files.specs.Rules.{stop_at, path_at, PathKeeps, PathsKeep}
use Rattle.meetings.specs.declared.clash.Clash.{Clash}
use Rattle.meetings.specs.declared.meet.First.{First}
use Rattle.meetings.specs.declared.meet.First.TheVariants.{Lower, Other}
use Rattle.meetings.specs.declared.meet.Meeting.{Meeting}
use Rattle.meetings.specs.declared.stays.At.{At}
use Rattle.meetings.specs.declared.stays.Stay.{Stay}
use Rattle.meetings.specs.Collisions.{In, Enters, Leaves, CollideAt, SomeCollision, NoCollision}
use Rattle.meetings.specs.Laws.{StopOf, stop_of, stay_of, Meets, Earlier, Precedes, SomeClash, ClashLaw, ClearLaw, LeftBefore, OneFirst, FirstLaw, meeting_of_stops, FirstCollision, FirstCollisionLaw}
use Rattle.meetings.specs.Meetings.{ends_before, is_left_before, meets, clashes, stay_in, NoClash, RowsClear, RowClear}
use Rattle.meetings.specs.Stays.{stays}
use Rattle.meetings.proofs.Stands.{index_of, Stands, stay_there, stay_found, index_order, order_index, earlier_index, meetings_law}

-- p's stop i is entered no later than q's stop j, and not left strictly before it
late :
    PathsRise → (p q : List Stop) (i j : ℕ) → PathKeeps q → i < length p → j < length q → (stop_at p i).place ≡ (stop_at q j).place
    → ((suc i < length p) × ((stop_at p (suc i)).tick < (stop_at q j).tick) → ⊥) → (stop_at p i).tick ≤ (stop_at q j).tick
    → (In p (stop_at q j).tick (stop_at q j).place × In q (stop_at q j).tick (stop_at q j).place) ⊎ (Leaves p (stop_at q j).tick (stop_at q j).place × Enters q (stop_at q j).tick (stop_at q j).place)
late rise p q i j keeps il jl same stays le =
    let there : In q (stop_at q j).tick (stop_at q j).place = (j, jl, refl, omega arith, λ lt. rise q j keeps lt) in
    ⊎_elim
    (λ (on : suc i < length p).
    ⊎_elim
    (λ (before : (stop_at q j).tick < (stop_at p (suc i)).tick). inl ((i, il, same, le, λ _. before), there))
    (λ (ge : (stop_at p (suc i)).tick ≤ (stop_at q j).tick).
    ⊎_elim
    (λ (less : (stop_at p (suc i)).tick < (stop_at q j).tick). absurd (stays (on, less)))
    (λ (back : (stop_at q j).tick ≤ (stop_at p (suc i)).tick). inr ((i, on, same, omega arith), (j, jl, refl, refl)))
    (cases_lt (stop_at p (suc i)).tick (stop_at q j).tick))
    (cases_lt (stop_at q j).tick (stop_at p (suc i)).tick))
    (λ (end : length p ≤ suc i). inl ((i, il, same, le, λ lt. absurd (omega arith)), there))
    (cases_lt (suc i) (length p))

ends_true : (b : Bool) (u t : ℕ) → ends_before (cond b (Some u) None) t ≡ true → (b ≡ true) × (u < t)
ends_true true u t e = (refl, ltb-true u t e)
ends_true false u t e = absurd (false≢true e)

module _ (rise : PathsRise) (ps : List (List Stop)) where
  pub left_true : (a b : At) → is_left_before (stay_of ps a) (stay_of ps b) ≡ true → LeftBefore ps a b
  left_true a b e =
      let r = ends_true (ltb (suc a.stop) (length (path_at ps a.shuttle))) _ _ e in
      (ltb-true _ _ r.0, r.1)

  pub left_from : (a b : At) → LeftBefore ps a b → is_left_before (stay_of ps a) (stay_of ps b) ≡ true
  left_from a b l =
      ap (λ t. ends_before (cond t (Some (stop_at (path_at ps a.shuttle) (suc a.stop)).tick) None) (stop_of ps b).tick) (lt-ltb _ _ l.0)
      ∙ lt-ltb _ _ l.1

  left_false : (a b : At) → is_left_before (stay_of ps a) (stay_of ps b) ≡ false → LeftBefore ps a b → ⊥
  left_false a b e l = both_ways _ e (left_from a b l)

  false_left : (a b : At) → (LeftBefore ps a b → ⊥) → is_left_before (stay_of ps a) (stay_of ps b) ≡ false
  false_left a b n = ⊎_elim (λ e. absurd (n (left_true a b e))) (λ e. e) (cases_Bool (is_left_before (stay_of ps a) (stay_of ps b)))

  -- two stops at one place, neither left strictly before the other is entered
  pub collide_from :
      PathsKeep ps → (a b : At) → StopOf ps a → StopOf ps b → (stop_of ps a).place ≡ (stop_of ps b).place → (LeftBefore ps a b → ⊥) → (LeftBefore ps b a → ⊥)
      → CollideAt (path_at ps a.shuttle) (path_at ps b.shuttle) (stop_of ps a).place
  collide_from keeps a b v w same m n =
      let p = path_at ps a.shuttle in
      let q = path_at ps b.shuttle in
      ⊎_elim
      (λ (less : (stop_of ps a).tick < (stop_of ps b).tick).
      subst (λ place. CollideAt p q place) (sym same) ((stop_of ps b).tick, ⊎_elim (λ c. inl c) (λ c. inr (inr c)) (late rise p q a.stop b.stop (keeps b.shuttle w.0) v.1 w.1 same m (omega arith))))
      (λ (ge : (stop_of ps b).tick ≤ (stop_of ps a).tick).
      ((stop_of ps a).tick, ⊎_elim (λ c. inl (c.1, c.0)) (λ c. inr (inl (c.1, c.0))) (late rise q p b.stop a.stop (keeps a.shuttle v.0) w.1 v.1 (sym same) n ge)))
      (cases_lt (stop_of ps a).tick (stop_of ps b).tick)

  clash_there :
      (a b : At) → StopOf ps a → StopOf ps b → a.shuttle < b.shuttle → (stop_of ps a).place ≡ (stop_of ps b).place → (LeftBefore ps a b → ⊥) → (LeftBefore ps b a → ⊥) → SomeClash (stays ps)
  clash_there a b v w less same m n =
      let there = stay_there ps a v in
      let here = stay_there ps b w in
      let x = stay_of ps a in
      let y = stay_of ps b in
      let test : meets x y ≡ true = and_from _ _ (not_from_false _ (ne_eqb a.shuttle b.shuttle (λ e. omega arith))) (eq-eqb _ _ same) in
      let all : clashes x y ≡ true = and_from _ _ (and_from _ _ test (not_from_false _ (false_left a b m))) (not_from_false _ (false_left b a n)) in
      (index_of ps a, index_of ps b, order_index ps a b v w less, here.0, (λ i. clashes (there.1 i) (here.1 i)) ∙ all)

  module _ (keeps : PathsKeep ps) (s r : ℕ) (less : s < r) (within : r < length ps) (t place : ℕ) where
    both_in : In (path_at ps s) t place → In (path_at ps r) t place → SomeClash (stays ps)
    both_in x y =
        clash_there (record { shuttle = s; stop = x.0 }) (record { shuttle = r; stop = y.0 }) (omega arith, x.1) (within, y.1) less (x.2 ∙ sym y.2)
        (λ l. omega (arith, x.4 l.0, y.3, l.1)) (λ l. omega (arith, y.4 l.0, x.3, l.1))

    lower_enters : Enters (path_at ps s) t place → Leaves (path_at ps r) t place → SomeClash (stays ps)
    lower_enters x y =
        clash_there (record { shuttle = s; stop = x.0 }) (record { shuttle = r; stop = y.0 }) (omega arith, x.1) (within, omega (arith, y.1)) less (x.2 ∙ sym y.2)
        (λ l. omega (arith, rise (path_at ps s) x.0 (keeps s (omega arith)) l.0, rise (path_at ps r) y.0 (keeps r within) y.1, x.3, y.3, l.1)) (λ l. omega (arith, x.3, y.3, l.1))

    other_enters : Leaves (path_at ps s) t place → Enters (path_at ps r) t place → SomeClash (stays ps)
    other_enters x y =
        clash_there (record { shuttle = s; stop = x.0 }) (record { shuttle = r; stop = y.0 }) (omega arith, omega (arith, x.1)) (within, y.1) less (x.2 ∙ sym y.2)
        (λ l. omega (arith, x.3, y.3, l.1)) (λ l. omega (arith, rise (path_at ps r) y.0 (keeps r within) l.0, rise (path_at ps s) x.0 (keeps s (omega arith)) x.1, x.3, y.3, l.1))

  to_clash : PathsKeep ps → SomeCollision ps → SomeClash (stays ps)
  to_clash keeps c =
      let place = c.4.0 in
      let d = c.4.1 in
      ⊎_elim (λ e. both_in keeps c.0 c.1 c.2 c.3 d.0 place e.0 e.1)
      (⊎_elim (λ e. lower_enters keeps c.0 c.1 c.2 c.3 d.0 place e.0 e.1) (λ e. other_enters keeps c.0 c.1 c.2 c.3 d.0 place e.0 e.1))
      d.1

  -- what a clash says of its stops
  clash_parts : (a b : At) → clashes (stay_of ps a) (stay_of ps b) ≡ true → ((a.shuttle ≡ b.shuttle → ⊥) × ((stop_of ps a).place ≡ (stop_of ps b).place)) × ((LeftBefore ps a b → ⊥) × (LeftBefore ps b a → ⊥))
  clash_parts a b e =
      let p = and_parts _ _ e in
      let q = and_parts _ _ p.0 in
      let t = and_parts _ _ q.0 in
      ((eqb-false _ _ (not-true _ t.0), eqb-true _ _ t.1), (left_false a b (not-true _ q.1), left_false b a (not-true _ p.1)))

  to_collision : PathsKeep ps → SomeClash (stays ps) → SomeCollision ps
  to_collision keeps (k, l, lt, le, e) =
      let x = stay_found ps k (omega arith) in
      let y = stay_found ps l le in
      let a = x.at in
      let b = y.at in
      let c = clash_parts a b ((λ i. clashes (sym x.is i) (sym y.is i)) ∙ e) in
      let before = index_order ps a b x.within y.within (omega (arith, x.index, y.index)) in
      let less : a.shuttle < b.shuttle = ⊎_elim (λ l. l) (λ q. absurd (c.0.0 q.0)) before in
      (a.shuttle, b.shuttle, less, y.within.0, ((stop_of ps a).place, collide_from keeps a b x.within y.within c.0.1 c.1.0 c.1.1))

  pub clash_law : ClashLaw ps
  clash_law keeps = (to_collision keeps, to_clash keeps)

  pub no_collision : PathsKeep ps → NoClash (stays ps) → NoCollision ps
  no_collision keeps none s r less within c =
      let d = to_clash keeps (s, r, less, within, c) in
      both_ways _ (none d.0 d.1 d.2 d.3) d.4

  pub no_clash : PathsKeep ps → NoCollision ps → NoClash (stays ps)
  no_clash keeps none k l lt le =
      ⊎_elim (λ e. let c = to_collision keeps (k, l, lt, le, e) in absurd (none c.0 c.1 c.2 c.3 c.4)) (λ e. e) (cases_Bool (clashes (stay_in (stays ps) k) (stay_in (stays ps) l)))

  pub clear_law : ClearLaw ps
  clear_law keeps = (no_collision keeps, no_clash keeps)

  -- two stops are not each left before the other
  not_both : PathsKeep ps → (a b : At) → StopOf ps a → StopOf ps b → LeftBefore ps a b → LeftBefore ps b a → ⊥
  not_both keeps a b v w l m =
      omega (arith, rise (path_at ps a.shuttle) a.stop (keeps a.shuttle v.0) l.0, rise (path_at ps b.shuttle) b.stop (keeps b.shuttle w.0) m.0, l.1, m.1)

  -- at a meeting that does not clash one goes first
  one_first : PathsKeep ps → (m : Meeting) → Meets ps m → clashes (stay_of ps m.lower) (stay_of ps m.other) ≡ false → OneFirst ps m m.first
  one_first keeps m w clear =
      let a = m.lower in
      let b = m.other in
      let test : meets (stay_of ps a) (stay_of ps b) ≡ true = and_from _ _ (not_from_false _ (ne_eqb a.shuttle b.shuttle (λ e. omega (arith, w.ordered)))) (eq-eqb _ _ w.place) in
      let apart = not_both keeps a b w.lower w.other in
      let P : First → Type 0 = OneFirst ps m in
      ⊎_elim
      (λ (t : is_left_before (stay_of ps a) (stay_of ps b) ≡ true). let l = left_true a b t in subst P (sym (w.first.0 t)) (l, apart l))
      (λ (t : is_left_before (stay_of ps a) (stay_of ps b) ≡ false).
      let back : is_left_before (stay_of ps b) (stay_of ps a) ≡ true = ⊎_elim (λ e. ⊎_elim (λ x. absurd (both_ways _ x test)) (λ x. absurd (both_ways _ t (not-false _ x))) (and_cases _ _ e)) (λ e. not-false _ e) (and_cases _ _ clear) in
      let l = left_true b a back in subst P (sym (w.first.1 t)) (l, λ k. apart k l))
      (cases_Bool (is_left_before (stay_of ps a) (stay_of ps b)))

  -- the stays of a meeting stand in the list of all stays
  clear_there :
      (m : Meeting) → Meets ps m → clashes (stay_in (stays ps) (index_of ps m.lower)) (stay_in (stays ps) (index_of ps m.other)) ≡ false → clashes (stay_of ps m.lower) (stay_of ps m.other) ≡ false
  clear_there m w e =
      let there = stay_there ps m.lower w.lower in
      let here = stay_there ps m.other w.other in
      (λ i. clashes (sym there.1 i) (sym here.1 i)) ∙ e

  pub first_law : FirstLaw ps
  first_law keeps none m h =
      let w = (meetings_law ps).sound m h in
      one_first keeps m w (clear_there m w (none _ _ (order_index ps m.lower m.other w.lower w.other w.ordered) (stay_there ps m.other w.other).0))

  -- no meeting before that of two stays clashes, if no pair of stays before them does
  clear_before :
      (k l : ℕ) (x : Stands ps k) (y : Stands ps l) → RowsClear (stays ps) k → RowClear (stays ps) k l → (m : Meeting) → Meets ps m → Precedes m (meeting_of_stops ps x.at y.at)
      → clashes (stay_in (stays ps) (index_of ps m.lower)) (stay_in (stays ps) (index_of ps m.other)) ≡ false
  clear_before k l x y rows row m w p =
      let i = index_of ps m.lower in
      let j = index_of ps m.other in
      let less = order_index ps m.lower m.other w.lower w.other w.ordered in
      ⊎_elim
      (λ (e : Earlier m.lower x.at). rows i j (omega (arith, earlier_index ps m.lower x.at w.lower x.within e, x.index)) less (stay_there ps m.other w.other).0)
      (λ (e : (m.lower ≡ x.at) × Earlier m.other y.at).
      let same : i ≡ k = ap (index_of ps) e.0 ∙ sym x.index in
      ap (λ n. clashes (stay_in (stays ps) n) (stay_in (stays ps) j)) same
      ∙ row j (omega arith) (omega (arith, earlier_index ps m.other y.at w.other y.within e.1, y.index)))
      p

  collision_from :
      PathsKeep ps → (k l : ℕ) (x : Stands ps k) (y : Stands ps l) → k < l → clashes (stay_in (stays ps) k) (stay_in (stays ps) l) ≡ true → RowsClear (stays ps) k → RowClear (stays ps) k l
      → FirstCollision ps (record { lower = x.at; other = y.at })
  collision_from keeps k l x y lt e rows row =
      let a = x.at in
      let b = y.at in
      let c = clash_parts a b ((λ i. clashes (sym x.is i) (sym y.is i)) ∙ e) in
      let before = index_order ps a b x.within y.within (omega (arith, x.index, y.index)) in
      let less : a.shuttle < b.shuttle = ⊎_elim (λ l. l) (λ q. absurd (c.0.0 q.0)) before in
      record {
        meeting = record {
          lower = x.within;
          other = y.within;
          ordered = less;
          place = c.0.1;
          first = (λ t. cond-true _ Lower Other t, λ t. cond-false _ Lower Other t);
        };
        lower_stays = c.1.0;
        other_stays = c.1.1;
        collide = collide_from keeps a b x.within y.within c.0.1 c.1.0 c.1.1;
        before = λ m w p. one_first keeps m w (clear_there m w (clear_before k l x y rows row m w p));
      }

  pub first_collision_law : FirstCollisionLaw ps
  first_collision_law keeps c h =
      let x = stay_found ps h.a (omega (arith, h.ordered, h.within)) in
      let y = stay_found ps h.b h.within in
      let lower : c.lower ≡ x.at = h.lower ∙ ap (λ (s : Stay). s.at) x.is in
      let other : c.other ≡ y.at = h.other ∙ ap (λ (s : Stay). s.at) y.is in
      let same : c ≡ record { lower = x.at; other = y.at } = (λ i. record { lower = lower i; other = other i }) in
      subst (λ (d : Clash). FirstCollision ps d) (sym same) (collision_from keeps h.a h.b x y h.ordered h.clash h.rows h.row)
