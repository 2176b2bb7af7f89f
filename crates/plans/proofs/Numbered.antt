-- What is found wrong first refuses a plan, with its number and its values.
use Rattle.std.proofs.Common.{◌≡◌, ℕ, ◌<◌, ◌≤◌, ◌⊎◌, inl, inr, ⊎_elim, List, [], ◌∷◌, length, Ok, Err, Result, sym, refl, ap, ◌∙◌, subst, arith}
use Rattle.std.proofs.lemmas.Bool.{cases_lt}
use Rattle.files.specs.declared.layout.FileFault.TheVariants.{Torn}
use Rattle.files.specs.declared.layout.FileFault.TheVariants as file
use Rattle.files.specs.declared.plan.Stop.{Stop}
use Rattle.files.specs.declared.rules.PathFault.{PathFault}
use Rattle.files.specs.Layout.{Layout, layout}
use Rattle.files.specs.Rules.{path_at, Keeps, PathsKeep, FirstOffence, offender, offence}
use Rattle.meetings.specs.declared.clash.Clash.{Clash}
use Rattle.meetings.specs.declared.meet.First.{First}
use Rattle.meetings.specs.declared.meet.First.TheVariants.{Lower, Other}
use Rattle.meetings.specs.declared.meet.MeetingFault.TheVariants as meeting
use Rattle.meetings.specs.declared.meet.TheConstants.{MOST_MEETINGS}
use Rattle.meetings.specs.declared.stays.At.{At}
use Rattle.meetings.specs.Collisions.{NoCollision}
use Rattle.meetings.specs.Laws.{stop_of, Earlier, Precedes, OneFirst, meeting_of_stops, FirstCollision, FirstCollisionLaw}
use Rattle.meetings.specs.Meetings.{meetings}
use Rattle.plans.specs.declared.plan.Plan.{Plan}
use Rattle.plans.specs.declared.plan.opening.PlanFault.{PlanFault}
use Rattle.plans.specs.declared.plan.opening.PlanFault.TheVariants.{File, Path, Meetings}
use Rattle.plans.specs.Kept.{plan_layout}
use Rattle.plans.specs.Opening.{Ruled, Opens, FirstWrongStop, RefusedByNumber}
use Rattle.plans.specs.Refusals.{gives, clash_values, plan_refusal, Refused}
use Rattle.plans.proofs.Opened.{same_ok, same_err, not_both, breaks_rule, keeps_no_offence}

wrong_breaks : (ps : List (List Stop)) (s i : ℕ) → PathsKeep ps → FirstWrongStop ps s i → ⊥
wrong_breaks ps s i keeps w = w.wrong (keeps s w.shuttle i w.stop)

-- one number, or another, or neither below the other
tri : (a b : ℕ) → ((a < b) ⊎ (b < a)) ⊎ (a ≡ b)
tri a b = ⊎_elim (λ l. inl (inl l)) (λ (ge : b ≤ a). ⊎_elim (λ l. inl (inr l)) (λ (le : a ≤ b). inr (omega arith)) (cases_lt b a)) (cases_lt a b)

-- there is one first stop that breaks a rule
module _ (ps : List (List Stop)) (f : PathFault) (o : FirstOffence ps f) (s i : ℕ) (w : FirstWrongStop ps s i) where
  same_shuttle : offender f ≡ s
  same_shuttle = ⊎_elim (⊎_elim
      (λ l. absurd (breaks_rule ps f o (w.shuttles_before (offender f) l (offence f) o.here.within)))
      (λ l. absurd (w.wrong (o.before s l i w.stop)))) (λ e. e) (tri (offender f) s)

  same_stop : offence f ≡ i
  same_stop = ⊎_elim (⊎_elim
      (λ l. absurd (breaks_rule ps f o (subst (λ r. Keeps (path_at ps r) (offence f)) (sym same_shuttle) (w.before (offence f) l))))
      (λ l. absurd (w.wrong (subst (λ r. Keeps (path_at ps r) i) same_shuttle (o.here.before i l))))) (λ e. e) (tri (offence f) i)

-- two stops are one, or one is earlier
apart : (a b : At) → (Earlier a b ⊎ Earlier b a) ⊎ (a ≡ b)
apart a b =
    ⊎_elim (⊎_elim (λ l. inl (inl (inl l))) (λ l. inl (inr (inl l))))
    (λ (e : a.shuttle ≡ b.shuttle). ⊎_elim (⊎_elim (λ l. inl (inl (inr (e, l)))) (λ l. inl (inr (inr (sym e, l))))) (λ (q : a.stop ≡ b.stop). inr (λ k. record { shuttle = e k; stop = q k })) (tri a.stop b.stop))
    (tri a.shuttle b.shuttle)

-- there is one first collision
stays_behind : (ps : List (List Stop)) (c d : Clash) → FirstCollision ps c → FirstCollision ps d → Precedes (meeting_of_stops ps c.lower c.other) (meeting_of_stops ps d.lower d.other) → ⊥
stays_behind ps c d x y p = go (meeting_of_stops ps c.lower c.other).first (y.before (meeting_of_stops ps c.lower c.other) x.meeting p)
  where
    go : (f : First) → OneFirst ps (meeting_of_stops ps c.lower c.other) f → ⊥
    go Lower h = x.lower_stays h.0
    go Other h = x.other_stays h.0

same_clash : (ps : List (List Stop)) (c d : Clash) → FirstCollision ps c → FirstCollision ps d → c ≡ d
same_clash ps c d x y =
    ⊎_elim (⊎_elim (λ l. absurd (stays_behind ps c d x y (inl l))) (λ l. absurd (stays_behind ps d c y x (inl l))))
    (λ (e : c.lower ≡ d.lower). ⊎_elim (⊎_elim (λ l. absurd (stays_behind ps c d x y (inr (e, l)))) (λ l. absurd (stays_behind ps d c y x (inr (sym e, l))))) (λ (q : c.other ≡ d.other). λ k. record { lower = e k; other = q k }) (apart c.other d.other))
    (apart c.lower d.lower)

module _ (bs : List ℕ) (law : (ps : List (List Stop)) → FirstCollisionLaw ps) where
  same_read : (l m : Layout) → layout bs ≡ Ok l → layout bs ≡ Ok m → l ≡ m
  same_read l m a b = same_ok (sym a ∙ b)

  torn : (r : Result Plan PlanFault) → Opens r bs → (place : ℕ) → layout bs ≡ Err place → Refused plan_refusal r 3 (place ∷ [])
  torn (Ok p) o place e = not_both (sym o.0 ∙ e)
  torn (Err (File (Torn p))) o place e = inl (ap (λ q. gives 3 (q ∷ [])) (same_err (sym o ∙ e)))
  torn (Err (File file.Memory)) o place e = inr refl
  torn (Err (Path f)) o place e = absurd (not_both (sym o.1 ∙ e))
  torn (Err (Meetings meeting.TooMany)) o place e = absurd (not_both (sym o.0.read ∙ e))
  torn (Err (Meetings (meeting.Collision c))) o place e = absurd (not_both (sym o.0.read ∙ e))
  torn (Err (Meetings meeting.Memory)) o place e = inr refl

  ruled_right : (q : Ruled bs) (l : Layout) → layout bs ≡ Ok l → PathsKeep l.paths
  ruled_right q l read = subst (λ (m : Layout). PathsKeep m.paths) (same_read q.plan l q.read read) q.rules

  wrong_stop : (r : Result Plan PlanFault) → Opens r bs → (l : Layout) → layout bs ≡ Ok l → (s i : ℕ) → FirstWrongStop l.paths s i → Refused plan_refusal r 4 (s ∷ i ∷ [])
  wrong_stop (Ok p) o l read s i w = wrong_breaks l.paths s i (subst (λ (m : Layout). PathsKeep m.paths) (same_read (plan_layout p) l o.0 read) o.1.rules) w
  wrong_stop (Err (File (Torn p))) o l read s i w = absurd (not_both (sym read ∙ o))
  wrong_stop (Err (File file.Memory)) o l read s i w = inr refl
  wrong_stop (Err (Path f)) o l read s i w =
      let here = subst (λ (m : Layout). FirstOffence m.paths f) (same_read o.0 l o.1 read) o.2 in
      inl (λ k. gives 4 (same_shuttle l.paths f here s i w k ∷ same_stop l.paths f here s i w k ∷ []))
  wrong_stop (Err (Meetings meeting.TooMany)) o l read s i w = absurd (wrong_breaks l.paths s i (ruled_right o.0 l read) w)
  wrong_stop (Err (Meetings (meeting.Collision c))) o l read s i w = absurd (wrong_breaks l.paths s i (ruled_right o.0 l read) w)
  wrong_stop (Err (Meetings meeting.Memory)) o l read s i w = inr refl

  same_count : (q : Ruled bs) (l : Layout) → layout bs ≡ Ok l → length (meetings l.paths) ≡ length (meetings q.plan.paths)
  same_count q l read = ap (λ (m : Layout). length (meetings m.paths)) (same_read l q.plan read q.read)

  offence_wrong : (q : Ruled bs) (f : PathFault) → Opens (Err (Path f)) bs → ⊥
  offence_wrong q f o = keeps_no_offence q.plan.paths f q.rules (subst (λ (m : Layout). FirstOffence m.paths f) (same_read o.0 q.plan o.1 q.read) o.2)

  too_many : (r : Result Plan PlanFault) → Opens r bs → (q : Ruled bs) → MOST_MEETINGS < length (meetings q.plan.paths) → Refused plan_refusal r 6 []
  too_many (Ok p) o q lt = omega (arith, same_count q (plan_layout p) o.0, o.1.few)
  too_many (Err (File (Torn p))) o q lt = absurd (not_both (sym q.read ∙ o))
  too_many (Err (File file.Memory)) o q lt = inr refl
  too_many (Err (Path f)) o q lt = absurd (offence_wrong q f o)
  too_many (Err (Meetings meeting.TooMany)) o q lt = inl refl
  too_many (Err (Meetings (meeting.Collision c))) o q lt = absurd (omega (arith, same_count q o.0.plan o.0.read, o.1))
  too_many (Err (Meetings meeting.Memory)) o q lt = inr refl

  collision : (r : Result Plan PlanFault) → Opens r bs → (q : Ruled bs) → length (meetings q.plan.paths) ≤ MOST_MEETINGS → (c : Clash) → FirstCollision q.plan.paths c → Refused plan_refusal r 5 (clash_values c)
  collision (Ok p) o q le c x =
      let clear = subst (λ (m : Layout). NoCollision m.paths) (same_read (plan_layout p) q.plan o.0 q.read) o.1.clear in
      clear c.lower.shuttle c.other.shuttle x.meeting.ordered x.meeting.other.0 ((stop_of q.plan.paths c.lower).place, x.collide)
  collision (Err (File (Torn p))) o q le c x = absurd (not_both (sym q.read ∙ o))
  collision (Err (File file.Memory)) o q le c x = inr refl
  collision (Err (Path f)) o q le c x = absurd (offence_wrong q f o)
  collision (Err (Meetings meeting.TooMany)) o q le c x = absurd (omega (arith, same_count q o.0.plan o.0.read, o.1))
  collision (Err (Meetings (meeting.Collision d))) o q le c x =
      let first = subst (λ (m : Layout). FirstCollision m.paths d) (same_read o.0.plan q.plan o.0.read q.read) (law o.0.plan.paths o.0.rules d o.2) in
      inl (ap (λ (e : Clash). gives 5 (clash_values e)) (same_clash q.plan.paths d c first x))
  collision (Err (Meetings meeting.Memory)) o q le c x = inr refl

  pub refused_by_number : (r : Result Plan PlanFault) → Opens r bs → RefusedByNumber plan_refusal r bs
  refused_by_number r o = record { torn = torn r o; wrong_stop = wrong_stop r o; too_many = too_many r o; collision = collision r o }
