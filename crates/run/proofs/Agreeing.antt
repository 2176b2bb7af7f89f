-- What stops wait for under orders that agree with those in force.
use Rattle.std.proofs.Common.{◌≡◌, ℕ, ◌-◌, ◌<◌, ◌≤◌, List, length, Some, None, sym, ap, ◌∙◌, subst, inl, inr, arith}
use Rattle.std.specs.List.{ContainsAt}
use Rattle.std.proofs.ByRecursion.{All-weaker, all-has, all_has_itself}
use Rattle.std.proofs.lemmas.Bool.{cases_Bool}
use Rattle.std.proofs.lemmas.List.{get_or-map}
use Rattle.std.proofs.lemmas.Option.{same_Some}
use Rattle.files.specs.Rules.{path_at}
use Rattle.meetings.specs.declared.meet.First.{First}
use Rattle.meetings.specs.declared.meet.First.TheVariants.{Lower, Other}
use Rattle.meetings.specs.declared.meet.Meeting.{Meeting}
use Rattle.meetings.specs.declared.stays.At.{At}
use Rattle.meetings.specs.Meetings.{meetings}
use Rattle.orders.specs.declared.waits.Wait.{Wait}
use Rattle.orders.specs.Waits.{wait_under}
use Rattle.traffic.specs.Index.{meeting_at, order_at}
use Rattle.traffic.specs.Plans.{awaits, named}
use Rattle.traffic.specs.Safety.{Waited}
use Rattle.traffic.specs.Scene.{at, OnPaths}
use Rattle.traffic.specs.Stands.{StepLaws, WaitLaws}
use Rattle.floor.specs.Open.{Open}
use Rattle.floor.specs.Shuttles.{stop_in}
use Rattle.run.specs.Lawful.{first_at, Agrees}
use Rattle.run.specs.Opens.{open_at}
use Rattle.run.specs.State.{State, paths_on, tables_on, meetings_on, scene_under, scene_now}
use Rattle.run.proofs.Opening.{open_test}

-- who goes first by orders that leave no meeting out
pub named-at : (fs : List First) (j : ℕ) → j < length fs → order_at (named fs) j ≡ Some (first_at fs j)
named-at fs j lt = get_or-map (λ f. Some f) fs j Lower None lt

-- the stops that wait at an open meeting are ahead, and what they wait for exists
second_ahead : (st : State) (m : Meeting) (f : First) → Open (paths_on st) (tables_on st) st.shuttles m → stop_in st.shuttles (wait_under m f).second.shuttle < (wait_under m f).second.stop
second_ahead st m Lower o = o.other.unentered
second_ahead st m Other o = o.lower.unentered

awaited_exists : (st : State) (m : Meeting) (f : First) → Open (paths_on st) (tables_on st) st.shuttles m → (wait_under m f).awaited.stop ≤ length (path_at (paths_on st) (wait_under m f).awaited.shuttle) - 1
awaited_exists st m Lower o = omega (arith, o.lower.onward)
awaited_exists st m Other o = omega (arith, o.other.onward)

module _ (waits : WaitLaws) (st : State) (orders : List First) (listed : meetings_on st ≡ meetings (paths_on st)) (old_count : length st.firsts ≡ length (meetings_on st))
    (count : length orders ≡ length (meetings_on st)) (agree : Agrees st orders) where
  abbrev ms : List Meeting
  ms = meetings (paths_on st)

  as_many : length (meetings_on st) ≡ length ms
  as_many = ap (λ (l : List Meeting). length l) listed

  -- At an open meeting, or as in force.
  open_or_now : (P : Type 0) (a b : At) → ContainsAt (awaits ms (named orders) a) b
      → ((m : Meeting) (f : First) → wait_under m f ≡ record { second = a; awaited = b } → Open (paths_on st) (tables_on st) st.shuttles m → P) → (ContainsAt (awaits ms (named st.firsts) a) b → P) → P
  open_or_now P a b h opened now =
      let w = (waits.exactly ms (named orders) a b).0 h in
      let j = w.meeting in
      let low : j < length orders = omega (arith, w.there, count, as_many) in
      let first : w.first ≡ first_at orders j = same_Some _ _ (sym w.ordered ∙ named-at orders j low) in
      elim (cases_Bool (open_at st j)) [
        | inl t ↦
            let o : Open (paths_on st) (tables_on st) st.shuttles (meeting_at ms j) = subst (λ (l : List Meeting). Open (paths_on st) (tables_on st) st.shuttles (meeting_at l j)) listed ((open_test st j).0 t).1 in
            opened (meeting_at ms j) w.first w.wait o
        | inr f ↦
            let same : w.first ≡ first_at st.firsts j = first ∙ agree j low f in
            now ((waits.exactly ms (named st.firsts) a b).1
            (record { meeting = j; there = w.there; first = w.first; ordered = named-at st.firsts j (omega (arith, w.there, old_count, as_many)) ∙ ap (λ x. Some x) (sym same); wait = w.wait }))
      ]

  pub agreed_on_paths : OnPaths (scene_now st) → OnPaths (scene_under st (named orders))
  agreed_on_paths exist = record {
    within = exist.within;
    awaited = λ a. All-weaker (ContainsAt (awaits ms (named orders) a)) _ (λ b h.
        open_or_now (b.stop ≤ length (path_at (paths_on st) b.shuttle) - 1) a b h
        (λ m f e o. subst (λ (w : Wait). w.awaited.stop ≤ length (path_at (paths_on st) w.awaited.shuttle) - 1) e (awaited_exists st m f o))
        (λ there. all-has (λ b. b.stop ≤ length (path_at (paths_on st) b.shuttle) - 1) (awaits ms (named st.firsts) a) b (exist.awaited a) there))
        (awaits ms (named orders) a) (all_has_itself (awaits ms (named orders) a));
  }

  pub agreed_waited : StepLaws → (before : ℕ → ℕ) → Waited (scene_now st) before → Waited (scene_under st (named orders)) before
  agreed_waited steps before w =
      steps.changes (scene_now st) before (awaits ms (named orders))
      (λ s i le. All-weaker (ContainsAt (awaits ms (named orders) (at s i))) (ContainsAt (awaits ms (named st.firsts) (at s i))) (λ b h.
      open_or_now (ContainsAt (awaits ms (named st.firsts) (at s i)) b) (at s i) b h
      (λ m f e o. let ahead : stop_in st.shuttles s < i = subst (λ (x : Wait). stop_in st.shuttles x.second.shuttle < x.second.stop) e (second_ahead st m f o) in absurd (omega arith))
      (λ there. there))
      (awaits ms (named orders) (at s i)) (all_has_itself (awaits ms (named orders) (at s i))))
      w
