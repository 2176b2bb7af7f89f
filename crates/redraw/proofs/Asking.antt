-- What is asked of a run can be searched.
use Rattle.std.proofs.Common.{◌≡◌, ℕ, zero, suc, ◌+◌, ◌^◌, ◌<◌, ◌≤◌, Bool, true, false, not, ◌&&◌, eqb, map, length, Some, None, Option, unwrap_or, sym, refl, ap, ◌∙◌, inl, inr, subst, zero-add, le_refl, IsSome, is_some, IsTrue, arith}
use Rattle.std.specs.Int.{bit_at}
use Rattle.std.specs.Option.{option_map}
use Rattle.std.specs.List.{range_with_len, ContainsAt, All, AllZip}
use Rattle.std.proofs.ByRecursion.{All-weaker, all-has, all_has_itself}
use Rattle.std.proofs.lemmas.Bool.{cases_Bool, ltb-true}
use Rattle.std.proofs.lemmas.List.FromFn.{length-map-range_with_len, get_or-map-range_with_len, fill_by_all}
use Rattle.std.proofs.lemmas.Nat.{and_le_r}
use Rattle.std.proofs.lemmas.Nat.Bits.{bit_at-zero}
use Rattle.std.proofs.Math.Pow.{pow_pos}
use Rattle.meetings.specs.declared.meet.First.TheVariants.{Lower}
use Rattle.meetings.specs.declared.stays.At.{At}
use Rattle.meetings.specs.Meetings.{meetings}
use Rattle.orders.specs.Waits.{wait_under}
use Rattle.orders.specs.declared.waits.Wait.{Wait}
use Rattle.search.specs.Decisions.{Agrees}
use Rattle.search.specs.Questions.{Costs, IsNode, IsSearchable, NoMoreThan}
use Rattle.search.specs.declared.finding.Finding.TheVariants.{Done, Branch}
use Rattle.costs.specs.Laws.{IsCost}
use Rattle.costs.specs.Totals.{total}
use Rattle.traffic.specs.Index.{meeting_at, WaitsAt}
use Rattle.traffic.specs.Plans.{named}
use Rattle.traffic.specs.Scene.{Scene, at, Numbers, number, OnPaths}
use Rattle.traffic.specs.Sweep.{Timed}
use Rattle.traffic.specs.Ticks.{entry_ticks}
use Rattle.floor.specs.Times.{arrivals_by}
use Rattle.floor.specs.Words.{bit}
use Rattle.run.specs.Lawful.{first_at, LawfulFor}
use Rattle.run.specs.Opens.{open_at, open_meetings, rank}
use Rattle.run.specs.Sound.{RunsSoundly}
use Rattle.run.specs.State.{State, paths_on, meetings_on, count_on, scene_now}
use Rattle.redraw.specs.Costs.{cost_of, total_by}
use Rattle.redraw.specs.Nodes.{leaves_before, lowest, found_by, found_at, finding, question}
use Rattle.redraw.specs.Orders.{first_by, orders_of_word, orders_of}
use Rattle.redraw.proofs.Below.{Below}
use Rattle.redraw.proofs.Complete.{Ticks, found_with, ticks_costing, ticks_of}
use Rattle.redraw.proofs.Lowest.{none_violates, lowest_undecided}
use Rattle.redraw.proofs.Scenes.{all_at, among, as_listed, as_many, either, full, full-at, full_on, node-at, left_out, agreed, Either, node, opens, undecided_bit}
use Rattle.redraw.proofs.Wording.{closed_by, open_by, word_agrees, word_count}

-- arrivals compared, and within a bound
zip_range : (f g : ℕ → ℕ) → ((s : ℕ) → f s ≤ g s) → (m a : ℕ) → AllZip (λ x y. x ≤ y) (map f (range_with_len a m)) (map g (range_with_len a m))
zip_range f g h zero a = tt
zip_range f g h (suc m) a = (h a, zip_range f g h m (a + 1))

all_range : (f : ℕ → ℕ) (b m : ℕ) → ((s : ℕ) → f s < b) → All (λ x. x < b) (map f (range_with_len 0 m))
all_range f b m h k d lt =
    let low : k < m = omega (arith, lt, length-map-range_with_len f 0 m) in
    subst (λ x. x < b) (sym (get_or-map-range_with_len f 0 m k k d low (zero-add k))) (h k)

module _ (b : Below) (start : ℕ) (next : ℕ → ℕ → ℕ → ℕ) (st : State) (cost_keeps : IsCost start next) (sound : RunsSoundly st) where
  module _ (word cost : ℕ) (t : Ticks b start next st cost_keeps sound word cost) where
    -- orders that cost something are lawful
    pub lawful : LawfulFor st (orders_of_word st word)
    lawful = record {
      count = word_count st (opens b st sound) word ∙ as_many b st sound;
      agree = word_agrees st (opens b st sound) word;
      no_ring = ap is_some t.are;
    }

    word_on : OnPaths (full b st sound word)
    word_on = full_on b st sound word

    word_timed : Timed (full b st sound word) t.ticks
    word_timed = b.rounds.timed (count_on st) (full b st sound word) t.ticks (all_at b st sound (named (orders_of_word st word))) t.are

    -- a node that it agrees with has entry ticks, and costs no more
    module _ (decided turned : ℕ) (a : Agrees word decided turned) where
      abbrev less : Scene
      less = node b st sound decided turned

      node_on : OnPaths less
      node_on = record {
        within = word_on.within;
        awaited = λ stop. All-weaker (ContainsAt ((full b st sound word).waits stop)) (λ y. y.stop ≤ less.last y.shuttle) (λ y c. all-has (λ y. y.stop ≤ less.last y.shuttle) ((full b st sound word).waits stop) y (word_on.awaited stop) c) (less.waits stop) (among b st sound decided turned word a stop);
      }

      node_ticks : (e : Numbers) × (entry_ticks less (count_on st) ≡ Some e)
      node_ticks =
          let r = b.ticks.fewer (full b st sound word) less.waits word_on (among b st sound decided turned word a) (t.ticks, word_timed.ticks) in
          let f = b.rounds.found (count_on st) less r.0 (all_at b st sound (orders_of st decided turned)) (b.ticks.timed less r.0 node_on r.1) in
          (f.0, f.1)

      node_less : (e : Numbers) → entry_ticks less (count_on st) ≡ Some e → total_by start next st less e ≤ cost
      node_less e is =
          let n = count_on st in
          let timed = b.rounds.timed n less e (all_at b st sound (orders_of st decided turned)) is in
          let c = full b st sound word in
          let most = b.totals start next cost_keeps (arrivals_by less n e) (arrivals_by c n t.ticks)
          (all_range (λ s. t.ticks s (c.last s)) (2 ^ 32) n (λ s. omega (arith, b.rounds.late n c t.ticks (all_at b st sound (named (orders_of_word st word))) word_timed s (c.last s) (le_refl (c.last s)), b.runs.few sound.0 st sound.1)))
          (zip_range (λ s. e s (c.last s)) (λ s. t.ticks s (c.last s)) (λ s. b.ticks.later less c.waits e t.ticks (among b st sound decided turned word a) timed.ticks word_timed.ticks s (c.last s) (le_refl (c.last s)) word_on) n 0) in
          omega (arith, most, t.total)

  no_more_found : (cost found : ℕ) (o : Option ℕ) → found ≤ cost → NoMoreThan (question start next st) cost (found_by found o)
  no_more_found cost found None h = h
  no_more_found cost found (Some next) h = h

  finds : (decided turned word cost : ℕ) → IsNode (question start next st) decided turned → Costs (question start next st) word cost → Agrees word decided turned → NoMoreThan (question start next st) cost (finding start next st decided turned)
  unfolding finding
  finds decided turned word cost there (low, h) a =
      let t = ticks_of b start next st cost_keeps sound word cost h in
      let e = node_ticks word cost t decided turned a in
      let c = node b st sound decided turned in
      subst (λ (o : Option Numbers). NoMoreThan (question start next st) cost (found_at start next st c decided o)) (sym e.1)
      (no_more_found cost (total_by start next st c e.0) (lowest st decided e.0) (node_less word cost t decided turned a e.0 e.1))

  -- a branch names a meeting that is not decided
  branch_at : (c : Scene) (decided : ℕ) (o : Option Numbers) (cost k : ℕ) → found_at start next st c decided o ≡ Branch cost k → (e : Numbers) × (lowest st decided e ≡ Some k)
  branch_at c decided None cost k h = cc
  branch_at c decided (Some e) cost k h = (e, by (lowest st decided e) h)
    where
      by : (l : Option ℕ) → found_by (total_by start next st c e) l ≡ Branch cost k → l ≡ Some k
      by None h = cc
      by (Some i) h = cc

  names : (decided turned cost k : ℕ) → finding start next st decided turned ≡ Branch cost k → (k < length (open_meetings st)) × (bit_at decided k ≡ 0)
  unfolding finding
  names decided turned cost k h =
      let l = branch_at (node b st sound decided turned) decided (entry_ticks (node b st sound decided turned) (count_on st)) cost k h in
      lowest_undecided st decided l.0 k l.1

  -- where nothing is violated
  record Satisfied (c : Scene) (decided cost : ℕ) (o : Option Numbers) : Type 0 where
    ticks : Numbers
    are : o ≡ Some ticks
    none : lowest st decided ticks ≡ None
    total : total_by start next st c ticks ≡ cost

  satisfied_at : (c : Scene) (decided cost : ℕ) (o : Option Numbers) → found_at start next st c decided o ≡ Done cost → Satisfied c decided cost o
  satisfied_at c decided cost None h = cc
  satisfied_at c decided cost (Some e) h = by (lowest st decided e) refl h
    where
      by : (l : Option ℕ) → lowest st decided e ≡ l → found_by (total_by start next st c e) l ≡ Done cost → Satisfied c decided cost (Some e)
      by None is h = record { ticks = e; are = refl; none = is; total = cc }
      by (Some k) is h = cc

  -- a meeting that is left out, though its first as in force leaves before the second enters
  left_pass : (a b : Bool) → (not a && not b) ≡ false → a ≡ false → b ≡ true
  left_pass a true h f = refl
  left_pass true false h f = sym f
  left_pass false false h f = sym h

  module _ (decided turned : ℕ) (among_decided : Agrees turned decided turned) (e : Numbers) (timed : Timed (node b st sound decided turned) e) (none : lowest st decided e ≡ None) where
    -- at a meeting that is left out the first leaves before the second enters
    earlier_left_out : (x y : At) (w : WaitsAt (meetings (paths_on st)) (named (orders_of_word st turned)) x y) → IsTrue (open_at st w.meeting) → bit decided (rank st w.meeting) ≡ false → number e y < number e x
    earlier_left_out x y w t f =
        let o = opens b st sound in
        let j = w.meeting in
        let l = o.listed j ((o.test j).0 t) in
        let leaves : leaves_before st e j ≡ true = subst (λ i. leaves_before st e i ≡ true) l.1 (left_pass _ _ (none_violates st decided e none (rank st j) l.0) f) in
        let some_first : Some w.first ≡ Some (first_at st.firsts j) = sym w.ordered ∙ full-at b st sound turned j (as_listed b st sound j w.there) ∙ ap (λ f. Some f) (open_by st o turned j false t (undecided_bit turned decided (rank st j) among_decided f)) in
        let in_force : first_at st.firsts j ≡ w.first = cc in
        let P : Wait → Type 0 = λ v. number e v.awaited < number e v.second in
        let is : wait_under (meeting_at (meetings_on st) j) (first_at st.firsts j) ≡ record { second = x; awaited = y } =
        ap (λ ms. wait_under (meeting_at ms j) (first_at st.firsts j)) sound.1.kept.listed ∙ ap (wait_under (meeting_at (meetings (paths_on st)) j)) in_force ∙ w.wait
        in
        subst P is (ltb-true _ _ leaves)

    -- so it is with every wait of the complete orders
    earlier : (s i : ℕ) → (node b st sound decided turned).entered s ≤ i → i < (node b st sound decided turned).last s → (y : At) → WaitsAt (meetings (paths_on st)) (named (orders_of_word st turned)) (at s (suc i)) y → number e y < e s (suc i)
    earlier s i ahead short y w = by (either b st sound decided turned turned w.meeting among_decided)
      where
        low : w.meeting < length st.firsts
        low = as_listed b st sound w.meeting w.there

        by : Either b st sound decided turned turned w.meeting → number e y < e s (suc i)
        by (left_out t f is) = earlier_left_out (at s (suc i)) y w t f
        by (agreed is) =
            let w' : WaitsAt (meetings (paths_on st)) (orders_of st decided turned) (at s (suc i)) y = record {
              meeting = w.meeting;
              there = w.there;
              first = w.first;
              wait = w.wait;
              ordered = node-at b st sound decided turned w.meeting low ∙ is ∙ sym (full-at b st sound turned w.meeting low) ∙ w.ordered;
            } in
            let c = node b st sound decided turned in
            all-has (λ y. number e y < e s (suc i)) (c.waits (at s (suc i))) y ((b.ticks.rise c e timed.ticks).across s i ahead short) ((b.waits.exactly (meetings (paths_on st)) (orders_of st decided turned) (at s (suc i)) y).1 w')

    -- so these are the entry ticks of the complete orders too
    complete_timed : Timed (full b st sound turned) e
    complete_timed =
        let c = full b st sound turned in
        b.ticks.timed c e (full_on b st sound turned) (b.ticks.same (node b st sound decided turned) c.waits e (among b st sound decided turned turned among_decided) timed.ticks (λ s i ahead short.
        let more = c.waits (at s (suc i)) in
        All-weaker (ContainsAt more) (λ y. number e y < e s (suc i))
        (λ y has. earlier s i ahead short y ((b.waits.exactly (meetings (paths_on st)) (named (orders_of_word st turned)) (at s (suc i)) y).0 has))
        more (all_has_itself more)))

    complete_costs : (cost : ℕ) → total_by start next st (node b st sound decided turned) e ≡ cost → Ticks b start next st cost_keeps sound turned cost
    complete_costs cost is =
        let c = full b st sound turned in
        let f = b.rounds.found (count_on st) c e (all_at b st sound (named (orders_of_word st turned))) complete_timed in
        record { ticks = f.0; are = f.1; total = (λ i. total start next (map (λ s. f.2 s (c.last s) (le_refl (c.last s)) i) (range_with_len 0 (count_on st)))) ∙ is }

  done : (decided turned cost : ℕ) → IsNode (question start next st) decided turned → finding start next st decided turned ≡ Done cost → Costs (question start next st) turned cost
  unfolding finding
  done decided turned cost there h =
      let c = node b st sound decided turned in
      let d = satisfied_at c decided cost (entry_ticks c (count_on st)) h in
      let timed = b.rounds.timed (count_on st) c d.ticks (all_at b st sound (orders_of st decided turned)) d.are in (
        omega (arith, there.open_ones, ap (λ (n : ℕ). n) there.among, and_le_r turned decided),
        found_with b start next st cost_keeps sound turned cost (complete_costs decided turned there.among d.ticks timed d.none cost d.total),
      )

  -- the word 0 stands for the orders in force
  pub zero_orders : orders_of_word st 0 ≡ st.firsts
  zero_orders =
      let o = opens b st sound in
      sym (fill_by_all (first_by st 0) st.firsts (length st.firsts) Lower refl (λ j lt.
      elim (cases_Bool (open_at st j)) [
        | inl t ↦ sym (open_by st o 0 j false t (ap (λ v. eqb v 1) (bit_at-zero (rank st j))))
        | inr f ↦ sym (closed_by st o 0 j f)
      ]))

  -- the orders in force have entry ticks
  ticks_now : (o : Option Numbers) → entry_ticks (scene_now st) (count_on st) ≡ o → IsSome o → (e : Numbers) × (entry_ticks (scene_now st) (count_on st) ≡ Some e)
  ticks_now None is some = cc
  ticks_now (Some e) is some = (e, is)

  pub costs_now : (cost : ℕ) × (cost_of start next st st.firsts ≡ Some cost)
  unfolding cost_of
  costs_now =
      let e = ticks_now (entry_ticks (scene_now st) (count_on st)) refl sound.1.force.no_ring in
      (total_by start next st (scene_now st) e.0, ap (option_map (total_by start next st (scene_now st))) e.1)

  in_force : Costs (question start next st) 0 (question start next st).start
  in_force =
      let (cost, now) = costs_now in (
        pow_pos (length (open_meetings st)),
        found_with b start next st cost_keeps sound 0 cost (ticks_costing b start next st cost_keeps sound 0 cost (ap (cost_of start next st) zero_orders ∙ now)) ∙ ap Done (sym (ap (λ (o : Option ℕ). unwrap_or o 0) now)),
      )

  pub searchable : length (open_meetings st) ≤ 64 → IsSearchable (question start next st)
  searchable few = record { few = few; in_force = in_force; finds = finds; done = done; names = names }
