-- What the entries of a line come to: the calls that they make, the pocket after them, and the reply.
use Rattle.std.proofs.Common.{◌≡◌, ℕ, List, [], ◌∷◌, Some, None, Ok, Err, Option, Result, inl, inr, refl, sym, ap, ◌∙◌, subst}
use Rattle.costs.specs.Totals.{total_with}
use Rattle.heap.specs.Bounded.{Holding}
use Rattle.lists.specs.declared.node.Node.{Node}
use Rattle.lines.specs.declared.commands.Command.TheVariants as command
use Rattle.lines.specs.declared.replies.Reply.{Reply}
use Rattle.refusals.specs.declared.Refusal.{Refusal}
use Rattle.dispatch.specs.declared.answers.Answer.{Answer}
use Rattle.dispatch.specs.declared.answers.Answer.TheVariants.{Held, Moved, Drafted, Adopted, Dismissed}
use Rattle.dispatch.specs.declared.calls.Entry.{Entry}
use Rattle.dispatch.specs.declared.calls.Entry.TheVariants as entry
use Rattle.dispatch.specs.Agreement.{answer_on, after_on}
use Rattle.dispatch.specs.Carrying.{Carried}
use Rattle.dispatch.specs.Dispatch.{Dispatch}
use Rattle.dispatch.specs.Lists.{CostRules, ListRules, cost_rules}
use Rattle.dispatch.specs.Pockets.{Pockets, with_slip}
use Rattle.dispatch.specs.Slips.{SlipNumbers}
use Rattle.dispatch.specs.Tally.{Tally, Call, Hold, Tick, Adopt}
use Rattle.desk.specs.declared.calls.Replying.{Replying}
use Rattle.desk.specs.Calls.{DraftList, draft_lists, fresh_list, Search, draft, adoption, reply_to, last_reply, reply_of, Saw, Carries}
use Rattle.desk.specs.Replies.{Obeyed}
use Rattle.desk.proofs.Adopting.{shows_draft}
use Rattle.desk.proofs.Agreeing.{agreeing}
use Rattle.desk.proofs.Plain.{Plainly, plain_hold, plain_tick, plain_redraw}

abbrev silent : Replying
silent = record { reply = None }

abbrev empty : Pockets
empty = None ∷ []

module _ {C L : Type 0} (costs : CostRules C) (lists : ListRules L) where
  abbrev Goes : List (Entry C L) → Option Tally → Pockets → Replying → List Call → List (Entry C L) → Pockets → Replying → Type 0
  Goes = Carried costs lists Saw

  -- a hold or a tick alone
  hold_told : (s ticks : ℕ) (o : Option Tally) (calls : List Call) (back : List (Entry C L)) (qs : Pockets) (v : Replying)
      → Goes (entry.Hold s ticks ∷ []) o empty silent calls back qs v → v.reply ≡ reply_of (Hold s ticks ∷ []) o
  hold_told s ticks o calls back qs v (f, fs, is, inl (idle, same, k)) = absurd idle
  hold_told s ticks o calls back qs v (f, fs, is, inr (call, rest, are, (ms, u, makes, sees, (none, nothing, pockets, watch)))) =
      ap (λ (w : Replying). w.reply) watch ∙ sees ∙ ap (λ (c : Call). reply_to (answer_on c o) None) makes.0

  tick_told : (standing : ℕ) (o : Option Tally) (calls : List Call) (back : List (Entry C L)) (qs : Pockets) (v : Replying)
      → Goes (entry.Tick standing ∷ []) o empty silent calls back qs v → v.reply ≡ reply_of (Tick standing ∷ []) o
  tick_told standing o calls back qs v (f, fs, is, inl (idle, same, k)) = absurd idle
  tick_told standing o calls back qs v (f, fs, is, inr (call, rest, are, (ms, u, makes, sees, (none, nothing, pockets, watch)))) =
      ap (λ (w : Replying). w.reply) watch ∙ sees ∙ ap (λ (c : Call). reply_to (answer_on c o) None) makes.0

  module _ (old : Option Dispatch) (back : List (Entry C L)) (r : Option Reply) (new : Option Dispatch) where
    pub hold_plainly : (s ticks : ℕ) → Carries costs lists (entry.Hold s ticks ∷ []) old back r new → Plainly r
    hold_plainly s ticks k =
        let a = agreeing old in
        let on = k.all.tallied a.0 a.1 in
        subst Plainly (sym (k.reply ∙ hold_told s ticks a.0 on.calls back k.pockets k.watch on.carried)) (plain_hold s ticks a.0)

    pub tick_plainly : (standing : ℕ) → Carries costs lists (entry.Tick standing ∷ []) old back r new → Plainly r
    tick_plainly standing k =
        let a = agreeing old in
        let on = k.all.tallied a.0 a.1 in
        subst Plainly (sym (k.reply ∙ tick_told standing a.0 on.calls back k.pockets k.watch on.carried)) (plain_tick standing a.0)

  -- an adoption with its pocket empty
  adopt_empty : (o : Option Tally) (w : Replying) (calls : List Call) (back : List (Entry C L)) (qs : Pockets) (v : Replying)
      → Goes (entry.Adopt 0 ∷ []) o empty w calls back qs v → (calls ≡ []) × (qs ≡ empty) × (v ≡ w)
  adopt_empty o w calls back qs v (f, fs, is, inl (idle, same, (none, nothing, pockets, watch))) = (none, pockets, watch)
  adopt_empty o w calls back qs v (f, fs, is, inr (call, rest, are, (ms, u, makes, sees, k))) =
      let bad : ◌≡◌ {A = Option (Option SlipNumbers)} (Some None) (Some (Some makes.slip)) = makes.has in absurd (cc)

  -- and with a slip in it
  adopt_full : (slip : SlipNumbers) (o : Option Tally) (w : Replying) (calls : List Call) (back : List (Entry C L)) (qs : Pockets) (v : Replying)
      → Goes (entry.Adopt 0 ∷ []) o (Some slip ∷ []) w calls back qs v
      → (calls ≡ Adopt slip.run slip.draft ∷ []) × (qs ≡ empty) × (v.reply ≡ reply_to (answer_on (Adopt slip.run slip.draft) o) w.reply)
  adopt_full slip o w calls back qs v (f, fs, is, inl (idle, same, k)) = absurd (idle slip refl)
  adopt_full slip o w calls back qs v (f, fs, is, inr (call, rest, are, (ms, u, makes, sees, (none, nothing, pockets, watch)))) =
      let has : ◌≡◌ {A = Option (Option SlipNumbers)} (Some (Some slip)) (Some (Some makes.slip)) = makes.has in
      let same : slip ≡ makes.slip = cc in
      let named : call ≡ Adopt slip.run slip.draft = makes.calls ∙ ap (λ (s : SlipNumbers). Adopt s.run s.draft) (sym same) in (
        are ∙ ap (λ (l : List Call). call ∷ l) none ∙ ap (λ (c : Call). c ∷ []) named,
        pockets ∙ makes.taken,
        ap (λ (x : Replying). x.reply) watch ∙ sees ∙ ap (λ (c : Call). reply_to (answer_on c o) w.reply) named,
      )

  -- an adoption after a draft with this answer
  adopt_told : (a : Result Answer Refusal) (o : Option Tally) (w : Replying) (calls : List Call) (back : List (Entry C L)) (qs : Pockets) (v : Replying)
      → Goes (entry.Adopt 0 ∷ []) o (with_slip a 0 empty) w calls back qs v → (calls ≡ adoption a) × (qs ≡ empty) × (v.reply ≡ last_reply w.reply (adoption a) o)
  adopt_told (Ok (Drafted cost taken run draft)) o w calls back qs v k = adopt_full (record { run = run; draft = draft }) o w calls back qs v k
  adopt_told (Ok Held) o w calls back qs v k = let e = adopt_empty o w calls back qs v k in (e.0, e.1, ap (λ (x : Replying). x.reply) e.2)
  adopt_told (Ok (Moved word)) o w calls back qs v k = let e = adopt_empty o w calls back qs v k in (e.0, e.1, ap (λ (x : Replying). x.reply) e.2)
  adopt_told (Ok (Adopted cost)) o w calls back qs v k = let e = adopt_empty o w calls back qs v k in (e.0, e.1, ap (λ (x : Replying). x.reply) e.2)
  adopt_told (Ok Dismissed) o w calls back qs v k = let e = adopt_empty o w calls back qs v k in (e.0, e.1, ap (λ (x : Replying). x.reply) e.2)
  adopt_told (Err why) o w calls back qs v k = let e = adopt_empty o w calls back qs v k in (e.0, e.1, ap (λ (x : Replying). x.reply) e.2)

-- a dive over a heap, both as they are made
pub made_fresh : (list : DraftList) (heap : Holding Node) → list.kept ≡ (let h : Holding Node = record { row = []; free = 8 } in h) → list.below ≡ heap → heap.row ≡ [] → heap.free ≡ 256 → list ≡ fresh_list
made_fresh list heap kept below row free =
    let h : heap ≡ (let h : Holding Node = record { row = []; free = 256 } in h) = λ i. record { row = row i; free = free i } in
    λ i. record { kept = kept i; below = (below ∙ h) i }

-- a draft of the sum over a fresh list, and an adoption
module _ {C : Type 0} (cost : C) (budget : ℕ) where
  abbrev sums : CostRules C
  sums = cost_rules (λ _. 0) (λ _ total _ arrival. total_with total arrival)

  abbrev entries_with : DraftList → List (Entry C DraftList)
  entries_with list = entry.Draft cost list budget 0 ∷ entry.Adopt 0 ∷ []

  abbrev entries : List (Entry C DraftList)
  entries = entries_with fresh_list

  -- what the two come to from a tally
  record Told (o : Option Tally) (calls : List Call) (qs : Pockets) (r : Option Reply) : Type 0 where
    search : Search budget o
    calls_are : calls ≡ draft search ∷ adoption (answer_on (draft search) o)
    pockets : qs ≡ empty
    reply : r ≡ reply_of calls o

  redraw_told : (o : Option Tally) (calls : List Call) (back : List (Entry C DraftList)) (qs : Pockets) (v : Replying)
      → Carried sums draft_lists Saw entries o empty silent calls back qs v → Told o calls qs v.reply
  redraw_told o calls back qs v (f, fs, is, inl (idle, same, k)) = absurd (idle refl)
  redraw_told o calls back qs v (f, fs, is, inr (call, rest, are, (ms, u, makes, sees, k))) =
      let search : Search budget o = record { cost = makes.made_with; is = makes.is; places = makes.places; list_after = makes.list_after; leaves = makes.leaves } in
      let a = answer_on call o in
      let told = adopt_told sums draft_lists a (after_on call o) u rest fs qs v
      (subst (λ (ps : Pockets). Carried sums draft_lists Saw (entry.Adopt 0 ∷ []) (after_on call o) ps u rest fs qs v) makes.slip k) in
      let all : calls ≡ call ∷ adoption a = are ∙ ap (λ (l : List Call). call ∷ l) told.0 in
      let named : call ≡ draft search = makes.calls in
      record {
        search = search;
        calls_are = all ∙ ap (λ (c : Call). c ∷ adoption (answer_on c o)) named;
        pockets = told.1;
        reply = told.2 ∙ ap (λ (r : Option Reply). last_reply r (adoption a) (after_on call o)) sees ∙ sym (ap (λ (l : List Call). reply_of l o) all);
      }

  module _ (list : DraftList) (fresh : list ≡ fresh_list) (old : Option Dispatch) (back : List (Entry C DraftList)) (r : Option Reply) (new : Option Dispatch)
      (carries : Carries sums draft_lists (entries_with list) old back r new) where
    k : Carries sums draft_lists entries old back r new
    k = subst (λ (l : DraftList). Carries sums draft_lists (entries_with l) old back r new) fresh carries

    pub redraw_plainly : Plainly r
    redraw_plainly =
        let a = agreeing old in
        let on = k.all.tallied a.0 a.1 in
        let told = redraw_told a.0 on.calls back k.pockets k.watch on.carried in
        subst Plainly (sym (k.reply ∙ told.reply ∙ ap (λ (l : List Call). reply_of l a.0) told.calls_are))
        (plain_redraw told.search.cost _ budget told.search.places a.0)

    pub redraw_obeyed : (x : Reply) → r ≡ Some x → (sheet : List ℕ) → Obeyed (Some (command.Redraw budget)) x old new sheet sheet
    redraw_obeyed x is sheet o agrees =
        let on = k.all.tallied o agrees in
        let told = redraw_told o on.calls back k.pockets k.watch on.carried in
        record {
          calls = on.calls;
          makes = (told.search, told.calls_are);
          reply = (sym is ∙ k.reply ∙ told.reply, refl);
          draft = shows_draft budget o told.search on.calls x told.calls_are (sym is ∙ k.reply ∙ told.reply);
          agrees = k.spent told.pockets ∙ on.agrees;
        }
