-- Lists of calls are carried out as the tally says.
use Rattle.std.proofs.Common.{◌≡◌, ℕ, ◌+◌, ◌<◌, List, [], ◌∷◌, ◌++◌, length, take, drop, set, get_or, Some, None, Option, Result, inl, inr, sym, refl, ap, ◌∙◌, subst, arith, le_refl, length-set, get_or-drop, get_or-set_same, drop-drop, drop-set-lt}
use Rattle.std.proofs.lemmas.Grind.{take_at_read}
use Rattle.std.proofs.lemmas.List.{take-set-le}
use Rattle.std.specs.Option.{option_map}
use Rattle.plans.specs.declared.plan.Plan.{Plan}
use Rattle.refusals.specs.declared.Refusal.{Refusal}
use Rattle.dispatch.specs.declared.answers.Answer.{Answer}
use Rattle.dispatch.specs.declared.calls.Entry.{Entry}
use Rattle.dispatch.specs.Agreement.{Agrees, answer_on, after_on}
use Rattle.dispatch.specs.Carrying.{after_list, Makes, Calls, Stays, Carried, CarriesOn, CarriesAll}
use Rattle.dispatch.specs.Dispatch.{Dispatch}
use Rattle.dispatch.specs.Law.{TalliesStand}
use Rattle.dispatch.specs.Lists.{CostRules, ListRules}
use Rattle.dispatch.specs.Pockets.{Pockets}
use Rattle.dispatch.specs.Tally.{Tally, Call, after, after_all, tally, fresh_tally, shown}

pub after_list-joined : (calls more : List Call) (o : Option Tally) → after_list (calls ++ more) o ≡ after_list more (after_list calls o)
after_list-joined [] more o = refl
after_list-joined (call ∷ calls) more o = after_list-joined calls more (after_on call o)

-- the tally after more calls
after_list-tally : (calls : List Call) (t : Tally) → after_list calls (Some t) ≡ Some (after_all calls t)
after_list-tally [] t = refl
after_list-tally (call ∷ calls) t = after_list-tally calls (after call t)

after_all-joined : (before calls : List Call) (t : Tally) → after_all calls (after_all before t) ≡ after_all (before ++ calls) t
after_all-joined [] calls t = refl
after_all-joined (call ∷ before) calls t = after_all-joined before calls (after call t)

module _ {C L : Type 0} (costs : CostRules C) (lists : ListRules L) {W : Type 0} (saw : W → Result Answer Refusal → Option Dispatch → W → Type 0) where
  abbrev Carries : List (Entry C L) → Option Tally → Pockets → W → List Call → List (Entry C L) → Pockets → W → Type 0
  Carries = Carried costs lists saw

  -- one list of entries after another
  joined :
      (es more : List (Entry C L)) (o : Option Tally) (ps : Pockets) (w : W) (calls : List Call) (back : List (Entry C L)) (qs : Pockets) (v : W)
      (calls_more : List Call) (back_more : List (Entry C L)) (rs : Pockets) (z : W)
      → Carries es o ps w calls back qs v → Carries more (after_list calls o) qs v calls_more back_more rs z
      → Carries (es ++ more) o ps w (calls ++ calls_more) (back ++ back_more) rs z
  joined [] more o ps w calls back qs v calls_more back_more rs z (none, nothing, pockets, watch) k =
      let by_calls = subst (λ (cs : List Call). Carries more (after_list cs o) qs v calls_more back_more rs z) none k in
      let by_pockets = subst (λ (x : Pockets). Carries more o x v calls_more back_more rs z) pockets by_calls in
      let by_watch = subst (λ (x : W). Carries more o ps x calls_more back_more rs z) watch by_pockets in
      subst (λ (cs : List Call). Carries more o ps w (cs ++ calls_more) (back ++ back_more) rs z) (sym none)
      (subst (λ (fs : List (Entry C L)). Carries more o ps w calls_more (fs ++ back_more) rs z) (sym nothing) by_watch)
  joined (e ∷ es) more o ps w calls back qs v calls_more back_more rs z (f, fs, is, inl (idle, same, c)) k =
      (f, fs ++ back_more, ap (λ (l : List (Entry C L)). l ++ back_more) is, inl (idle, same, joined es more o ps w calls fs qs v calls_more back_more rs z c k))
  joined (e ∷ es) more o ps w calls back qs v calls_more back_more rs z (f, fs, is, inr (call, rest, calls_are, (ms, u, makes, sees, c))) k =
      let k' = subst (λ (cs : List Call). Carries more (after_list cs o) qs v calls_more back_more rs z) calls_are k in (
        f,
        fs ++ back_more,
        ap (λ (l : List (Entry C L)). l ++ back_more) is,
        inr (call, rest ++ calls_more, ap (λ (l : List Call). l ++ calls_more) calls_are, (ms, u, makes, sees, joined es more (after_on call o) ms u rest fs qs v calls_more back_more rs z c k')),
      )

  one_idle : (e : Entry C L) (o : Option Tally) (ps : Pockets) (w : W) (old : Option Dispatch) (back : Entry C L) (qs : Pockets) (new : Option Dispatch)
      → Stays costs lists e ps old back qs new → Carries (e ∷ []) o ps w [] (back ∷ []) qs w
  one_idle e o ps w old back qs new s = (back, [], refl, inl (s.idle, s.entry_stays, (refl, refl, s.pockets, refl)))

  one_call : (e : Entry C L) (o : Option Tally) (ps : Pockets) (w : W) (old : Option Dispatch) (r : Result Answer Refusal) (back : Entry C L) (qs : Pockets) (v : W) (new : Option Dispatch)
      → Agrees old o → (k : Calls costs lists e ps old r back qs new) → saw w r new v
      → Carries (e ∷ []) o ps w (k.call ∷ []) (back ∷ []) qs v
  one_call e o ps w old r back qs v new a k sees =
      let does = k.does o a in
      let makes = subst (λ (d : Option Dispatch). Makes costs lists e d ps k.call (answer_on k.call o) qs back) a
      (subst (λ (x : Result Answer Refusal). Makes costs lists e old ps k.call x qs back) does.0 k.makes) in
      let saw_it = subst (λ (d : Option Dispatch). saw w (answer_on k.call o) d v) does.1 (subst (λ (x : Result Answer Refusal). saw w x new v) does.0 sees) in
      (back, [], refl, inr (k.call, [], refl, (qs, v, makes, saw_it, (refl, refl, refl, refl))))

  module _ (es : List (Entry C L)) (e : Entry C L) (ps : Pockets) (w : W) (old : Option Dispatch) (back : List (Entry C L)) (qs : Pockets) (v : W) (mid : Option Dispatch)
      (all : (o : Option Tally) → Agrees old o → CarriesOn costs lists saw es ps w o back qs v mid) (f : Entry C L) (rs : Pockets) (new : Option Dispatch) where
    -- one more entry
    pub carries_idle : Stays costs lists e qs mid f rs new → (o : Option Tally) → Agrees old o → CarriesOn costs lists saw (es ++ e ∷ []) ps w o (back ++ f ∷ []) rs v new
    carries_idle s o a =
        let k = all o a in
        record {
          calls = k.calls ++ [];
          carried = joined es (e ∷ []) o ps w k.calls back qs v [] (f ∷ []) rs v k.carried (one_idle e (after_list k.calls o) qs v mid f rs new s);
          agrees = s.dispatcher ∙ k.agrees ∙ sym (ap (option_map shown) (after_list-joined k.calls [] o));
        }

    pub carries_call : (r : Result Answer Refusal) (z : W) → Calls costs lists e qs mid r f rs new → saw v r new z → (o : Option Tally) → Agrees old o
        → CarriesOn costs lists saw (es ++ e ∷ []) ps w o (back ++ f ∷ []) rs z new
    carries_call r z c sees o a =
        let k = all o a in
        record {
          calls = k.calls ++ c.call ∷ [];
          carried = joined es (e ∷ []) o ps w k.calls back qs v (c.call ∷ []) (f ∷ []) rs z k.carried (one_call e (after_list k.calls o) qs v mid r f rs z new k.agrees c sees);
          agrees = (c.does (after_list k.calls o) k.agrees).1 ∙ sym (ap (option_map shown) (after_list-joined k.calls (c.call ∷ []) o));
        }

  pub carries_none : (ps : Pockets) (w : W) (old : Option Dispatch) (o : Option Tally) → Agrees old o → CarriesOn costs lists saw [] ps w o [] ps w old
  carries_none ps w old o a = record { calls = []; carried = (refl, refl, refl, refl); agrees = a }

  -- the first i entries are carried out, and the others are as they were
  abbrev pub CarriesFirst : List (Entry C L) → Pockets → W → Option Dispatch → ℕ → List (Entry C L) → Pockets → W → Option Dispatch → Type 0
  CarriesFirst es ps w old i fs qs v now =
      (drop i fs ≡ drop i es) × ((o : Option Tally) → Agrees old o → CarriesOn costs lists saw (take i es) ps w o (take i fs) qs v now)

  module _ (es : List (Entry C L)) (ps : Pockets) (w : W) (old : Option Dispatch) (i : ℕ) (fs : List (Entry C L)) (qs : Pockets) (v : W) (mid : Option Dispatch)
      (sofar : CarriesFirst es ps w old i fs qs v mid) (lt : i < length fs) (count : length fs ≡ length es)
      (e : Entry C L) (is : e ≡ get_or fs i e) (f : Entry C L) (rs : Pockets) (z : W) (new : Option Dispatch) where
    rest : drop (i + 1) (set fs i f) ≡ drop (i + 1) es
    rest = drop-set-lt (i + 1) fs i f (omega arith) ∙ sym (drop-drop 1 i fs) ∙ ap (drop 1) sofar.0 ∙ drop-drop 1 i es

    start : i + 0 ≡ i
    start = omega arith

    entry_is : get_or es i e ≡ e
    entry_is =
        ap (λ (n : ℕ). get_or es n e) (sym start) ∙ sym (get_or-drop i es 0 e) ∙ ap (λ (l : List (Entry C L)). get_or l 0 e) (sym sofar.0)
        ∙ get_or-drop i fs 0 e ∙ ap (λ (n : ℕ). get_or fs n e) start ∙ sym is

    taken : take (i + 1) es ≡ take i es ++ e ∷ []
    taken = (take_at_read es i e (omega (arith, lt, count))).1 ∙ ap (λ (x : Entry C L). take i es ++ x ∷ []) entry_is

    handed_back : take (i + 1) (set fs i f) ≡ take i fs ++ f ∷ []
    handed_back =
        (take_at_read (set fs i f) i f (omega (arith, lt, length-set fs i f))).1
        ∙ ap (λ (l : List (Entry C L)). l ++ get_or (set fs i f) i f ∷ []) (take-set-le i fs i f (le_refl i))
        ∙ ap (λ (x : Entry C L). take i fs ++ x ∷ []) (get_or-set_same fs i f f lt)

    -- the next one makes no call
    pub next_idle : Stays costs lists e qs mid f rs new → v ≡ z → CarriesFirst es ps w old (i + 1) (set fs i f) rs z new
    next_idle s same = (
      rest,
      λ o a. subst (λ (x : W). CarriesOn costs lists saw (take (i + 1) es) ps w o (take (i + 1) (set fs i f)) rs x new) same
          (rw (taken, handed_back) (carries_idle (take i es) e ps w old (take i fs) qs v mid sofar.1 f rs new s o a)),
    )

    -- the next one makes a call
    pub next_call : (r : Result Answer Refusal) → Calls costs lists e qs mid r f rs new → saw v r new z → CarriesFirst es ps w old (i + 1) (set fs i f) rs z new
    next_call r c sees = (
      rest,
      λ o a. rw (taken, handed_back) (carries_call (take i es) e ps w old (take i fs) qs v mid sofar.1 f rs new r z c sees o a),
    )

  pub carries_all :
      TalliesStand → (es : List (Entry C L)) (ps : Pockets) (w : W) (old : Option Dispatch) (back : List (Entry C L)) (qs : Pockets) (v : W) (new : Option Dispatch)
      → ((o : Option Tally) → Agrees old o → CarriesOn costs lists saw es ps w o back qs v new) → CarriesAll costs lists saw es ps w old back qs v new
  carries_all stand es ps w old back qs v new all = record {
    tallied = all;
    lawful = λ plan number before kept a.
        let t = tally plan number before in
        let k = all (Some t) a in
        record {
          calls = k.calls;
          carried = k.carried;
          agrees = k.agrees ∙ ap (option_map shown) (after_list-tally k.calls t ∙ ap (λ (x : Tally). Some x) (after_all-joined before k.calls (fresh_tally plan number)));
          stands = stand plan number (before ++ k.calls) kept;
        };
  }
