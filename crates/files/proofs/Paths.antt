-- Paths in a list, and the first that breaks a rule.
use Rattle.std.proofs.Common.{◌≡◌, ℕ, suc, ◌+◌, ◌-◌, ◌<◌, ◌≤◌, ◌⊎◌, inl, inr, Bool, true, false, cond, eqb, leb, Option, None, Some, List, [], length, get_or, refl, sym, ap, ◌∙◌, subst, arith}
use Rattle.std.proofs.lemmas.Bool.{eqb-true, eqb-false, leb-true, leb-false}
use Rattle.std.proofs.lemmas.List.{get_or-map}
use Rattle.files.specs.declared.plan.Path as plan
use Rattle.files.specs.declared.plan.Stop.{Stop}
use Rattle.files.specs.declared.rules.PathFault.{PathFault}
use Rattle.files.specs.declared.rules.PathFault.TheVariants.{Tick, Place}
use Rattle.files.specs.Rules.{stop_at, path_at, fault_of, Keeps, PathKeeps, PathBreaks, FirstOffence, offender}
use Rattle.files.specs.Views.{path_of, paths_of}

-- a path that is read from a list of paths
pub path_read : (xs : List plan.Path) (s : ℕ) (p : plan.Path) → s < length xs → p ≡ get_or xs s p → path_at (paths_of xs) s ≡ path_of p
path_read xs s p lt e = get_or-map path_of xs s p [] lt ∙ ap path_of (sym e)

pub path_rises : (path : List Stop) (i : ℕ) → PathKeeps path → suc i < length path → (stop_at path i).tick < (stop_at path (suc i)).tick
path_rises path i h lt =
    let e : suc i - 1 ≡ i = omega arith in
    subst (λ k. (stop_at path k).tick < (stop_at path (suc i)).tick) e ((h (suc i) lt).rises (omega arith))

-- what stands before stop k of a path
abbrev pub Before : List Stop → ℕ → Option Stop → Type 0
Before path k None = k ≡ 0
Before path k (Some last) = (0 < k) × (last ≡ stop_at path (k - 1))

pub before_more : (path : List Stop) (k : ℕ) (here : Stop) → here ≡ stop_at path k → Before path (k + 1) (Some here)
before_more path k here e = let same : k + 1 - 1 ≡ k = omega arith in (omega arith, e ∙ ap (stop_at path) (sym same))

-- which test a fault came by, or that none was met
none_by : {X : Type 0} (b : Bool) (x : X) → cond b None (Some x) ≡ None → b ≡ true
none_by true x e = refl
none_by false x e = cc

some_by : {X : Type 0} (b : Bool) (x f : X) → cond b None (Some x) ≡ Some f → (b ≡ false) × (f ≡ x)
some_by true x f e = cc
some_by false x f e = (refl, cc)

none_by_two : {X : Type 0} (t p : Bool) (x y : X) → cond t (Some x) (cond p (Some y) None) ≡ None → (t ≡ false) × (p ≡ false)
none_by_two true p x y e = cc
none_by_two false true x y e = cc
none_by_two false false x y e = (refl, refl)

some_by_two : {X : Type 0} (t p : Bool) (x y f : X) → cond t (Some x) (cond p (Some y) None) ≡ Some f → ((t ≡ true) × (f ≡ x)) ⊎ ((t ≡ false) × (p ≡ true) × (f ≡ y))
some_by_two true p x y f e = inl (refl, cc)
some_by_two false true x y f e = inr (refl, refl, cc)
some_by_two false false x y f e = cc

-- a stop behind which no rule is broken keeps the rules
pub no_fault : (s k : ℕ) (path : List Stop) (before : Option Stop) → Before path k before → fault_of s k before (stop_at path k) ≡ None → Keeps path k
no_fault s k path None b e =
    let first : (stop_at path k).tick ≡ 0 = eqb-true _ _ (none_by _ _ e) in
    record { starts = λ _. first; rises = λ lt. absurd (omega arith); differs = λ lt. absurd (omega arith) }
no_fault s k path (Some last) b e =
    let by = none_by_two _ _ _ _ e in
    let rises : last.tick < (stop_at path k).tick = leb-false _ _ by.0 in
    let differs = eqb-false _ _ by.1 in
    record { starts = λ z. absurd (omega arith); rises = λ _. omega (arith, ap (λ x. x.tick) b.1); differs = λ _ same. differs (sym same ∙ ap (λ x. x.place) (sym b.1)) }

-- and one behind which a rule is broken is the first offence, if all before it keep the rules
pub some_fault :
    (s k : ℕ) (path : List Stop) (before : Option Stop) (f : PathFault) → k < length path → Before path k before → fault_of s k before (stop_at path k) ≡ Some f
    → ((i : ℕ) → i < k → i < length path → Keeps path i) → PathBreaks s path f
some_fault s k path None f lt b e h =
    let by = some_by _ _ _ e in
    let first : (stop_at path 0).tick ≡ 0 → ⊥ = λ z. eqb-false _ _ by.0 (ap (λ i. (stop_at path i).tick) b ∙ z) in
    rw by.1 (record { shuttle = refl; within = omega arith; broken = first; before = λ i less. absurd (omega arith) })
some_fault s k path (Some last) f lt b e h =
    let here = stop_at path k in
    elim (some_by_two (leb here.tick last.tick) (eqb here.place last.place) (Tick s k) (Place s k) f e) [
      | inl p ↦
          let late : (stop_at path k).tick ≤ last.tick = leb-true _ _ p.0 in
          rw p.1 (record { shuttle = refl; within = lt; broken = (b.0, omega (arith, ap (λ x. x.tick) b.1)); before = λ i less. h i less (omega arith) })
      | inr p ↦
          let rises : last.tick < (stop_at path k).tick = leb-false _ _ p.0 in
          let same : (stop_at path k).place ≡ last.place = eqb-true _ _ p.1 in
          rw p.2 (record {
            shuttle = refl;
            within = lt;
            broken = (b.0, omega (arith, ap (λ x. x.tick) b.1), ap (λ x. x.place) (sym b.1) ∙ sym same);
            before = λ i less. h i less (omega arith);
          })
    ]

pub first_offence :
    (paths : List (List Stop)) (s : ℕ) (path : List Stop) (f : PathFault) → s < length paths → path_at paths s ≡ path → PathBreaks s path f
    → ((r : ℕ) → r < s → PathKeeps (path_at paths r)) → FirstOffence paths f
first_offence paths s path f lt p h b =
    let e = h.shuttle in
    let q : path ≡ path_at paths (offender f) = sym p ∙ ap (path_at paths) (sym e) in
    record {
      within = omega arith;
      here = subst (λ t. PathBreaks t (path_at paths (offender f)) f) (sym e) (subst (λ (x : List Stop). PathBreaks s x f) q h);
      before = λ r less. b r (omega arith);
    }
