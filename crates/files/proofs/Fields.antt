-- The steps of a reading: one thing more, and the way out at a fault.
use Rattle.std.proofs.Common.{◌≡◌, ℕ, suc, ◌+◌, ◌-◌, ◌<◌, ◌≤◌, List, [], ◌∷◌, ◌++◌, IsErrAnd, Ok, Err, Result, ap, ◌∙◌, arith}
use Rattle.std.proofs.lemmas.Result.{err_from_is_err_and}
use Rattle.files.specs.declared.layout.FileFault.{FileFault}
use Rattle.files.specs.declared.layout.FileFault.TheVariants.{Torn, Memory}
use Rattle.files.specs.Layout.{then, row}
use Rattle.files.specs.Views.{Gives}

pub then_ok : {X Y : Type 0} {d : Result X ℕ} {x : X} (next : X → Result Y ℕ) → d ≡ Ok x → then d next ≡ next x
then_ok next e = ap (λ d. then d next) e

-- a reading that goes on from d ends with the fault of d
gives_fault :
    {X Y V W : Type 0} (view : X → V) (to : Y → W) (e : FileFault) (d : Result V ℕ) (next : V → Result W ℕ) (whole : Result W ℕ)
    → whole ≡ then d next → Gives view (Err e) d → Gives to (Err e) whole
gives_fault view to (Torn p) d next whole w g = w ∙ ap (λ x. then x next) g
gives_fault view to Memory d next whole w g = tt

-- the same for the answer at a `?`
pub gives_out :
    {X Y V W : Type 0} (view : X → V) (to : Y → W) (e : FileFault) (r : Result Y FileFault) (d : Result V ℕ) (next : V → Result W ℕ) (whole : Result W ℕ)
    → IsErrAnd r (λ y. y ≡ e) → whole ≡ then d next → Gives view (Err e) d → Gives to r whole
gives_out view to e r d next whole by w g =
    let p = err_from_is_err_and r by in rw (p.1, p.2) (gives_fault view to e d next whole w g)

-- want of memory says nothing of the file
pub gives_memory : {Y W : Type 0} (to : Y → W) (r : Result Y FileFault) (whole : Result W ℕ) → IsErrAnd r (λ y. y ≡ Memory) → Gives to r whole
gives_memory to r whole by = let p = err_from_is_err_and r by in rw (p.1, p.2) tt

module _ {S X : Type 0} (one : S → Result X ℕ) (on : S → X → S) where
  -- with i of n things read one is to be read, and one fewer after it
  pub row_step : (n i : ℕ) (s : S) (xs : List X) → i < n → row one on (n - i) s xs ≡ then (one s) (λ x. row one on (n - (i + 1)) (on s x) (xs ++ x ∷ []))
  row_step n i s xs lt = let e : n - i ≡ suc (n - (i + 1)) = omega arith in ap (λ k. row one on k s xs) e

  pub row_more : (n i : ℕ) (s : S) (xs : List X) (x : X) (whole : Result (List X) ℕ) → i < n → whole ≡ row one on (n - i) s xs → one s ≡ Ok x → whole ≡ row one on (n - (i + 1)) (on s x) (xs ++ x ∷ [])
  row_more n i s xs x whole lt w e = w ∙ row_step n i s xs lt ∙ then_ok _ e

  pub row_all : (n i : ℕ) (s : S) (xs : List X) (whole : Result (List X) ℕ) → n ≤ i → whole ≡ row one on (n - i) s xs → whole ≡ Ok xs
  row_all n i s xs whole le w = let e : n - i ≡ 0 = omega arith in w ∙ ap (λ k. row one on k s xs) e

  pub row_out :
      {Y Z : Type 0} (view : Y → X) (to : Z → List X) (e : FileFault) (r : Result Z FileFault) (n i : ℕ) (s : S) (xs : List X) (whole : Result (List X) ℕ)
      → i < n → whole ≡ row one on (n - i) s xs → IsErrAnd r (λ y. y ≡ e) → Gives view (Err e) (one s) → Gives to r whole
  row_out view to e r n i s xs whole lt w by g = gives_out view to e r (one s) _ whole by (w ∙ row_step n i s xs lt) g
