use Rattle.std.proofs.Common.{◌≡◌, ℕ, Bool, true, false, Decides, List, ◌++◌, length, take, drop, replicate, Result, MatchBool, refl, sym, ap, ◌∙◌, subst}
use Rattle.std.proofs.lemmas.List.{take_at}
use Rattle.std.proofs.lemmas.Slice.Eq.{slice_eq-Decides}
use Rattle.std.proofs.lemmas.Bool.Decides.{not_from_Decides, Decides-eqb}
use Rattle.orders.specs.declared.write.OrderFault.{OrderFault}
use Rattle.orders.specs.declared.write.TheConstants.{ROOM_FOR_ORDERS}
use Rattle.orders.specs.File.{Written}
use Rattle.orders.specs.Plans.{plan_orders}
use Rattle.orders.proofs.read.is_file.Goals as goal

-- the part that was written, compared
compared :
    (r : Bool) (len : ℕ) (file old new part bs : List ℕ) → (len ≡ length file) × (new ≡ file ++ drop len old) → part ≡ take len new
    → MatchBool r (part ≡ bs) (part ≡ bs → ⊥) → MatchBool r (bs ≡ file) (bs ≡ file → ⊥)
compared true len file old new part bs w p same = sym same ∙ p ∙ ap (take len) w.1 ∙ take_at file (drop len old) len (sym w.0)
compared false len file old new part bs w p differs = λ e. differs (p ∙ ap (take len) w.1 ∙ take_at file (drop len old) len (sym w.0) ∙ sym e)

when_from : (P : Type 0) (r : Bool) → Decides r P → MatchBool r P (P → ⊥)
when_from P true d = d.0 refl
when_from P false d = not_from_Decides false d refl

pub returns : goal.returns
returns c =
    let out = c.write_orders.new.out in
    let file = plan_orders c.args.plan.now c.args.firsts.now in
    let old : List ℕ = replicate ROOM_FOR_ORDERS 0 in
    let written = subst (λ (r : Result ℕ OrderFault). Written r file old out) c.unwrap-len.ensures c.write_orders.ensures.written in
    compared c.eq.result c.unwrap-len.result file old out (take c.unwrap-len.result out) c.args.bytes.now written refl
    (when_from _ c.eq.result (slice_eq-Decides Decides-eqb _ _ _ c.eq.ensures))
