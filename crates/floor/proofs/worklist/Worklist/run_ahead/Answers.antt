use Rattle.std.proofs.Common.{◌≡◌, ◌+◌, ◌<◌, suc, length, refl, sym, ap, ◌∙◌, subst, subst₂, inl, inr, arith}
use Rattle.std.proofs.lemmas.Bool.{cases_eq}
use Rattle.files.specs.Rules.{path_at}
use Rattle.meetings.specs.declared.stays.At.{At}
use Rattle.meetings.specs.Laws.{StopOf}
use Rattle.traffic.specs.Scene.{at}
use Rattle.floor.specs.Under.{paths_under, shuttles_under}
use Rattle.floor.specs.Worklists.{Cared, Going, Held, Looked, known_in, next_in, with_tick, work}
use Rattle.floor.proofs.Entering.{cared_enter, count_most, going_enter, known_here, known_there, less_enter, looked_enter, tick_fits}
use Rattle.floor.proofs.Nexts.{next_is, next_none}
use Rattle.floor.proofs.Noting.{cared_note, going_note, same_note}
use Rattle.floor.proofs.worklist.Worklist.run_ahead.Goals as goal
use Rattle.floor.proofs.worklist.Worklist.run_ahead.Goals.{After-note, In-Some}

pub loop-at-init : goal.loop-at-init
loop-at-init c =
    record {
      going = c.requires.going;
      others = c.requires.others;
      same = refl;
      known = known_there c.args.scene.now c.args.self.now c.args.shuttle (omega (arith, c.if-shuttle-count.false, c.count.ensures.all));
      looked = c.requires.looked;
      less = omega arith;
    }

-- the stop at hand is the first that has no entry tick
is_next : (c : In-Some) → c.in-Some.at ≡ next_in c.args.scene.now c.loop-at.self c.args.shuttle
is_next c =
    let i = c.loop-at.invariant in
    (next_is c.loop-at.entered c.stops-stops.result c.in-Some.at c.in-Some.ensures).0 ∙ (λ j. at (i.same j) (sym i.known j))

is_stop : (c : In-Some) → StopOf (paths_under c.args.scene.now) c.in-Some.at
is_stop c =
    let u = c.args.scene.now in
    let n = next_is c.loop-at.entered c.stops-stops.result c.in-Some.at c.in-Some.ensures in
    let i = c.loop-at.invariant in
    let here : StopOf (paths_under u) (at c.args.shuttle (suc c.loop-at.entered.stop)) = (omega (arith, c.if-shuttle-count.false, c.count.ensures.all), omega (arith, n.1, c.stops-stops.ensures, c.path-path.ensures.path.count)) in
    subst (StopOf (paths_under u)) (sym (n.0 ∙ (λ j. at (i.same j) (suc c.loop-at.entered.stop)))) here

pub look-requires-clause-looked : goal.look-requires-clause-looked
look-requires-clause-looked c =
    let u = c.args.scene.now in
    let w = c.loop-at.self in
    let at_known : c.in-Some.at.stop ≡ known_in u w c.args.shuttle = ap (λ (a : At). a.stop) (is_next c) in
    let at_shuttle : c.in-Some.at.shuttle ≡ c.args.shuttle = ap (λ (a : At). a.shuttle) (is_next c) in
    let short = subst (λ s. c.in-Some.at.stop < length (path_at (paths_under u) s)) at_shuttle (is_stop c).1 in
    subst (λ a. Looked u w a c.loop-at.seen c.loop-at.latest) (sym (is_next c)) (c.loop-at.invariant.looked (omega (arith, short, at_known)))

-- it is the shuttle's, and comes after what is known
of_shuttle : (c : In-Some) → c.in-Some.at.shuttle ≡ c.args.shuttle
of_shuttle c = ap (λ (a : At). a.shuttle) (is_next c)

follows : (c : In-Some) → c.in-Some.at.stop ≡ known_in c.args.scene.now c.loop-at.self c.in-Some.at.shuttle
follows c = ap (λ (a : At). a.stop) (is_next c) ∙ ap (known_in c.args.scene.now c.loop-at.self) (sym (of_shuttle c))

pub overflow_add-latest : goal.overflow_add-latest
overflow_add-latest c =
    let here = (goal.at.overflow_add-latest c).In-Some in
    omega (arith, tick_fits c.args.scene.now c.count.ensures.sound c.loop-at.self c.loop-at.invariant.going c.in-Some.at (is_stop here) (follows here) c.in-Ok.all (c.in-Ok.all + 1) c.in-Ok.ensures refl c.sweeps_stand.ensures.bound)

pub loop-at-smaller : goal.loop-at-smaller
loop-at-smaller c =
    let u = c.args.scene.now in
    let w = c.loop-at.self in
    let g = c.loop-at.invariant.going in
    let a = c.in-Some.at in
    let here = (goal.at.loop-at-smaller c).In-Some in
    let sound = c.count.ensures.sound in
    let laws = c.sweeps_stand.ensures in
    let going = going_enter u sound w g a (is_stop here) (follows here) c.in-Ok.all (c.in-Ok.all + 1) c.in-Ok.ensures refl laws.bound laws.advance in
    subst (λ v. work u v < work u w) (sym c.enter.ensures)
    (less_enter u sound w g a (is_stop here) (follows here) c.in-Ok.all (c.in-Ok.all + 1) c.in-Ok.ensures refl (count_most u sound (with_tick w a (c.in-Ok.all + 1)) going))

pub loop-at-preserved : goal.loop-at-preserved
loop-at-preserved c =
    let u = c.args.scene.now in
    let w = c.loop-at.self in
    let i = c.loop-at.invariant in
    let a = c.in-Some.at in
    let here = (goal.at.loop-at-preserved c).In-Some in
    let sound = c.count.ensures.sound in
    let stop = is_stop here in
    let next = follows here in
    let laws = c.sweeps_stand.ensures in
    let going = going_enter u sound w i.going a stop next c.in-Ok.all (c.in-Ok.all + 1) c.in-Ok.ensures refl laws.bound laws.advance in
    let is = sym c.enter.ensures in
    let mine = of_shuttle here in
    record {
      going = subst (Going u) is going;
      others = λ s lt ne. subst (λ v. Cared u v s) is (cared_enter u sound w i.going a stop next c.in-Ok.all (c.in-Ok.all + 1) c.in-Ok.ensures refl s (λ e. ne (e ∙ mine)) (i.others s lt ne));
      same = mine;
      known = ap (λ v. known_in u v c.args.shuttle) (sym is) ∙ ap (known_in u (with_tick w a (c.in-Ok.all + 1))) (sym mine) ∙ known_here u sound w i.going a stop next c.in-Ok.all (c.in-Ok.all + 1) c.in-Ok.ensures refl;
      looked = λ _. subst₂ (λ v s. Looked u v (next_in u v s) 0 (c.in-Ok.all + 1)) is mine (looked_enter u sound w i.going a stop next c.in-Ok.all (c.in-Ok.all + 1) c.in-Ok.ensures refl);
      less =
          let lower = subst (λ v. work u v < work u w) is (less_enter u sound w i.going a stop next c.in-Ok.all (c.in-Ok.all + 1) c.in-Ok.ensures refl (count_most u sound (with_tick w a (c.in-Ok.all + 1)) going)) in
          omega (arith, lower, i.less);
    }

-- the shuttle has to wait
held : (c : After-note) → Held c.args.scene.now c.loop-at.self (next_in c.args.scene.now c.loop-at.self c.args.shuttle) c.in-Err.block.awaited
held c = subst (λ a. Held c.args.scene.now c.loop-at.self a c.in-Err.block.awaited) (is_next (goal.at.returns-in-Err-clause-going c).In-Some) c.in-Err.ensures.0

looked : (c : After-note) → Looked c.args.scene.now c.loop-at.self (next_in c.args.scene.now c.loop-at.self c.args.shuttle) c.in-Err.block.seen c.in-Err.block.latest
looked c = subst (λ a. Looked c.args.scene.now c.loop-at.self a c.in-Err.block.seen c.in-Err.block.latest) (is_next (goal.at.returns-in-Err-clause-going c).In-Some) c.in-Err.ensures.1

within : (c : After-note) → c.args.shuttle < shuttles_under c.args.scene.now
within c = omega (arith, c.if-shuttle-count.false, c.count.ensures.all)

pub returns-in-Err-clause-going : goal.returns-in-Err-clause-going
returns-in-Err-clause-going c =
    subst (Going c.args.scene.now) (sym c.note.ensures) (going_note c.args.scene.now c.count.ensures.sound c.loop-at.self c.loop-at.invariant.going c.args.shuttle (within c) c.in-Err.block (held c) (looked c))

pub returns-in-Err-clause-cared : goal.returns-in-Err-clause-cared
returns-in-Err-clause-cared c = λ s lt.
    subst (λ v. Cared c.args.scene.now v s) (sym c.note.ensures)
    (cared_note c.args.scene.now c.count.ensures.sound c.loop-at.self c.loop-at.invariant.going c.args.shuttle (within c) c.in-Err.block (held c) (looked c) s (c.loop-at.invariant.others s lt))

pub returns-in-Err-clause-less : goal.returns-in-Err-clause-less
returns-in-Err-clause-less c =
    let same = same_note c.args.scene.now c.count.ensures.sound c.loop-at.self c.loop-at.invariant.going c.args.shuttle (within c) c.in-Err.block (held c) (looked c) in
    omega (arith, ap (work c.args.scene.now) c.note.ensures, same, c.loop-at.invariant.less)

pub returns-clause-cared : goal.returns-clause-cared
returns-clause-cared c = λ s lt. elim (cases_eq s c.args.shuttle) [
  | inl e ↦ subst (Cared c.args.scene.now c.loop-at.self) (sym e)
      (inl (omega (arith, next_none c.loop-at.entered c.stops-stops.result c.next_stop.result c.next_stop.ensures c.in_default.not-Some, c.stops-stops.ensures, c.path-path.ensures.path.count, c.loop-at.invariant.known)))
  | inr ne ↦ c.loop-at.invariant.others s lt ne
]
