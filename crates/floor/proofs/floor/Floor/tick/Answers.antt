use Rattle.std.proofs.Common.{◌≡◌, sym, ap, ◌∙◌, subst}
use Rattle.floor.specs.Calls.{unless}
use Rattle.floor.specs.Floors.{IsFloor}
use Rattle.floor.specs.Passing.{orders_of}
use Rattle.floor.specs.Positions.{Position, paths_in, ticked}
use Rattle.floor.specs.Shuttles.{CanStep, stepped}
use Rattle.floor.specs.Words.{bit}
use Rattle.floor.proofs.Calling.{floor_ticked, tick_good}
use Rattle.floor.proofs.Floors.{can_step, count}
use Rattle.floor.proofs.Scenes.{word-moves}
use Rattle.floor.proofs.floor.Floor.tick.Goals as goal
use Rattle.floor.proofs.floor.Floor.tick.Goals.{After-step}

pub step-requires-clause-fits : goal.step-requires-clause-fits
step-requires-clause-fits c =
    let floor = subst (λ p. IsFloor p c.self.inside.index) c.self.view_is c.self.invariant in
    subst CanStep (sym (ap (λ (p : Position). p.shuttles) c.self.view_is)) (can_step c.args.self.now floor.sound)

-- the floor before the step, and the records after it
is_floor : (c : After-step) → IsFloor c.args.self.now c.self.inside.index
is_floor c = subst (λ p. IsFloor p c.self.inside.index) c.self.view_is c.self.invariant

after : (c : After-step) → c.step.new.self ≡ (ticked (orders_of c.args.orders) c.args.standing c.args.self.now).shuttles
after c =
    let p = c.args.self.now in
    let orders = orders_of c.args.orders in
    let standing = c.args.standing in
    c.step.ensures
    ∙ ap (λ xs. stepped (bit c.moved_word-moved.result) 0 xs) (ap (λ (q : Position). q.shuttles) c.self.view_is)
    ∙ ap (λ w. stepped (bit w) 0 p.shuttles) c.moved_word-moved.ensures
    ∙ word-moves (paths_in p) orders standing p.shuttles (count p (is_floor c).sound)

whole : (c : After-step) → record { plan = c.self.inside.plan; shuttles = c.step.new.self } ≡ ticked (orders_of c.args.orders) c.args.standing c.args.self.now
whole c = λ i. record { plan = (c.self.view_is i).plan; shuttles = after c i }

pub invariant_of-self : goal.invariant_of-self
invariant_of-self c =
    subst (λ p. IsFloor p c.self.inside.index) (sym (whole c)) (floor_ticked c.steps_stand.ensures.moves c.args.self.now c.self.inside.index (orders_of c.args.orders) c.args.standing (is_floor c))

pub returns-clause-after : goal.returns-clause-after
returns-clause-after c =
    let p = c.args.self.now in
    whole c ∙ ap (λ why. unless why (ticked (orders_of c.args.orders) c.args.standing p) p) (tick_good (paths_in p) c.args.standing c.count.result c.count.ensures.all c.if-too_many.ensures)
