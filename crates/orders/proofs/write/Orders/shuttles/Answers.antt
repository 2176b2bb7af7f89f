use Rattle.std.proofs.Common.{◌≡◌, length, sym, ap, ◌∙◌, arith}
use Rattle.std.proofs.lemmas.List.{length-map}
use Rattle.files.specs.Views.{path_of}
use Rattle.orders.proofs.write.Orders.shuttles.Goals as goal

pub returns : goal.returns
returns c =
    let value : length c.paths.result.now ≡ length c.args.self.now.plan.now.paths = sym (length-map c.paths.result.now path_of) ∙ ap length c.paths.ensures.value in
    record { value = value; few = omega (arith, c.paths.ensures.kept.limits.shuttles) }
