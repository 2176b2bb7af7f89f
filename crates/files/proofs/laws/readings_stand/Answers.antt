use Rattle.files.proofs.Exact.{layout_exact}
use Rattle.files.proofs.Refused.{refuses_exactly}
use Rattle.files.proofs.laws.readings_stand.Goals as goal

pub returns : goal.returns
returns c =
    let bs = c.args.bytes.now in
    record { exact = layout_exact bs (λ i. (c.type_inv.bytes i).fits); refused = refuses_exactly bs (λ i. (c.type_inv.bytes i).fits) }
