use Rattle.std.proofs.Common.{sym}
use Rattle.std.proofs.lemmas.List.Sorted.{length_permutation}
use Rattle.heap.proofs.bounded.BoundedHeap.len.Goals as goal

pub returns : goal.returns
returns g c = sym (length_permutation _ _ c.as_slice.ensures.same)
