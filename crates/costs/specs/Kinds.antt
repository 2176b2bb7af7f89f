-- What holds of each of two kinds of costs holds of a cost that is of one of them.
use Rattle.either.specs.declared.Either.{Either}
use Rattle.either.specs.declared.Either.TheVariants.{Left, Right}

pub each_side :
    {C D : Type 0} (P : Either C D → Type 0)
    → ((c : C) → P (Left c)) → ((d : D) → P (Right d)) → (cost : Either C D) → P cost
each_side _ l r (Left c) = l c
each_side _ l r (Right d) = r d
