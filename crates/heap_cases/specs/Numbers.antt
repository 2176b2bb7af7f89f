-- Numbers with their places in a line: by the number, then by the place.
use Rattle.std.specs.Prelude.{Bool, ◌==◌, if◌then◌else◌, nat_le, nat_lt}
use Rattle.heap_cases.specs.declared.Numbered.{Numbered}

abbrev pub numbered_le : Numbered → Numbered → Bool
numbered_le a b = if a.key == b.key then nat_le a.place b.place else nat_lt a.key b.key
