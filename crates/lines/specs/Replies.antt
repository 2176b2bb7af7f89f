-- The lines of replies.
use Rattle.std.specs.Prelude.{ℕ, List, [], ◌∷◌, ◌++◌, codes, decimal}
use Rattle.lines.specs.declared.replies.Reply.{Reply}
use Rattle.lines.specs.declared.replies.Reply.TheVariants.{Held, Ticked, Redrawn, Sheet, Refused, NoMemory}

-- what is printed of a reply; a sheet is printed above it
abbrev pub reply_words : Reply → List ℕ
reply_words Held = codes "H"
reply_words (Ticked moved) = codes "T " ++ decimal moved
reply_words (Redrawn cost) = codes "R " ++ decimal cost
reply_words (Sheet bytes) = codes "S"
reply_words (Refused number) = codes "no " ++ decimal number
reply_words NoMemory = codes "no memory"

abbrev pub reply_text : Reply → List ℕ
reply_text r = reply_words r ++ 10 ∷ []
