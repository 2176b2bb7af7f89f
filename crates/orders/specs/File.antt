-- The order file: the number of shuttles; for each the offset of its body and the number of its waits; then the bodies.
use Rattle.std.specs.Prelude.{◌≡◌, ℕ, ◌+◌, ◌*◌, ◌<◌, List, ◌++◌, length, take, drop, Ok, Err, Result}
use Rattle.std.specs.List.{flat_map}
use Rattle.files.specs.Bytes.{word_bytes}
use Rattle.meetings.specs.Joined.{joined}
use Rattle.orders.specs.declared.waits.Wait.{Wait}
use Rattle.orders.specs.declared.write.OrderFault.{OrderFault}
use Rattle.orders.specs.declared.write.OrderFault.TheVariants.{Short}
use Rattle.orders.specs.Waits.{body_of}

-- own stop, other shuttle, other's stop waited for
abbrev pub wait_bytes : Wait → List ℕ
wait_bytes w = word_bytes w.second.stop ++ word_bytes w.awaited.shuttle ++ word_bytes w.awaited.stop

abbrev pub FitsWait : Wait → Type 0
FitsWait w = (w.second.stop < 65536) × (w.awaited.shuttle < 65536) × (w.awaited.stop < 65536)

abbrev pub body_bytes : List Wait → ℕ → List ℕ
body_bytes ws s = flat_map wait_bytes (body_of s ws)

-- where the body of shuttle s begins: behind the contents, and the bodies of all shuttles before it
abbrev pub body_at : ℕ → List Wait → ℕ → ℕ
body_at n ws s = 2 + 4 * n + length (joined (body_bytes ws) s)

abbrev pub entry_bytes : ℕ → List Wait → ℕ → List ℕ
entry_bytes n ws s = word_bytes (body_at n ws s) ++ word_bytes (length (body_of s ws))

abbrev pub order_bytes : ℕ → List Wait → List ℕ
order_bytes n ws = word_bytes n ++ joined (entry_bytes n ws) n ++ joined (body_bytes ws) n

-- bytes written over a buffer from a place on
abbrev pub over : List ℕ → ℕ → List ℕ → List ℕ
over buffer at bs = take at buffer ++ (bs ++ drop (at + length bs) buffer)

-- The bytes stand in front of the buffer and the rest is as it was; or the buffer is too short, and all of it is as it was.
abbrev pub Written : Result ℕ OrderFault → List ℕ → List ℕ → List ℕ → Type 0
Written (Ok n) bs old new = (n ≡ length bs) × (new ≡ bs ++ drop n old)
Written (Err Short) bs old new = (length old < length bs) × (new ≡ old)
