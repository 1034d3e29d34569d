-- What an index ends as, where a value of it is lent to be written.
use Rattle.std.specs.Prelude.{ℕ}
use Rattle.std.specs.Borrow.{Lends, Fml, RattleType, MutBor}
use Rattle.acc_index.specs.Indexed.{IndexState, with_other}
use Rattle.acc_index.specs.contracts.index.Index.{the_row}

-- once the borrow r ends, the number has the value that was last written through it
abbrev pub LendsValue : (T : RattleType) → MutBor (IndexState T.Denot) → ℕ → MutBor T.Denot → Fml
LendsValue T s number r = Lends (the_row T) T s r (λ value. record { entries = with_other number value s.now.entries; gone = s.now.gone; room = s.now.room })
