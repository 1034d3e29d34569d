use Rattle.std.proofs.Common.{◌≡◌, ◌*◌, take, drop}
use Rattle.hex.specs.Hex.{decode_pairs}
use Rattle.hex.proofs.Pairs.{prepend}
use Rattle.acc_read.proofs.byte_words.put_bytes.Given as goal

-- the bytes so far stand before those of the other digits
abbrev pub invariant-bytes : goal.invariant-bytes
invariant-bytes l = decode_pairs 0 l.word ≡ prepend (take l.i l.bytes) (decode_pairs (2 * l.i) (drop (2 * l.i) l.word))
