-- `Holds` leaves no byte open: two lists of n bytes that stand for one number are the same.
use Rattle.std.proofs.Common.{ℕ, ◌≡◌, sym, ◌∙◌}
use Rattle.rules.specs.Words.{Bytes, AllBytes}
use Rattle.laws.proofs.Numerals.{num-injective}
use Rattle.words.specs.Words.{Holds}

pub one_holds : {n x : ℕ} {a b : Bytes} → AllBytes a → AllBytes b → Holds n a x → Holds n b x → a ≡ b
one_holds {a = a} {b = b} bytes_a bytes_b h k = num-injective a b (h.size ∙ sym k.size) bytes_a bytes_b (h.number ∙ sym k.number)
