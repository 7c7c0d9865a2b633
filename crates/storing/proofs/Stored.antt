-- What is known of a table's bytes once records are put into them or taken out of them.
use Rattle.std.proofs.Common.{ℕ, ◌≡◌, ap, sym, ◌∙◌, true, length}
use Rattle.rules.specs.Words.{Bytes}
use Rattle.rules.specs.Table.{Store, bytes, store, record_form}

-- a table of n bytes that has the record form and holds the store s, whose records number `used`
pub record Stored (n : ℕ) (t : Bytes) (used : ℕ) (s : Store) : Type 0 where
  pub table : t ≡ bytes n s
  pub long : length t ≡ n
  pub form : record_form t ≡ true
  pub stored : store t ≡ s
  pub count : used ≡ length s

module _ {n used : ℕ} {t : Bytes} {s : Store} (h : Stored n t used s) where
  -- what a table that is so says of itself
  pub counted : used ≡ length (store t)
  counted = h.count ∙ ap length (sym h.stored)
