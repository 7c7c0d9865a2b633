-- What is promised of a table's form, where the rules have no name for it.
use Rattle.std.specs.Prelude.{ℕ, zero, suc, ◌*◌, Bool, true, false, Option, None, Some, ltb, length}
use Rattle.rules.specs.Words.{Bytes, word_at}
use Rattle.rules.specs.Table.{record_size, store, ascending, record_form}

-- how many records are occupied, if the table has the record form
unfoldable pub form_of : Bytes → Option ℕ
form_of t = elim (record_form t) [ true ↦ Some (length (store t)) | false ↦ None ]

-- the key at i is above the one before it, if there is one
unfoldable pub climbs_at : Bytes → ℕ → Bool
climbs_at t zero = true
climbs_at t (suc i) = ltb (word_at t (record_size * i)) (word_at t (record_size * suc i))

-- how many records are occupied, if their keys ascend
unfoldable pub run_of : Bytes → Option ℕ
run_of t = elim (ascending (store t)) [ true ↦ Some (length (store t)) | false ↦ None ]
