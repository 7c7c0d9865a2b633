-- What is promised of where a key's record stands.
use Rattle.std.specs.Prelude.{ℕ, zero, suc, ◌*◌, [], ◌∷◌, Bool, true, false, ◌&&◌, eqb, ltb, length}
use Rattle.rules.specs.Words.{Bytes, word_at}
use Rattle.rules.specs.Table.{Store, record_size, get, store}
use Rattle.std.specs.Prelude.{Result, Ok, Err}

-- how many records stand before the first whose key is not below k
unfoldable pub keys_below : Store → (k : ℕ) → ℕ
keys_below [] k = 0
keys_below (r ∷ s) k = elim (ltb r.key k) [ true ↦ suc (keys_below s k) | false ↦ 0 ]

-- the index of the record with the key k, or how many keys are below it
unfoldable pub place_of : Store → (k : ℕ) → Result ℕ ℕ
place_of s k = elim (get s k) [ zero ↦ Err (keys_below s k) | suc v ↦ Ok (keys_below s k) ]

-- the i-th record is occupied and has the key k
abbrev pub has_key : Bytes → ℕ → (k : ℕ) → Bool
has_key t i k = ltb i (length (store t)) && eqb (word_at t (record_size * i)) k
