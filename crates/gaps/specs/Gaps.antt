-- A table's bytes once a record is put in it or changed, or room is made in it.
use Rattle.std.specs.Prelude.{ℕ, ◌+◌, ◌*◌, ◌-◌, ◌++◌, take, drop, replicate}
use Rattle.rules.specs.Words.{Bytes, word_bytes}
use Rattle.rules.specs.Table.{record_size}

-- a table's bytes with a record put in before record i of the `used`
unfoldable pub inserted : (i used : ℕ) (key value t : Bytes) → Bytes
inserted i used k v t =
    take (record_size * i) t
    ++ (k ++ (v ++ (take (record_size * used - record_size * i) (drop (record_size * i) t) ++ drop (record_size * used + record_size) t)))

-- a table's bytes with another value in record i
unfoldable pub replaced : (i : ℕ) (value t : Bytes) → Bytes
replaced i v t = take (record_size * i + word_bytes) t ++ (v ++ drop (record_size * i + record_size) t)

-- a table's bytes with zeros for `count` records put in before record i of the `used`
unfoldable pub opened : (i count used : ℕ) (t : Bytes) → Bytes
opened i count used t =
    take (record_size * i) t
    ++ (replicate (record_size * count) 0
    ++ (take (record_size * used - record_size * i) (drop (record_size * i) t) ++ drop (record_size * used + record_size * count) t))
