-- A table's bytes once a gap in it is closed.
use Rattle.std.specs.Prelude.{ℕ, ◌*◌, ◌-◌, ◌++◌, take, drop, replicate}
use Rattle.rules.specs.Words.{Bytes}
use Rattle.rules.specs.Table.{record_size}

-- a table's bytes without the records from i to j of the `used`
unfoldable pub closed : (i j used : ℕ) (t : Bytes) → Bytes
closed i j used t =
    take (record_size * i) t
    ++ (take (record_size * used - record_size * j) (drop (record_size * j) t)
    ++ (replicate (record_size * j - record_size * i) 0 ++ drop (record_size * used) t))
