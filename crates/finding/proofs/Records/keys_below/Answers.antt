-- The records with a lower key come first, so the first that has none is the key's place.
use Rattle.std.proofs.Common.{sym, rules}
use Rattle.std.proofs.lemmas.List.Sorted.{IsPartitionPoint-from_clause}
use Rattle.rules.specs.Words.{num}
use Rattle.finding.proofs.Chunks.{records, lower, records_length, parted, place_is}
use Rattle.finding.proofs.Records.keys_below.Goals as goal

pub slice_bounds-partition_point-end : goal.slice_bounds-partition_point-end
slice_bounds-partition_point-end c = sym (rw c.as_chunks.ensures.front (records_length c.args.self.bytes.now 0 (search rules) (search rules)))

pub returns : goal.returns
returns c =
    let k = num c.args.key.now in
    let front = c.as_chunks.ensures.front in
    place_is c.args.self.bytes.now k (search rules) (search rules) _ (rw front at c.partition_point.ensures.bound)
    (IsPartitionPoint-from_clause (lower k) (records c.args.self.bytes.now c.args.self.used) _ (rw front at c.partition_point.ensures.partitioned)
    (parted c.args.self.bytes.now k (search rules) (search rules)) (search rules))
