-- Two calls, one after the other: what the second asks is what the first leaves (`new-needs`).
use Rattle.appending.proofs.First.{place-takes, new-needs, appended}
use Rattle.appending.proofs.append.Goals as goal

pub put_place-requires : goal.put_place-requires
put_place-requires c = place-takes c.requires

pub insert_procedure-requires : goal.insert_procedure-requires
insert_procedure-requires c = new-needs c.requires c.put_place.ensures

pub returns : goal.returns
returns c = appended c.requires c.put_place.ensures c.insert_procedure.ensures
