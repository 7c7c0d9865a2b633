-- Two calls, one after the other: the records that are left after the second are none.
use Rattle.procedure_records.proofs.Own.{kinds-needs, procedure-put}
use Rattle.procedure_records.proofs.put_procedure.Goals as goal

pub put_kinds-requires : goal.put_kinds-requires
put_kinds-requires c = kinds-needs c.requires c.put_own.ensures

pub returns : goal.returns
returns c = procedure-put c.requires c.put_own.ensures c.put_kinds.ensures
