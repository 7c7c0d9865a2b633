pub mod ProcedureRecords
