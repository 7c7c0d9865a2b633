pub mod CalleeAddress
pub mod OnePut
pub mod CallRow
pub mod SetEntryRow
pub mod WriteRow
