pub mod DeleteRow
