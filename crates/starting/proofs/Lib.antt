pub mod StartRow
