pub mod Counted
pub mod Cursor
