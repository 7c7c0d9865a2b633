pub mod FirstChecks
pub mod SetUpRow
pub mod TurnRow
pub mod LookRow
pub mod SystemRow
