pub mod TurnRow
