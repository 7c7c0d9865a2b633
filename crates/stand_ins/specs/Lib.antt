pub mod StandIns
