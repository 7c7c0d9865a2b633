pub mod FirstSeries
pub mod Fixed
pub mod Founded
