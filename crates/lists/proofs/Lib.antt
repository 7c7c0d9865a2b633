pub mod PlaceKeys
pub mod ListRows
pub mod LaidRows
