pub mod Before
pub mod OneKey
