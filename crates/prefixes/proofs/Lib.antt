pub mod FirstBits
pub mod PrefixWords
