pub mod ByKind
