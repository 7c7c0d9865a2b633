pub mod FirstTable
