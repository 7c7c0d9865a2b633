pub mod HeadRows
