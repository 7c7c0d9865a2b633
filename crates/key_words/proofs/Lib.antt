pub mod KeyWords
