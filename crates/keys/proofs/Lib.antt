pub mod KeyRead
